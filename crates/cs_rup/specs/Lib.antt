pub mod Settings
pub mod Watchers
pub mod Stores
pub mod Trails
pub mod Checkers
