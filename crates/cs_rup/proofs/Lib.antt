pub mod Lists
pub mod Settings
pub mod Stores
pub mod Trails
pub mod Checkers
pub mod Derivations
