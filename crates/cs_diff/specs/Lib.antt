pub mod Floors
pub mod Labels
pub mod Ranges
pub mod Steps
pub mod Systems
