pub mod Prefixes
pub mod Layers
pub mod Runs
