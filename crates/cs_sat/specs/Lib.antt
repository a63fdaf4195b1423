pub mod Trails
pub mod Weights
pub mod Reasons
pub mod Looks
pub mod Verdicts
pub mod Visits
pub mod Analyses
pub mod Searches
