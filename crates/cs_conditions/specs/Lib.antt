pub mod Conditions
pub mod InitialNumbers
pub mod Refusal
