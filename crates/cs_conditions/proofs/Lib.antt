pub mod Duplicates
pub mod FirstErrors
pub mod GivenStarts
pub mod MemoryRules
pub mod Refusals
