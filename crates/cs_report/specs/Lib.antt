pub mod Words
pub mod Limits
pub mod Refused
pub mod FaultLines
pub mod OwnTexts
