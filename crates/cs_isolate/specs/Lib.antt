pub mod Isolating
pub mod Still
