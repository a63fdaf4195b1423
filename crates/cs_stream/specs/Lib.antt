pub mod Lines
pub mod Mixing
pub mod Printing
pub mod Reading
pub mod Rows
