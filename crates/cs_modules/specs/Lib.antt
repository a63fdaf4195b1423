pub mod Signals
pub mod Digits
pub mod Pins
pub mod Modules
pub mod PinBits
pub mod Places
pub mod Memories
pub mod Words
