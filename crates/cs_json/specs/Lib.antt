-- What a document is, how bytes say one, and how one is printed.
pub mod Walk
pub mod Shape
pub mod Gives
pub mod Readable
pub mod Utf8
pub mod Printed
