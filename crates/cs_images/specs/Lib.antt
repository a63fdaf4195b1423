-- The images file: what its JSON says, which name is at fault, and the bits of the images.
pub mod Shape
pub mod Names
pub mod Images
pub mod Said
pub mod Gives
