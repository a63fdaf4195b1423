pub mod Steps
pub mod Floors
pub mod PaperShape
pub mod Papers
pub mod Gives
pub mod Fits
