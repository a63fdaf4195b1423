pub mod Order
pub mod Cells
pub mod MemoryCells
pub mod Documents
pub mod Sizes
pub mod WellFormed
pub mod ReadBack
