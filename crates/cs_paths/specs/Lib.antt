pub mod Reaches
pub mod Guides
pub mod Marks
pub mod Waitings
pub mod Searches
pub mod Rows
pub mod Traces
