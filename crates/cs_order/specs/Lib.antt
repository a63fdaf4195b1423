pub mod Graphs
pub mod Rows
pub mod Searches
pub mod Arrangements
