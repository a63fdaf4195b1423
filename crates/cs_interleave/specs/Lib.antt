pub mod Interleaved
pub mod Isolation
pub mod InterleaveFaults
