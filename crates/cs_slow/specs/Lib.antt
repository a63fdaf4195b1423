pub mod Alone
pub mod SlowFaults
