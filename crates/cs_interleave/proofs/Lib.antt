mod Examples
pub mod ContextStarts
pub mod Bankable
pub mod Isolated
pub mod FaultLemmas
