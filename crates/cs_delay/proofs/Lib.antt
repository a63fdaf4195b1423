-- Lemmas on reading and on delays.
pub mod OrderLemmas
pub mod ListLemmas
pub mod DelayLemmas
mod Examples
