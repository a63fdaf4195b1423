pub mod SlowingLemmas
