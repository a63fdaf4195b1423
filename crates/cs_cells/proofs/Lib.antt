pub mod Tables
pub mod NumberLemmas
pub mod ClauseLemmas
pub mod SelectLemmas
pub mod MeaningLemmas
mod Examples
