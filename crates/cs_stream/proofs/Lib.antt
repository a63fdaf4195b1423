pub mod CallerLemmas
pub mod LineLemmas
pub mod MixLemmas
pub mod PartLemmas
pub mod PrintLemmas
pub mod ReadLemmas
pub mod RowLemmas
