pub mod RowLemmas
pub mod PlaceLemmas
pub mod RepeatLemmas
pub mod CountLemmas
pub mod CallerLemmas
pub mod SearchLemmas
mod Examples
