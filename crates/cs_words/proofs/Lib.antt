pub mod MatchLemmas
pub mod ReadLemmas
pub mod TextLemmas
pub mod VerbLemmas
