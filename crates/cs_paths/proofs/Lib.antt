mod DefaultLemmas
pub mod WaitingLemmas
pub mod SearchLemmas
pub mod SettleLemmas
pub mod RoundLemmas
pub mod MarkLemmas
pub mod GuideLemmas
pub mod StepLemmas
pub mod TraceLemmas
pub mod RowLemmas
mod Examples
