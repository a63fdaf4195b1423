pub mod BackLemmas
pub mod PlainPapers
pub mod RangeLemmas
pub mod StepLemmas
pub mod SoundLemmas
pub mod FloorLemmas
pub mod BoundLemmas
