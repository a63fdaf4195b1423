pub mod KindCounts
pub mod LoweredKinds
pub mod OwnNames
pub mod Still
pub mod Isolating
