pub mod RegisterStarts
pub mod Traces
pub mod Answering
pub mod PlainNets
pub mod LogicModules
pub mod Orders
mod Examples
mod LoopExamples
pub mod LimitLemmas
pub mod AcceptLemmas
pub mod ElementLemmas
pub mod ElementLists
pub mod ElementGraphs
mod ElementExamples
pub mod Members
pub mod CellNames
pub mod CellOrder
pub mod ElementDrivers
pub mod LoopBits
pub mod LoopLemmas
pub mod LoopNames
pub mod ShortcutLemmas
pub mod DraftLemmas
pub mod MemoryPlaces
pub mod MemoryFacts
pub mod PinLemmas
pub mod StartOrder
pub mod Occurrences
pub mod DrivenOnce
pub mod PinWidths
pub mod OtherWords
pub mod MemoryWidths
pub mod OneRefusal
pub mod ClockPins
pub mod ClockFacts
