mod Examples
mod RingChoices
mod PinOrder
mod WalkExamples
pub mod BackLemmas
pub mod RingLemmas
pub mod PlainWires
pub mod FollowLemmas
pub mod NetWires
pub mod TrailLemmas
pub mod MeaningLemmas
pub mod RegisterTrails
pub mod Places
pub mod NumberedPins
pub mod SeenLemmas
pub mod PieceValues
pub mod SinkPieces
pub mod SeenSinks
pub mod PlacedCells
pub mod MemoryWrites
pub mod SeenMemories
pub mod StandLemmas
pub mod ChainLemmas
pub mod MatchLists
pub mod MatchLemmas
pub mod TakenLemmas
pub mod WriteLemmas
pub mod WriteValues
pub mod MemoryCells
pub mod NextLemmas
pub mod PaddedWords
pub mod RingBits
pub mod InputPlaces
pub mod ShownTaps
pub mod SettledBits
pub mod HeldStates
pub mod KeepsAnswers
pub mod FittingParts
pub mod FittingCells
pub mod FittingNets
pub mod TrailEnds
pub mod Levels
pub mod LoweredOrder
pub mod DraftOutputs
pub mod DraftMemories
pub mod PortNumbers
pub mod PortsInOrder
pub mod ReadWidths
pub mod LoweredMachine
pub mod OneRing
pub mod MetLemmas
pub mod BitLists
pub mod LeastLemmas
pub mod SearchLemmas
pub mod SortLemmas
pub mod ReachLemmas
pub mod PathLemmas
pub mod TableLemmas
mod DrivenLemmas
mod StartLemmas
mod PushedChains
mod PushedParts
mod PushedCells
mod FewReads
mod PushedPorts
pub mod NextMemories
pub mod MachineParts
pub mod PlaceLemmas
