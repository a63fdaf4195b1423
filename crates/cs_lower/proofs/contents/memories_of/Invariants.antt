-- The memories that are left come behind those so far.
use Rattle.cs_lower.proofs.NextMemories.{SoFar}
use Rattle.cs_lower.proofs.contents.memories_of.Given as goal

abbrev pub invariant-loop-shape : goal.invariant-loop-shape
invariant-loop-shape l = SoFar l.words l.shapes l.shape-index l.memories
