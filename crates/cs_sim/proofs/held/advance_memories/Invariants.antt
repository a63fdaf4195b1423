use Rattle.std.proofs.Common.{◌≡◌, map}
use Rattle.std.specs.List.{zip}
use Rattle.cs_sim.specs.Clock.{next_words}
use Rattle.cs_sim.proofs.Overwritten.{written}
use Rattle.cs_sim.proofs.held.advance_memories.Given as goal

abbrev pub invariant-loop-i : goal.invariant-loop-i
invariant-loop-i l = l.memories ≡ written (map (next_words l.values) (zip l.initial.memories l.slots)) l.i l.initial.memories
