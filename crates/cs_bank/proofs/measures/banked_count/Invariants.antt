-- What is counted and what is left make the whole.
use Rattle.std.proofs.Common.{length}
use Rattle.cs_bank.proofs.Counted.{CountSoFar}
use Rattle.cs_bank.specs.ContextBits.{context_vertices}
use Rattle.cs_bank.specs.Measures.{banked_extent, extent}
use Rattle.cs_bank.specs.Wired.{wired, wired_vertex}
use Rattle.cs_bank.proofs.measures.banked_count.Given as goal

abbrev pub invariant-loop-v : goal.invariant-loop-v
invariant-loop-v l =
    CountSoFar (λ x. banked_extent l.measure l.contexts (wired l.machine) (wired_vertex l.machine.edges x))
    l.machine.vertices l.v l.total (extent l.measure (context_vertices l.contexts (length l.machine.vertices)))
