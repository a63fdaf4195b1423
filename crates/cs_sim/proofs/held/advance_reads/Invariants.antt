use Rattle.std.proofs.Common.{◌≡◌, map}
use Rattle.std.specs.List.{zip}
use Rattle.cs_sim.specs.Clock.{next_read}
use Rattle.cs_sim.proofs.Overwritten.{written}
use Rattle.cs_sim.proofs.held.advance_reads.Given as goal

abbrev pub invariant-loop-i : goal.invariant-loop-i
invariant-loop-i l =
    map (λ bits. bits.items) l.held
    ≡ written (map (next_read l.memories l.values) (zip l.slots (map (λ bits. bits.items) l.initial.held))) l.i (map (λ bits. bits.items) l.initial.held)
