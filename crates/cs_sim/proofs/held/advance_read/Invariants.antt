use Rattle.std.proofs.Common.{◌≡◌, map}
use Rattle.std.specs.List.{enumerate_from, zip}
use Rattle.cs_sim.specs.Clock.{next_read_bit}
use Rattle.cs_sim.proofs.Overwritten.{written}
use Rattle.cs_sim.proofs.held.advance_read.Given as goal

abbrev pub invariant-loop-i : goal.invariant-loop-i
invariant-loop-i l =
    l.held ≡ written (map (next_read_bit l.values l.slots l.word) (enumerate_from 0 (zip l.slots.bits l.initial.held))) l.i l.initial.held
