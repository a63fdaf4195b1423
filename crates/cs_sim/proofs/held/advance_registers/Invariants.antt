use Rattle.std.proofs.Common.{◌≡◌, map}
use Rattle.std.specs.List.{zip}
use Rattle.cs_sim.specs.Clock.{next_register}
use Rattle.cs_sim.proofs.Overwritten.{written}
use Rattle.cs_sim.proofs.held.advance_registers.Given as goal

abbrev pub invariant-loop-i : goal.invariant-loop-i
invariant-loop-i l = l.held ≡ written (map (next_register l.values) (zip l.slots l.initial.held)) l.i l.initial.held
