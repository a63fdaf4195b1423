use Rattle.std.proofs.Common.{◌≡◌, map}
use Rattle.cs_sim.specs.Slots.{value_at}
use Rattle.cs_sim.proofs.Overwritten.{written}
use Rattle.cs_sim.proofs.simulator.show.Given as goal

abbrev pub invariant-loop-i : goal.invariant-loop-i
invariant-loop-i l = l.output ≡ written (map (value_at l.values) l.slots) l.i l.initial.output
