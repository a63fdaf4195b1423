use Rattle.std.proofs.Common.{◌≡◌, ◌-◌, ◌^◌, drop, min}
use Rattle.cs_sim.specs.Slots.{number_at}
use Rattle.cs_sim.proofs.slots.number.Given as goal

-- the number of the slots that are read, which are the last ones
abbrev pub invariant-loop-i : goal.invariant-loop-i
invariant-loop-i l = l.number ≡ min (number_at l.values (drop (l.count - l.i) l.slots)) (2 ^ 64 - 1)
