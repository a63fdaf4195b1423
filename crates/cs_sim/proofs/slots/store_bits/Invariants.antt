use Rattle.std.proofs.Common.{◌≡◌, ◌+◌, ◌-◌, false, get_or, map}
use Rattle.cs_modules.specs.Pins.{count_from}
use Rattle.cs_sim.specs.Slots.{bits_from, stored}
use Rattle.cs_sim.proofs.slots.store_bits.Given as goal

-- what the bits that are left make of the values
abbrev pub invariant-loop-p : goal.invariant-loop-p
invariant-loop-p l =
    stored l.values (l.first + l.p) (map (λ p. get_or l.bits (l.from + p) false) (count_from l.p (l.width - l.p)))
    ≡ stored l.initial.values l.first (bits_from l.bits l.from l.width)
