use Rattle.std.proofs.Common.{◌≡◌, ℕ, drop}
use Rattle.std.specs.Option.{option_or}
use Rattle.cs_lower.specs.Wires.{first_wire}
use Rattle.cs_lower.specs.Tables.{held}
use Rattle.cs_lower.proofs.wires.first_wires.Given as goal

-- a bit without a wire has the first among those that are left
abbrev pub invariant-loop-signal : goal.invariant-loop-signal
invariant-loop-signal l = (b : ℕ) →
    option_or (held l.firsts b) (first_wire (drop l.signal-index l.wires) b) ≡ first_wire l.wires b
