use Rattle.std.proofs.Common.{◌≡◌, ℕ, drop}
use Rattle.std.specs.Option.{option_or}
use Rattle.cs_lower.specs.Starts.{first_value}
use Rattle.cs_lower.specs.Tables.{held}
use Rattle.cs_lower.proofs.starts.first_values.Given as goal

-- a bit without a value has the first among those that are left
abbrev pub invariant-loop-start : goal.invariant-loop-start
invariant-loop-start l = (b : ℕ) →
    option_or (held l.firsts b) (first_value (drop l.start-index l.values) b) ≡ first_value l.values b
