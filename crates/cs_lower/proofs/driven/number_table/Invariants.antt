use Rattle.std.specs.Prelude.{◌==◌}
use Rattle.std.proofs.Common.{◌≡◌, ℕ, is_some, take}
use Rattle.std.specs.List.{list_any}
use Rattle.cs_lower.specs.Tables.{held}
use Rattle.cs_lower.proofs.driven.number_table.Given as goal

-- the table has the numbers so far
abbrev pub invariant-loop-number : goal.invariant-loop-number
invariant-loop-number l = (b : ℕ) → is_some (held l.table b) ≡ list_any (λ a. a == b) (take l.number-index l.numbers)
