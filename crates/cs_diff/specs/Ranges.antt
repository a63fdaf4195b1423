-- The ranges that the numbers of a system keep.
use Rattle.std.specs.Prelude.{◌≡◌, ℕ, ◌-◌, ◌^◌, ◌<◌, Bool, true, false, ℤ, pos, ◌+ℤ◌, ◌≤ℤ◌, List, Some, slice_get}
use Rattle.cs_base.specs.Ranges.{IsSmall}
use Rattle.cs_diff.specs.declared.system.Constraint.{Constraint}

-- a constraint between two of the vertices, with a small bound
pub record IsAmong (vertices : ℕ) (c : Constraint) : Type 0 where
  pub from : c.from < vertices
  pub to : c.to < vertices
  pub most : IsSmall c.most

-- each of the constraints is one between two of the vertices
abbrev pub AreAmong : ℕ → List Constraint → Type 0
AreAmong vertices constraints =
    (i : ℕ) (c : Constraint) → slice_get constraints i ≡ Some c → IsAmong vertices c

-- the place that comes at this turn, from the front or from the back of m places
abbrev pub place_at : Bool → ℕ → ℕ → ℕ
place_at false m turn = turn
place_at true m turn = m - 1 - turn
