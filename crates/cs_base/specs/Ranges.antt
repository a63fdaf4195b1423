-- The range that the bounds of constraints and the lags of vertices keep.
use Rattle.std.specs.Prelude.{ℕ, ◌^◌, ℤ, pos, ◌+ℤ◌, ◌≤ℤ◌}

-- an integer between -reach and reach, both included
pub record IsWithin (reach : ℕ) (z : ℤ) : Type 0 where
  pub low : pos 0 ≤ℤ (z +ℤ pos reach)
  pub high : z ≤ℤ pos reach

-- an integer between -2^31 and 2^31, both included
abbrev pub IsSmall : ℤ → Type 0
IsSmall z = IsWithin (2 ^ 31) z
