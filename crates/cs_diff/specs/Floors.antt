-- Least values over all solutions with the root at 0, and the steps that show them.
use Rattle.std.specs.Prelude.{◌≡◌, ℕ, ℤ, pos, ◌-ℤ◌, List, [], ◌∷◌, Option, Some, None, length, get_or, slice_get, ◌==◌, if◌then◌else◌}
use Rattle.cs_diff.specs.declared.system.Constraint.{Constraint}
use Rattle.cs_diff.specs.declared.system.System.{System}
use Rattle.cs_diff.specs.declared.types.Floors.{Floors}
use Rattle.cs_diff.specs.Systems.{IsLeast}

-- the root alone is known, at 0
abbrev pub root_alone : ℕ → ℕ → Option ℤ
root_alone root v = if v == root then Some (pos 0) else None

-- the vertex u is known too, at z
abbrev pub learn : (ℕ → Option ℤ) → ℕ → ℤ → ℕ → Option ℤ
learn known u z v = if v == u then Some z else known v

-- the constraints, taken in turn, lead from what is known to all that is known at the end: each has
-- a known `from` and a `to` that is not known yet, which is then known at the value of `from` less
-- `most`
abbrev pub Shows : System → (ℕ → Option ℤ) → List ℕ → (ℕ → Option ℤ) → Type 0
Shows s known [] all = (v : ℕ) → known v ≡ all v
Shows s known (i ∷ steps) all =
    (c : Constraint) × (z : ℤ) × (slice_get s.constraints i ≡ Some c) × (known c.from ≡ Some z)
    × (known c.to ≡ None) × Shows s (learn known c.to (z -ℤ c.most)) steps all

-- the least value of each vertex over all solutions with the root at 0, None where there is no
-- least, and steps that show each least value and no other
pub record AreFloors (s : System) (root : ℕ) (floors : Floors) : Type 0 where
  pub count : length floors.least ≡ s.vertices
  pub least : (v : ℕ) (z : ℤ) → slice_get floors.least v ≡ Some (Some z) → IsLeast s root v z
  pub none : (v : ℕ) → slice_get floors.least v ≡ Some None → (z : ℤ) → ¬ (IsLeast s root v z)
  pub steps : Shows s (root_alone root) floors.steps (λ v. get_or floors.least v None)
