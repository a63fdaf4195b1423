-- Reached vertices, and the steps that reach them.
use Rattle.std.specs.Prelude.{◌≡◌, ℕ, ◌<◌, ℤ, ◌+ℤ◌, neg_ℤ, pos, replicate, Bool, true, false, not, List, [], ◌∷◌, ◌++◌, Option, Some, None, get_or, slice_get, slice_set, if◌then◌else◌}
use Rattle.std.specs.List.{count_by}
use Rattle.std.specs.Option.{option_map}
use Rattle.cs_diff.specs.declared.system.Constraint.{Constraint}
use Rattle.cs_diff.specs.declared.system.System.{System}
use Rattle.cs_diff.specs.Floors.{Shows}
use Rattle.cs_diff.specs.Labels.{Labels, at}

-- the vertex is reached
abbrev pub is_in : List Bool → ℕ → Bool
is_in reached v = get_or reached v false

-- the constraint leads from a reached vertex to one that is not, by their labels exactly
abbrev pub IsStep : Labels → List Bool → Constraint → Type 0
IsStep labels reached c =
    (is_in reached c.from ≡ true) × (is_in reached c.to ≡ false)
    × (z : ℤ) × (at labels c.from ≡ Some z) × (at labels c.to ≡ Some (z +ℤ c.most))

-- the least values that are known: those of the reached vertices
abbrev pub known_of : Labels → List Bool → ℕ → Option ℤ
known_of labels reached v = if is_in reached v then option_map neg_ℤ (at labels v) else None

-- how many vertices are not reached
abbrev pub unreached : List Bool → ℕ
unreached reached = count_by not reached

-- the constraint was no step and nothing changed, or it was one and is taken
abbrev pub HasTaken : System → Labels → ℕ → List Bool → List ℕ → List Bool → List ℕ → Bool → Type 0
HasTaken s labels place reached steps reached' steps' false =
    (reached' ≡ reached) × (steps' ≡ steps) × ((c : Constraint) → slice_get s.constraints place ≡
    Some c → ¬ (IsStep labels reached c))
HasTaken s labels place reached steps reached' steps' true =
    (c : Constraint) × (slice_get s.constraints place ≡ Some c) × IsStep labels reached c
    × (reached' ≡ slice_set reached c.to true) × (steps' ≡ steps ++ place ∷ [])

-- no constraint is a step
abbrev pub NoStep : System → Labels → List Bool → Type 0
NoStep s labels reached = (i : ℕ) (c : Constraint) → slice_get s.constraints i ≡ Some c → ¬
    (IsStep labels reached c)

-- what taking steps keeps: the reached vertices, and that the steps show what is known of them
pub record IsExtended (s : System) (labels : Labels) (reached : List Bool) (steps : List ℕ)
    (reached' : List Bool) (steps' : List ℕ) : Type 0 where
  pub shows : (known : ℕ → Option ℤ) → Shows s known steps (known_of labels reached)
      → Shows s known steps' (known_of labels reached')
  pub keeps : (v : ℕ) → is_in reached v ≡ true → is_in reached' v ≡ true

-- no constraint was a step, or more vertices are reached
abbrev pub HasStepped : System → Labels → List Bool → List Bool → Bool → Type 0
HasStepped s labels reached reached' false = (reached' ≡ reached) × NoStep s labels reached
HasStepped s labels reached reached' true = unreached reached' < unreached reached

-- the labels to begin with: the root's alone, at 0
abbrev pub root_label : ℕ → ℕ → Labels
root_label n root = slice_set (replicate n None) root (Some (pos 0))
