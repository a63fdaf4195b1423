-- Systems of difference constraints: solutions, greatest and least ones, and loops of constraints.
use Rattle.std.specs.Prelude.{◌≡◌, ℕ, ◌<◌, ℤ, pos, ◌+ℤ◌, ◌-ℤ◌, ◌≤ℤ◌, ◌<ℤ◌, List, [], ◌∷◌, Option, Some, None, get_or, slice_get}
use Rattle.cs_diff.specs.declared.system.Constraint.{Constraint}
use Rattle.cs_diff.specs.declared.system.System.{System}
use Rattle.cs_diff.specs.declared.error.DiffError.{DiffError}
use Rattle.cs_diff.specs.declared.error.DiffError.TheVariants.{Negative, NoMemory}

-- the constraint holds where the vertices have these values
abbrev pub Holds : (ℕ → ℤ) → Constraint → Type 0
Holds r c = (r c.from -ℤ r c.to) ≤ℤ c.most

-- a solution: a value for each vertex, so that each constraint of the system holds
abbrev pub IsSolution : System → (ℕ → ℤ) → Type 0
IsSolution s r = (i : ℕ) (c : Constraint) → slice_get s.constraints i ≡ Some c → Holds r c

-- the system has a solution
pub record HasSolution (s : System) : Type 0 where
  pub values : ℕ → ℤ
  pub solves : IsSolution s values

-- no constraint of the system is below -a
abbrev pub AreAtLeast : System → ℕ → Type 0
AreAtLeast s a = (i : ℕ) (c : Constraint) → slice_get s.constraints i ≡ Some c → pos 0 ≤ℤ (c.most +ℤ pos a)

-- the values are nowhere above the caps
abbrev pub IsUnder : System → (ℕ → ℤ) → (ℕ → ℤ) → Type 0
IsUnder s caps r = (v : ℕ) → v < s.vertices → (r v) ≤ℤ (caps v)

-- the greatest solution that is nowhere above the caps
pub record IsGreatest (s : System) (caps r : ℕ → ℤ) : Type 0 where
  pub solves : IsSolution s r
  pub under : IsUnder s caps r
  pub greatest : (other : ℕ → ℤ) → IsSolution s other → IsUnder s caps other → IsUnder s r other

-- the least value of v over all solutions with the root at 0
pub record IsLeast (s : System) (root v : ℕ) (least : ℤ) : Type 0 where
  pub values : ℕ → ℤ
  pub solves : IsSolution s values
  pub root_at_zero : values root ≡ pos 0
  pub reached : values v ≡ least
  pub below : (other : ℕ → ℤ) → IsSolution s other → other root ≡ pos 0 → least ≤ℤ (other v)

-- the values of a list, by vertex
abbrev pub value_of : List ℤ → ℕ → ℤ
value_of values v = get_or values v (pos 0)

-- constraints, by their places, that lead from x to y: each begins where the one before it ended
abbrev pub Leads : System → ℕ → List ℕ → ℕ → Type 0
Leads s x [] y = x ≡ y
Leads s x (i ∷ places) y =
    (c : Constraint) × (slice_get s.constraints i ≡ Some c) × (c.from ≡ x) × Leads s c.to places y

-- what a constraint allows, 0 where there is none
abbrev pub most_of : Option Constraint → ℤ
most_of (Some c) = c.most
most_of None = pos 0

-- the sum of the constraints at these places
abbrev pub sum_of : List Constraint → List ℕ → ℤ
sum_of cs [] = pos 0
sum_of cs (i ∷ places) = most_of (slice_get cs i) +ℤ sum_of cs places

-- constraints that close a loop and have a sum below 0
pub record IsNegativeLoop (s : System) (places : List ℕ) : Type 0 where
  pub vertex : ℕ
  pub closes : Leads s vertex places vertex
  pub negative : (sum_of s.constraints places) <ℤ pos 0

-- the error tells constraints that leave no solution, or that memory ran out
abbrev pub Explains : System → DiffError → Type 0
Explains s (Negative places) = IsNegativeLoop s places × ¬ (HasSolution s)
Explains s NoMemory = Unit {0}
