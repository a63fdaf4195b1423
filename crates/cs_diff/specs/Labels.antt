-- The labels and parents of the labelling method (Bellman, Ford, Moore), for one reading of the
-- constraints.
use Rattle.std.specs.Prelude.{◌≡◌, ℕ, zero, suc, min, ◌+◌, ◌-◌, ◌*◌, ◌^◌, ◌<◌, ◌⊎◌, ℤ, pos, ◌+ℤ◌, ◌-ℤ◌, ◌≤ℤ◌, ◌<ℤ◌, unsigned_abs, List, [], ◌∷◌, Option, Some, None, is_some, get_or, slice_get, length}
use Rattle.std.specs.List.{count_by, sum_by}
use Rattle.std.specs.Option.{option_map, option_and_then}
use Rattle.cs_diff.specs.declared.system.Constraint.{Constraint}
use Rattle.cs_diff.specs.declared.reading.Reading.{Reading}
use Rattle.cs_diff.specs.declared.reading.Reading.TheVariants.{Upper, Lower}
use Rattle.cs_diff.specs.Systems.{sum_of}
use Rattle.cs_diff.specs.declared.error.DiffError.{DiffError}
use Rattle.cs_diff.specs.declared.error.DiffError.TheVariants.{Negative, NoMemory}
use Rattle.cs_diff.specs.declared.relax.Outcome.{Outcome}
use Rattle.cs_diff.specs.declared.relax.Outcome.TheVariants.{Kept, Lowered, TooLow}

-- the vertex that a constraint bounds
abbrev pub head : Reading → Constraint → ℕ
head Upper c = c.from
head Lower c = c.to

-- the vertex by whose value it is bounded
abbrev pub tail : Reading → Constraint → ℕ
tail Upper c = c.to
tail Lower c = c.from

-- a label is an upper bound, where there is one
abbrev pub Labels : Type 0
Labels = List (Option ℤ)

-- a parent is the place of the constraint that gave the label
abbrev pub Parents : Type 0
Parents = List (Option ℕ)

-- what a list without a place for v has there: nothing
abbrev pub at : {A : Type 0} → List (Option A) → ℕ → Option A
at xs v = get_or xs v None

-- the values solve the constraints, so read
abbrev pub Solves : Reading → List Constraint → (ℕ → ℤ) → Type 0
Solves d cs r =
    (i : ℕ) (c : Constraint) → slice_get cs i ≡ Some c → (r (head d c) -ℤ r (tail d c)) ≤ℤ c.most

-- the labels bound the values from above
abbrev pub Bound : Labels → (ℕ → ℤ) → Type 0
Bound labels r = (v : ℕ) (z : ℤ) → at labels v ≡ Some z → (r v) ≤ℤ z

-- the label of the constraint's tail gives its head a label that is no greater than it allows
abbrev pub Keeps : Reading → Labels → Constraint → Type 0
Keeps d labels c =
    (z : ℤ) → at labels (tail d c) ≡ Some z
    → (y : ℤ) × (at labels (head d c) ≡ Some y) × (y ≤ℤ (z +ℤ c.most))

-- the labels keep every constraint
abbrev pub KeepAll : Reading → List Constraint → Labels → Type 0
KeepAll d cs labels = (i : ℕ) (c : Constraint) → slice_get cs i ≡ Some c → Keeps d labels c

-- above, or equal and lowered later
abbrev pub IsAfter : ℤ → ℕ → ℤ → ℕ → Type 0
IsAfter a s b t = (b <ℤ a) ⊎ ((a ≡ b) × (t < s))

-- the parent i of v: v's label is after what the constraint i allows
pub record IsArc (d : Reading) (cs : List Constraint) (labels : Labels) (stamp : ℕ → ℕ) (v i : ℕ) :
    Type 0 where
  pub constraint : Constraint
  pub found : slice_get cs i ≡ Some constraint
  pub ends : head d constraint ≡ v
  pub here : ℤ
  pub there : ℤ
  pub label : at labels v ≡ Some here
  pub above : at labels (tail d constraint) ≡ Some there
  pub after : IsAfter here (stamp v) (there +ℤ constraint.most) (stamp (tail d constraint))

-- labels and their parents, with a stamp for each vertex that tells when its label was last lowered
pub record IsForest (d : Reading) (cs : List Constraint) (labels : Labels) (parents : Parents) :
    Type 0 where
  pub stamp : ℕ → ℕ
  pub clock : ℕ
  pub earlier : (v : ℕ) → stamp v < clock
  pub roots : (v : ℕ) (z : ℤ) → at parents v ≡ None → at labels v ≡ Some z
      → pos 0 ≤ℤ (z +ℤ pos (2 ^ 31))
  pub arcs : (v i : ℕ) → at parents v ≡ Some i → IsArc d cs labels stamp v i

-- what lowering labels keeps
pub record IsLowered (d : Reading) (cs : List Constraint) (labels : Labels) (parents : Parents)
    (labels' : Labels) (parents' : Parents) : Type 0 where
  pub forest : IsForest d cs labels parents → IsForest d cs labels' parents'
  pub bound : (r : ℕ → ℤ) → Solves d cs r → Bound labels r → Bound labels' r
  pub lower : (v : ℕ) (z : ℤ) → at labels v ≡ Some z → (y : ℤ) × (at labels' v ≡ Some y) × (y ≤ℤ z)
  pub roots : (v : ℕ) → at parents' v ≡ None → (at parents v ≡ None) × (at labels' v ≡ at labels v)

-- 1, or 0 where there is one vertex: so far a label stays below the range's end
abbrev pub gap : ℕ → ℕ
gap n = min 1 (n - 1)

-- labels of n vertices in their range: no path without a repeated vertex leads out of it
pub record AreInRange (n : ℕ) (labels : Labels) : Type 0 where
  pub low : (v : ℕ) (z : ℤ) → at labels v ≡ Some z → pos 0 ≤ℤ (z +ℤ pos (2 ^ 31 * n))
  pub high : (v : ℕ) (z : ℤ) → at labels v ≡ Some z
      → (z +ℤ pos (gap n)) ≤ℤ pos (2 ^ 31 * count_by is_some labels)

-- how far a label may still fall
abbrev pub slack : ℕ → Option ℤ → ℕ
slack n None = 2 ^ 32 * n + 1
slack n (Some z) = unsigned_abs (z +ℤ pos (2 ^ 31 * n))

-- how far all labels may still fall
abbrev pub slack_of : ℕ → Labels → ℕ
slack_of n labels = sum_by (slack n) labels

-- a vertex has a label below the range
abbrev pub IsTooLow : ℕ → Labels → ℕ → Type 0
IsTooLow n labels v = (z : ℤ) × (at labels v ≡ Some z) × ((z +ℤ pos (2 ^ 31 * n)) <ℤ pos 0)

-- the vertex to which the parent of v leads
abbrev pub up : Reading → List Constraint → Parents → ℕ → Option ℕ
up d cs parents v = option_map (tail d) (option_and_then (slice_get cs) (at parents v))

-- the vertex to which k parents lead from v
abbrev pub ancestor : Reading → List Constraint → Parents → ℕ → ℕ → Option ℕ
ancestor d cs parents zero v = Some v
ancestor d cs parents (suc k) v = option_and_then (up d cs parents) (ancestor d cs parents k v)

-- these places are the parents on the way up from x to y
abbrev pub ClimbsBy : Reading → List Constraint → Parents → ℕ → List ℕ → ℕ → Type 0
ClimbsBy d cs parents x [] y = x ≡ y
ClimbsBy d cs parents x (i ∷ places) y =
    (c : Constraint) × (at parents x ≡ Some i) × (slice_get cs i ≡ Some c) × ClimbsBy d cs parents
    (tail d c) places y

-- what one relaxation tells: the constraint is kept, or the labels fell, or one of them fell too
-- low
abbrev pub Tells : (n : ℕ) (kept : Type 0) (old new : Labels) → Outcome → Type 0
Tells n kept old new Kept = (new ≡ old) × kept
Tells n kept old new Lowered = AreInRange n new × (slack_of n new < slack_of n old)
Tells n kept old new (TooLow v) = (v < n) × IsTooLow n new v

-- constraints, by their places, that lead from x to y, each read as a step from its head to its
-- tail
abbrev pub LeadsBy : Reading → List Constraint → ℕ → List ℕ → ℕ → Type 0
LeadsBy d cs x [] y = x ≡ y
LeadsBy d cs x (i ∷ places) y =
    (c : Constraint) × (slice_get cs i ≡ Some c) × (head d c ≡ x) × LeadsBy d cs (tail d c) places y

-- constraints, so read, that close a loop and have a sum below 0
pub record IsLoopBy (d : Reading) (cs : List Constraint) (places : List ℕ) : Type 0 where
  pub vertex : ℕ
  pub closes : LeadsBy d cs vertex places vertex
  pub negative : (sum_of cs places) <ℤ pos 0

-- the parents on the way from a vertex back to itself
pub record IsParentLoop (d : Reading) (cs : List Constraint) (parents : Parents) (places : List ℕ) :
    Type 0 where
  pub vertex : ℕ
  pub some : 0 < length places
  pub climbs : ClimbsBy d cs parents vertex places vertex

-- labels to begin with: in their range, and each no lower than a constraint may be
pub record AreStarts (n : ℕ) (labels : Labels) : Type 0 where
  pub range : AreInRange n labels
  pub roots : (v : ℕ) (z : ℤ) → at labels v ≡ Some z → pos 0 ≤ℤ (z +ℤ pos (2 ^ 31))

-- the constraint that gives v its label z exactly, by a label of an earlier stamp
pub record IsTight (d : Reading) (cs : List Constraint) (labels : Labels) (stamp : ℕ → ℕ) (v : ℕ)
    (z : ℤ) : Type 0 where
  pub place : ℕ
  pub constraint : Constraint
  pub found : slice_get cs place ≡ Some constraint
  pub ends : head d constraint ≡ v
  pub there : ℤ
  pub above : at labels (tail d constraint) ≡ Some there
  pub sum : z ≡ there +ℤ constraint.most
  pub earlier : stamp (tail d constraint) < stamp v

-- each label is one to begin with, or comes from such a label by tight constraints
pub record AreReached (d : Reading) (cs : List Constraint) (old new : Labels) : Type 0 where
  pub stamp : ℕ → ℕ
  pub reached : (v : ℕ) (z : ℤ) → at new v ≡ Some z
      → (at old v ≡ Some z) ⊎ IsTight d cs new stamp v z

-- the greatest labels that keep all constraints and are nowhere above those to begin with
pub record AreSettled (d : Reading) (cs : List Constraint) (old new : Labels) : Type 0 where
  pub kept : KeepAll d cs new
  pub bound : (r : ℕ → ℤ) → Solves d cs r → Bound old r → Bound new r
  pub lower : (v : ℕ) (z : ℤ) → at old v ≡ Some z → (y : ℤ) × (at new v ≡ Some y) × (y ≤ℤ z)
  pub reached : AreReached d cs old new

-- the error tells a loop, so read, that leaves no solution, or that memory ran out
abbrev pub ExplainsBy : Reading → List Constraint → DiffError → Type 0
ExplainsBy d cs (Negative places) = IsLoopBy d cs places
ExplainsBy d cs NoMemory = Unit {0}
