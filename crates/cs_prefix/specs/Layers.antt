-- How registers are planned: this only mirrors the code, whose result is said by Prefixes.
use Rattle.std.specs.Prelude.{ℕ, ◌<◌, All, max, zero, suc, List, [], ◌∷◌, ◌++◌, length, filter, get_or, slice_get, slice_set, Bool, true, false, not, if◌then◌else◌, Option, Some, None}
use Rattle.cs_prefix.specs.declared.plan.DriverId.{DriverId}
use Rattle.cs_prefix.specs.declared.plan.Planned.{Planned}
use Rattle.cs_prefix.specs.declared.layers.Group.{Group}
use Rattle.cs_prefix.specs.declared.layers.Layer.{Layer}

-- the registers so far, for each edge the last of them that it passes, and the groups of the level that was reached
pub record Progress : Type 0 where
  pub registers : List Planned
  pub ends : List (Option ℕ)
  pub groups : List Group

abbrev pub progress : Layer → List (Option ℕ) → Progress
progress layer ends = record { registers = layer.registers; ends = ends; groups = layer.groups }

-- the register at this level has this start
abbrev pub is_start : Bool → Option Bool → Bool
is_start b None = false
is_start b (Some digit) = if b then digit else not digit

abbrev pub goes_on : List (List Bool) → ℕ → Bool → ℕ → Bool
goes_on contents level b e = is_start b (slice_get (get_or contents e []) level)

-- all these edges pass this register last
abbrev pub set_all : List (Option ℕ) → List ℕ → ℕ → List (Option ℕ)
set_all ends [] n = ends
set_all ends (e ∷ es) n = set_all (slice_set ends e (Some n)) es n

-- a register for edges that go on alike, where there are any
abbrev pub add_child : DriverId → Option ℕ → Bool → List ℕ → Progress → Progress
add_child driver behind start [] s = s
add_child driver behind start (e ∷ es) s = record {
  registers = s.registers ++ record { driver = driver; behind = behind; start = start } ∷ [];
  ends = set_all s.ends (e ∷ es) (length s.registers);
  groups = s.groups ++ record { behind = Some (length s.registers); edges = e ∷ es } ∷ [];
}

-- a group is split by the start of the next register
abbrev pub split : List (List Bool) → DriverId → ℕ → Group → Progress → Progress
split contents driver level group s =
    add_child driver group.behind true (filter (goes_on contents level true) group.edges)
    (add_child driver group.behind false (filter (goes_on contents level false) group.edges) s)

-- all these groups are
abbrev pub split_all : List (List Bool) → DriverId → ℕ → List Group → Progress → Progress
split_all contents driver level [] s = s
split_all contents driver level (group ∷ groups) s =
    split_all contents driver level groups (split contents driver level group s)

-- the next level
abbrev pub next_layer : List (List Bool) → DriverId → ℕ → Progress → Progress
next_layer contents driver level s =
    split_all contents driver level s.groups (record s { groups = [] })

-- so many levels from this one on
abbrev pub add_levels : List (List Bool) → DriverId → ℕ → ℕ → Progress → Progress
add_levels contents driver level zero s = s
add_levels contents driver level (suc count) s =
    add_levels contents driver (suc level) count (next_layer contents driver level s)

-- the most registers of one of these edges
abbrev pub longest_from : List (List Bool) → ℕ → List ℕ → ℕ
longest_from contents most [] = most
longest_from contents most (e ∷ es) = longest_from contents (max most (length (get_or contents e []))) es

abbrev pub longest : List (List Bool) → List ℕ → ℕ
longest contents edges = longest_from contents 0 edges

-- all levels of the edges of one driver
abbrev pub add_driver : List (List Bool) → DriverId → List ℕ → Progress → Progress
add_driver contents driver edges s =
    add_levels contents driver 0 (longest contents edges)
    (record s { groups = record { behind = None; edges = edges } ∷ [] })

-- their edges are among so many
abbrev pub AreGroupsBelow : ℕ → List Group → Type 0
AreGroupsBelow count groups = All (λ (group : Group). All (λ e. e < count) group.edges) groups
