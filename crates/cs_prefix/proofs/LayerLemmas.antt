-- Groups of edges stay among the edges, level by level.
use Rattle.std.proofs.Common.{◌≡◌, ℕ, ◌<◌, List, [], ◌∷◌, ◌++◌, length, filter, Bool, true, false, cond, Option, Some, refl, sym, subst}
use Rattle.std.specs.Prelude.{All}
use Rattle.std.proofs.lemmas.List.Elements.{All-head, All-nil, All-tail, All-from_recursion, recursion_from_All}
use Rattle.std.specs.List.{AllByRecursion}
use Rattle.cs_prefix.specs.declared.plan.DriverId.{DriverId}
use Rattle.cs_prefix.specs.declared.layers.Group.{Group}
use Rattle.cs_prefix.specs.Layers.{AreGroupsBelow, Progress, add_child, goes_on, next_layer, set_all, split, split_all}

append_one : {A : Type 0} (P : A → Type 0) (xs : List A) (x : A) → AllByRecursion P xs → P x
    → AllByRecursion P (xs ++ x ∷ [])
append_one P [] x all h = (h, tt)
append_one P (y ∷ xs) x all h = (all.0, append_one P xs x all.1 h)

kept_by : {A : Type 0} (P : A → Type 0) (test : A → Bool) (xs : List A) → AllByRecursion P xs
    → AllByRecursion P (filter test xs)
kept_by P test [] all = tt
kept_by P test (x ∷ xs) all =
    elim (test x) as (λ t. AllByRecursion P (cond t (x ∷ filter test xs) (filter test xs))) [
      | true ↦ (all.0, kept_by P test xs all.1)
      | false ↦ kept_by P test xs all.1
    ]

pub all_kept : {A : Type 0} (P : A → Type 0) (test : A → Bool) (xs : List A) → All P xs
    → All P (filter test xs)
all_kept P test xs all =
    All-from_recursion P (filter test xs) (kept_by P test xs (recursion_from_All P xs all))

pub below_child : (n : ℕ) (driver : DriverId) (behind : Option ℕ) (start : Bool) (edges : List ℕ) (s : Progress)
    → All (λ e. e < n) edges → AreGroupsBelow n s.groups
    → AreGroupsBelow n (add_child driver behind start edges s).groups
below_child n driver behind start [] s edges groups = groups
below_child n driver behind start (e ∷ es) s edges groups =
    All-from_recursion (λ (group : Group). All (λ e. e < n) group.edges) _
    (append_one (λ (group : Group). All (λ e. e < n) group.edges) s.groups _
    (recursion_from_All (λ (group : Group). All (λ e. e < n) group.edges) s.groups groups) edges)

pub below_split : (n level : ℕ) (contents : List (List Bool)) (driver : DriverId) (group : Group) (s : Progress)
    → All (λ e. e < n) group.edges → AreGroupsBelow n s.groups
    → AreGroupsBelow n (split contents driver level group s).groups
below_split n level contents driver group s edges groups =
    below_child n driver group.behind true (filter (goes_on contents level true) group.edges) _
    (all_kept (λ e. e < n) (goes_on contents level true) group.edges edges)
    (below_child n driver group.behind false (filter (goes_on contents level false) group.edges) s
    (all_kept (λ e. e < n) (goes_on contents level false) group.edges edges) groups)

pub child_made : (driver : DriverId) (behind : Option ℕ) (start : Bool) (edges : List ℕ) (s : Progress)
    → (edges ≡ [] → ⊥) → add_child driver behind start edges s ≡ record {
      registers = s.registers ++ record { driver = driver; behind = behind; start = start } ∷ [];
      ends = set_all s.ends edges (length s.registers);
      groups = s.groups ++ record { behind = Some (length s.registers); edges = edges } ∷ [];
    }
child_made driver behind start [] s some = absurd (some refl)
child_made driver behind start (e ∷ es) s some = refl

pub kept_below : (n m : ℕ) (test : ℕ → Bool) (edges : List ℕ) → m ≡ n → All (λ e. e < n) edges
    → All (λ e. e < m) (filter test edges)
kept_below n m test edges same all =
    subst (λ k. All (λ e. e < k) (filter test edges)) (sym same) (all_kept (λ e. e < n) test edges all)

below_all : (n level : ℕ) (contents : List (List Bool)) (driver : DriverId) (groups : List Group) (s : Progress)
    → AreGroupsBelow n groups → AreGroupsBelow n s.groups
    → AreGroupsBelow n (split_all contents driver level groups s).groups
below_all n level contents driver [] s all below = below
below_all n level contents driver (group ∷ groups) s all below =
    below_all n level contents driver groups (split contents driver level group s)
    (All-tail (λ (g : Group). All (λ e. e < n) g.edges) group groups all)
    (below_split n level contents driver group s (All-head (λ (g : Group). All (λ e. e < n) g.edges) group groups all) below)

-- the groups of the next level
pub next_groups : (n level : ℕ) (contents : List (List Bool)) (driver : DriverId) (s t : Progress)
    → t ≡ next_layer contents driver level s → AreGroupsBelow n s.groups → AreGroupsBelow n t.groups
next_groups n level contents driver s t is groups =
    subst (λ (p : Progress). AreGroupsBelow n p.groups) (sym is)
    (below_all n level contents driver s.groups (record s { groups = [] }) groups
    (All-nil (λ (g : Group). All (λ e. e < n) g.edges)))
