-- For callers: the places of an order, walks and loops, loops that begin elsewhere, and graphs that grow.
use Rattle.std.specs.Prelude.{slice_get, Contains}
use Rattle.std.proofs.Common.{zero, suc, Some, ◌≡◌, ℕ, ◌<◌, ◌≤◌, ◌↔◌, List, [], ◌∷◌, ◌++◌, length, refl, sym, ap, subst, arith, inl, inr}
use Rattle.std.proofs.lemmas.Bool.{cases_lt}
use Rattle.std.proofs.lemmas.List.{get_or_past, append-nil}
use Rattle.cs_order.specs.Graphs.{Graph, DependsOn, IsOrder, IsWalk, IsLoop, place_in, push_source, sources_of}
use Rattle.cs_base.proofs.ListLemmas.{contains_at, at_contains}
use Rattle.cs_order.proofs.PlaceLemmas.{place_at_most, place_of}
use Rattle.cs_order.proofs.CountLemmas.{count_at_most, count_at_least}
use Rattle.cs_order.proofs.RepeatLemmas.{no_repeat_turned}

-- ---- orders

-- what has sources is a vertex
pub has_sources : (g : Graph) (v w : ℕ) → Contains (sources_of g v) w → v < length g
has_sources g v w source = elim (cases_lt v (length g)) [
  | inl below ↦ below
  | inr past ↦
      let none : sources_of g v ≡ [] = get_or_past g v [] past in
      absurd (omega (arith, source.1, ap (λ (xs : List ℕ). length xs) none))
]

-- what depends on something is a vertex
pub depends_within : (g : Graph) (v w : ℕ) → DependsOn g v w → v < length g
depends_within g v w h = has_sources g v w h.source

-- a vertex has a place from 1 on
pub place_positive : (g : Graph) (order : List ℕ) (v : ℕ) → IsOrder g order → v < length g
    → 0 < place_in order v
place_positive g order v h below =
    let stands = contains_at order v (h.every v below) in
    omega (arith, place_at_most 1 order stands.0 v stands.1)

-- what is no vertex has the place 0
pub place_zero : (g : Graph) (order : List ℕ) (v : ℕ) → IsOrder g order → length g ≤ v
    → place_in order v ≡ 0
place_zero g order v h past = elim (place_of 1 order v) [
  | inl none ↦ none
  | inr (k, place, stands) ↦ absurd (omega (arith, h.only v (at_contains order k v stands)))
]

-- just the vertices have a place from 1 on
pub place_vertex : (g : Graph) (order : List ℕ) (v : ℕ) → IsOrder g order
    → (0 < place_in order v) ↔ (v < length g)
place_vertex g order v h = (
  λ some. elim (cases_lt v (length g)) [
    | inl below ↦ below
    | inr past ↦ absurd (omega (arith, place_zero g order v h past))
  ],
  λ below. place_positive g order v h below,
)

-- a vertex has its place after those that it depends on
pub place_after : (g : Graph) (order : List ℕ) (v w : ℕ) → IsOrder g order → DependsOn g v w
    → place_in order w < place_in order v
place_after g order v w h depends =
    let some = place_positive g order v h (depends_within g v w depends) in
    elim (place_of 1 order v) [
      | inl none ↦ absurd (omega arith)
      | inr (k, place, stands) ↦
          let before = h.after k v w stands depends in
          omega (arith, before.1, place_at_most 1 order before.0 w before.2)
    ]

-- the same of every source, a vertex or not: what is no vertex has the place 0
pub place_after_source : (g : Graph) (order : List ℕ) (v w : ℕ) → IsOrder g order
    → Contains (sources_of g v) w → place_in order w < place_in order v
place_after_source g order v w h source = elim (cases_lt w (length g)) [
  | inl below ↦ place_after g order v w h (record { source = source; vertex = below })
  | inr past ↦
      let none = place_zero g order w h past in
      let some = place_positive g order v h (has_sources g v w source) in
      omega arith
]

-- what stands in an order is a vertex
pub order_within : (g : Graph) (order : List ℕ) (i v : ℕ) → IsOrder g order
    → slice_get order i ≡ Some v → v < length g
order_within g order i v h stands = h.only v (at_contains order i v stands)

-- ---- loops

-- along a walk the places fall
pub walk_falls : (g : Graph) (order : List ℕ) (v : ℕ) (vs : List ℕ) (w : ℕ) → IsOrder g order
    → IsWalk g v vs w → place_in order w < place_in order v
walk_falls g order v [] w h walk = place_after g order v w h walk
walk_falls g order v (u ∷ vs) w h (first, rest) =
    let step = place_after g order v u h first in
    let further = walk_falls g order u vs w h rest in
    omega arith

-- where there is an order, there is no loop
pub order_no_loop : (g : Graph) (order vs : List ℕ) → IsOrder g order → IsLoop g vs → ⊥
order_no_loop g order [] h closed = closed
order_no_loop g order (v ∷ vs) h closed =
    let falls = walk_falls g order v vs v h closed.0 in
    omega arith

-- along a walk each vertex depends on the next
pub walk_next : (g : Graph) (v : ℕ) (vs : List ℕ) (w : ℕ) → IsWalk g v vs w → (i x y : ℕ)
    → slice_get (v ∷ vs) i ≡ Some x → slice_get (v ∷ vs) (suc i) ≡ Some y → DependsOn g x y
walk_next g v [] w walk i x y first second = cc
walk_next g v (u ∷ vs) w walk zero x y first second =
    let P : ℕ → Type 0 = DependsOn g v in
    let Q : ℕ → Type 0 = λ z. DependsOn g z y in
    let start : v ≡ x = cc in
    let end : u ≡ y = cc in
    subst Q start (subst P end walk.0)
walk_next g v (u ∷ vs) w walk (suc i) x y first second = walk_next g u vs w walk.1 i x y first second

-- the last vertex of a walk depends on its end
pub walk_last : (g : Graph) (v : ℕ) (vs : List ℕ) (w : ℕ) → IsWalk g v vs w → (x : ℕ)
    → slice_get (v ∷ vs) (length vs) ≡ Some x → DependsOn g x w
walk_last g v [] w walk x last =
    let P : ℕ → Type 0 = λ z. DependsOn g z w in
    let same : v ≡ x = cc in
    subst P same walk
walk_last g v (u ∷ vs) w walk x last = walk_last g u vs w walk.1 x last

-- each vertex of a loop depends on the next
pub loop_next : (g : Graph) (vs : List ℕ) → IsLoop g vs → (i x y : ℕ) → slice_get vs i ≡ Some x
    → slice_get vs (suc i) ≡ Some y → DependsOn g x y
loop_next g [] closed i x y first second = absurd closed
loop_next g (v ∷ vs) closed i x y first second = walk_next g v vs v closed.0 i x y first second

-- the last vertex of a loop depends on the first
pub loop_last : (g : Graph) (v : ℕ) (vs : List ℕ) → IsLoop g (v ∷ vs) → (x : ℕ)
    → slice_get (v ∷ vs) (length vs) ≡ Some x → DependsOn g x v
loop_last g v vs closed x last = walk_last g v vs v closed.0 x last

-- what stands on a walk or a loop is a vertex
pub walk_within : (g : Graph) (v : ℕ) (vs : List ℕ) (w : ℕ) → IsWalk g v vs w → (i x : ℕ)
    → slice_get (v ∷ vs) i ≡ Some x → x < length g
walk_within g v [] w walk zero x stands = let same : v ≡ x = cc in omega (arith, depends_within g v w walk)
walk_within g v [] w walk (suc i) x stands = cc
walk_within g v (u ∷ vs) w walk zero x stands =
    let same : v ≡ x = cc in omega (arith, depends_within g v u walk.0)
walk_within g v (u ∷ vs) w walk (suc i) x stands = walk_within g u vs w walk.1 i x stands

pub loop_within : (g : Graph) (vs : List ℕ) (i x : ℕ) → IsLoop g vs → slice_get vs i ≡ Some x
    → x < length g
loop_within g [] i x closed stands = absurd closed
loop_within g (v ∷ vs) i x closed stands = walk_within g v vs v closed.0 i x stands

-- ---- loops that begin elsewhere

-- a walk through u is one to u and one from u on
pub walk_parts : (g : Graph) (v : ℕ) (xs : List ℕ) (u : ℕ) (ys : List ℕ) (w : ℕ)
    → IsWalk g v (xs ++ u ∷ ys) w → IsWalk g v xs u × IsWalk g u ys w
walk_parts g v [] u ys w walk = walk
walk_parts g v (x ∷ xs) u ys w (first, rest) =
    let parts = walk_parts g x xs u ys w rest in ((first, parts.0), parts.1)

pub walk_join : (g : Graph) (v : ℕ) (xs : List ℕ) (u : ℕ) (ys : List ℕ) (w : ℕ)
    → IsWalk g v xs u → IsWalk g u ys w → IsWalk g v (xs ++ u ∷ ys) w
walk_join g v [] u ys w first rest = (first, rest)
walk_join g v (x ∷ xs) u ys w (step, more) rest = (step, walk_join g x xs u ys w more rest)

-- a loop may begin at any of its vertices
pub loop_turned : (g : Graph) (xs ys : List ℕ) → IsLoop g (xs ++ ys) → IsLoop g (ys ++ xs)
loop_turned g [] ys closed = let P : List ℕ → Type 0 = IsLoop g in subst P (sym (append-nil ys)) closed
loop_turned g (v ∷ xs) [] closed =
    let P : List ℕ → Type 0 = IsLoop g in subst P (append-nil (v ∷ xs)) closed
loop_turned g (v ∷ xs) (u ∷ ys) closed =
    let parts = walk_parts g v xs u ys v closed.0 in (
      walk_join g u ys v xs u parts.1 parts.0,
      no_repeat_turned (v ∷ xs) (u ∷ ys) closed.1,
    )

-- ---- graphs that grow

-- a source more of the last vertex
pub push_source_last : (w : ℕ) (g : Graph) (sources : List ℕ)
    → push_source w (g ++ sources ∷ []) ≡ g ++ (sources ++ w ∷ []) ∷ []
push_source_last w [] sources = refl
push_source_last w (row ∷ []) sources = refl
push_source_last w (row ∷ next ∷ g) sources = ap (λ (h : Graph). row ∷ h)
    (push_source_last w (next ∷ g) sources)

-- ---- how many

-- an order has as many entries as the graph has vertices
pub order_count : (g : Graph) (order : List ℕ) → IsOrder g order → length order ≡ length g
order_count g order h =
    let within = λ (i v : ℕ) (stands : slice_get order i ≡ Some v). h.only v (at_contains order i v stands) in
    let most = count_at_most (length g) order within h.once in
    let least = count_at_least (length g) order h.every in
    omega arith
