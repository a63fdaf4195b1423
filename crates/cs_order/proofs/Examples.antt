-- The definitions on small graphs.
use Rattle.std.proofs.Common.{◌≡◌, ℕ, zero, suc, ◌+◌, ◌<◌, [], ◌∷◌, Some, refl, ap, subst, arith, lit<}
use Rattle.std.specs.Prelude.{slice_get, Contains}
use Rattle.std.proofs.lemmas.Option.{slice_get_within}
use Rattle.cs_order.specs.Graphs.{Graph, DependsOn, IsOrder, IsLoop, HasNoRepeat, push_source, place_in, sources_of}
use Rattle.cs_order.specs.Rows.{rows_of}
use Rattle.cs_base.proofs.ListLemmas.{contains_at, at_contains}

rows : rows_of (0 ∷ 2 ∷ 2 ∷ []) (5 ∷ 6 ∷ 7 ∷ []) ≡ (5 ∷ 6 ∷ []) ∷ [] ∷ (7 ∷ []) ∷ []
rows = refl

pushed : push_source 7 ((1 ∷ []) ∷ [] ∷ []) ≡ (1 ∷ []) ∷ (7 ∷ []) ∷ []
pushed = refl

second_place : place_in (4 ∷ 2 ∷ []) 2 ≡ 2
second_place = refl

no_place : place_in (4 ∷ 2 ∷ []) 3 ≡ 0
no_place = refl

-- ---- vertex 0 depends on vertex 1, and names a source that is none of the two vertices

pair : Graph
pair = (1 ∷ 7 ∷ []) ∷ [] ∷ []

depends : DependsOn pair 0 1
unfolding pair
depends = record { source = at_contains (1 ∷ 7 ∷ []) 0 1 refl; vertex = lit< tt }

not_on_7 : ¬ (DependsOn pair 0 7)
unfolding pair
not_on_7 h = omega (arith, h.vertex)

pair_order : IsOrder pair (1 ∷ 0 ∷ [])
unfolding pair
pair_order = record { every = every; only = only; once = once; after = after } where
  every : (v : ℕ) → v < 2 → Contains (1 ∷ 0 ∷ []) v
  every zero below = at_contains (1 ∷ 0 ∷ []) 1 0 refl
  every (suc zero) below = at_contains (1 ∷ 0 ∷ []) 0 1 refl
  every (suc (suc v)) below = absurd (omega arith)

  one : (i v : ℕ) → slice_get (1 ∷ 0 ∷ []) i ≡ Some v → i + v ≡ 1
  one zero v is = let same : 1 ≡ v = cc in omega arith
  one (suc zero) v is = let same : 0 ≡ v = cc in omega arith
  one (suc (suc i)) v is = cc

  only : (v : ℕ) → Contains (1 ∷ 0 ∷ []) v → v < 2
  only v stands = let i = contains_at (1 ∷ 0 ∷ []) v stands in omega (arith, one i.0 v i.1)

  once : HasNoRepeat (1 ∷ 0 ∷ [])
  once i j v first second = omega (arith, one i v first, one j v second)

  first_source : (i w : ℕ) → slice_get (1 ∷ 7 ∷ []) i ≡ Some w → w < 2 → 1 ≡ w
  first_source zero w is below = cc
  first_source (suc zero) w is below = let same : 7 ≡ w = cc in absurd (omega arith)
  first_source (suc (suc i)) w is below = cc

  after : (i v w : ℕ) → slice_get (1 ∷ 0 ∷ []) i ≡ Some v → DependsOn pair v w
      → (j : ℕ) × (j < i) × (slice_get (1 ∷ 0 ∷ []) j ≡ Some w)
  after zero v w stands h =
      let same : v ≡ 1 = cc in
      let k = subst (λ x. Contains (sources_of pair x) w) same h.source in
      absurd (omega (arith, k.1))
  after (suc zero) v w stands h =
      let same : v ≡ 0 = cc in
      let k = contains_at (1 ∷ 7 ∷ []) w (subst (λ x. Contains (sources_of pair x) w) same h.source) in
      (0, omega arith, ap (λ x. Some x) (first_source k.0 w k.1 h.vertex))
  after (suc (suc i)) v w stands h = cc

-- the other way round is no order
not_order : ¬ (IsOrder pair (0 ∷ 1 ∷ []))
unfolding pair
not_order h = let j = h.after 0 0 1 refl depends in omega (arith, j.1)

-- ---- a tail that leads to a vertex that depends on itself

tail : Graph
tail = (1 ∷ []) ∷ (1 ∷ []) ∷ []

closed : IsLoop tail (1 ∷ [])
unfolding tail
closed = (record { source = at_contains (1 ∷ []) 0 1 refl; vertex = lit< tt }, once) where
  once : HasNoRepeat (1 ∷ [])
  once i j v first second = omega (
    arith,
    slice_get_within (1 ∷ []) i v first,
    slice_get_within (1 ∷ []) j v second,
  )

tail_not_in_loop : ¬ (IsLoop tail (0 ∷ 1 ∷ []))
unfolding tail
tail_not_in_loop h = let k = contains_at (1 ∷ []) 0 h.0.1.source in only_1 k.0 0 k.1 refl where
  only_1 : (i v : ℕ) → slice_get (1 ∷ []) i ≡ Some v → v ≡ 0 → ⊥
  only_1 zero v is none = let same : 1 ≡ v = cc in omega arith
  only_1 (suc i) v is none = cc
