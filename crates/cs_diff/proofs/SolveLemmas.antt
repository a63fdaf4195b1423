-- Settled labels that began as caps are the greatest solution under the caps.
use Rattle.std.proofs.Common.{◌≡◌, ℕ, ◌-◌, ◌*◌, ◌^◌, ◌<◌, min, List, [], ◌∷◌, length, Option, Some, None, is_some, map, cond, ap, ◌∙◌, arith, inl, inr, refl}
use Rattle.std.specs.Prelude.{ℤ, pos, ◌+ℤ◌, ◌-ℤ◌, ◌≤ℤ◌}
use Rattle.std.specs.List.{All, count_by}
use Rattle.std.specs.Option.{unwrap_or}
use Rattle.std.proofs.lemmas.Int.{ints}
use Rattle.std.proofs.lemmas.Bool.{cases_lt}
use Rattle.std.proofs.lemmas.List.{get_or-map, get_or_past, length-map}
use Rattle.std.proofs.lemmas.List.Sums.{sum_by-cons}
use Rattle.cs_diff.specs.declared.system.System.{System}
use Rattle.cs_diff.specs.declared.reading.Reading.TheVariants.{Upper}
use Rattle.cs_base.specs.Ranges.{IsSmall}
use Rattle.cs_diff.specs.Systems.{Leads, IsNegativeLoop, IsSolution, HasSolution, IsUnder, IsGreatest, value_of, Explains}
use Rattle.cs_diff.specs.declared.error.DiffError.{DiffError}
use Rattle.cs_diff.specs.declared.error.DiffError.TheVariants.{Negative, NoMemory}
use Rattle.cs_diff.specs.Labels.{Labels, at, AreStarts, AreSettled, LeadsBy, IsLoopBy, ExplainsBy}
use Rattle.cs_diff.proofs.LoopLemmas.{loop_refutes}

-- ---- loops

leads : (s : System) (places : List ℕ) (x y : ℕ) → LeadsBy Upper s.constraints x places y
    → Leads s x places y
leads s [] x y same = same
leads s (i ∷ places) x y (c, found, begins, rest) = (c, found, begins, leads s places c.to y rest)

pub negative_loop : (s : System) (places : List ℕ) → IsLoopBy Upper s.constraints places
    → IsNegativeLoop s places
negative_loop s places l = record {
  vertex = l.vertex;
  closes = leads s places l.vertex l.vertex
      l.closes;
  negative = l.negative;
}

leads_by : (s : System) (places : List ℕ) (x y : ℕ) → Leads s x places y
    → LeadsBy Upper s.constraints x places y
leads_by s [] x y same = same
leads_by s (i ∷ places) x y (c, found, begins, rest) =
    (c, found, begins, leads_by s places c.to y rest)

-- a loop with a sum below 0 leaves no solution
pub no_solution : (s : System) (places : List ℕ) → HasSolution s → IsNegativeLoop s places → ⊥
no_solution s places some l =
    loop_refutes Upper s.constraints some.values places some.solves
    (record {
      vertex = l.vertex;
      closes = leads_by s places l.vertex l.vertex l.closes;
      negative =
          l.negative;
    })

-- what the labelling method refuses has no solution
pub explains : (s : System) (e : DiffError) → ExplainsBy Upper s.constraints e → Explains s e
explains s (Negative places) l = (
  negative_loop s places l,
  λ h. loop_refutes Upper s.constraints
      h.values places h.solves l,
)
explains s NoMemory l = tt

-- ---- caps as labels

caps_labels : List ℤ → Labels
caps_labels caps = map (λ cap. Some cap) caps

cap_at : (caps : List ℤ) (v : ℕ) → v < length caps
    → at (caps_labels caps) v ≡ Some (value_of caps v)
unfolding caps_labels
cap_at caps v below = get_or-map (λ cap. Some cap) caps v (pos 0) None below

cap_of : (caps : List ℤ) (v : ℕ) (z : ℤ) → at (caps_labels caps) v ≡ Some z
    → (v < length caps) × (z ≡ value_of caps v)
unfolding caps_labels
cap_of caps v z is = elim (cases_lt v (length caps)) [
  | inl below ↦ let here = cap_at caps v below in (below, cc)
  | inr past ↦ let none = get_or_past (caps_labels caps) v None
      (omega (arith, length-map caps (λ (cap : ℤ). Some cap))) in cc
]

count_caps : (caps : List ℤ) → count_by is_some (caps_labels caps) ≡ length caps
unfolding caps_labels
count_caps [] = refl
count_caps (cap ∷ caps) = omega (
  arith,
  sum_by-cons (λ (x : Option ℤ). cond (is_some x) 1 0)
      (Some cap) (map (λ cap. Some cap) caps),
  count_caps caps,
)

small_at : (caps : List ℤ) (v : ℕ) → All IsSmall caps → v < length caps → IsSmall (value_of caps v)
small_at caps v all below = all v (pos 0) below

low_small : (z : ℤ) (n v : ℕ) → v < n → pos 0 ≤ℤ (z +ℤ pos (2 ^ 31))
    → pos 0 ≤ℤ (z +ℤ pos (2 ^ 31 * n))
low_small z n v below low = omega (arith, ints)

high_small : (z : ℤ) (n v k : ℕ) → v < n → k ≡ n → z ≤ℤ pos (2 ^ 31)
    → (z +ℤ pos (min 1 (n - 1))) ≤ℤ pos (2 ^ 31 * k)
high_small z n v k below all high = omega (arith, ints)

-- caps are labels to begin with
pub starts_by_caps : (n : ℕ) (caps : List ℤ) → length caps ≡ n → All IsSmall caps
    → AreStarts n (map (λ cap. Some cap) caps)
unfolding caps_labels
starts_by_caps n caps len all = record {
  range = record {
    low = λ v z is. let c = cap_of caps v z is in rw c.1
        (low_small (value_of caps v) n v (omega (arith, c.0)) (small_at caps v all c.0).low);
    high = λ v z is. let c = cap_of caps v z is in rw c.1
        (high_small (value_of caps v) n v (count_by is_some (caps_labels caps)) (omega (arith, c.0))
        (count_caps caps ∙ len) (small_at caps v all c.0).high);
  };
  roots = λ v z is. let c = cap_of caps v z is in rw c.1 (small_at caps v all c.0).low;
}

pub cap_is : (caps : List ℤ) (v : ℕ) → v < length caps
    → at (map (λ cap. Some cap) caps) v ≡ Some (value_of caps v)
unfolding caps_labels
cap_is caps v below = cap_at caps v below

-- ---- labels as values

bounded : (a b m : ℤ) → a ≤ℤ (b +ℤ m) → (a -ℤ b) ≤ℤ m
bounded a b m h = omega (arith, ints)

module _ (s : System) (caps : List ℤ) (labels : Labels) (values : List ℤ)
    (count : length caps ≡ s.vertices) (settled : AreSettled Upper s.constraints
    (map (λ cap. Some cap) caps) labels) (len : length labels ≡ s.vertices)
    (is : values ≡ map (λ label. unwrap_or label (pos 0)) labels) where
  value_is : (v : ℕ) (z : ℤ) → v < s.vertices → at labels v ≡ Some z → value_of values v ≡ z
  value_is v z below label =
      ap (λ (zs : List ℤ). value_of zs v) is ∙ get_or-map
      (λ (label : Option ℤ). unwrap_or label (pos 0)) labels v None (pos 0) (omega arith) ∙ ap
      (λ (o : Option ℤ). unwrap_or o (pos 0)) label

  label_at : (v : ℕ) → v < s.vertices
      → (at labels v ≡ Some (value_of values v)) × ((value_of values v) ≤ℤ (value_of caps v))
  unfolding caps_labels
  label_at v below =
      let fell = settled.lower v (value_of caps v) (cap_at caps v (omega arith)) in
      let same = value_is v fell.0 below fell.1 in
      rw same (fell.1, fell.2)

  solves : IsSolution s (value_of values)
  solves i c found =
      let among = s.in_range i c found in
      let there = label_at c.to among.to in
      let here = label_at c.from among.from in
      let kept = settled.kept i c found (value_of values c.to) there.0 in
      let same : kept.0 ≡ value_of values c.from = cc (kept.1, here.0) in
      bounded (value_of values c.from) (value_of values c.to) c.most (rw (← same) kept.2)

  below_caps : (other : ℕ → ℤ) → IsUnder s (value_of caps) other → (v : ℕ) (z : ℤ)
      → at (map (λ cap. Some cap) caps) v ≡ Some z → (other v) ≤ℤ z
  unfolding caps_labels
  below_caps other under v z start = let c = cap_of caps v z start in rw c.1
      (under v (omega (arith, c.0)))

  pub greatest : IsGreatest s (value_of caps) (value_of values)
  greatest = record {
    solves = solves;
    under = λ v below. (label_at v below).1;
    greatest = λ other solution under v below. settled.bound other solution (below_caps other under)
        v (value_of values v) (label_at v below).0;
  }
