-- A loop of registers without any vertex has a bit among the rings.
use Rattle.std.specs.Prelude.{nat_le, ◌||◌, ◌&&◌, ◌==◌}
use Rattle.std.proofs.Common.{◌≡◌, ℕ, zero, suc, ◌+◌, ◌-◌, ◌<◌, ◌≤◌, Bool, true, false, cond, List, [], ◌∷◌, length, Some, None, filter, filter_map, find, option_map, unwrap_or, refl, sym, ap, ap₂, ◌∙◌, arith, inl, inr}
use Rattle.std.specs.List.{list_all, list_any, position_from}
use Rattle.std.proofs.lemmas.Bool.{cases_Bool, cases_lt, eqb-true, or_left, or_right}
use Rattle.std.proofs.lemmas.Option.{none-some}
use Rattle.cs_base.specs.declared.signal.Signal.{Signal}
use Rattle.cs_base.specs.declared.signal.Signal.TheVariants.{Zero, One, Unknown, HighZ, Bit}
use Rattle.cs_modules.specs.Signals.{is_bit, number_in}
use Rattle.cs_lower.specs.Rings.{bit_behind, in_order, in_place, is_ring, met, rings}
use Rattle.cs_lower.specs.declared.taps.Wire.{Wire}
use Rattle.cs_lower.specs.declared.taps.Wire.TheVariants.{Undriven as undriven}
use Rattle.cs_lower.specs.Walks.{back}
use Rattle.cs_lower.specs.Wires.{wire_in}
use Rattle.cs_lower.proofs.BackLemmas.{back_join, back_none, least_or_less, reached_is_met}

-- ---- loops

-- what is reached from a bit of a loop is on a loop as long
pub loop_moves : (wires : List (Signal × Wire)) (q k c d : ℕ) → back wires q (Some c) ≡ Some c
    → back wires k (Some c) ≡ Some d → back wires q (Some d) ≡ Some d
loop_moves wires q k c d closed reached =
    ap (back wires q) (sym reached) ∙ sym (back_join wires k q (k + q) (Some c) refl)
    ∙ back_join wires q k (k + q) (Some c) (omega arith) ∙ ap (back wires k) closed ∙ reached

-- what is reached on a loop is reached within one turn
pub within_turn : (wires : List (Signal × Wire)) (q c fuel k : ℕ) → 0 < q → back wires q (Some c) ≡ Some c → k ≤ fuel
    → (j : ℕ) × (j < q) × (back wires j (Some c) ≡ back wires k (Some c))
within_turn wires q c zero k some closed small =
    let same : 0 ≡ k = omega (arith, small) in (0, some, ap (λ i. back wires i (Some c)) same)
within_turn wires q c (suc fuel) k some closed small = elim (cases_lt k q) [
  | inl below ↦ (k, below, refl)
  | inr past ↦
      let rest : ℕ = k - q in
      let sum : k ≡ q + rest = omega (arith, past) in
      let found = within_turn wires q c fuel rest some closed (omega (arith, some, small, past)) in
      (found.0, found.1, found.2 ∙ sym (back_join wires q rest k (Some c) sum ∙ ap (back wires rest) closed))
]

-- a bit that stands for a ring, reached from another
pub record Ring (wires : List (Signal × Wire)) (c : ℕ) : Type 0 where
  pub steps : ℕ
  pub bit : ℕ
  pub reached : back wires steps (Some c) ≡ Some bit
  pub ring : is_ring wires bit ≡ true

-- a bit of a loop on which none is less stands for it
least_is_ring : (wires : List (Signal × Wire)) (q c : ℕ) → q < length wires → back wires (suc q) (Some c) ≡ Some c
    → list_all (λ a. nat_le c a) (met wires (length wires) (bit_behind (wire_in wires c))) ≡ true → Ring wires c
least_is_ring wires q c short closed least = record {
  steps = 0;
  bit = c;
  reached = refl;
  ring = ap₂ (λ s t. s && t) (reached_is_met wires (length wires) q c (bit_behind (wire_in wires c)) short closed) least;
}

-- from a bit of a loop one goes on to a lesser one as long as there is one
pub ring_from : (wires : List (Signal × Wire)) (fuel q c : ℕ) → c ≤ fuel → q < length wires
    → back wires (suc q) (Some c) ≡ Some c → Ring wires c
ring_from wires zero q c most short closed =
    elim (least_or_less wires (length wires) c (bit_behind (wire_in wires c))) [
      | inl least ↦ least_is_ring wires q c short closed least
      | inr h ↦ absurd (omega (arith, most, h.less))
    ]
ring_from wires (suc fuel) q c most short closed =
    elim (least_or_less wires (length wires) c (bit_behind (wire_in wires c))) [
      | inl least ↦ least_is_ring wires q c short closed least
      | inr h ↦
          let moved = loop_moves wires (suc q) (suc h.steps) c h.bit closed h.reached in
          let next = ring_from wires fuel q h.bit (omega (arith, most, h.less)) short moved in
          record {
            steps = suc h.steps + next.steps;
            bit = next.bit;
            reached = back_join wires (suc h.steps) next.steps (suc h.steps + next.steps) (Some c) refl
                ∙ ap (back wires next.steps) h.reached ∙ next.reached;
            ring = next.ring;
          }
    ]

-- ---- the list of rings

swapped : (a b c : Bool) → (a || (b || c)) ≡ (b || (a || c))
swapped true true c = refl
swapped true false c = refl
swapped false true c = refl
swapped false false c = refl

placed : (test : ℕ → Bool) (b : ℕ) (xs : List ℕ) → list_any test (in_place b xs) ≡ (test b || list_any test xs)
placed test b [] = refl
placed test b (a ∷ xs) = by (nat_le b a) (placed test b xs)
  where
    by : (first : Bool) → list_any test (in_place b xs) ≡ (test b || list_any test xs)
        → list_any test (cond first (b ∷ a ∷ xs) (a ∷ in_place b xs)) ≡ (test b || list_any test (a ∷ xs))
    by true rest = refl
    by false rest = ap (λ t. test a || t) rest ∙ swapped (test a) (test b) (list_any test xs)

pub ordered : (test : ℕ → Bool) (xs : List ℕ) → list_any test (in_order xs) ≡ list_any test xs
ordered test [] = refl
ordered test (b ∷ xs) = placed test b (in_order xs) ∙ ap (λ t. test b || t) (ordered test xs)

-- a number that passes is kept
kept : (test : ℕ → Bool) (r : ℕ) (xs : List ℕ) → test r ≡ true → list_any (λ a. a == r) xs ≡ true
    → list_any (λ a. a == r) (filter test xs) ≡ true
kept test r [] passes is = is
kept test r (x ∷ xs) passes is = elim (cases_Bool (x == r)) [
  | inl same ↦
      let here : test x ≡ true = ap test (eqb-true x r same) ∙ passes in
      ap (λ t. list_any (λ a. a == r) (cond t (x ∷ filter test xs) (filter test xs))) here
      ∙ or_left (x == r) (list_any (λ a. a == r) (filter test xs)) same
  | inr other ↦
      let rest : list_any (λ a. a == r) xs ≡ true = sym (ap (λ t. t || list_any (λ a. a == r) xs) other) ∙ is in
      by (test x) (kept test r xs passes rest)
]
  where
    by : (keep : Bool) → list_any (λ a. a == r) (filter test xs) ≡ true
        → list_any (λ a. a == r) (cond keep (x ∷ filter test xs) (filter test xs)) ≡ true
    by true rest = or_right (x == r) (list_any (λ a. a == r) (filter test xs)) rest
    by false rest = rest

passed_over : (a : ℕ) (x : Wire) (wires : List (Signal × Wire)) (b : ℕ) → (a == b) ≡ false
    → wire_in ((Bit a, x) ∷ wires) b ≡ wire_in wires b
passed_over a x wires b other = by (a == b) other
  where
    by : (same : Bool) → same ≡ false
        → unwrap_or (option_map (λ w. w.1) (cond same (Some (Bit a, x)) (find (λ w. is_bit b w.0) wires))) undriven
        ≡ wire_in wires b
    by true other = cc
    by false other = refl

-- a bit that is driven is one of the wires'
pub is_wired : (wires : List (Signal × Wire)) (b : ℕ) → (wire_in wires b ≡ undriven → ⊥)
    → list_any (λ a. a == b) (filter_map (λ w. number_in w.0) wires) ≡ true
is_wired [] b driven = absurd (driven refl)
is_wired ((Zero, x) ∷ wires) b driven = is_wired wires b driven
is_wired ((One, x) ∷ wires) b driven = is_wired wires b driven
is_wired ((Unknown, x) ∷ wires) b driven = is_wired wires b driven
is_wired ((HighZ, x) ∷ wires) b driven = is_wired wires b driven
is_wired ((Bit a, x) ∷ wires) b driven = elim (cases_Bool (a == b)) [
  | inl same ↦ or_left (a == b) (list_any (λ c. c == b) (filter_map (λ w. number_in w.0) wires)) same
  | inr other ↦
      let rest = is_wired wires b (λ none. driven (passed_over a x wires b other ∙ none)) in
      or_right (a == b) (list_any (λ c. c == b) (filter_map (λ w. number_in w.0) wires)) rest
]

pub in_rings : (wires : List (Signal × Wire)) (r : ℕ) → (wire_in wires r ≡ undriven → ⊥) → is_ring wires r ≡ true
    → list_any (λ a. a == r) (rings wires) ≡ true
in_rings wires r driven ring =
    ordered (λ a. a == r) (filter (is_ring wires) (filter_map (λ w. number_in w.0) wires))
    ∙ kept (is_ring wires) r (filter_map (λ w. number_in w.0) wires) ring (is_wired wires r driven)

-- a number that stands in a list has a place there
pub has_place : (r k : ℕ) (xs : List ℕ) → list_any (λ a. a == r) xs ≡ true
    → position_from (λ a. a == r) k xs ≡ None → ⊥
has_place r k [] is none = cc
has_place r k (x ∷ xs) is none = by (x == r) is none (has_place r (k + 1) xs)
  where
    by : (first : Bool) → (first || list_any (λ a. a == r) xs) ≡ true
        → cond first (Some k) (position_from (λ a. a == r) (k + 1) xs) ≡ None
        → (list_any (λ a. a == r) xs ≡ true → position_from (λ a. a == r) (k + 1) xs ≡ None → ⊥) → ⊥
    by true is none rest = none-some k (sym none)
    by false is none rest = rest is none

-- ---- a loop meets a ring

-- what is on a loop is driven
on_loop_driven : (wires : List (Signal × Wire)) (q c : ℕ) → back wires (suc q) (Some c) ≡ Some c
    → wire_in wires c ≡ undriven → ⊥
on_loop_driven wires q c closed none = none-some c
    (sym (back_none wires q) ∙ sym (ap (λ x. back wires q (bit_behind x)) none) ∙ closed)

-- each loop has within a turn a bit that a ring buffer takes the place of
pub record MeetsRing (wires : List (Signal × Wire)) (q c : ℕ) : Type 0 where
  pub steps : ℕ
  pub bit : ℕ
  pub turn : steps < q
  pub reached : back wires steps (Some c) ≡ Some bit
  pub ring : list_any (λ a. a == bit) (rings wires) ≡ true

pub loop_meets_ring : (wires : List (Signal × Wire)) (q c : ℕ) → q < length wires
    → back wires (suc q) (Some c) ≡ Some c → MeetsRing wires (suc q) c
loop_meets_ring wires q c short closed =
    let r = ring_from wires c q c (omega arith) short closed in
    let near = within_turn wires (suc q) c r.steps r.steps (omega arith) closed (omega arith) in
    let moved = loop_moves wires (suc q) r.steps c r.bit closed r.reached in
    record {
      steps = near.0;
      bit = r.bit;
      turn = near.1;
      reached = near.2 ∙ r.reached;
      ring = in_rings wires r.bit (on_loop_driven wires q r.bit moved) r.ring;
    }
