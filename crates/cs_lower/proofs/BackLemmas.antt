-- Going back from bit to bit through registers alone.
use Rattle.std.specs.Prelude.{nat_eq, nat_le, ◌||◌, ◌&&◌, ◌==◌}
use Rattle.std.proofs.Common.{◌≡◌, ◌⊎◌, ℕ, zero, suc, ◌+◌, ◌<◌, Bool, true, false, List, [], ◌∷◌, Option, Some, None, refl, sym, ap, ap₂, ◌∙◌, arith, inl, inr}
use Rattle.std.specs.List.{AllByRecursion, IsDistinct, list_all, list_any}
use Rattle.std.proofs.lemmas.Bool.{cases_Bool, cases_lt, eq-eqb, eqb-true, le-leb, or_left, or_right}
use Rattle.std.proofs.lemmas.Option.{none-some, same_Some}
use Rattle.cs_base.specs.declared.signal.Signal.{Signal}
use Rattle.cs_lower.specs.Rings.{bit_behind, met}
use Rattle.cs_lower.specs.declared.taps.Wire.{Wire}
use Rattle.cs_lower.specs.Walks.{back}
use Rattle.cs_lower.specs.Wires.{wire_in}

pub back_none : (wires : List (Signal × Wire)) (k : ℕ) → back wires k None ≡ None
back_none wires zero = refl
back_none wires (suc k) = refl

-- back by i, and then by j
pub back_join : (wires : List (Signal × Wire)) (i j k : ℕ) (b : Option ℕ) → k ≡ i + j
    → back wires k b ≡ back wires j (back wires i b)
back_join wires zero j k b sum = let same : k ≡ j = omega (arith, sum) in ap (λ n. back wires n b) same
back_join wires (suc i) j zero b sum = absurd (omega (arith, sum))
back_join wires (suc i) j (suc k) None sum = sym (back_none wires j)
back_join wires (suc i) j (suc k) (Some b) sum =
    back_join wires i j k (bit_behind (wire_in wires b)) (omega (arith, sum))

-- ---- what is met

-- what is reached in time is met
pub reached_is_met : (wires : List (Signal × Wire)) (n i a : ℕ) (b : Option ℕ) → i < n → back wires i b ≡ Some a
    → list_any (λ c. c == a) (met wires n b) ≡ true
reached_is_met wires zero i a b below is = absurd (omega (arith, below))
reached_is_met wires (suc n) i a None below is = absurd (none-some a (sym (back_none wires i) ∙ is))
reached_is_met wires (suc n) zero a (Some b) below is =
    or_left (b == a) (list_any (λ c. c == a) (met wires n (bit_behind (wire_in wires b))))
    (eq-eqb b a (same_Some b a is))
reached_is_met wires (suc n) (suc i) a (Some b) below is =
    or_right (b == a) (list_any (λ c. c == a) (met wires n (bit_behind (wire_in wires b))))
    (reached_is_met wires n i a (bit_behind (wire_in wires b)) (omega (arith, below)) is)

-- what is met is reached in time
pub met_is_reached : (wires : List (Signal × Wire)) (n a : ℕ) (b : Option ℕ)
    → list_any (nat_eq a) (met wires n b) ≡ true → (i : ℕ) × (i < n) × (back wires i b ≡ Some a)
met_is_reached wires zero a b is = cc
met_is_reached wires (suc n) a None is = cc
met_is_reached wires (suc n) a (Some b) is = elim (cases_Bool (nat_eq a b)) [
  | inl same ↦ (0, omega arith, ap (λ c. Some c) (sym (eqb-true a b same)))
  | inr other ↦
      let next : Option ℕ = bit_behind (wire_in wires b) in
      let later : list_any (nat_eq a) (met wires n next) ≡ true =
      sym (ap (λ t. t || list_any (nat_eq a) (met wires n next)) other) ∙ is in
      let found = met_is_reached wires n a next later in
      (suc found.0, omega (arith, found.1), found.2)
]

-- a bit that is reached and less than another
pub record IsLess (wires : List (Signal × Wire)) (b : Option ℕ) (c : ℕ) : Type 0 where
  pub steps : ℕ
  pub bit : ℕ
  pub reached : back wires steps b ≡ Some bit
  pub less : bit < c

pub least_or_less : (wires : List (Signal × Wire)) (n c : ℕ) (b : Option ℕ)
    → (list_all (λ a. nat_le c a) (met wires n b) ≡ true) ⊎ IsLess wires b c
least_or_less wires zero c b = inl refl
least_or_less wires (suc n) c None = inl refl
least_or_less wires (suc n) c (Some b) = elim (cases_lt b c) [
  | inl less ↦ inr (record {
    steps = 0;
    bit = b;
    reached = refl;
    less = less;
  })
  | inr most ↦ elim (least_or_less wires n c (bit_behind (wire_in wires b))) [
    | inl least ↦ inl (ap₂ (λ s t. s && t) (le-leb c b most) least)
    | inr h ↦ inr (record {
      steps = suc h.steps;
      bit = h.bit;
      reached = h.reached;
      less = h.less;
    })
  ]
]

-- ---- a bit that comes again

pub record ComesAgain (wires : List (Signal × Wire)) (n : ℕ) (b : Option ℕ) : Type 0 where
  pub bit : ℕ
  pub first : ℕ
  pub second : ℕ
  pub order : first < second
  pub within : second < n
  pub here : back wires first b ≡ Some bit
  pub again : back wires second b ≡ Some bit

none_passes : (test : ℕ → Bool) (xs : List ℕ) → list_any test xs ≡ false → AllByRecursion (λ x. test x ≡ false) xs
none_passes test [] none = tt
none_passes test (x ∷ xs) none = by (test x) refl none (none_passes test xs)
  where
    by : (first : Bool) → test x ≡ first → (first || list_any test xs) ≡ false
        → (list_any test xs ≡ false → AllByRecursion (λ y. test y ≡ false) xs)
        → AllByRecursion (λ y. test y ≡ false) (x ∷ xs)
    by true is none rest = cc
    by false is none rest = (is, rest none)

pub distinct_or_again : (wires : List (Signal × Wire)) (n : ℕ) (b : Option ℕ)
    → IsDistinct nat_eq (met wires n b) ⊎ ComesAgain wires n b
unfolding IsDistinct
distinct_or_again wires zero b = inl tt
distinct_or_again wires (suc n) None = inl tt
distinct_or_again wires (suc n) (Some b) =
    elim (cases_Bool (list_any (nat_eq b) (met wires n (bit_behind (wire_in wires b))))) [
      | inl comes ↦
          let found = met_is_reached wires n b (bit_behind (wire_in wires b)) comes in
          inr (record {
            bit = b;
            first = 0;
            second = suc found.0;
            order = omega arith;
            within = omega (arith, found.1);
            here = refl;
            again = found.2;
          })
      | inr apart ↦ elim (distinct_or_again wires n (bit_behind (wire_in wires b))) [
        | inl rest ↦ inl (none_passes (nat_eq b) (met wires n (bit_behind (wire_in wires b))) apart, rest)
        | inr h ↦ inr (record {
          bit = h.bit;
          first = suc h.first;
          second = suc h.second;
          order = omega (arith, h.order);
          within = omega (arith, h.within);
          here = h.here;
          again = h.again;
        })
      ]
    ]
