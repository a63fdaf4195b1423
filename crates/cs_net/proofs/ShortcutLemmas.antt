-- The last place of a number in a walk, and a shortcut that goes on from there.
use Rattle.std.proofs.Common.{◌≡◌, ℕ, zero, suc, ◌+◌, ◌<◌, ◌≤◌, ◌⊎◌, List, [], ◌∷◌, ◌++◌, length, cond, Option, Some, None, refl, sym, ap, ◌∙◌, arith, inl, inr}
use Rattle.std.specs.Prelude.{◌==◌, if◌then◌else◌, slice_get}
use Rattle.std.specs.Option.{option_or}
use Rattle.std.proofs.lemmas.Bool.{cases_Bool, eq-eqb, eqb-true}
use Rattle.std.proofs.lemmas.List.{length-append}
use Rattle.std.proofs.lemmas.Option.{slice_get_past, slice_get_within}
use Rattle.cs_base.proofs.ListLemmas.{at_push}
use Rattle.cs_net.specs.Loops.{AreNext, IsAtEnd, IsShortcut, IsShortcutTo, last_place, last_place_from}

-- ---- the last place

some_or_none : {A : Type 0} (o : Option A) → ((a : A) × (o ≡ Some a)) ⊎ (o ≡ None)
some_or_none None = inr refl
some_or_none (Some a) = inl (a, refl)

-- the number stands at its last place
stands_from : (x i : ℕ) (ys : List ℕ) (j : ℕ) → last_place_from x i ys ≡ Some j
    → (k : ℕ) × (j ≡ i + k) × (slice_get ys k ≡ Some x)
stands_from x i [] j is = cc
stands_from x i (y ∷ ys) j is = elim (some_or_none (last_place_from x (i + 1) ys)) [
  | inl (j', later) ↦
      let settled : Some j' ≡ Some j =
      ap (λ o. option_or o (if y == x then Some i else None)) (sym later) ∙ is in
      let same : j' ≡ j = cc in
      let rest = stands_from x (i + 1) ys j' later in
      (suc rest.0, omega (arith, rest.1), rest.2)
  | inr none ↦
      let here : (if y == x then Some i else None) ≡ Some j =
      ap (λ o. option_or o (if y == x then Some i else None)) (sym none) ∙ is in
      elim (cases_Bool (y == x)) [
        | inl equal ↦
            let settled : Some i ≡ Some j = ap (λ t. cond t (Some i) None) (sym equal) ∙ here in
            let same : i ≡ j = cc in
            (zero, omega arith, ap (λ z. Some z) (eqb-true y x equal))
        | inr unequal ↦
            let settled : None ≡ Some j = ap (λ t. cond t (Some i) None) (sym unequal) ∙ here in
            cc
      ]
]

-- a number that stands somewhere has a last place, and does not stand behind it
last_from : (x i : ℕ) (ys : List ℕ) (k : ℕ) → slice_get ys k ≡ Some x
    → (j : ℕ) × (last_place_from x i ys ≡ Some j) × (i + k ≤ j)
last_from x i [] k stands = cc
last_from x i (y ∷ ys) zero stands = elim (some_or_none (last_place_from x (i + 1) ys)) [
  | inl (j', later) ↦
      let rest = stands_from x (i + 1) ys j' later in
      (j', ap (λ o. option_or o (if y == x then Some i else None)) later, omega (arith, rest.1))
  | inr none ↦
      let same : y ≡ x = cc in (
        i,
        ap (λ o. option_or o (if y == x then Some i else None)) none
            ∙ ap (λ t. cond t (Some i) None) (eq-eqb y x same),
        omega arith,
      )
]
last_from x i (y ∷ ys) (suc k) stands =
    let rest = last_from x (i + 1) ys k stands in
    (rest.0, ap (λ o. option_or o (if y == x then Some i else None)) rest.1, omega (arith, rest.2))

pub last_stands : (x : ℕ) (walk : List ℕ) (j : ℕ) → last_place x walk ≡ Some j → slice_get walk j ≡ Some x
last_stands x walk j is =
    let found = stands_from x 0 walk j is in
    let same : j ≡ found.0 = omega (arith, found.1) in
    ap (slice_get walk) same ∙ found.2

pub last_is_last : (x : ℕ) (walk : List ℕ) (j k : ℕ) → last_place x walk ≡ Some j → slice_get walk k ≡ Some x
    → k ≤ j
last_is_last x walk j k is stands =
    let found = last_from x 0 walk k stands in
    let same : Some found.0 ≡ Some j = sym found.1 ∙ is in
    let equal : found.0 ≡ j = cc in
    omega (arith, found.2)

pub has_last : (x : ℕ) (walk : List ℕ) (k : ℕ) → slice_get walk k ≡ Some x
    → (j : ℕ) × (last_place x walk ≡ Some j)
has_last x walk k stands = let found = last_from x 0 walk k stands in (found.0, found.1)

-- ---- the shortcut

length_pushed : (xs : List ℕ) (y : ℕ) → length (xs ++ y ∷ []) ≡ suc (length xs)
length_pushed xs y = length-append xs (y ∷ []) ∙ omega arith

-- no step yet
pub shortcut_begins : (walk : List ℕ) → IsShortcutTo walk [] 0
shortcut_begins walk = record {
  start = inl (refl, refl);
  steps = λ x y h. cc_step h;
  end = λ x h. cc_end h;
  once = λ i j v a b. cc;
  passed = λ i j x a b. cc;
}
  where
    cc_step : {x y : ℕ} → AreNext [] x y → AreNext walk x y
    cc_step (i, a, b) = cc

    cc_end : {x : ℕ} → IsAtEnd [] x → (i : ℕ) × (slice_get walk i ≡ Some x) × (0 ≡ suc i)
    cc_end (i, a, b) = cc

start_kept : (walk short : List ℕ) (next x : ℕ) → slice_get walk next ≡ Some x
    → ((short ≡ []) × (next ≡ 0)) ⊎ (slice_get short 0 ≡ slice_get walk 0)
    → slice_get (short ++ x ∷ []) 0 ≡ slice_get walk 0
start_kept walk [] next x stands (inl (none, first)) = sym stands ∙ ap (slice_get walk) first
start_kept walk [] next x stands (inr same) = absurd (empty walk stands same)
  where
    empty : (walk : List ℕ) → slice_get walk next ≡ Some x → None ≡ slice_get walk 0 → ⊥
    empty [] stands same = cc
    empty (y ∷ walk) stands same = cc
start_kept walk (y ∷ short) next x stands (inl (none, first)) = cc
start_kept walk (y ∷ short) next x stands (inr same) = same

-- one step more: from the last place of the number that stands where the shortcut goes on
pub shortcut_steps : (walk short : List ℕ) (next x j : ℕ) → IsShortcutTo walk short next
    → slice_get walk next ≡ Some x
    → last_place x walk ≡ Some j → IsShortcutTo walk (short ++ x ∷ []) (j + 1)
shortcut_steps walk short next x j h stands is = record {
  start = inr (start_kept walk short next x stands h.start);
  steps = λ a b next_there. steps a b next_there;
  end = λ a at_end. end a at_end;
  once = λ i k v first second. once i k v first second;
  passed = λ i k v first second. passed i k v first second;
}
  where
    ahead : next ≤ j
    ahead = last_is_last x walk j next is stands

    steps : (a b : ℕ) → AreNext (short ++ x ∷ []) a b → AreNext walk a b
    steps a b (i, first, second) = elim (at_push short x (suc i) b second) [
      | inl old ↦ elim (at_push short x i a first) [
        | inl old' ↦ h.steps a b (i, old', old)
        | inr (place, new) ↦ absurd (omega (arith, slice_get_within short (suc i) b old))
      ]
      | inr (place, new) ↦ elim (at_push short x i a first) [
        | inl old' ↦
            let from = h.end a (i, old', sym place) in
            let goes_on : slice_get walk (suc from.0) ≡ Some x = ap (slice_get walk) (sym from.2) ∙ stands in
            (from.0, from.1, goes_on ∙ ap (λ z. Some z) (sym new))
        | inr (place', new') ↦ absurd (omega arith)
      ]
    ]

    end : (a : ℕ) → IsAtEnd (short ++ x ∷ []) a → (i : ℕ) × (slice_get walk i ≡ Some a) × (j + 1 ≡ suc i)
    end a (i, first, long) = elim (at_push short x i a first) [
      | inl old ↦ absurd (omega (arith, slice_get_within short i a old, length_pushed short x))
      | inr (place, new) ↦ (j, last_stands x walk j is ∙ ap (λ z. Some z) (sym new), omega arith)
    ]

    passed : (i k v : ℕ) → slice_get (short ++ x ∷ []) i ≡ Some v → slice_get walk k ≡ Some v → k < j + 1
    passed i k v first second = elim (at_push short x i v first) [
      | inl old ↦ omega (arith, h.passed i k v old second, ahead)
      | inr (place, new) ↦
          let there : slice_get walk k ≡ Some x = second ∙ ap (λ z. Some z) new in
          omega (arith, last_is_last x walk j k is there)
    ]

    apart : (i v : ℕ) → slice_get short i ≡ Some v → v ≡ x → ⊥
    apart i v old new = omega (arith, h.passed i next v old (stands ∙ ap (λ z. Some z) (sym new)))

    once : (i k v : ℕ) → slice_get (short ++ x ∷ []) i ≡ Some v → slice_get (short ++ x ∷ []) k ≡ Some v
        → i ≡ k
    once i k v first second = elim (at_push short x i v first) [
      | inl old ↦ elim (at_push short x k v second) [
        | inl old' ↦ h.once i k v old old'
        | inr (place, new) ↦ absurd (apart i v old new)
      ]
      | inr (place, new) ↦ elim (at_push short x k v second) [
        | inl old' ↦ absurd (apart k v old' new)
        | inr (place', new') ↦ omega arith
      ]
    ]

-- the walk is at its end
pub shortcut_ends : (walk short : List ℕ) (next : ℕ) → IsShortcutTo walk short next → length walk ≤ next
    → IsShortcut walk short
shortcut_ends walk short next h past = record {
  start = start h.start;
  next = h.steps;
  end = λ x at_end. end x at_end;
  once = h.once;
}
  where
    start : ((short ≡ []) × (next ≡ 0)) ⊎ (slice_get short 0 ≡ slice_get walk 0)
        → slice_get short 0 ≡ slice_get walk 0
    start (inl (none, first)) =
        ap (λ (xs : List ℕ). slice_get xs 0) none ∙ sym (slice_get_past walk 0 (omega arith))
    start (inr same) = same

    end : (x : ℕ) → IsAtEnd short x → IsAtEnd walk x
    end x at_end =
        let there = h.end x at_end in
        (there.0, there.1, omega (arith, there.2, slice_get_within walk there.0 x there.1))
