-- The first pin that isn't fed.
use Rattle.std.proofs.Common.{◌≡◌, ℕ, zero, suc, ◌+◌, ◌<◌, ◌≤◌, List, [], ◌∷◌, length, Some, None, is_none, refl, sym, ap, subst, ◌∙◌, inl, inr, arith}
use Rattle.std.specs.Prelude.{Option, slice_get}
use Rattle.std.specs.List.{position_from}
use Rattle.std.proofs.lemmas.Bool.{cases_lt}
use Rattle.std.proofs.lemmas.Option.{none-some, same_Some, slice_get_within}
use Rattle.cs_graph.specs.declared.source.Source.{Source}
use Rattle.cs_graph.specs.declared.source.OpenVertex.{OpenVertex}
use Rattle.cs_graph.specs.Draft.{IsOpen, AreFed, IsFirstOpen}

-- no pin of the first n vertices is open
abbrev pub AreFedBelow : List OpenVertex → ℕ → Type 0
AreFedBelow xs n = (v i : ℕ) → v < n → IsOpen xs v i → ⊥

pin_first : (ss : List (Option Source)) (n i : ℕ) → position_from is_none n ss ≡ Some i
    → (k : ℕ) × (i ≡ n + k) × (slice_get ss k ≡ Some None) × ((j : ℕ) → slice_get ss j ≡ Some None → k ≤ j)
pin_first [] n i h = absurd (none-some i h)
pin_first (None ∷ ss) n i h =
    let same = same_Some n i h in (0, omega (arith, same), refl, λ j at. omega arith)
pin_first (Some s ∷ ss) n i h =
    let rest = pin_first ss (n + 1) i h in
    (suc rest.0, let is = rest.1 in omega (arith, is), rest.2, λ j at. later s ss rest.0 rest.3 j at)
  where
    later : (s : Source) (ss : List (Option Source)) (k : ℕ) → ((j : ℕ) → slice_get ss j ≡ Some None → k ≤ j)
        → (j : ℕ) → slice_get (Some s ∷ ss) j ≡ Some None → suc k ≤ j
    later s ss k h zero at = absurd (none-some s (sym (same_Some (Some s) None at)))
    later s ss k h (suc j) at = let low = h j at in omega (arith, low)

pin_none : (ss : List (Option Source)) (n : ℕ) → position_from is_none n ss ≡ None → (j : ℕ)
    → slice_get ss j ≡ Some None → ⊥
pin_none [] n h j at = none-some None at
pin_none (None ∷ ss) n h j at = none-some n (sym h)
pin_none (Some s ∷ ss) n h zero at = none-some s (sym (same_Some (Some s) None at))
pin_none (Some s ∷ ss) n h (suc j) at = pin_none ss (n + 1) h j at

-- an open pin of the next vertex is the first of all
pub open_first : (xs : List OpenVertex) (v i : ℕ) (x : OpenVertex) → AreFedBelow xs v
    → slice_get xs v ≡ Some x
    → position_from is_none 0 x.pins ≡ Some i → IsFirstOpen xs v i
open_first xs v i x fed found at =
    let first = pin_first x.pins 0 i at in
    let here : first.0 ≡ i = let is = first.1 in omega (arith, is) in
    record {
      open_pin = (x, found, subst (λ k. slice_get x.pins k ≡ Some None) here first.2);
      first = λ u j pin. elim (cases_lt u v) [
        | inl less ↦ absurd (fed u j less pin)
        | inr more ↦ elim (cases_lt v u) [
          | inl above ↦ inl above
          | inr below ↦
              let same : u ≡ v = omega (arith, more, below) in
              let one = same_Some pin.0 x (sym pin.1 ∙ ap (slice_get xs) same ∙ found) in
              let low = first.3 j (subst (λ (y : OpenVertex). slice_get y.pins j ≡ Some None) one pin.2) in
              inr (sym same, omega (arith, here, low))
        ]
      ];
    }

-- the next vertex is fed too
pub fed_next : (xs : List OpenVertex) (v : ℕ) (x : OpenVertex) → AreFedBelow xs v → slice_get xs v ≡ Some x
    → position_from is_none 0 x.pins ≡ None → AreFedBelow xs (v + 1)
fed_next xs v x fed found none u i low pin = elim (cases_lt u v) [
  | inl less ↦ fed u i less pin
  | inr more ↦
      let same : u ≡ v = omega (arith, more, low) in
      let one = same_Some pin.0 x (sym pin.1 ∙ ap (slice_get xs) same ∙ found) in
      pin_none x.pins 0 none i (subst (λ (y : OpenVertex). slice_get y.pins i ≡ Some None) one pin.2)
]

pub fed_all : (xs : List OpenVertex) (n : ℕ) → length xs ≤ n → AreFedBelow xs n → AreFed xs
fed_all xs n all fed v i pin = let within = slice_get_within xs v pin.0 pin.1 in fed v i (omega (
  arith,
  within,
  all,
)) pin

-- the first open pin is a pin
pub pin_within : (ss : List (Option Source)) (i : ℕ) → position_from is_none 0 ss ≡ Some i → i < length ss
pin_within ss i h =
    let first = pin_first ss 0 i h in
    let within = slice_get_within ss first.0 None first.2 in
    let is = first.1 in
    omega (arith, within, is)
