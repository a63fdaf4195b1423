-- Pins that stand in the order of a gate's: each is the first of its name.
use Rattle.std.proofs.Common.{◌≡◌, ◌⊎◌, inl, inr, ℕ, zero, suc, ◌+◌, ◌-◌, ◌<◌, ◌≤◌, Bool, true, false, ◌&&◌, if◌then◌else◌, List, [], ◌∷◌, Option, Some, None, find, nat_eq, nat_le, nat_lt, refl, sym, ap, subst, ◌∙◌, arith}
use Rattle.std.specs.Prelude.{bytes_eq, slice_get}
use Rattle.std.proofs.lemmas.Bool.{cases_lt, leb-true, ltb-false, ltb-true, ne_eqb}
use Rattle.std.proofs.lemmas.Slice.Eq.{bytes_eq-Decides}
use Rattle.cs_cells.specs.declared.gate.Kind.{Kind}
use Rattle.cs_cells.specs.declared.gate.Kind.TheVariants.{Buf, Not, And, Nand, Or, Nor, Xor, Xnor, AndNot, OrNot, Mux, Nmux, Aoi3, Oai3, Aoi4, Oai4, Mux4, Mux8, Mux16}
use Rattle.cs_cells.specs.Gates.{pin_count, pin_letter, pin_name, row_of}
use Rattle.cs_modules.proofs.GatePins.{both}
use Rattle.cs_net.specs.declared.netlist.PinBits.{PinBits}
use Rattle.cs_lower.specs.Cells.{named}

-- ---- letters

few_data : (kind : Kind) → nat_le (row_of kind).data_pins 16 ≡ true
few_data Buf = refl
few_data Not = refl
few_data And = refl
few_data Nand = refl
few_data Or = refl
few_data Nor = refl
few_data Xor = refl
few_data Xnor = refl
few_data AndNot = refl
few_data OrNot = refl
few_data Mux = refl
few_data Nmux = refl
few_data Aoi3 = refl
few_data Oai3 = refl
few_data Aoi4 = refl
few_data Oai4 = refl
few_data Mux4 = refl
few_data Mux8 = refl
few_data Mux16 = refl

-- where there are at most 16 data pins, two places have two letters
other_letter : (d j i : ℕ) → d ≤ 16 → j < i
    → (if nat_lt j d then 65 + j else 83 + (j - d)) ≡ (if nat_lt i d then 65 + i else 83 + (i - d)) → ⊥
other_letter d j i few before same = by (nat_lt j d) refl (nat_lt i d) refl same
  where
    by : (s : Bool) → nat_lt j d ≡ s → (t : Bool) → nat_lt i d ≡ t
        → (if s then 65 + j else 83 + (j - d)) ≡ (if t then 65 + i else 83 + (i - d)) → ⊥
    by true first true second is = omega (arith, is, before)
    by true first false second is = omega (arith, is, few, ltb-true j d first)
    by false first true second is = omega (arith, before, ltb-false j d first, ltb-true i d second)
    by false first false second is = omega (arith, is, before, ltb-false j d first, ltb-false i d second)

one_letter : (a b : ℕ) → (a ≡ b → ⊥) → bytes_eq (a ∷ []) (b ∷ []) ≡ false
one_letter a b other = ap (λ t. t && bytes_eq [] []) (ne_eqb a b other)

-- the pin before has another name
pub other_name : (kind : Kind) (j i : ℕ) → j < i → bytes_eq (pin_name kind j) (pin_name kind i) ≡ false
other_name kind j i before =
    one_letter (pin_letter (row_of kind) j) (pin_letter (row_of kind) i)
    (other_letter (row_of kind).data_pins j i (leb-true _ 16 (few_data kind)) before)

-- ---- pins

-- the first pins have these names
abbrev pub AreNamed : List PinBits → (ℕ → List ℕ) → ℕ → Type 0
AreNamed pins name n = (j : ℕ) → j < n → named (slice_get pins j) (name j) ≡ true

-- texts that are the same differ from the same ones
still_other : (x a b : List ℕ) → bytes_eq x a ≡ true → bytes_eq a b ≡ false → bytes_eq x b ≡ false
still_other x a b same other = ap (λ n. bytes_eq n b) ((bytes_eq-Decides x a).0 same) ∙ other

-- the first of a name is the pin at its place
pub first_named : (pins : List PinBits) (name : ℕ → List ℕ) (i : ℕ) → AreNamed pins name (i + 1)
    → ((j : ℕ) → j < i → bytes_eq (name j) (name i) ≡ false)
    → find (λ (p : PinBits). bytes_eq p.name (name i)) pins ≡ slice_get pins i
first_named [] name i are others = absurd (let no = are 0 (omega arith) in cc)
first_named (p ∷ pins) name zero are others =
    ap (λ t. if t then Some p else find (λ (q : PinBits). bytes_eq q.name (name 0)) pins) (are 0 (omega arith))
first_named (p ∷ pins) name (suc i) are others =
    ap (λ t. if t then Some p else find (λ (q : PinBits). bytes_eq q.name (name (suc i))) pins)
    (still_other p.name (name 0) (name (suc i)) (are 0 (omega arith)) (others 0 (omega arith)))
    ∙ first_named pins (λ j. name (suc j)) i (λ j below. are (suc j) (omega (arith, below)))
    (λ j below. others (suc j) (omega (arith, below)))

-- one more pin in order
pub one_more_named : (pins : List PinBits) (name : ℕ → List ℕ) (i : ℕ) → AreNamed pins name i
    → named (slice_get pins i) (name i) ≡ true → AreNamed pins name (i + 1)
one_more_named pins name i are here j below = elim (cases_lt j i) [
  | inl before ↦ are j before
  | inr past ↦
      let same : j ≡ i = omega (arith, below, past) in
      subst (λ k. named (slice_get pins k) (name k) ≡ true) (sym same) here
]

-- where the pins are in order up to place i, they are up to the next, and its pin is the first of its name
module _ (pins : List PinBits) (kind : Kind) (i : ℕ) (old new : Bool) (name : List ℕ)
    (named_so : name ≡ pin_name kind i) (is : new ≡ (old && named (slice_get pins i) name))
    (so_far : old ≡ true → AreNamed pins (pin_name kind) i)
  where
    pub in_order_next : new ≡ true → AreNamed pins (pin_name kind) (i + 1)
    in_order_next here =
        let parts = both old (named (slice_get pins i) name) (sym is ∙ here) in
        one_more_named pins (pin_name kind) i (so_far parts.0)
        (sym (ap (λ n. named (slice_get pins i) n) named_so) ∙ parts.1)

    pub first_in_order : new ≡ true → find (λ (p : PinBits). bytes_eq p.name name) pins ≡ slice_get pins i
    first_in_order here =
        ap (λ n. find (λ (p : PinBits). bytes_eq p.name n) pins) named_so
        ∙ first_named pins (pin_name kind) i (in_order_next here) (λ j before. other_name kind j i before)
