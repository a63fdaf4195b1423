-- When the clauses of a multiplexer are true, and what it selects.
use Rattle.std.proofs.Common.{◌≡◌, ℕ, zero, suc, ◌+◌, ◌^◌, ◌<◌, ◌==◌, Bool, true, false, not, ◌||◌, List, [], ◌∷◌, ◌++◌, map, drop, get_or, length, refl, sym, arith, subst, ap, ◌∙◌}
use Rattle.std.specs.List.{list_any}
use Rattle.std.proofs.Math.Seq.{drop-cons}
use Rattle.std.proofs.lemmas.List.{length-map, drop_all}
use Rattle.cs_base.specs.declared.formula.Lit.{Lit}
use Rattle.cs_base.specs.Formulas.{Assignment, lit_value, clause_value, MakesTrue}
use Rattle.cs_base.specs.Derivations.{negated}
use Rattle.cs_cells.specs.declared.gate.Kind.{Kind}
use Rattle.cs_cells.specs.declared.gate.Kind.TheVariants.{Mux, Nmux, Mux4, Mux8, Mux16}
use Rattle.cs_cells.specs.Gates.{row_of, pin_count, mux, mux2, mux4, mux8, mux16, equation, gate_value}
use Rattle.cs_cells.specs.Clauses.{bits_of, have_not, datum_clauses, select_clauses, selected_out}
use Rattle.cs_cells.proofs.NumberLemmas.{digit, number_of, bits_number, number_bits, number_below, length_bits}
use Rattle.cs_cells.proofs.ClauseLemmas.{lit_negated, where_true, true_where, each_true, true_each, and_true, true_and}

-- ---- the clauses

both_ways : (x y : Bool) → (not x || (y || false)) ≡ true → (x || (not y || false)) ≡ true → y ≡ x
both_ways true true one other = refl
both_ways true false one other = cc
both_ways false true one other = cc
both_ways false false one other = refl

one_way : (x y : Bool) → y ≡ x → (not x || (y || false)) ≡ true
one_way true true same = refl
one_way true false same = cc
one_way false y same = refl

other_way : (x y : Bool) → y ≡ x → (x || (not y || false)) ≡ true
other_way true y same = refl
other_way false true same = cc
other_way false false same = refl

module _ (a : Assignment) (out : Lit) (selects data_pins : List Lit) (count : length data_pins ≡ 2 ^ length selects) where
  at_values : bits_of (length selects) (number_of (map (lit_value a) selects)) ≡ map (lit_value a) selects
  at_values =
      ap (λ n. bits_of n (number_of (map (lit_value a) selects))) (sym (length-map selects (lit_value a)))
      ∙ bits_number (map (lit_value a) selects)

  below : number_of (map (lit_value a) selects) < length data_pins
  below = subst (λ n. number_of (map (lit_value a) selects) < n)
      (ap (λ n. 2 ^ n) (length-map selects (lit_value a)) ∙ sym count) (number_below (map (lit_value a) selects))

  pub select_to : MakesTrue a (select_clauses out selects data_pins)
      → lit_value a out ≡ lit_value a (get_or data_pins (number_of (map (lit_value a) selects)) out)
  select_to all =
      let i = number_of (map (lit_value a) selects) in
      let datum = get_or data_pins i out in
      let both = and_true _ _ (each_true (clause_value a) (λ number. datum_clauses out selects (get_or data_pins number out) number)
      (length data_pins) all i below) in
      let second = and_true _ _ both.1 in
      let one : list_any (lit_value a) (negated datum ∷ out ∷ []) ≡ true = where_true a selects (negated datum ∷ out ∷ [])
      (subst (λ bits. list_any (lit_value a) (have_not selects bits ++ negated datum ∷ out ∷ []) ≡ true) at_values both.0) in
      let other : list_any (lit_value a) (datum ∷ negated out ∷ []) ≡ true = where_true a selects (datum ∷ negated out ∷ [])
      (subst (λ bits. list_any (lit_value a) (have_not selects bits ++ datum ∷ negated out ∷ []) ≡ true) at_values second.0) in
      both_ways (lit_value a datum) (lit_value a out)
      (ap (λ b. b || (lit_value a out || false)) (sym (lit_negated a datum)) ∙ one)
      (ap (λ b. lit_value a datum || (b || false)) (sym (lit_negated a out)) ∙ other)

  pub to_select : lit_value a out ≡ lit_value a (get_or data_pins (number_of (map (lit_value a) selects)) out)
      → MakesTrue a (select_clauses out selects data_pins)
  to_select is = true_each (clause_value a) (λ number. datum_clauses out selects (get_or data_pins number out) number)
      (length data_pins) (λ i within.
      let datum = get_or data_pins i out in
      let here : bits_of (length selects) i ≡ map (lit_value a) selects → lit_value a out ≡ lit_value a datum = λ same.
      let place : number_of (map (lit_value a) selects) ≡ i =
      ap number_of (sym same) ∙ number_bits (length selects) i (subst (λ n. i < n) count within) in
      is ∙ ap (λ n. lit_value a (get_or data_pins n out)) place in
      true_and _ _
      (true_where a selects (bits_of (length selects) i) (negated datum ∷ out ∷ []) (length_bits (length selects) i)
      (λ same. ap (λ b. b || (lit_value a out || false)) (lit_negated a datum)
      ∙ one_way (lit_value a datum) (lit_value a out) (here same)))
      (true_and _ true
      (true_where a selects (bits_of (length selects) i) (datum ∷ negated out ∷ []) (length_bits (length selects) i)
      (λ same. ap (λ b. lit_value a datum || (b || false)) (lit_negated a out)
      ∙ other_way (lit_value a datum) (lit_value a out) (here same)))
      refl))

-- ---- what is selected

step : (b : Bool) (p : ℕ → Bool) (low high at : ℕ) → (digit b ≡ 0 → low ≡ at) → (digit b ≡ 1 → high ≡ at)
    → mux b (p low) (p high) ≡ p at
step true p low high at is_low is_high = ap p (is_high refl)
step false p low high at is_low is_high = ap p (is_low refl)

mux2_at : (p : ℕ → Bool) (i s : ℕ) → mux2 p i s ≡ p (i + number_of (p s ∷ []))
mux2_at p i s = step (p s) p i (i + 1) (i + number_of (p s ∷ [])) (λ zero'. omega arith) (λ one. omega arith)

mux4_at : (p : ℕ → Bool) (i s : ℕ) → mux4 p i s ≡ p (i + number_of (p s ∷ p (s + 1) ∷ []))
mux4_at p i s =
    ap (λ x. mux (p (s + 1)) x (mux2 p (i + 2) s)) (mux2_at p i s)
    ∙ ap (λ x. mux (p (s + 1)) (p (i + number_of (p s ∷ []))) x) (mux2_at p (i + 2) s)
    ∙ step (p (s + 1)) p (i + number_of (p s ∷ [])) (i + 2 + number_of (p s ∷ [])) (i + number_of (p s ∷ p (s + 1) ∷ []))
    (λ zero'. omega arith) (λ one. omega arith)

mux8_at : (p : ℕ → Bool) (i s : ℕ) → mux8 p i s ≡ p (i + number_of (p s ∷ p (s + 1) ∷ p (s + 2) ∷ []))
mux8_at p i s =
    ap (λ x. mux (p (s + 2)) x (mux4 p (i + 4) s)) (mux4_at p i s)
    ∙ ap (λ x. mux (p (s + 2)) (p (i + number_of (p s ∷ p (s + 1) ∷ []))) x) (mux4_at p (i + 4) s)
    ∙ step (p (s + 2)) p (i + number_of (p s ∷ p (s + 1) ∷ [])) (i + 4 + number_of (p s ∷ p (s + 1) ∷ []))
    (i + number_of (p s ∷ p (s + 1) ∷ p (s + 2) ∷ [])) (λ zero'. omega arith) (λ one. omega arith)

mux16_at : (p : ℕ → Bool) (i s : ℕ) → mux16 p i s ≡ p (i + number_of (p s ∷ p (s + 1) ∷ p (s + 2) ∷ p (s + 3) ∷ []))
mux16_at p i s =
    ap (λ x. mux (p (s + 3)) x (mux8 p (i + 8) s)) (mux8_at p i s)
    ∙ ap (λ x. mux (p (s + 3)) (p (i + number_of (p s ∷ p (s + 1) ∷ p (s + 2) ∷ []))) x) (mux8_at p (i + 8) s)
    ∙ step (p (s + 3)) p (i + number_of (p s ∷ p (s + 1) ∷ p (s + 2) ∷ [])) (i + 8 + number_of (p s ∷ p (s + 1) ∷ p (s + 2) ∷ []))
    (i + number_of (p s ∷ p (s + 1) ∷ p (s + 2) ∷ p (s + 3) ∷ [])) (λ zero'. omega arith) (λ one. omega arith)

-- so many values from a place on
abbrev picks : List Bool → ℕ → ℕ → List Bool
picks values i zero = []
picks values i (suc n) = get_or values i false ∷ picks values (suc i) n

rest_picks : (values : List Bool) (i n : ℕ) → length values ≡ i + n → drop i values ≡ picks values i n
rest_picks values i zero same = drop_all i values (omega arith)
rest_picks values i (suc n) same =
    drop-cons values i false (omega arith) ∙ ap (λ rest. get_or values i false ∷ rest) (rest_picks values (suc i) n (omega arith))

-- the negation, of the one multiplexer that negates
abbrev pub flip : Kind → Bool → Bool
flip Nmux value = not value
flip kind value = value

zero_add : (n : ℕ) → 0 + n ≡ n
zero_add n = omega arith

-- a multiplexer's value is the datum of its selects' number
pub multiplexed : (kind : Kind) (values : List Bool) → length values ≡ pin_count kind → ((row_of kind).selects == 0) ≡ false
    → gate_value kind values ≡ flip kind (get_or values (number_of (drop (row_of kind).data_pins values)) false)
unfolding equation
multiplexed Mux values len selects =
    mux2_at (λ i. get_or values i false) 0 2
    ∙ ap (λ i. get_or values i false) (zero_add _ ∙ ap number_of (sym (rest_picks values 2 1 len)))
multiplexed Nmux values len selects =
    ap not (mux2_at (λ i. get_or values i false) 0 2
    ∙ ap (λ i. get_or values i false) (zero_add _ ∙ ap number_of (sym (rest_picks values 2 1 len))))
multiplexed Mux4 values len selects =
    mux4_at (λ i. get_or values i false) 0 4
    ∙ ap (λ i. get_or values i false) (zero_add _ ∙ ap number_of (sym (rest_picks values 4 2 len)))
multiplexed Mux8 values len selects =
    mux8_at (λ i. get_or values i false) 0 8
    ∙ ap (λ i. get_or values i false) (zero_add _ ∙ ap number_of (sym (rest_picks values 8 3 len)))
multiplexed Mux16 values len selects =
    mux16_at (λ i. get_or values i false) 0 16
    ∙ ap (λ i. get_or values i false) (zero_add _ ∙ ap number_of (sym (rest_picks values 16 4 len)))
multiplexed kind values len selects = cc

pub flip_out : (a : Assignment) (kind : Kind) (out : Lit) → lit_value a (selected_out kind out) ≡ flip kind (lit_value a out)
flip_out a Nmux out = lit_negated a out
flip_out a kind out = refl

not_twice : (b : Bool) → not (not b) ≡ b
not_twice true = refl
not_twice false = refl

pub flip_twice : (kind : Kind) (b : Bool) → flip kind (flip kind b) ≡ b
flip_twice Nmux b = not_twice b
flip_twice kind b = refl
