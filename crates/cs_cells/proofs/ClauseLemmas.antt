-- When the clauses of a gate are true.
use Rattle.std.proofs.Common.{◌≡◌, ℕ, zero, suc, ◌^◌, ◌<◌, Bool, true, false, not, ◌&&◌, ◌||◌, if◌then◌else◌, inl, inr, List, [], ◌∷◌, ◌++◌, map, length, refl, sym, arith, subst, ap, ◌∙◌}
use Rattle.std.specs.List.{list_any, list_all}
use Rattle.std.proofs.lemmas.Bool.{cases_lt}
use Rattle.std.proofs.lemmas.List.Folds.{list_any-append, list_all-append}
use Rattle.std.proofs.lemmas.List.{length-map}
use Rattle.cs_base.specs.declared.formula.Lit.{Lit}
use Rattle.cs_base.specs.declared.formula.Clause.{Clause}
use Rattle.cs_base.specs.Formulas.{Assignment, lit_value, clause_value, MakesTrue}
use Rattle.cs_base.specs.Derivations.{negated}
use Rattle.cs_cells.specs.Clauses.{bits_of, has, has_not, have_not, for_each}
use Rattle.cs_cells.proofs.NumberLemmas.{number_of, bits_number, number_below, length_bits}

value_negated : (sign value : Bool) → (if not sign then value else not value) ≡ not (if sign then value else not value)
value_negated true true = refl
value_negated true false = refl
value_negated false true = refl
value_negated false false = refl

pub lit_negated : (a : Assignment) (lit : Lit) → lit_value a (negated lit) ≡ not (lit_value a lit)
lit_negated a lit = value_negated lit.positive (a lit.var)

not_true : (b : Bool) → not b ≡ true → b ≡ false
not_true true is = cc
not_true false is = refl

not_false : (b : Bool) → not b ≡ false → b ≡ true
not_false true is = refl
not_false false is = cc

-- a literal has a value exactly where the literal that says so is true
pub has_true : (a : Assignment) (lit : Lit) (value : Bool) → lit_value a (has lit value) ≡ true → lit_value a lit ≡ value
has_true a lit true is = is
has_true a lit false is = not_true (lit_value a lit) (sym (lit_negated a lit) ∙ is)

pub true_has : (a : Assignment) (lit : Lit) (value : Bool) → lit_value a lit ≡ value → lit_value a (has lit value) ≡ true
true_has a lit true is = is
true_has a lit false is = lit_negated a lit ∙ ap not is

has_not_false : (a : Assignment) (lit : Lit) (value : Bool) → lit_value a (has_not lit value) ≡ false → value ≡ lit_value a lit
has_not_false a lit true is = sym (not_false (lit_value a lit) (sym (lit_negated a lit) ∙ is))
has_not_false a lit false is = sym is

false_has_not : (a : Assignment) (lit : Lit) (value : Bool) → value ≡ lit_value a lit → lit_value a (has_not lit value) ≡ false
false_has_not a lit true is = lit_negated a lit ∙ ap not (sym is)
false_has_not a lit false is = sym is

or_false : (a b : Bool) → (a || b) ≡ false → (a ≡ false) × (b ≡ false)
or_false true b is = cc
or_false false b is = (refl, is)

-- pins have these values exactly where the literals that say that they haven't are false
pub have_not_false : (a : Assignment) (pins : List Lit) (values : List Bool) → length values ≡ length pins
    → list_any (lit_value a) (have_not pins values) ≡ false → values ≡ map (lit_value a) pins
have_not_false a [] [] same is = refl
have_not_false a [] (v ∷ vs) same is = absurd (omega arith)
have_not_false a (p ∷ ps) [] same is = absurd (omega arith)
have_not_false a (p ∷ ps) (v ∷ vs) same is =
    let both = or_false (lit_value a (has_not p v)) (list_any (lit_value a) (have_not ps vs)) is in
    let head : v ≡ lit_value a p = has_not_false a p v both.0 in
    let tail : vs ≡ map (lit_value a) ps = have_not_false a ps vs (omega arith) both.1 in
    ap (λ x. x ∷ vs) head ∙ ap (λ xs. lit_value a p ∷ xs) tail

pub false_have_not : (a : Assignment) (pins : List Lit) → list_any (lit_value a) (have_not pins (map (lit_value a) pins)) ≡ false
false_have_not a [] = refl
false_have_not a (p ∷ ps) = rw (false_has_not a p (lit_value a p) refl) (false_have_not a ps)

-- a clause that says: where the pins have these values, one of the rest is true
pub where_true : (a : Assignment) (pins rest : List Lit) → list_any (lit_value a) (have_not pins (map (lit_value a) pins) ++ rest) ≡ true
    → list_any (lit_value a) rest ≡ true
where_true a pins rest is =
    sym (list_any-append (lit_value a) (have_not pins (map (lit_value a) pins)) rest
    ∙ ap (λ b. b || list_any (lit_value a) rest) (false_have_not a pins)) ∙ is

pub true_where : (a : Assignment) (pins : List Lit) (values : List Bool) (rest : List Lit) → length values ≡ length pins
    → (values ≡ map (lit_value a) pins → list_any (lit_value a) rest ≡ true)
    → list_any (lit_value a) (have_not pins values ++ rest) ≡ true
true_where a pins values rest same holds =
    let cases : (b : Bool) → list_any (lit_value a) (have_not pins values) ≡ b → (b || list_any (lit_value a) rest) ≡ true =
    λ b. elim b as (λ b. list_any (lit_value a) (have_not pins values) ≡ b → (b || list_any (lit_value a) rest) ≡ true) [
      | true ↦ λ is. refl
      | false ↦ λ is. holds (have_not_false a pins values same is)
    ] in
    list_any-append (lit_value a) (have_not pins values) rest
    ∙ cases (list_any (lit_value a) (have_not pins values)) refl

pub and_true : (a b : Bool) → (a && b) ≡ true → (a ≡ true) × (b ≡ true)
and_true true b is = (refl, is)
and_true false b is = cc

pub true_and : (a b : Bool) → a ≡ true → b ≡ true → (a && b) ≡ true
true_and a b is other = rw (is, other)

-- the clauses of each number are true
pub each_true : (test : Clause → Bool) (clauses : ℕ → List Clause) (count : ℕ) → list_all test (for_each clauses count) ≡ true
    → (i : ℕ) → i < count → list_all test (clauses i) ≡ true
each_true test clauses zero all i below = absurd (omega arith)
each_true test clauses (suc count) all i below =
    let both = and_true (list_all test (for_each clauses count)) (list_all test (clauses count))
    (sym (list_all-append test (for_each clauses count) (clauses count)) ∙ all) in
    elim (cases_lt i count) [
      | inl lt ↦ each_true test clauses count both.0 i lt
      | inr ge ↦ let same : i ≡ count = omega arith in subst (λ j. list_all test (clauses j) ≡ true) (sym same) both.1
    ]

pub true_each : (test : Clause → Bool) (clauses : ℕ → List Clause) (count : ℕ)
    → ((i : ℕ) → i < count → list_all test (clauses i) ≡ true) → list_all test (for_each clauses count) ≡ true
true_each test clauses zero each = refl
true_each test clauses (suc count) each =
    list_all-append test (for_each clauses count) (clauses count)
    ∙ true_and (list_all test (for_each clauses count)) (list_all test (clauses count))
    (true_each test clauses count (λ i below. each i (omega arith))) (each count (omega arith))

one_of_one : (b : Bool) → (b || false) ≡ true → b ≡ true
one_of_one true is = refl
one_of_one false is = cc

-- ---- all pins

-- the pins aren't this number, or the output has the value
abbrev pub row : Lit → List Lit → (List Bool → Bool) → ℕ → List Clause
row out pins value number =
    let bits = bits_of (length pins) number in record { lits = have_not pins bits ++ has out (value bits) ∷ [] } ∷ []

module _ (a : Assignment) (out : Lit) (pins : List Lit) (value : List Bool → Bool) where
  at_values : bits_of (length pins) (number_of (map (lit_value a) pins)) ≡ map (lit_value a) pins
  at_values =
      ap (λ n. bits_of n (number_of (map (lit_value a) pins))) (sym (length-map pins (lit_value a)))
      ∙ bits_number (map (lit_value a) pins)

  pub table_to : MakesTrue a (for_each (row out pins value) (2 ^ length pins))
      → lit_value a out ≡ value (map (lit_value a) pins)
  table_to all =
      let values = map (lit_value a) pins in
      let below : number_of values < 2 ^ length pins =
      subst (λ n. number_of values < 2 ^ n) (length-map pins (lit_value a)) (number_below values) in
      let here = (and_true _ true
      (each_true (clause_value a) (row out pins value) (2 ^ length pins) all (number_of values) below)).0 in
      let there : list_any (lit_value a) (have_not pins values ++ has out (value values) ∷ []) ≡ true =
      subst (λ bits. list_any (lit_value a) (have_not pins bits ++ has out (value bits) ∷ []) ≡ true) at_values
      here in
      has_true a out (value values) (one_of_one _ (where_true a pins (has out (value values) ∷ []) there))

  pub to_table : lit_value a out ≡ value (map (lit_value a) pins)
      → MakesTrue a (for_each (row out pins value) (2 ^ length pins))
  to_table is = true_each (clause_value a) (row out pins value) (2 ^ length pins) (λ i below.
      let bits = bits_of (length pins) i in
      true_and _ true
      (true_where a pins bits (has out (value bits) ∷ []) (length_bits (length pins) i)
      (λ same. ap (λ b. b || false) (true_has a out (value bits) (is ∙ ap value (sym same))))) refl)
