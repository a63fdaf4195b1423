-- What is derived from clauses is true wherever they are, so a formula with a derivation has no model.
use Rattle.std.proofs.Common.{◌≡◌, ℕ, zero, suc, Bool, true, false, not, ◌&&◌, ◌||◌, if◌then◌else◌, inl, inr, List, [], ◌∷◌, ◌++◌, map, Some, refl, sym, subst, ap, ◌∙◌, ◌↔◌}
use Rattle.std.specs.List.{Contains, slice_get, list_any, list_all}
use Rattle.cs_base.proofs.ListLemmas.{at_contains, contains_at}
use Rattle.cs_base.specs.declared.formula.Lit.{Lit}
use Rattle.cs_base.specs.declared.formula.Clause.{Clause}
use Rattle.cs_base.specs.declared.formula.Formula.{Formula}
use Rattle.cs_base.specs.Derivations.{negated, IsSet, assumed, unit, MeetsConflict, IsRup, AreRup, EndsWithEmpty, IsDerivation}
use Rattle.cs_base.specs.Formulas.{Assignment, assignment_of, lit_value, clause_value, MakesTrue, IsModel}
use Rattle.cs_sat.specs.declared.verdict.Verdict.{Verdict}
use Rattle.cs_sat.specs.declared.verdict.Verdict.TheVariants.{Model, Refuted}
use Rattle.cs_sat.specs.Verdicts.{IsModelOf, IsRight, IsRefutation, IfModel, IfRefuted}
use Rattle.cs_sat.proofs.Literals.{one_or_other}

-- ---- lists of tests

-- a list of which some item passes has one
passed_at : {X : Type 0} (test : X → Bool) (xs : List X) → list_any test xs ≡ true
    → (i : ℕ) × (x : X) × (slice_get xs i ≡ Some x) × (test x ≡ true)
passed_at test [] some = cc
passed_at test (y ∷ xs) some =
    let cases : (b : Bool) → test y ≡ b → (b || list_any test xs) ≡ true
    → (i : ℕ) × (x : _) × (slice_get (y ∷ xs) i ≡ Some x) × (test x ≡ true) =
    λ b. elim b as (λ b. test y ≡ b → (b || list_any test xs) ≡ true
    → (i : ℕ) × (x : _) × (slice_get (y ∷ xs) i ≡ Some x) × (test x ≡ true)) [
      | true ↦ λ here _. (zero, y, refl, here)
      | false ↦ λ _ later. let rest = passed_at test xs later in (suc rest.0, rest.1, rest.2, rest.3)
    ] in
    cases (test y) refl some

passes_in : {X : Type 0} (test : X → Bool) (y : X) (xs : List X) → test y ≡ true
    → ((i : ℕ) (x : X) → slice_get xs i ≡ Some x → test x ≡ true) → (i : ℕ) (x : X) → slice_get (y ∷ xs) i ≡ Some x
    → test x ≡ true
passes_in test y xs here later zero x found = let one : y ≡ x = cc in sym (ap test one) ∙ here
passes_in test y xs here later (suc i) x found = later i x found

-- an item of a list that all pass passes
passes_at : {X : Type 0} (test : X → Bool) (xs : List X) → list_all test xs ≡ true → (i : ℕ) (x : X)
    → slice_get xs i ≡ Some x → test x ≡ true
passes_at test [] all i x found = cc
passes_at test (y ∷ xs) all i x found =
    let cases : (b : Bool) → test y ≡ b → (b && list_all test xs) ≡ true → test x ≡ true =
    λ b. elim b as (λ b. test y ≡ b → (b && list_all test xs) ≡ true → test x ≡ true) [
      | true ↦ λ here rest. passes_in test y xs here (passes_at test xs rest) i x found
      | false ↦ λ _ fails. cc
    ] in
    cases (test y) refl all

all_push : {X : Type 0} (test : X → Bool) (xs : List X) (x : X) → list_all test xs ≡ true → test x ≡ true
    → list_all test (xs ++ x ∷ []) ≡ true
all_push test [] x all is = rw is
all_push test (y ∷ xs) x all is =
    let cases : (b : Bool) → (b && list_all test xs) ≡ true → (b && list_all test (xs ++ x ∷ [])) ≡ true =
    λ b. elim b as (λ b. (b && list_all test xs) ≡ true → (b && list_all test (xs ++ x ∷ [])) ≡ true) [
      | true ↦ λ rest. all_push test xs x rest is
      | false ↦ λ fails. cc
    ] in
    cases (test y) all

-- ---- literals

value_negated : (sign value : Bool) → (if not sign then value else not value) ≡ not (if sign then value else not value)
value_negated true true = refl
value_negated true false = refl
value_negated false true = refl
value_negated false false = refl

lit_negated : (a : Assignment) (lit : Lit) → lit_value a (negated lit) ≡ not (lit_value a lit)
lit_negated a lit = value_negated lit.positive (a lit.var)

not_both_true : (b : Bool) → b ≡ true → not b ≡ true → ⊥
not_both_true true is other = cc
not_both_true false is other = cc

not_passed : (b : Bool) → (b ≡ true → ⊥) → not b ≡ true
not_passed true fails = absurd (fails refl)
not_passed false fails = refl

-- ---- propagation from literals that are true

module _ (a : Assignment) (clauses : List Clause) (holds : MakesTrue a clauses) (given : List Lit)
    (assume : (lit : Lit) → Contains given lit → lit_value a lit ≡ true)
  where
    -- a clause has a true literal
    true_in : (clause : Clause) → Contains clauses clause
        → (i : ℕ) × (lit : Lit) × (slice_get clause.lits i ≡ Some lit) × (lit_value a lit ≡ true)
    true_in clause listed =
        let at = contains_at clauses clause listed in
        passed_at (lit_value a) clause.lits (passes_at (clause_value a) clauses holds at.0 clause at.1)

    -- what is set is true
    set_true : (lit : Lit) → IsSet clauses given lit → lit_value a lit ≡ true
    set_true lit (assumed _ among) = assume lit among
    set_true lit (unit clause _ listed among others) =
        let some = true_in clause listed in
        elim (one_or_other some.1 lit) [
          | inl same ↦ subst (λ l. lit_value a l ≡ true) same some.3
          | inr differ ↦ absurd (not_both_true (lit_value a some.1) some.3
              (sym (lit_negated a some.1)
              ∙ set_true (negated some.1) (others some.1 (at_contains clause.lits some.0 some.1 some.2) differ)))
        ]

    -- and there is no conflict
    no_conflict : MeetsConflict clauses given → ⊥
    no_conflict (inl falsified) =
        let some = true_in falsified.clause falsified.among in
        not_both_true (lit_value a some.1) some.3 (sym (lit_negated a some.1)
        ∙ set_true (negated some.1) (falsified.false_all some.1 (at_contains falsified.clause.lits some.0 some.1 some.2)))
    no_conflict (inr both) =
        not_both_true (lit_value a both.lit) (set_true both.lit both.one_way)
        (sym (lit_negated a both.lit) ∙ set_true (negated both.lit) both.other_way)

or_later : (a b : Bool) → b ≡ true → (a || b) ≡ true
or_later true b is = refl
or_later false b is = is

-- the negations of literals
negations : (a : Assignment) (lits : List Lit) → (list_any (lit_value a) lits ≡ true → ⊥) → (i : ℕ) (lit : Lit)
    → slice_get (map negated lits) i ≡ Some lit → lit_value a lit ≡ true
negations a [] none i lit found = cc
negations a (l ∷ lits) none zero lit found =
    let one : negated l ≡ lit = cc in
    let fails : lit_value a l ≡ true → ⊥ = λ is. none (rw is) in
    subst (λ x. lit_value a x ≡ true) one (lit_negated a l ∙ not_passed (lit_value a l) fails)
negations a (l ∷ lits) none (suc i) lit found =
    negations a lits (λ later. none (or_later (lit_value a l) (list_any (lit_value a) lits) later)) i lit found

-- a line that is RUP is true where the clauses are
line_true : (a : Assignment) (clauses : List Clause) (line : Clause) → IsRup clauses line → MakesTrue a clauses
    → clause_value a line ≡ true
line_true a clauses line rup holds =
    let cases : (b : Bool) → clause_value a line ≡ b → clause_value a line ≡ true =
    λ b. elim b as (λ b. clause_value a line ≡ b → clause_value a line ≡ true) [
      | true ↦ λ is. is
      | false ↦ λ is. absurd (no_conflict a clauses holds (map negated line.lits)
          (λ lit has.
          let at = contains_at (map negated line.lits) lit has in
          negations a line.lits (λ yes. let no : true ≡ false = sym yes ∙ is in cc) at.0 lit at.1) rup)
    ] in
    cases (clause_value a line) refl

-- no assignment makes the clauses true from which lines that end with the empty clause are RUP
refuted : (a : Assignment) (clauses lines : List Clause) → AreRup clauses lines → EndsWithEmpty lines
    → MakesTrue a clauses → ⊥
refuted a clauses [] each ends holds = ends
refuted a clauses (line ∷ []) each ends holds =
    let is = line_true a clauses line each.0 holds in
    let none : list_any (lit_value a) [] ≡ true = subst (λ lits. list_any (lit_value a) lits ≡ true) ends is in
    cc
refuted a clauses (line ∷ next ∷ lines) each ends holds =
    refuted a (clauses ++ line ∷ []) (next ∷ lines) each.1 ends
    (all_push (clause_value a) clauses line holds (line_true a clauses line each.0 holds))

-- ---- verdicts

pub right_model : (f : Formula) (verdict : Verdict) → IsRight f verdict → IfModel verdict (IsModelOf f)
right_model f (Model bits) is = is
right_model f (Refuted derivation) is = tt

pub right_refuted : (f : Formula) (verdict : Verdict) → IsRight f verdict
    → IfRefuted verdict (λ derivation. IsDerivation f derivation.lines)
right_refuted f (Model bits) is = tt
right_refuted f (Refuted derivation) is = is

-- a right verdict refutes exactly where there is no model
pub right_exact : (f : Formula) (verdict : Verdict) → IsRight f verdict
    → IsRefutation verdict ↔ ((a : Assignment) → ¬ (IsModel a f))
right_exact f (Model bits) is = (λ refutes. absurd refutes, λ none. none (assignment_of bits) is.model)
right_exact f (Refuted derivation) is = (λ _ a holds. refuted a f.clauses derivation.lines is.each is.ends holds, λ _. tt)
