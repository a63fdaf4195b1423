-- Derivations: their end, and that a formula that has one has no model.
use Rattle.std.proofs.Common.{◌≡◌, ℕ, suc, ◌+◌, ◌-◌, ◌<◌, Bool, true, false, not, ◌&&◌, if◌then◌else◌, inl, inr, List, [], ◌∷◌, ◌++◌, map, length, get_or, drop, IsTrue, Some, None, Result, Ok, Err, IfOk, add-one, refl, sym, arith, subst, ap, ◌∙◌, ◌↔◌}
use Rattle.std.proofs.Math.Seq.{drop-cons}
use Rattle.std.specs.List.{Contains, slice_get, list_any, list_all}
use Rattle.cs_base.specs.declared.formula.Lit.{Lit}
use Rattle.cs_base.specs.declared.formula.Clause.{Clause}
use Rattle.cs_base.specs.declared.formula.Formula.{Formula}
use Rattle.cs_base.specs.Derivations.{negated, IsSet, assumed, unit, MeetsConflict, IsRup, AreRup, EndsWithEmpty, IsDerivation}
use Rattle.cs_base.specs.Formulas.{Assignment, lit_value, clause_value, MakesTrue, IsModel}
use Rattle.cs_rup.proofs.Lists.{not_in_empty, contains_cases, mapped, any_true, any_false}
use Rattle.cs_rup.proofs.Settings.{one_or_other}

-- ---- a line that is RUP is true where the clauses are

value_negated : (sign value : Bool) → (if not sign then value else not value) ≡ not (if sign then value else not value)
value_negated true true = refl
value_negated true false = refl
value_negated false true = refl
value_negated false false = refl

lit_negated : (a : Assignment) (lit : Lit) → lit_value a (negated lit) ≡ not (lit_value a lit)
lit_negated a lit = value_negated lit.positive (a lit.var)

both_values : (b : Bool) → b ≡ true → not b ≡ true → ⊥
both_values true is other = cc
both_values false is other = cc

-- each of the clauses is true
pub each_true : (test : Clause → Bool) (clauses : List Clause) → list_all test clauses ≡ true → (clause : Clause) → Contains clauses clause → test clause ≡ true
each_true test [] all clause has = absurd (not_in_empty clause has)
each_true test (c ∷ cs) all clause has =
    let cases : (b : Bool) → test c ≡ b → (b && list_all test cs) ≡ true → test clause ≡ true =
    λ b. elim b as (λ b. test c ≡ b → (b && list_all test cs) ≡ true → test clause ≡ true) [
      | true ↦ λ is rest. elim (contains_cases c clause cs has) [
        | inl here ↦ ap test (sym here) ∙ is
        | inr there ↦ each_true test cs rest clause there
      ]
      | false ↦ λ is rest. cc
    ] in
    cases (test c) refl all

pub all_push : (test : Clause → Bool) (clauses : List Clause) (clause : Clause) → list_all test clauses ≡ true → test clause ≡ true
    → list_all test (clauses ++ clause ∷ []) ≡ true
all_push test [] clause all is = rw is
all_push test (c ∷ cs) clause all is =
    let cases : (b : Bool) → (b && list_all test cs) ≡ true → (b && list_all test (cs ++ clause ∷ [])) ≡ true =
    λ b. elim b as (λ b. (b && list_all test cs) ≡ true → (b && list_all test (cs ++ clause ∷ [])) ≡ true) [
      | true ↦ λ rest. all_push test cs clause rest is
      | false ↦ λ rest. cc
    ] in
    cases (test c) all

module _ (a : Assignment) (clauses : List Clause) (holds : MakesTrue a clauses) (given : List Lit)
    (assume : (lit : Lit) → Contains given lit → lit_value a lit ≡ true)
  where
    -- what is set is true
    pub set_true : (lit : Lit) → IsSet clauses given lit → lit_value a lit ≡ true
    set_true lit (assumed _ among) = assume lit among
    set_true lit (unit clause _ listed among others) =
        let some = any_true (lit_value a) clause.lits (each_true (clause_value a) clauses holds clause listed) in
        elim (one_or_other some.0 lit) [
          | inl same ↦ subst (λ l. lit_value a l ≡ true) same some.2
          | inr differ ↦ absurd (both_values (lit_value a some.0) some.2
              (sym (lit_negated a some.0) ∙ set_true (negated some.0) (others some.0 some.1 differ)))
        ]

    -- and there is no conflict
    pub no_conflict_true : MeetsConflict clauses given → ⊥
    no_conflict_true (inl falsified) =
        let some = any_true (lit_value a) falsified.clause.lits (each_true (clause_value a) clauses holds falsified.clause falsified.among) in
        both_values (lit_value a some.0) some.2 (sym (lit_negated a some.0) ∙ set_true (negated some.0) (falsified.false_all some.0 some.1))
    no_conflict_true (inr both) =
        both_values (lit_value a both.lit) (set_true both.lit both.one_way)
        (sym (lit_negated a both.lit) ∙ set_true (negated both.lit) both.other_way)

not_value : (b : Bool) → b ≡ false → not b ≡ true
not_value true is = cc
not_value false is = refl

-- an assignment that makes the clauses true makes each line true that is RUP from them
pub rup_true : (a : Assignment) (clauses : List Clause) (line : Clause) → IsRup clauses line → MakesTrue a clauses
    → clause_value a line ≡ true
rup_true a clauses line rup holds =
    let cases : (b : Bool) → clause_value a line ≡ b → clause_value a line ≡ true =
    λ b. elim b as (λ b. clause_value a line ≡ b → clause_value a line ≡ true) [
      | true ↦ λ is. is
      | false ↦ λ is. absurd (no_conflict_true a clauses holds (map negated line.lits)
          (λ lit has. mapped (λ l. lit_value a l ≡ true) negated line.lits
          (λ l among. lit_negated a l ∙ not_value (lit_value a l) (any_false (lit_value a) line.lits is l among)) lit has) rup)
    ] in
    cases (clause_value a line) refl

-- no assignment makes the clauses true from which lines that end with the empty clause are RUP
pub refuted : (a : Assignment) (clauses lines : List Clause) → AreRup clauses lines → EndsWithEmpty lines → MakesTrue a clauses → ⊥
refuted a clauses [] rups ends holds = ends
refuted a clauses (line ∷ []) rups ends holds =
    let is : clause_value a line ≡ true = rup_true a clauses line rups.0 holds in
    let none : list_any (lit_value a) [] ≡ true = subst (λ lits. list_any (lit_value a) lits ≡ true) ends is in
    cc
refuted a clauses (line ∷ next ∷ lines) rups ends holds =
    refuted a (clauses ++ line ∷ []) (next ∷ lines) rups.1 ends
    (all_push (clause_value a) clauses line holds (rup_true a clauses line rups.0 holds))

pub no_model : (f : Formula) (lines : List Clause) → IsDerivation f lines → (a : Assignment) → ¬ (IsModel a f)
no_model f lines is a holds = refuted a f.clauses lines is.each is.ends holds

-- ---- the end of the lines

-- the last line decides
pub ends_at : (lines : List Clause) (last : Clause) → slice_get lines (length lines - 1) ≡ Some last → (EndsWithEmpty lines ↔ (last.lits ≡ []))
ends_at [] last is = cc
ends_at (line ∷ []) last is =
    let same : line ≡ last = cc in
    (λ ends. subst (λ l. l.lits ≡ []) same ends, λ ends. subst (λ l. l.lits ≡ []) (sym same) ends)
ends_at (line ∷ next ∷ lines) last is =
    let fewer : suc (suc (length lines)) - 1 ≡ suc (suc (length lines) - 1) = omega arith in
    ends_at (next ∷ lines) last (subst (λ i. slice_get (line ∷ next ∷ lines) i ≡ Some last) fewer is)

-- without a last line there is no end
pub ends_none : (lines : List Clause) → slice_get lines (length lines - 1) ≡ None → EndsWithEmpty lines → ⊥
ends_none [] is ends = ends
ends_none (line ∷ []) is ends = cc
ends_none (line ∷ next ∷ lines) is ends =
    let fewer : suc (suc (length lines)) - 1 ≡ suc (suc (length lines) - 1) = omega arith in
    ends_none (next ∷ lines) (subst (λ i. slice_get (line ∷ next ∷ lines) i ≡ None) fewer is) ends

-- ---- line by line

-- one line is accepted
pub accepted : (A : Type 0) (clauses new lines : List Clause) (i : ℕ) (line : Clause) → line ≡ get_or lines i line
    → i < length lines → A ↔ AreRup clauses (drop i lines) → IsRup clauses line → new ≡ clauses ++ line ∷ []
    → A ↔ AreRup new (drop (i + 1) lines)
accepted A clauses new lines i line is within before rup more =
    let rest : drop i lines ≡ line ∷ drop (i + 1) lines =
    rw (add-one) (drop-cons lines i line within ∙ ap (λ l. l ∷ drop (suc i) lines) (sym is)) in (
      λ given.
          let both = subst (λ ls. AreRup clauses ls) rest (before.0 given) in
          subst (λ cs. AreRup cs (drop (i + 1) lines)) (sym more) both.1,
      λ after. before.1 (subst (λ ls. AreRup clauses ls) (sym rest)
          (rup, subst (λ cs. AreRup cs (drop (i + 1) lines)) more after)),
    )

-- what is answered
pub answered : {E : Type 0} (f : Formula) (lines : List Clause) (r : Result Bool E) → EndsWithEmpty lines
    → IfOk r (λ holds. IsTrue holds ↔ AreRup f.clauses lines)
    → IfOk r (λ holds. IsTrue holds → (a : Assignment) → ¬ (IsModel a f))
answered f lines (Ok holds) ends iff = λ is a. no_model f lines (record { each = iff.0 is; ends = ends }) a
answered f lines (Err e) ends iff = tt
