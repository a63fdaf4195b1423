-- A literal that follows from the others that are marked can be left out.
use Rattle.std.proofs.Common.{◌≡◌, ℕ, ◌+◌, ◌<◌, false, ◌⊎◌, inl, inr, List, [], ◌∷◌, ◌++◌, Some, length, get_or, set, sym, subst, ap, ◌∙◌, arith}
use Rattle.std.specs.List.{Contains, slice_get}
use Rattle.std.proofs.lemmas.Bool.{cases_eq}
use Rattle.std.proofs.lemmas.List.{get_or-set_same, get_or-set_other, length-set}
use Rattle.std.proofs.lemmas.List.Elements.{Contains-append_cases}
use Rattle.cs_base.proofs.ListLemmas.{at_contains, contains_at}
use Rattle.cs_base.specs.declared.formula.Lit.{Lit}
use Rattle.cs_base.specs.declared.formula.Clause.{Clause}
use Rattle.cs_base.specs.Derivations.{negated, IsSet, unit}
use Rattle.cs_sat.specs.declared.trail.Step.{Step}
use Rattle.cs_sat.specs.declared.trail.Trail.{Trail}
use Rattle.cs_sat.specs.declared.marks.Marks.{Marks}
use Rattle.cs_sat.specs.Reasons.{IsOver}
use Rattle.cs_sat.specs.Analyses.{IsAt, IsMarked, IsBase, IsResolved, AreCovered, IsRedundant}
use Rattle.cs_sat.proofs.Literals.{not_in_empty, one_item}
use Rattle.cs_sat.proofs.Reasons.{base_set}
use Rattle.cs_sat.proofs.Analyses.{not_both, same_place, same_step}

pub covered_empty : (trail : Trail) (marks : Marks) (skip : Lit) → AreCovered trail marks [] skip
covered_empty trail marks skip lit has = absurd (not_in_empty lit has)

pub covered_one : (trail : Trail) (marks : Marks) (lit skip : Lit)
    → ((lit ≡ skip → ⊥) → IsMarked trail.steps.items marks (negated lit) ⊎ IsBase trail.steps.items (negated lit))
    → AreCovered trail marks (lit ∷ []) skip
covered_one trail marks lit skip is other has differ =
    let at = contains_at (lit ∷ []) other has in
    let one = one_item lit other at.0 at.1 in
    subst (λ (l : Lit). IsMarked trail.steps.items marks (negated l) ⊎ IsBase trail.steps.items (negated l)) one
    (is (λ same. differ (sym one ∙ same)))

pub covered_more : (trail : Trail) (marks : Marks) (xs ys : List Lit) (skip : Lit) → AreCovered trail marks xs skip
    → AreCovered trail marks ys skip → AreCovered trail marks (xs ++ ys) skip
covered_more trail marks xs ys skip first then' lit has differ = elim (Contains-append_cases xs ys lit has) [
  | inl one ↦ first lit one differ
  | inr other ↦ then' lit other differ
]

-- the marks that are left still meet a conflict
pub shortened : (clauses : List Clause) (trail : Trail) (level at place : ℕ) (old new : Marks) → IsOver clauses trail
    → IsRedundant clauses trail old place → (place ≡ at → ⊥) → place < length old.marked.items
    → new.marked.items ≡ set old.marked.items place false → new.touched.items ≡ old.touched.items
    → IsResolved clauses trail level at old at → IsResolved clauses trail level at new at
shortened clauses trail level at place old new over redundant differ within marked touched is =
    let other : (p : ℕ) → (p ≡ place → ⊥) → get_or new.marked.items p false ≡ get_or old.marked.items p false =
    λ p apart. ap (λ xs. get_or xs p false) marked ∙ get_or-set_other old.marked.items place p false false apart in
    let here : get_or new.marked.items place false ≡ false =
    ap (λ xs. get_or xs place false) marked ∙ get_or-set_same old.marked.items place false false within in
    let was : (p : ℕ) → IsAt new p → IsAt old p =
    λ p at'. sym (other p (λ same. not_both (get_or new.marked.items p false)
    (ap (λ q. get_or new.marked.items q false) same ∙ here) at')) ∙ at' in
    let s = redundant.step in
    let reason = over.reasons place s redundant.number redundant.found redundant.why in
    let one : reason.clause ≡ redundant.clause = let found' = reason.found in let listed' = redundant.listed in cc in
    record {
      marking = record {
        size = ap length marked ∙ length-set old.marked.items place false ∙ is.marking.size;
        listed = λ p at'. subst (λ xs. Contains xs p) (sym touched) (is.marking.listed p (was p at'));
        only = λ p at'. is.marking.only p (was p at');
        low = other at (λ same. differ (sym same)) ∙ is.marking.low;
        top = is.marking.top;
        high = is.marking.high;
      };
      clash = λ given all. is.clash given (λ lit m. elim (cases_eq m.place place) [
        | inr apart ↦ all lit (record {
          place = m.place;
          step = m.step;
          marked = other m.place apart ∙ m.marked;
        })
        | inl same ↦
            let there : slice_get trail.steps.items place ≡ Some m.step.step =
            subst (λ p. slice_get trail.steps.items p ≡ Some m.step.step) same m.step.found in
            let step = same_step trail.steps.items place s m.step.step redundant.found there in
            let lit' : s.lit ≡ lit = ap (λ (x : Step). x.lit) step ∙ m.step.is in
            subst (λ l. IsSet clauses given l) lit'
            (unit redundant.clause s.lit (at_contains clauses redundant.number redundant.clause redundant.listed)
            (subst (λ (c : Clause). Contains c.lits s.lit) one reason.among)
            (λ literal has apart. elim (redundant.covered literal has apart) [
              | inl covered ↦
                  let before = reason.others literal (subst (λ (c : Clause). Contains c.lits literal) (sym one) has) apart in
                  let early = before.1 in
                  let where' = same_place trail before.0 covered.place (negated literal) over.sound before.2 covered.step in
                  all (negated literal) (record {
                    place = covered.place;
                    step = covered.step;
                    marked = other covered.place (λ same'. absurd (omega arith)) ∙ covered.marked;
                  })
              | inr low ↦ subst (λ l. IsSet clauses given l) low.step.is
                  (base_set clauses trail given over (low.place + 1) low.place low.step.step (omega arith) low.step.found low.low)
            ]))
      ]);
    }
