-- Reasons as the trail grows and is cut, and what follows from them.
use Rattle.std.proofs.Common.{◌≡◌, ℕ, zero, suc, ◌+◌, ◌<◌, ◌≤◌, Bool, true, false, not, if◌then◌else◌, ◌⊎◌, inl, inr, List, [], ◌∷◌, ◌++◌, Option, Some, None, Result, Ok, Err, OnOk, OnErr, length, refl, sym, subst, ap, ◌∙◌, arith, append_assoc, append-nil}
use Rattle.std.specs.List.{Contains, slice_get}
use Rattle.std.specs.declared.alloc.AllocError.{AllocError}
use Rattle.std.proofs.lemmas.Option.{slice_get_within}
use Rattle.std.proofs.lemmas.List.Elements.{Contains-append_cases}
use Rattle.cs_base.proofs.ListLemmas.{at_push, at_contains, contains_at}
use Rattle.cs_base.specs.declared.formula.Lit.{Lit}
use Rattle.cs_base.specs.declared.formula.Clause.{Clause}
use Rattle.cs_base.specs.Derivations.{negated, IsSet, unit}
use Rattle.cs_sat.specs.declared.trail.Reason.{Reason}
use Rattle.cs_sat.specs.declared.trail.Reason.TheVariants.{Decision, Propagated}
use Rattle.cs_sat.specs.declared.trail.Step.{Step}
use Rattle.cs_sat.specs.declared.trail.Setting.{Setting}
use Rattle.cs_sat.specs.declared.trail.Trail.{Trail}
use Rattle.cs_sat.specs.Trails.{setting_of, has_sign, is_true, IsStep, IsTrail, IsImplied, IsCut, IsSame, Grows}
use Rattle.cs_sat.specs.Reasons.{IsSetBefore, IsReason, AreReasons, AreWithin, IsOver}
use Rattle.cs_sat.specs.Looks.{IsUnit}
use Rattle.cs_sat.proofs.Literals.{one_item}
use Rattle.cs_sat.proofs.Trails.{set_within}

-- ---- places in lists that grow and are cut

pub at_append : {A : Type 0} (xs ys : List A) (i : ℕ) (x : A) → slice_get xs i ≡ Some x → slice_get (xs ++ ys) i ≡ Some x
at_append [] ys i x is = cc
at_append (z ∷ xs) ys zero x is = is
at_append (z ∷ xs) ys (suc i) x is = at_append xs ys i x is

pub at_append_cases : {A : Type 0} (xs ys : List A) (i : ℕ) (x : A) → slice_get (xs ++ ys) i ≡ Some x
    → (slice_get xs i ≡ Some x) ⊎ ((j : ℕ) × (i ≡ length xs + j) × (slice_get ys j ≡ Some x))
at_append_cases [] ys i x is = inr (i, omega arith, is)
at_append_cases (z ∷ xs) ys zero x is = inl is
at_append_cases (z ∷ xs) ys (suc i) x is = elim (at_append_cases xs ys i x is) [
  | inl first ↦ inl first
  | inr (j, place, later) ↦ inr (j, omega arith, later)
]

pub at_append_first : {A : Type 0} (xs ys : List A) (i : ℕ) (x : A) → i < length xs → slice_get (xs ++ ys) i ≡ Some x
    → slice_get xs i ≡ Some x
at_append_first xs ys i x within is = elim (at_append_cases xs ys i x is) [
  | inl first ↦ first
  | inr (j, place, later) ↦ absurd (omega arith)
]

-- ---- literals that are set

same_sign : (a b : Bool) → (if a then b else not b) ≡ true → a ≡ b
same_sign true true is = refl
same_sign true false is = cc
same_sign false true is = cc
same_sign false false is = refl

true_value : (value : Option Setting) (sign : Bool) → has_sign value sign ≡ true
    → (setting : Setting) × (value ≡ Some setting) × (setting.positive ≡ sign)
true_value None sign is = cc
true_value (Some setting) sign is = (setting, refl, same_sign setting.positive sign is)

-- a literal that is true stands on the trail
pub true_step : (trail : Trail) (lit : Lit) → IsTrail trail → is_true trail lit ≡ true
    → (setting : Setting) × (setting_of trail lit.var ≡ Some setting) × IsStep trail.steps.items setting.place lit
true_step trail lit is true' =
    let value = true_value (setting_of trail lit.var) lit.positive true' in
    let step = is.known lit.var value.0 value.1 in (
      value.0,
      value.1,
      subst (λ sign. IsStep trail.steps.items value.0.place (record { var = lit.var; positive = sign })) value.2 step,
    )

pub true_before : (trail : Trail) (lit : Lit) → IsTrail trail → is_true trail lit ≡ true
    → IsSetBefore trail.steps.items (length trail.steps.items) lit
true_before trail lit is true' =
    let has = true_step trail lit is true' in
    (has.0.place, slice_get_within trail.steps.items has.0.place has.2.step has.2.found, has.2)

-- a literal that stands on the trail has its variable in the table
pub step_within : (trail : Trail) (place : ℕ) (lit : Lit) → IsTrail trail → IsStep trail.steps.items place lit
    → lit.var < length trail.table.items
step_within trail place lit is step =
    subst (λ (l : Lit). l.var < length trail.table.items) step.is
    (set_within trail.table.items step.step.lit.var _ (is.kept place step.step step.found))

step_append : (xs ys : List Step) (place : ℕ) (lit : Lit) → IsStep xs place lit → IsStep (xs ++ ys) place lit
step_append xs ys place lit is =
    record { step = is.step; found = at_append xs ys place is.step is.found; is = is.is }

-- ---- reasons

reason_grown : (clauses : List Clause) (xs ys : List Step) (end : ℕ) (lit : Lit) (number : ℕ)
    → IsReason clauses xs end lit number → IsReason clauses (xs ++ ys) end lit number
reason_grown clauses xs ys end lit number is = record {
  clause = is.clause;
  found = is.found;
  among = is.among;
  others = λ other has differ.
      let was = is.others other has differ in
      (was.0, was.1, step_append xs ys was.0 (negated other) was.2);
}

reason_cut : (clauses : List Clause) (xs ys : List Step) (end : ℕ) (lit : Lit) (number : ℕ) → end ≤ length xs
    → IsReason clauses (xs ++ ys) end lit number → IsReason clauses xs end lit number
reason_cut clauses xs ys end lit number within is = record {
  clause = is.clause;
  found = is.found;
  among = is.among;
  others = λ other has differ.
      let was = is.others other has differ in
      let before = was.1 in (
        was.0,
        before,
        record {
          step = was.2.step;
          found = at_append_first xs ys was.0 was.2.step (omega arith) was.2.found;
          is = was.2.is;
        },
      );
}

reason_more : (clauses more : List Clause) (steps : List Step) (end : ℕ) (lit : Lit) (number : ℕ)
    → IsReason clauses steps end lit number → IsReason (clauses ++ more) steps end lit number
reason_more clauses more steps end lit number is = record {
  clause = is.clause;
  found = at_append clauses more number is.clause is.found;
  among = is.among;
  others = is.others;
}

-- the same steps and settings
pub over_same : (clauses : List Clause) (old new : Trail) → IsTrail new → IsSame old new → IsOver clauses old → IsOver clauses new
over_same clauses old new sound same is = record {
  sound = sound;
  reasons = subst (λ steps. AreReasons clauses steps) (sym same.steps) is.reasons;
  within = λ clause has lit among. let was = is.within clause has lit among in omega (arith, ap length same.table);
}

-- a step more, with its reason if it is propagated
pub over_pushed : (clauses : List Clause) (old new : Trail) (s : Step) → IsTrail new
    → length new.table.items ≡ length old.table.items → new.steps.items ≡ old.steps.items ++ s ∷ []
    → ((number : ℕ) → s.reason ≡ Propagated number
    → IsReason clauses old.steps.items (length old.steps.items) s.lit number)
    → IsOver clauses old → IsOver clauses new
over_pushed clauses old new s sound size steps reason is = record {
  sound = sound;
  reasons = λ i t number found why.
      subst (λ xs. IsReason clauses xs i t.lit number) (sym steps)
      (reason_grown clauses old.steps.items (s ∷ []) i t.lit number
      (elim (at_push old.steps.items s i t (subst (λ xs. slice_get xs i ≡ Some t) steps found)) [
        | inl before ↦ is.reasons i t number before why
        | inr (place, one) ↦
            let here = reason number (ap (λ (x : Step). x.reason) (sym one) ∙ why) in
            let at = subst (λ i. IsReason clauses old.steps.items i s.lit number) (sym place) here in
            subst (λ (x : Step). IsReason clauses old.steps.items i x.lit number) (sym one) at
      ]));
  within = λ clause has lit among. let was = is.within clause has lit among in omega arith;
}

-- the clause is unit, and its literal is set or nothing changes
pub over_implied : (clauses : List Clause) (old new : Trail) (lit : Lit) (number : ℕ) (clause : Clause)
    (r : Result (Unit {0}) AllocError) → IsTrail new → length new.table.items ≡ length old.table.items
    → slice_get clauses number ≡ Some clause → IsUnit old clause.lits lit → IsOver clauses old
    → OnOk r (IsImplied old new lit (Propagated number)) → OnErr r (IsSame old new) → IsOver clauses new
over_implied clauses old new lit number clause (Err _) sound size found one' is implied same =
    over_same clauses old new sound same is
over_implied clauses old new lit number clause (Ok _) sound size found one' is implied same =
    over_pushed clauses old new (record { lit = lit; level = implied.level; reason = Propagated number }) sound size
    implied.steps
    (λ other why.
    let same' : number ≡ other = cc in
    subst (λ k. IsReason clauses old.steps.items (length old.steps.items) lit k) same' (record {
      clause = clause;
      found = found;
      among = one'.among;
      others = λ literal has differ.
          true_before old (negated literal) is.sound (one'.others literal has differ);
    }))
    is

pub grows_implied : (old new : Trail) (lit : Lit) (reason : Reason) (r : Result (Unit {0}) AllocError)
    → length new.table.items ≡ length old.table.items → OnOk r (IsImplied old new lit reason) → OnErr r (IsSame old new)
    → Grows old new
grows_implied old new lit reason (Ok _) size implied same = record { more = _; is = implied.steps; size = size }
grows_implied old new lit reason (Err _) size implied same =
    record { more = []; is = same.steps ∙ sym (append-nil old.steps.items); size = size }

pub grows_same : (trail : Trail) → Grows trail trail
grows_same trail = record { more = []; is = sym (append-nil trail.steps.items); size = refl }

pub grows_more : (a b c : Trail) → Grows a b → Grows b c → Grows a c
grows_more a b c first then' = record {
  more = first.more ++ then'.more;
  is = then'.is ∙ ap (λ xs. xs ++ then'.more) first.is ∙ append_assoc a.steps.items first.more then'.more;
  size = then'.size ∙ first.size;
}

pub over_cut : (clauses : List Clause) (level : ℕ) (old new : Trail) → IsTrail new
    → length new.table.items ≡ length old.table.items → IsCut level old.steps.items new.steps.items
    → IsOver clauses old → IsOver clauses new
over_cut clauses level old new sound size cut is = record {
  sound = sound;
  reasons = λ i s number found why.
      let within = slice_get_within new.steps.items i s found in
      let was : slice_get old.steps.items i ≡ Some s =
      subst (λ xs. slice_get xs i ≡ Some s) (sym cut.off.is) (at_append new.steps.items cut.off.taken i s found) in
      reason_cut clauses new.steps.items cut.off.taken i s.lit number (omega arith)
      (subst (λ xs. IsReason clauses xs i s.lit number) cut.off.is (is.reasons i s number was why));
  within = λ clause has lit among. let was = is.within clause has lit among in omega arith;
}

pub over_more : (clauses : List Clause) (line : Clause) (trail : Trail) → AreWithin (length trail.table.items) line.lits
    → IsOver clauses trail → IsOver (clauses ++ line ∷ []) trail
over_more clauses line trail lits is = record {
  sound = is.sound;
  reasons = λ i s number found why. reason_more clauses (line ∷ []) trail.steps.items i s.lit number (is.reasons i s number found why);
  within = λ clause has lit among. elim (Contains-append_cases clauses (line ∷ []) clause has) [
    | inl before ↦ is.within clause before lit among
    | inr last ↦
        let at = contains_at (line ∷ []) clause last in
        let one = one_item line clause at.0 at.1 in
        lits lit (subst (λ (c : Clause). Contains c.lits lit) (sym one) among)
  ];
}

-- ---- what follows from nothing

-- what stands at level 0 is set by propagation, whatever is given
pub base_set : (clauses : List Clause) (trail : Trail) (given : List Lit) → IsOver clauses trail → (n i : ℕ) (s : Step)
    → i < n → slice_get trail.steps.items i ≡ Some s → s.level ≡ 0 → IsSet clauses given s.lit
base_set clauses trail given is zero i s below found low = absurd (omega arith)
base_set clauses trail given is (suc n) i s below found low =
    let cases : (reason : Reason) → s.reason ≡ reason → IsSet clauses given s.lit =
    λ reason. elim reason as (λ reason. s.reason ≡ reason → IsSet clauses given s.lit) [
      | Decision ↦ λ why. let level = is.sound.decisions i s found why in absurd (omega arith)
      | Propagated number ↦ λ why.
          let by = is.reasons i s number found why in
          unit by.clause s.lit (at_contains clauses number by.clause by.found) by.among
          (λ other has differ.
          let was = by.others other has differ in
          let before = was.1 in
          let order = is.sound.order was.0 i was.2.step s (omega arith) was.2.found found in
          subst (λ l. IsSet clauses given l) was.2.is
          (base_set clauses trail given is n was.0 was.2.step (omega arith) was.2.found (omega arith)))
    ] in
    cases s.reason refl
