-- Steps of a search keep its state, and make the trail heavier.
use Rattle.std.proofs.Common.{◌≡◌, ℕ, zero, suc, ◌+◌, ◌-◌, ◌<◌, ◌≤◌, Bool, true, false, not, if◌then◌else◌, ◌||◌, inl, inr, List, [], ◌∷◌, ◌++◌, Option, Some, None, IfSome, length, map, get_or, refl, sym, subst, ap, ◌∙◌, arith, append_assoc, append-nil}
use Rattle.std.specs.List.{Contains, slice_get, list_any, list_all, All}
use Rattle.std.proofs.lemmas.Bool.{cases_lt}
use Rattle.std.proofs.lemmas.Option.{slice_get_within, slice_get_read}
use Rattle.std.proofs.lemmas.List.{length-append}
use Rattle.std.proofs.lemmas.List.Elements.{All-contains}
use Rattle.cs_base.proofs.ListLemmas.{at_contains, contains_at, at_push_new}
use Rattle.cs_base.specs.declared.formula.Lit.{Lit}
use Rattle.cs_base.specs.declared.formula.Clause.{Clause}
use Rattle.cs_base.specs.declared.formula.Formula.{Formula}
use Rattle.cs_base.specs.Derivations.{negated, IsSet, MeetsConflict, IsRup, AreRup, EndsWithEmpty, IsDerivation}
use Rattle.cs_base.specs.Formulas.{assignment_of, lit_value, clause_value, IsInRange}
use Rattle.cs_sat.specs.declared.trail.Reason.TheVariants.{Propagated}
use Rattle.cs_sat.specs.declared.trail.Step.{Step}
use Rattle.cs_sat.specs.declared.trail.Setting.{Setting}
use Rattle.cs_sat.specs.declared.trail.Trail.{Trail}
use Rattle.cs_sat.specs.declared.marks.Marks.{Marks}
use Rattle.cs_sat.specs.declared.analyse.Learned.{Learned}
use Rattle.cs_sat.specs.declared.search.Search.{Search}
use Rattle.cs_sat.specs.declared.search.End.{End}
use Rattle.cs_sat.specs.Trails.{setting_of, has_sign, is_true, IsStep, IsTrail, IsLast, IsImplied, IsCut, Grows, decision}
use Rattle.cs_sat.specs.Weights.{power, weight}
use Rattle.cs_sat.specs.Reasons.{IsSetBefore, IsReason, IsOver, IsConflict, AreWithin}
use Rattle.cs_sat.specs.Analyses.{IsClear, IsLearned}
use Rattle.cs_sat.specs.Searches.{IsSearch, weight_of, GoesOn, IsPropagated, IsStepped, AreAllSet, AreAllTrue}
use Rattle.cs_sat.specs.Verdicts.{IsModelOf}
use Rattle.cs_sat.proofs.Trails.{place_at}
use Rattle.cs_sat.proofs.Weights.{weight_bound, weight_push, weight_more, weight_rises}
use Rattle.cs_sat.proofs.Reasons.{at_append, at_append_cases, step_within, over_pushed, over_cut, over_more, base_set}
use Rattle.cs_sat.proofs.Analyses.{same_step}

-- ---- derivations

-- one line more
pub rup_push : (clauses lines : List Clause) (line : Clause) → AreRup clauses lines → IsRup (clauses ++ lines) line
    → AreRup clauses (lines ++ line ∷ [])
rup_push clauses [] line each rup = (subst (λ cs. IsRup cs line) (append-nil clauses) rup, tt)
rup_push clauses (l ∷ lines) line each rup = (
  each.0,
  rup_push (clauses ++ l ∷ []) lines line each.1
      (subst (λ cs. IsRup cs line) (sym (append_assoc clauses (l ∷ []) lines)) rup),
)

pub empty_ends : (lines : List Clause) (line : Clause) → line.lits ≡ [] → EndsWithEmpty (lines ++ line ∷ [])
empty_ends [] line empty = empty
empty_ends (l ∷ []) line empty = empty
empty_ends (l ∷ m ∷ lines) line empty = empty_ends (m ∷ lines) line empty

pub derived : (formula : Formula) (old new : List Clause) (line : Clause) → AreRup formula.clauses old
    → IsRup (formula.clauses ++ old) (record { lits = [] }) → line.lits ≡ [] → new ≡ old ++ line ∷ []
    → IsDerivation formula new
derived formula old new line each rup empty pushed =
    let rup' : IsRup (formula.clauses ++ old) line =
    subst (λ (lits : List Lit). MeetsConflict (formula.clauses ++ old) (map negated lits)) (sym empty) rup in
    subst (λ lines. IsDerivation formula lines) (sym pushed) (record {
      each = rup_push formula.clauses old line each rup';
      ends = empty_ends old line empty;
    })

-- ---- a conflict without decisions

-- the empty clause is falsified
pub conflict_empty : (clauses : List Clause) (clause : Clause) (number : ℕ) → slice_get clauses number ≡ Some clause
    → ((lit : Lit) → Contains clause.lits lit → ⊥) → IsRup clauses (record { lits = [] })
conflict_empty clauses clause number found none = inl (record {
  clause = clause;
  among = at_contains clauses number clause found;
  false_all = λ lit has. absurd (none lit has);
})

-- all literals became false at level 0
pub conflict_low : (clauses : List Clause) (trail : Trail) (clause : Clause) (number top : ℕ) (s : Step)
    → IsOver clauses trail → slice_get clauses number ≡ Some clause → slice_get trail.steps.items top ≡ Some s
    → s.level ≡ 0
    → ((lit : Lit) → Contains clause.lits lit → IsSetBefore trail.steps.items (top + 1) (negated lit))
    → IsRup clauses (record { lits = [] })
conflict_low clauses trail clause number top s over found at low before = inl (record {
  clause = clause;
  among = at_contains clauses number clause found;
  false_all = λ lit has.
      let was = before lit has in
      let early = was.1 in
      let order = over.sound.order was.0 top was.2.step s (omega arith) was.2.found at in
      subst (λ l. IsSet clauses [] l) was.2.is
      (base_set clauses trail [] over (was.0 + 1) was.0 was.2.step (omega arith) was.2.found (omega arith));
})

-- ---- a search begins

nothing : (i : ℕ) (s : Step) → slice_get [] i ≡ Some s → ⊥
nothing i s found = let no : None ≡ Some s = found in cc

pub range_at : (formula : Formula) (clause : Clause) → IsInRange formula → Contains formula.clauses clause → (lit : Lit)
    → Contains clause.lits lit → (1 ≤ lit.var) × (lit.var ≤ formula.vars)
range_at formula clause range has lit among =
    let IsInside : Lit → Type 0 = λ l. (1 ≤ l.var) × (l.var ≤ formula.vars) in
    All-contains IsInside clause.lits lit
    (All-contains (λ (c : Clause). All IsInside c.lits) formula.clauses clause range has) among

clear_same : (old new : Trail) (before after : Marks) → length new.table.items ≡ length old.table.items
    → after.marked.items ≡ before.marked.items → IsClear old before → IsClear new after
clear_same old new before after size marks is = record {
  size = ap length marks ∙ is.size ∙ sym size;
  none = λ place. ap (λ xs. get_or xs place false) marks ∙ is.none place;
}

last_most : (level last : ℕ) (steps : List Step) → IsLast steps last
    → ((i : ℕ) (s : Step) → slice_get steps i ≡ Some s → s.level ≤ level) → last ≤ level
last_most level last steps is within = elim is.one [
  | inl none ↦ omega arith
  | inr (i, s, found, same) ↦ let low = within i s found in omega arith
]

pub search_begins : (formula : Formula) (search : Search) → IsInRange formula → IsTrail search.trail
    → length search.trail.table.items ≡ formula.vars + 1 → search.trail.steps.items ≡ [] → search.store.lines ≡ []
    → length search.marks.marked.items ≡ formula.vars + 1
    → ((place : ℕ) → get_or search.marks.marked.items place false ≡ false) → IsSearch formula search
search_begins formula search range trail size steps lines marks none = record {
  over = record {
    sound = trail;
    reasons = λ i s number found. let found' = subst (λ xs. slice_get xs i ≡ Some s) steps found in absurd (nothing i s found');
    within = λ clause has lit among.
        let has' = subst (λ cs. Contains cs clause) (ap (λ ls. formula.clauses ++ ls) lines ∙ append-nil formula.clauses) has in
        let in_range = range_at formula clause range has' lit among in
        let high = in_range.1 in
        omega arith;
  };
  each = subst (λ ls. AreRup formula.clauses ls) (sym lines) tt;
  size = size;
  clear = record { size = marks ∙ sym size; none = none };
}

-- ---- a decision

pub decided_goes_on : (formula : Formula) (old new : Search) (lit : Lit) → IsSearch formula old → IsTrail new.trail
    → length new.trail.table.items ≡ length old.trail.table.items
    → new.trail.steps.items ≡ old.trail.steps.items ++ decision old.trail lit ∷ [] → new.store.lines ≡ old.store.lines
    → new.marks.marked.items ≡ old.marks.marked.items → GoesOn formula old new
decided_goes_on formula old new lit is trail size steps lines marks = record {
  kept = record {
    over = subst (λ ls. IsOver (formula.clauses ++ ls) new.trail) (sym lines)
        (over_pushed (formula.clauses ++ old.store.lines) old.trail new.trail (decision old.trail lit) trail size steps
        (λ number why. cc) is.over);
    each = subst (λ ls. AreRup formula.clauses ls) (sym lines) is.each;
    size = size ∙ is.size;
    clear = clear_same old.trail new.trail old.marks new.marks size marks is.clear;
  };
  rises = subst (λ xs. weight (formula.vars + 1) old.trail.steps.items < weight (formula.vars + 1) xs) (sym steps)
      (weight_push (formula.vars + 1) old.trail.steps.items (decision old.trail lit));
}

-- ---- a learned clause

-- after the return the first unique implication point's variable has no value
point_unset : (learned : Learned) (old cut : Trail) (at : ℕ) (point : IsStep old.steps.items at (negated learned.first))
    → learned.level < point.step.level → IsTrail old → IsTrail cut
    → IsCut learned.level old.steps.items cut.steps.items → setting_of cut learned.first.var ≡ None
point_unset learned old cut at point below is cut_is off =
    let cases : (value : Option Setting) → setting_of cut learned.first.var ≡ value → setting_of cut learned.first.var ≡ None =
    λ value. elim value as (λ value. setting_of cut learned.first.var ≡ value → setting_of cut learned.first.var ≡ None) [
      | None ↦ λ none. none
      | Some setting ↦ λ some.
          let step = cut_is.known learned.first.var setting some in
          let there : slice_get old.steps.items setting.place ≡ Some step.step =
          subst (λ xs. slice_get xs setting.place ≡ Some step.step) (sym off.off.is)
          (at_append cut.steps.items off.off.taken setting.place step.step step.found) in
          let var : step.step.lit.var ≡ point.step.lit.var =
          ap (λ (l : Lit). l.var) step.is ∙ ap (λ (l : Lit). l.var) (sym point.is) in
          let one : setting.place ≡ at =
          ap place_at (sym (is.kept setting.place step.step there) ∙ ap (setting_of old) var ∙ is.kept at point.step point.found) in
          let same = same_step old.steps.items at step.step point.step
          (subst (λ p. slice_get old.steps.items p ≡ Some step.step) one there) point.found in
          let level = ap (λ (x : Step). x.level) same in
          let low = off.within setting.place step.step step.found in
          absurd (omega arith)
    ] in
    cases (setting_of cut learned.first.var) refl

pub first_unset : (clauses : List Clause) (learned : Learned) (old cut : Trail) → IsLearned clauses old learned → IsTrail old
    → IsTrail cut → IsCut learned.level old.steps.items cut.steps.items → setting_of cut learned.first.var ≡ None
first_unset clauses learned old cut is old_is cut_is off =
    point_unset learned old cut is.at is.point is.below old_is cut_is off

pub first_within : (clauses : List Clause) (learned : Learned) (old : Trail) → IsLearned clauses old learned → IsTrail old
    → learned.first.var < length old.table.items
first_within clauses learned old is old_is = step_within old is.at (negated learned.first) old_is is.point

-- all literals of the clause have a place in the table
learned_within : (clauses : List Clause) (learned : Learned) (old : Trail) → IsLearned clauses old learned → IsTrail old
    → AreWithin (length old.table.items) learned.lits.items
learned_within clauses learned old is old_is lit has = elim (is.parts lit has) [
  | inl first ↦
      let within = first_within clauses learned old is old_is in
      let var = ap (λ (l : Lit). l.var) first in
      omega arith
  | inr (place, step, low) ↦ step_within old place (negated lit) old_is step
]

-- after the return the others are still false
others_false : (clauses : List Clause) (learned : Learned) (old cut : Trail) → IsLearned clauses old learned
    → IsCut learned.level old.steps.items cut.steps.items → (lit : Lit) → Contains learned.lits.items lit
    → (lit ≡ learned.first → ⊥) → IsSetBefore cut.steps.items (length cut.steps.items) (negated lit)
others_false clauses learned old cut is off lit has differ = elim (is.parts lit has) [
  | inl first ↦ absurd (differ first)
  | inr (place, step, low) ↦
      elim (at_append_cases cut.steps.items off.off.taken place step.step
      (subst (λ xs. slice_get xs place ≡ Some step.step) off.off.is step.found)) [
        | inl kept ↦ (
          place,
          slice_get_within cut.steps.items place step.step kept,
          record {
            step = step.step;
            found = kept;
            is = step.is;
          },
        )
        | inr (j, at, taken) ↦ let high = off.off.later j step.step taken in absurd (omega arith)
      ]
]

-- the learned clause is put behind the others after the return, and sets its first literal
pub learned_goes_on : (formula : Formula) (old new : Search) (cut : Trail) (learned : Learned) (line : Clause) (number : ℕ)
    → IsSearch formula old → IsLearned (formula.clauses ++ old.store.lines) old.trail learned
    → line.lits ≡ learned.lits.items → IsTrail cut → length cut.table.items ≡ length old.trail.table.items
    → IsCut learned.level old.trail.steps.items cut.steps.items → new.store.lines ≡ old.store.lines ++ line ∷ []
    → number ≡ length formula.clauses + length old.store.lines → IsTrail new.trail
    → length new.trail.table.items ≡ length cut.table.items → IsImplied cut new.trail learned.first (Propagated number)
    → new.marks.marked.items ≡ old.marks.marked.items → GoesOn formula old new
learned_goes_on formula old new cut learned line number is learned_is same cut_is cut_size off lines at new_is new_size implied marks =
    let all = formula.clauses ++ old.store.lines in
    let steps = old.trail.steps.items in
    let more : all ++ line ∷ [] ≡ formula.clauses ++ new.store.lines =
    append_assoc formula.clauses old.store.lines (line ∷ []) ∙ ap (λ ls. formula.clauses ++ ls) (sym lines) in
    let within : AreWithin (length cut.table.items) line.lits =
    λ lit has.
    let low = learned_within all learned old.trail learned_is is.over.sound lit (subst (λ xs. Contains xs lit) same has) in
    omega arith in
    let over = over_more all line cut within (over_cut all learned.level old.trail cut cut_is cut_size off is.over) in
    let s : Step = record { lit = learned.first; level = implied.level; reason = Propagated number } in
    let here : slice_get (all ++ line ∷ []) number ≡ Some line =
    subst (λ k. slice_get (all ++ line ∷ []) k ≡ Some line) (length-append formula.clauses old.store.lines ∙ sym at) (at_push_new all line) in
    let reason : IsReason (all ++ line ∷ []) cut.steps.items (length cut.steps.items) learned.first number = record {
      clause = line;
      found = here;
      among = subst (λ xs. Contains xs learned.first) (sym same) learned_is.has;
      others = λ lit has differ.
          others_false all learned old.trail cut learned_is off lit (subst (λ xs. Contains xs lit) same has) differ;
    } in
    let rup : IsRup all line =
    subst (λ (lits : List Lit). MeetsConflict all (map negated lits)) (sym same) learned_is.rup in
    let low : implied.level ≤ learned.level = last_most learned.level implied.level cut.steps.items implied.last off.within in
    let room = is.over.sound.room in
    let size = is.size in
    let start = is.over.sound.levels learned_is.at learned_is.point.step learned_is.point.found in
    let place = slice_get_within steps learned_is.at learned_is.point.step learned_is.point.found in
    let below = learned_is.below in
    let size' : length steps ≤ formula.vars + 1 = omega arith in
    record {
      kept = record {
        over = subst (λ cs. IsOver cs new.trail) more
            (over_pushed (all ++ line ∷ []) cut new.trail s new_is new_size implied.steps
            (λ other why.
            let one : number ≡ other = cc in
            subst (λ k. IsReason (all ++ line ∷ []) cut.steps.items (length cut.steps.items) learned.first k) one reason)
            over);
        each = subst (λ ls. AreRup formula.clauses ls) (sym lines) (rup_push formula.clauses old.store.lines line is.each rup);
        size = new_size ∙ cut_size ∙ is.size;
        clear = clear_same old.trail new.trail old.marks new.marks (new_size ∙ cut_size) marks is.clear;
      };
      rises =
          let n = formula.vars + 1 in
          let up : weight n (cut.steps.items ++ off.off.taken) < weight n (cut.steps.items ++ s ∷ []) =
          weight_rises n learned.level cut.steps.items off.off.taken s (omega arith) low
          (subst (λ xs. length xs ≤ n) off.off.is size') off.off.later in
          let before : weight n steps < weight n (cut.steps.items ++ s ∷ []) =
          subst (λ xs. weight n xs < weight n (cut.steps.items ++ s ∷ [])) (sym off.off.is) up in
          subst (λ xs. weight n steps < weight n xs) (sym implied.steps) before;
    }

-- ---- restarts

pub restarted : (formula : Formula) (old new : Search) → IsSearch formula old → IsTrail new.trail
    → length new.trail.table.items ≡ length old.trail.table.items → IsCut 0 old.trail.steps.items new.trail.steps.items
    → new.store.lines ≡ old.store.lines → new.marks.marked.items ≡ old.marks.marked.items → IsSearch formula new
restarted formula old new is new_is size off lines marks = record {
  over = subst (λ ls. IsOver (formula.clauses ++ ls) new.trail) (sym lines)
      (over_cut (formula.clauses ++ old.store.lines) 0 old.trail new.trail new_is size off is.over);
  each = subst (λ ls. AreRup formula.clauses ls) (sym lines) is.each;
  size = size ∙ is.size;
  clear = clear_same old.trail new.trail old.marks new.marks size marks is.clear;
}

-- ---- propagation

pub propagated : (formula : Formula) (old new : Search) (found : Option ℕ) (base : List Clause) → base ≡ formula.clauses
    → IsSearch formula old → IsOver (base ++ old.store.lines) new.trail → new.store.lines ≡ old.store.lines
    → Grows old.trail new.trail → new.marks.marked.items ≡ old.marks.marked.items
    → IfSome found (IsConflict (base ++ old.store.lines) new.trail) → IsPropagated formula old new found
propagated formula old new found base same is over lines grows marks conflict =
    let all : base ++ old.store.lines ≡ formula.clauses ++ new.store.lines =
    ap (λ cs. cs ++ old.store.lines) same ∙ ap (λ ls. formula.clauses ++ ls) (sym lines) in
    record {
      kept = record {
        over = subst (λ cs. IsOver cs new.trail) all over;
        each = subst (λ ls. AreRup formula.clauses ls) (sym lines) is.each;
        size = grows.size ∙ is.size;
        clear = clear_same old.trail new.trail old.marks new.marks grows.size marks is.clear;
      };
      grows = grows;
      conflict = subst (λ cs. IfSome found (IsConflict cs new.trail)) all conflict;
    }

-- what goes on after propagation goes on before it
pub goes_on_after : (formula : Formula) (old mid new : Search) → Grows old.trail mid.trail → GoesOn formula mid new
    → GoesOn formula old new
goes_on_after formula old mid new grows goes = record {
  kept = goes.kept;
  rises =
      let n = formula.vars + 1 in
      let up : weight n old.trail.steps.items ≤ weight n mid.trail.steps.items =
      subst (λ xs. weight n old.trail.steps.items ≤ weight n xs) (sym grows.is) (weight_more n old.trail.steps.items grows.more) in
      let more = goes.rises in
      omega arith;
}

pub stepped_after : (formula : Formula) (old mid new : Search) (end : Option End) → Grows old.trail mid.trail
    → IsStepped formula mid new end → IsStepped formula old new end
stepped_after formula old mid new None grows goes = goes_on_after formula old mid new grows goes
stepped_after formula old mid new (Some end) grows ends = ends

-- the trail can't grow heavier for ever
pub light : (formula : Formula) (search : Search) → IsSearch formula search
    → weight_of formula search < power (formula.vars + 1) (formula.vars + 1 + 1)
light formula search is =
    let room = is.over.sound.room in
    let size = is.size in
    weight_bound (formula.vars + 1) search.trail.steps.items (omega arith)

-- ---- models

value_of : (b : Bool) → (if b then false else not false) ≡ true → not (if b then true else not true) ≡ true
value_of true is = cc
value_of false is = refl

or_true : (a b : Bool) → b ≡ true → (a || b) ≡ true
or_true true b is = refl
or_true false b is = is

two_signs : (a b : Bool) → (if a then b else not b) ≡ false → (if a then not b else not (not b)) ≡ true
two_signs true true fails = cc
two_signs true false fails = refl
two_signs false true fails = refl
two_signs false false fails = cc

-- a value that has not this sign has the other
other_sign : (value : Option Setting) (setting : Setting) (sign : Bool) → value ≡ Some setting → has_sign value sign ≡ false
    → has_sign value (not sign) ≡ true
other_sign None setting sign some fails = cc
other_sign (Some s) setting sign some fails = two_signs s.positive sign fails

signed_value : (value : Option Setting) (sign : Bool) → has_sign value sign ≡ true
    → (if sign then has_sign value true else not (has_sign value true)) ≡ true
signed_value None sign is = cc
signed_value (Some setting) true is = is
signed_value (Some setting) false is = value_of setting.positive is

any_of : {X : Type 0} (test : X → Bool) (xs : List X) (i : ℕ) (x : X) → slice_get xs i ≡ Some x → test x ≡ true
    → list_any test xs ≡ true
any_of test [] i x found is = cc
any_of test (y ∷ xs) zero x found is = let one : y ≡ x = cc in let here : test y ≡ true = ap test one ∙ is in rw here
any_of test (y ∷ xs) (suc i) x found is = or_true (test y) (list_any test xs) (any_of test xs i x found is)

all_of : {X : Type 0} (test : X → Bool) (xs : List X)
    → ((i : ℕ) (x : X) → slice_get xs i ≡ Some x → test x ≡ true) → list_all test xs ≡ true
all_of test [] each = refl
all_of test (y ∷ xs) each =
    let here : test y ≡ true = each zero y refl in
    let rest : list_all test xs ≡ true = all_of test xs (λ i x found. each (suc i) x found) in
    rw (here, rest)

pub model_of : (formula : Formula) (trail : Trail) (bits : List Bool) → IsInRange formula → AreAllTrue formula trail
    → length bits ≡ formula.vars
    → ((i : ℕ) → i < formula.vars → get_or bits i false ≡ has_sign (setting_of trail (i + 1)) true)
    → IsModelOf formula bits
model_of formula trail bits range holds count each = record {
  count = count;
  model = all_of (clause_value (assignment_of bits)) formula.clauses (λ i clause found.
      let has = at_contains formula.clauses i clause found in
      let is = holds clause has in
      let in_range = range_at formula clause range has is.lit is.among in
      let low = in_range.0 in
      let high = in_range.1 in
      let at = contains_at clause.lits is.lit is.among in
      let back : is.lit.var - 1 + 1 ≡ is.lit.var = omega arith in
      let value : get_or bits (is.lit.var - 1) false ≡ has_sign (setting_of trail is.lit.var) true =
      each (is.lit.var - 1) (omega arith) ∙ ap (λ v. has_sign (setting_of trail v) true) back in
      any_of (lit_value (assignment_of bits)) clause.lits at.0 is.lit at.1
      (ap (λ b. if is.lit.positive then b else not b) value
      ∙ signed_value (setting_of trail is.lit.var) is.lit.positive is.is));
}

-- ---- a clause without a true literal

pub conflict_all_set : (formula : Formula) (search : Search) (number : ℕ) (clause : Clause) → IsInRange formula
    → IsSearch formula search → AreAllSet search.trail → slice_get formula.clauses number ≡ Some clause
    → ((lit : Lit) → Contains clause.lits lit → is_true search.trail lit ≡ false)
    → IsConflict (formula.clauses ++ search.store.lines) search.trail number
conflict_all_set formula search number clause range is all found none = record {
  clause = clause;
  found = at_append formula.clauses search.store.lines number clause found;
  falsified = λ lit has.
      let in_range = range_at formula clause range (at_contains formula.clauses number clause found) lit has in
      let low = in_range.0 in
      let high = in_range.1 in
      let size = is.size in
      let set' = all lit.var low (omega arith) in
      other_sign (setting_of search.trail lit.var) set'.0 lit.positive set'.1 (none lit has);
}

-- ---- variables without values

pub some_setting : (value : Option Setting) → (value ≡ None → ⊥) → (setting : Setting) × (value ≡ Some setting)
some_setting None some = absurd (some refl)
some_setting (Some setting) some = (setting, refl)

-- one place more of a list
pub places_more : {A : Type 0} (P : A → Type 0) (xs : List A) (n : ℕ) (x : A) → slice_get xs n ≡ Some x
    → ((i : ℕ) (y : A) → i < n → slice_get xs i ≡ Some y → P y) → P x → (i : ℕ) (y : A) → i < n + 1
    → slice_get xs i ≡ Some y → P y
places_more P xs n x here before holds i y below found = elim (cases_lt i n) [
  | inl lt ↦ before i y lt found
  | inr ge ↦
      let same : n ≡ i = omega arith in
      let found' : slice_get xs i ≡ Some x = subst (λ k. slice_get xs k ≡ Some x) same here in
      let one : x ≡ y = cc in
      subst P one holds
]

-- what is read at a place of a list
pub read_at : {A : Type 0} (xs ys : List A) (i : ℕ) (x : A) → xs ≡ ys → i < length xs → x ≡ get_or xs i x
    → slice_get ys i ≡ Some x
read_at xs ys i x same within is = subst (λ l. slice_get l i ≡ Some x) same (slice_get_read xs (length xs) i x refl within is)
