-- The trail as it grows, is cut, and is read.
use Rattle.std.proofs.Common.{◌≡◌, ℕ, zero, suc, ◌+◌, ◌<◌, ◌≤◌, ◌⊎◌, inl, inr, List, [], ◌∷◌, ◌++◌, Option, Some, None, Result, Ok, Err, OnOk, OnErr, length, get_or, set, refl, sym, subst, ap, ◌∙◌, arith, append_assoc, append-nil}
use Rattle.std.specs.List.{slice_get}
use Rattle.std.proofs.lemmas.Bool.{cases_eq}
use Rattle.std.proofs.lemmas.Option.{slice_get_within}
use Rattle.std.proofs.lemmas.List.{get_or-set_same, get_or-set_other, length-set, length-append}
use Rattle.std.specs.declared.alloc.AllocError.{AllocError}
use Rattle.cs_base.proofs.ListLemmas.{at_push, at_push_new, at_push_old}
use Rattle.cs_base.specs.declared.formula.Lit.{Lit}
use Rattle.cs_sat.specs.declared.trail.Reason.TheVariants.{Decision}
use Rattle.cs_sat.specs.declared.trail.Step.{Step}
use Rattle.cs_sat.specs.declared.trail.Setting.{Setting}
use Rattle.cs_sat.specs.declared.trail.Trail.{Trail}
use Rattle.cs_sat.specs.Trails.{setting_of, unset, IsStep, IsTrail, IsLast, IsPopped, IsOff, IsSame}

-- ---- how many variables have no value

pub unset_all : (table : List (Option Setting)) → ((var : ℕ) → get_or table var None ≡ None) → unset table ≡ length table
unset_all [] none = refl
unset_all (None ∷ table) none = omega (arith, unset_all table (λ var. none (suc var)))
unset_all (Some setting ∷ table) none = let is = none zero in cc

-- one variable more without a value
pub none_more : (table : List (Option Setting)) → ((var : ℕ) → get_or table var None ≡ None) → (var : ℕ)
    → get_or (table ++ None ∷ []) var None ≡ None
none_more [] none zero = refl
none_more [] none (suc var) = refl
none_more (x ∷ table) none zero = none zero
none_more (x ∷ table) none (suc var) = none_more table (λ var. none (suc var)) var

pub unset_set : (table : List (Option Setting)) (var : ℕ) (setting : Setting) → var < length table
    → get_or table var None ≡ None → unset (set table var (Some setting)) + 1 ≡ unset table
unset_set [] var setting within none = absurd (omega arith)
unset_set (None ∷ table) zero setting within none = refl
unset_set (Some _ ∷ table) zero setting within none = cc
unset_set (None ∷ table) (suc var) setting within none =
    omega (arith, unset_set table var setting (omega arith) none)
unset_set (Some _ ∷ table) (suc var) setting within none = unset_set table var setting (omega arith) none

pub unset_unset : (table : List (Option Setting)) (var : ℕ) (setting : Setting)
    → get_or table var None ≡ Some setting → unset (set table var None) ≡ unset table + 1
unset_unset [] var setting some = cc
unset_unset (None ∷ table) zero setting some = cc
unset_unset (Some _ ∷ table) zero setting some = refl
unset_unset (None ∷ table) (suc var) setting some = omega (arith, unset_unset table var setting some)
unset_unset (Some _ ∷ table) (suc var) setting some = unset_unset table var setting some

-- a variable that has a value is in the table
pub set_within : (table : List (Option Setting)) (var : ℕ) (setting : Setting) → get_or table var None ≡ Some setting
    → var < length table
set_within [] var setting some = cc
set_within (_ ∷ table) zero setting some = omega arith
set_within (_ ∷ table) (suc var) setting some = omega (arith, set_within table var setting some)

-- ---- the trail grows and is cut

abbrev pub place_at : Option Setting → ℕ
place_at None = 0
place_at (Some setting) = setting.place

pub trail_same : (old new : Trail) → IsSame old new → IsTrail old → IsTrail new
trail_same old new same is = record {
  kept = λ i s found.
      ap (λ t. get_or t s.lit.var None) same.table ∙ is.kept i s (subst (λ xs. slice_get xs i ≡ Some s) same.steps found);
  known = λ var setting has.
      let was = is.known var setting (ap (λ t. get_or t var None) (sym same.table) ∙ has) in
      subst (λ xs. IsStep xs setting.place (record { var = var; positive = setting.positive })) (sym same.steps) was;
  decisions = λ i s found. is.decisions i s (subst (λ xs. slice_get xs i ≡ Some s) same.steps found);
  levels = λ i s found. is.levels i s (subst (λ xs. slice_get xs i ≡ Some s) same.steps found);
  order = λ i j s t below found found'. is.order i j s t below (subst (λ xs. slice_get xs i ≡ Some s) same.steps found)
      (subst (λ xs. slice_get xs j ≡ Some t) same.steps found');
  room = rw (same.steps, same.table) is.room;
}

none_some : (setting : Setting) → Some setting ≡ None → ⊥
none_some setting is = cc

pub trail_empty : (trail : Trail) → trail.steps.items ≡ [] → ((var : ℕ) → setting_of trail var ≡ None) → IsTrail trail
trail_empty trail none open' =
    let never : (i : ℕ) (s : Step) → slice_get trail.steps.items i ≡ Some s → ⊥ =
    λ i s found. let found' = subst (λ steps. slice_get steps i ≡ Some s) none found in cc in
    record {
      kept = λ i s found. absurd (never i s found);
      known = λ var setting is. absurd (none_some setting (sym is ∙ open' var));
      decisions = λ i s found. absurd (never i s found);
      levels = λ i s found. absurd (never i s found);
      order = λ i j s t below found. absurd (never i s found);
      room = let size = unset_all trail.table.items open' in let none' : length trail.steps.items ≡ 0 = ap length none in omega arith;
    }

module _ (old new : Trail) (s : Step) (is : IsTrail old) (within : s.lit.var < length old.table.items)
    (open' : setting_of old s.lit.var ≡ None) (steps : new.steps.items ≡ old.steps.items ++ s ∷ [])
    (table : new.table.items ≡ set old.table.items s.lit.var (Some (record {
      positive = s.lit.positive;
      place = length old.steps.items;
    })))
  where
    -- what was set before
    pushed_other : (var : ℕ) → (var ≡ s.lit.var → ⊥) → setting_of new var ≡ setting_of old var
    pushed_other var other = ap (λ t. get_or t var None) table ∙ get_or-set_other old.table.items s.lit.var var _ None other

    pushed_here : setting_of new s.lit.var ≡ Some (record { positive = s.lit.positive; place = length old.steps.items })
    pushed_here = ap (λ t. get_or t s.lit.var None) table ∙ get_or-set_same old.table.items s.lit.var _ None within

    pushed_at : (i : ℕ) (t : Step) → slice_get new.steps.items i ≡ Some t
        → (slice_get old.steps.items i ≡ Some t) ⊎ ((i ≡ length old.steps.items) × (t ≡ s))
    pushed_at i t found = at_push old.steps.items s i t (subst (λ xs. slice_get xs i ≡ Some t) steps found)

    pushed_old : (i : ℕ) (t : Step) → slice_get old.steps.items i ≡ Some t → slice_get new.steps.items i ≡ Some t
    pushed_old i t found =
        subst (λ xs. slice_get xs i ≡ Some t) (sym steps) (at_push_old old.steps.items s i t found)

    pushed_last : slice_get new.steps.items (length old.steps.items) ≡ Some s
    pushed_last = subst (λ xs. slice_get xs (length old.steps.items) ≡ Some s) (sym steps) (at_push_new old.steps.items s)

    pub trail_pushed : (s.reason ≡ Decision → s.level ≡ length old.steps.items + 1) → s.level ≤ length old.steps.items + 1
        → ((i : ℕ) (t : Step) → slice_get old.steps.items i ≡ Some t → t.level ≤ s.level) → IsTrail new
    trail_pushed decided low above = record {
      kept = λ i t found. elim (pushed_at i t found) [
        | inl before ↦
            let was = is.kept i t before in
            pushed_other t.lit.var (λ same. let none = subst (λ v. setting_of old v ≡ None) (sym same) open' in cc) ∙ was
        | inr (place, one) ↦
            subst (λ (t : Step). setting_of new t.lit.var ≡ Some (record { positive = t.lit.positive; place = i })) (sym one)
            (subst (λ i. setting_of new s.lit.var ≡ Some (record { positive = s.lit.positive; place = i })) (sym place) pushed_here)
      ];
      known = λ var setting has. elim (cases_eq var s.lit.var) [
        | inl same ↦
            let here : Some setting ≡ Some (record { positive = s.lit.positive; place = length old.steps.items }) =
            sym has ∙ ap (setting_of new) same ∙ pushed_here in
            let here' : setting ≡ record { positive = s.lit.positive; place = length old.steps.items } = cc in
            subst (λ (m : Setting). IsStep new.steps.items m.place (record { var = var; positive = m.positive })) (sym here')
            (record { step = s; found = pushed_last; is = subst (λ v. s.lit ≡ record { var = v; positive = s.lit.positive }) (sym same) refl })
        | inr other ↦
            let was = is.known var setting (sym (pushed_other var other) ∙ has) in
            record { step = was.step; found = pushed_old setting.place was.step was.found; is = was.is }
      ];
      decisions = λ i t found reason. elim (pushed_at i t found) [
        | inl before ↦ is.decisions i t before reason
        | inr (place, one) ↦
            let level : t.level ≡ s.level = ap (λ (x : Step). x.level) one in
            let decided' = decided (ap (λ (x : Step). x.reason) (sym one) ∙ reason) in
            omega arith
      ];
      levels = λ i t found. elim (pushed_at i t found) [
        | inl before ↦ is.levels i t before
        | inr (place, one) ↦ let level : t.level ≡ s.level = ap (λ (x : Step). x.level) one in omega arith
      ];
      order = λ i j t u below found found'. elim (pushed_at j u found') [
        | inl last ↦ elim (pushed_at i t found) [
          | inl first ↦ is.order i j t u below first last
          | inr (place, one) ↦ let within' = slice_get_within old.steps.items j u last in absurd (omega arith)
        ]
        | inr (place, one) ↦
            let level : u.level ≡ s.level = ap (λ (x : Step). x.level) one in
            elim (pushed_at i t found) [
              | inl first ↦ let under = above i t first in omega arith
              | inr (place', one') ↦ let level' : t.level ≡ s.level = ap (λ (x : Step). x.level) one' in omega arith
            ]
      ];
      room =
          let left = unset_set old.table.items s.lit.var (record {
            positive = s.lit.positive;
            place = length old.steps.items;
          }) within open' in
          let was = is.room in
          let size : length new.table.items ≡ length old.table.items = ap length table ∙ length-set old.table.items s.lit.var _ in
          let more : length new.steps.items ≡ length old.steps.items + 1 = ap length steps ∙ length-append old.steps.items (s ∷ []) in
          let fewer : unset new.table.items ≡ unset (set old.table.items s.lit.var (Some (record {
            positive = s.lit.positive;
            place = length old.steps.items;
          }))) = ap unset table in
          omega arith;
    }

module _ (old new : Trail) (s : Step) (is : IsTrail old) (steps : old.steps.items ≡ new.steps.items ++ s ∷ [])
    (table : new.table.items ≡ set old.table.items s.lit.var None)
  where
    popped_old : (i : ℕ) (t : Step) → slice_get new.steps.items i ≡ Some t → slice_get old.steps.items i ≡ Some t
    popped_old i t found = subst (λ xs. slice_get xs i ≡ Some t) (sym steps) (at_push_old new.steps.items s i t found)

    popped_last : slice_get old.steps.items (length new.steps.items) ≡ Some s
    popped_last = subst (λ xs. slice_get xs (length new.steps.items) ≡ Some s) (sym steps) (at_push_new new.steps.items s)

    popped_setting : setting_of old s.lit.var ≡ Some (record { positive = s.lit.positive; place = length new.steps.items })
    popped_setting = is.kept (length new.steps.items) s popped_last

    popped_other : (var : ℕ) → (var ≡ s.lit.var → ⊥) → setting_of new var ≡ setting_of old var
    popped_other var other = ap (λ t. get_or t var None) table ∙ get_or-set_other old.table.items s.lit.var var None None other

    popped_none : setting_of new s.lit.var ≡ None
    popped_none = ap (λ t. get_or t s.lit.var None) table
        ∙ get_or-set_same old.table.items s.lit.var None None (set_within old.table.items s.lit.var _ popped_setting)

    -- the variable of an earlier step is another one
    popped_differs : (i : ℕ) (t : Step) → slice_get new.steps.items i ≡ Some t → t.lit.var ≡ s.lit.var → ⊥
    popped_differs i t found same =
        let was = is.kept i t (popped_old i t found) in
        let last : setting_of old t.lit.var ≡ Some (record { positive = s.lit.positive; place = length new.steps.items }) =
        ap (setting_of old) same ∙ popped_setting in
        let one : i ≡ length new.steps.items = ap place_at (sym was ∙ last) in
        let within = slice_get_within new.steps.items i t found in
        omega arith

    pub trail_popped : IsTrail new
    trail_popped = record {
      kept = λ i t found. popped_other t.lit.var (popped_differs i t found) ∙ is.kept i t (popped_old i t found);
      known = λ var setting has. elim (cases_eq var s.lit.var) [
        | inl same ↦ let none : setting_of new var ≡ None = ap (setting_of new) same ∙ popped_none in cc
        | inr other ↦
            let was = is.known var setting (sym (popped_other var other) ∙ has) in
            elim (at_push new.steps.items s setting.place was.step
            (subst (λ xs. slice_get xs setting.place ≡ Some was.step) steps was.found)) [
              | inl before ↦ record { step = was.step; found = before; is = was.is }
              | inr (place, one) ↦
                  let same : s.lit.var ≡ var = ap (λ (x : Step). x.lit.var) (sym one) ∙ ap (λ (l : Lit). l.var) was.is in
                  absurd (other (sym same))
            ]
      ];
      decisions = λ i t found. is.decisions i t (popped_old i t found);
      levels = λ i t found. is.levels i t (popped_old i t found);
      order = λ i j t u below found found'. is.order i j t u below (popped_old i t found) (popped_old j u found');
      room =
          let left = unset_unset old.table.items s.lit.var _ popped_setting in
          let was = is.room in
          let size : length new.table.items ≡ length old.table.items = ap length table ∙ length-set old.table.items s.lit.var None in
          let fewer : length old.steps.items ≡ length new.steps.items + 1 = ap length steps ∙ length-append new.steps.items (s ∷ []) in
          let more : unset new.table.items ≡ unset (set old.table.items s.lit.var None) = ap unset table in
          omega arith;
    }

-- a step was put behind the others, or nothing changed
pub maybe_pushed : (old new : Trail) (s : Step) (r : Result (Unit {0}) AllocError) → IsTrail old
    → s.lit.var < length old.table.items → setting_of old s.lit.var ≡ None
    → OnOk r (new.steps.items ≡ old.steps.items ++ s ∷ [])
    → OnOk r (new.table.items ≡ set old.table.items s.lit.var (Some (record {
      positive = s.lit.positive;
      place = length old.steps.items;
    })))
    → OnErr r (IsSame old new)
    → (s.reason ≡ Decision → s.level ≡ length old.steps.items + 1) → s.level ≤ length old.steps.items + 1
    → ((i : ℕ) (t : Step) → slice_get old.steps.items i ≡ Some t → t.level ≤ s.level) → IsTrail new
maybe_pushed old new s (Ok _) is within open' steps table same decided low above =
    trail_pushed old new s is within open' steps table decided low above
maybe_pushed old new s (Err _) is within open' steps table same decided low above = trail_same old new same is

pub maybe_sized : (old new : Trail) (var : ℕ) (value : Option Setting) (r : Result (Unit {0}) AllocError)
    → OnOk r (new.table.items ≡ set old.table.items var value) → OnErr r (IsSame old new)
    → length new.table.items ≡ length old.table.items
maybe_sized old new var value (Ok _) table same = ap length table ∙ length-set old.table.items var value
maybe_sized old new var value (Err _) table same = ap length same.table

-- the last level is at most the number of steps
pub last_low : (trail : Trail) (level : ℕ) → IsTrail trail → IsLast trail.steps.items level
    → level ≤ length trail.steps.items
last_low trail level is last = elim last.one [
  | inl none ↦ omega arith
  | inr (i, s, found, same) ↦
      let within = slice_get_within trail.steps.items i s found in
      let low = is.levels i s found in
      omega arith
]

-- ---- steps of later levels are taken off

pub off_same : (level : ℕ) (steps : List Step) → IsOff level steps steps
off_same level steps = record {
  taken = [];
  is = sym (append-nil steps);
  later = λ i s found. cc;
}

later_more : (level : ℕ) (s : Step) (taken : List Step) → level < s.level
    → ((i : ℕ) (t : Step) → slice_get taken i ≡ Some t → level < t.level)
    → (i : ℕ) (t : Step) → slice_get (s ∷ taken) i ≡ Some t → level < t.level
later_more level s taken high later zero t found = let one : s ≡ t = cc in subst (λ (t : Step). level < t.level) one high
later_more level s taken high later (suc i) t found = later i t found

-- a step more is taken off, where the last level is a later one
pub off_more : (level last : ℕ) (start : List Step) (old new : Trail) → IsTrail old → IsLast old.steps.items last
    → level < last → IsPopped old.steps.items new.steps.items → IsOff level start old.steps.items
    → IsOff level start new.steps.items
off_more level last start old new is last' above popped off =
    let s = popped.step in
    let end : slice_get old.steps.items (length new.steps.items) ≡ Some s =
    subst (λ xs. slice_get xs (length new.steps.items) ≡ Some s) (sym popped.is) (at_push_new new.steps.items s) in
    let high : level < s.level = elim last'.one [
      | inl none ↦ absurd (omega arith)
      | inr (i, t, found, same) ↦
          let within = slice_get_within old.steps.items i t found in
          let size : length old.steps.items ≡ length new.steps.items + 1 =
          ap length popped.is ∙ length-append new.steps.items (s ∷ []) in
          let under = is.order i (length new.steps.items) t s (omega arith) found end in
          omega arith
    ] in
    record {
      taken = s ∷ off.taken;
      is = off.is ∙ ap (λ xs. xs ++ off.taken) popped.is ∙ append_assoc new.steps.items (s ∷ []) off.taken;
      later = later_more level s off.taken high off.later;
    }

pub last_within : (level last : ℕ) (steps : List Step) → IsLast steps last → last ≤ level → (i : ℕ) (s : Step)
    → slice_get steps i ≡ Some s → s.level ≤ level
last_within level last steps is below i s found = let high = is.above i s found in omega arith

-- the last step's variable is in the table
pub popped_within : (old : Trail) (left : List Step) (s : Step) → IsTrail old → old.steps.items ≡ left ++ s ∷ []
    → s.lit.var < length old.table.items
popped_within old left s is popped =
    let end : slice_get old.steps.items (length left) ≡ Some s =
    subst (λ xs. slice_get xs (length left) ≡ Some s) (sym popped) (at_push_new left s) in
    set_within old.table.items s.lit.var _ (is.kept (length left) s end)
