-- What a checker keeps, and what it answers.
use Rattle.std.proofs.Common.{◌≡◌, ℕ, ◌≤◌, Bool, true, false, inl, inr, List, [], ◌∷◌, ◌++◌, map, Some, Result, Ok, Err, OnOk, IfOk, IfErr, IsTrue, refl, sym, arith, subst, ap, length, ◌↔◌}
use Rattle.std.specs.List.{Contains, slice_get}
use Rattle.std.proofs.lemmas.Bool.{cases_lt}
use Rattle.std.proofs.lemmas.List.Elements.{Contains-append_left}
use Rattle.cs_base.proofs.ListLemmas.{at_push}
use Rattle.cs_base.specs.declared.formula.Lit.{Lit}
use Rattle.cs_base.specs.declared.formula.Clause.{Clause}
use Rattle.cs_base.specs.Derivations.{negated, MeetsConflict, IsRup}
use Rattle.cs_base.proofs.RupLemmas.{AreIn, set_grows, conflict_grows}
use Rattle.std.specs.declared.alloc.AllocError.{AllocError}
use Rattle.cs_rup.specs.declared.error.Stop.{Stop}
use Rattle.cs_rup.specs.declared.error.Stop.TheVariants.{Conflict, NoMemory}
use Rattle.cs_rup.specs.declared.trail.Trail.{Trail}
use Rattle.cs_rup.specs.declared.store.Store.{Store}
use Rattle.cs_rup.specs.Settings.{Setting, setting_of, is_true, is_false, AllFalse, IsOpen, IsAlike}
use Rattle.cs_rup.specs.Stores.{AreListed, KeepsWatches, AllWatched, WatchedBelow, IsRewatched}
use Rattle.cs_rup.specs.Trails.{IsSound, Explains, set_by, Grows, IsUndone, Waits, AllWait}
use Rattle.cs_rup.specs.Checkers.{IsSettled, Settles, IsKept, Answers}
use Rattle.cs_rup.proofs.Lists.{not_in_empty, mapped}
use Rattle.cs_rup.proofs.Stores.{watching_free, rewatched_same}
use Rattle.cs_rup.proofs.Trails.{waits_grown, watched_waits, watched_rewatched, no_conflict}

none_more : (given : List Lit) → AreIn [] given
none_more given lit has = absurd (not_in_empty lit has)

same_clauses : (clauses : List Clause) → AreIn clauses clauses
same_clauses clauses clause has = has

-- a conflict without anything given is one under any line
pub conflict_rup : (clauses : List Clause) (line : Clause) → MeetsConflict clauses [] → IsRup clauses line
conflict_rup clauses line conflict =
    conflict_grows clauses clauses (same_clauses clauses) [] (map negated line.lits) (none_more (map negated line.lits)) conflict

-- what follows where nothing is given follows whatever is given
pub sound_given : (clauses : List Clause) (given : List Lit) (s : Setting) → IsSound clauses [] s → IsSound clauses given s
sound_given clauses given s sound lit is =
    set_grows clauses clauses (same_clauses clauses) [] given (none_more given) lit (sound lit is)

-- ---- a setting under which the same literals are true

module _ (s t : Setting) (alike : IsAlike s t) where
  pub settled_alike : (store : Store) (seen : ℕ) → IsSettled store s seen → IsSettled store t seen
  settled_alike store seen is = record {
    sound = λ lit true'. is.sound lit (alike.back lit true');
    watched = λ i clause below found. elim (is.watched i clause below found) [
      | inl has ↦ inl (record { lit = has.lit; among = has.among; is = alike.there has.lit has.is })
      | inr watching ↦ inr (watching_free (IsOpen s) (IsOpen t) store i clause.lits
          (λ lit open' false'. open' (alike.back (negated lit) false')) watching)
    ];
  }

-- what propagation has set is taken back
pub undone_alike : (start end undone : Trail) → start.lits.items ≡ [] → Grows start end → IsUndone end undone
    → undone.lits.items ≡ [] → IsAlike (set_by start) (set_by undone)
undone_alike start end undone empty grows undoes emptied =
    let none : length start.lits.items ≡ 0 = ap length empty in
    let left : length undone.lits.items ≡ 0 = ap length emptied in
    record {
      there = λ t is. undoes.stays t (grows.stays t is)
          (λ i lit later found same. grows.unset i lit (omega arith) found t same is);
      back = λ t is.
          let was = undoes.alone t is in
          elim (grows.fresh t was.0) [
            | inl before ↦ before
            | inr put ↦ absurd (was.1 put.0 t (omega arith) put.2 refl)
          ];
    }

pub kept_undone : (old new : Store) (refuted : Bool) (start end undone : Trail) (seen : ℕ) → refuted ≡ false
    → IsKept old refuted start seen → AreListed new → IsRewatched (set_by start) old new → Grows start end
    → IsUndone end undone → undone.lits.items ≡ [] → IsKept new refuted undone seen
kept_undone old new refuted start end undone seen open' is listed rewatched grows undoes emptied =
    let was : IsSettled old (set_by start) seen = subst (λ r. Settles old r (set_by start) seen) open' is.settles in
    let settled : IsSettled new (set_by start) seen = record {
      sound = subst (λ cs. IsSound cs [] (set_by start)) (sym rewatched.clauses) was.sound;
      watched = watched_rewatched (set_by start) old new seen rewatched was.watched;
    } in
    let alike = settled_alike (set_by start) (set_by undone) (undone_alike start end undone is.empty grows undoes emptied)
    new seen settled in
    record {
      listed = listed;
      settles = subst (λ r. Settles new r (set_by undone) seen) (sym open') alike;
      within = subst (λ cs. seen ≤ length cs) (sym rewatched.clauses) is.within;
      empty = emptied;
    }

-- what propagation has set where nothing is given is kept
pub kept_settled : (old new : Store) (refuted : Bool) (start end kept : Trail) (seen all : ℕ) → refuted ≡ false
    → IsKept old refuted start seen → AreListed new → IsRewatched (set_by start) old new → AllWatched (set_by end) new
    → (IsSound old.clauses [] (set_by start) → IsSound old.clauses [] (set_by end)) → kept.values ≡ end.values
    → kept.lits.items ≡ [] → all ≡ length new.clauses → IsKept new refuted kept all
kept_settled old new refuted start end kept seen all open' is listed rewatched watched sound values emptied whole =
    let was : IsSettled old (set_by start) seen = subst (λ r. Settles old r (set_by start) seen) open' is.settles in
    let settled : IsSettled new (setting_of end.values) all = record {
      sound = subst (λ cs. IsSound cs [] (set_by end)) (sym rewatched.clauses) (sound was.sound);
      watched = λ i clause below found. watched i clause found;
    } in
    record {
      listed = listed;
      settles = subst (λ r. Settles new r (set_by kept) all) (sym open')
          (subst (λ values. IsSettled new (setting_of values) all) (sym values) settled);
      within = omega arith;
      empty = emptied;
    }

-- propagation meets a conflict where nothing is given
pub kept_refuted : (old new : Store) (refuted : Bool) (start undone : Trail) (seen : ℕ) → refuted ≡ false
    → IsKept old refuted start seen → AreListed new → new.clauses ≡ old.clauses
    → (IsSound old.clauses [] (set_by start) → MeetsConflict old.clauses []) → undone.lits.items ≡ []
    → IsKept new true undone seen
kept_refuted old new refuted start undone seen open' is listed same conflict emptied =
    let was : IsSettled old (set_by start) seen = subst (λ r. Settles old r (set_by start) seen) open' is.settles in
    record {
      listed = listed;
      settles = subst (λ cs. MeetsConflict cs []) (sym same) (conflict was.sound);
      within = subst (λ cs. seen ≤ length cs) (sym same) is.within;
      empty = emptied;
    }

-- ---- the start of propagation

pub all_wait : (a b : Store) (seen : ℕ) (start refuted examined : Trail) → WatchedBelow (set_by start) a seen
    → Grows start refuted → Grows refuted examined → IsRewatched (set_by refuted) a b
    → ((place : ℕ) (clause : Clause) → seen ≤ place → slice_get a.clauses place ≡ Some clause
    → Waits examined 0 b place clause.lits)
    → AllWait examined 0 b
all_wait a b seen start refuted examined watched first then' rewatched later i clause found =
    let was = subst (λ cs. slice_get cs i ≡ Some clause) rewatched.clauses found in
    elim (cases_lt i seen) [
      | inl below ↦
          waits_grown refuted examined 0 then' (omega arith) a b i clause rewatched was
          (waits_grown start refuted 0 first (omega arith) a a i clause (rewatched_same (set_by start) a a (record { clauses = refl; watches = refl })) was
          (watched_waits start 0 a i clause.lits (watched i clause below was)))
      | inr above ↦ later i clause above was
    ]

-- ---- one clause more

kept_clauses : (clauses : List Clause) (new : Clause) → AreIn clauses (clauses ++ new ∷ [])
kept_clauses clauses new clause has = Contains-append_left clauses (new ∷ []) clause has

pub settles_more : (old new : Store) (clause : Clause) (refuted : Bool) (s : Setting) (seen : ℕ) → seen ≤ length old.clauses
    → new.clauses ≡ old.clauses ++ clause ∷ [] → KeepsWatches old new → Settles old refuted s seen → Settles new refuted s seen
settles_more old new clause true s seen within more keeps conflict =
    subst (λ cs. MeetsConflict cs []) (sym more)
    (conflict_grows old.clauses (old.clauses ++ clause ∷ []) (kept_clauses old.clauses clause) [] [] (none_more []) conflict)
settles_more old new clause false s seen within more keeps is = record {
  sound = subst (λ cs. IsSound cs [] s) (sym more)
      (λ lit true'. set_grows old.clauses (old.clauses ++ clause ∷ []) (kept_clauses old.clauses clause) [] [] (none_more []) lit
      (is.sound lit true'));
  watched = λ i c below found. elim (at_push old.clauses clause i c (subst (λ cs. slice_get cs i ≡ Some c) more found)) [
    | inl before ↦ elim (is.watched i c below before) [
      | inl has ↦ inl has
      | inr watching ↦ inr (record {
        watch = watching.watch;
        found = keeps i watching.watch watching.found;
        pair = watching.pair;
      })
    ]
    | inr last ↦ let end = last.0 in absurd (omega arith)
  ];
}

pub settles_same : (old new : Store) (refuted : Bool) (s : Setting) (seen : ℕ) → new.clauses ≡ old.clauses
    → KeepsWatches old new → Settles old refuted s seen → Settles new refuted s seen
settles_same old new true s seen same keeps conflict = subst (λ cs. MeetsConflict cs []) (sym same) conflict
settles_same old new false s seen same keeps is = record {
  sound = subst (λ cs. IsSound cs [] s) (sym same) is.sound;
  watched = λ i c below found. elim (is.watched i c below (subst (λ cs. slice_get cs i ≡ Some c) same found)) [
    | inl has ↦ inl has
    | inr watching ↦ inr (record {
      watch = watching.watch;
      found = keeps i watching.watch watching.found;
      pair = watching.pair;
    })
  ];
}

-- ---- the end of propagation

-- a line under which propagation comes to an end without a conflict isn't RUP
pub not_rup : (store : Store) (line : Clause) (s : Setting) → AllWatched s store
    → ((lit : Lit) → Contains line.lits lit → is_false s lit ≡ true) → IsRup store.clauses line → ⊥
not_rup store line s watched refuted =
    no_conflict store (map negated line.lits) s watched (λ lit has. mapped (λ t. is_true s t ≡ true) negated line.lits refuted lit has)

-- what is answered of a line
pub rup_answer : (clauses : List Clause) (store : Store) (line : Clause) (start end : Setting)
    (stop : Result (Unit {0}) Stop) (answer : Result Bool AllocError) → store.clauses ≡ clauses → IsSound clauses [] start
    → OnOk stop (AllWatched end store)
    → OnOk stop (AllFalse end line.lits)
    → IfErr stop (λ s. IsSound clauses [] start → Explains clauses (map negated line.lits) s) → Answers stop answer
    → IfOk answer (λ yes. IsTrue yes ↔ IsRup clauses line)
rup_answer clauses store line start end (Ok _) answer same sound watched given explained is =
    rw is (λ none. cc, λ rup. absurd (not_rup store line end watched given (subst (λ cs. IsRup cs line) (sym same) rup)))
rup_answer clauses store line start end (Err Conflict) answer same sound watched given explained is =
    rw is (λ _. explained sound, λ _. refl)
rup_answer clauses store line start end (Err NoMemory) (Ok _) same sound watched given explained is = absurd is
rup_answer clauses store line start end (Err NoMemory) (Err _) same sound watched given explained is = tt
