-- What propagation keeps, and what it has at its end.
use Rattle.std.proofs.Common.{◌≡◌, ℕ, ◌+◌, ◌<◌, ◌≤◌, Bool, true, false, ◌⊎◌, inl, inr, List, [], ◌∷◌, ◌++◌, length, get_or, Some, None, refl, sym, arith, subst, ap, ◌∙◌}
use Rattle.std.specs.List.{Contains, slice_get}
use Rattle.std.proofs.lemmas.Bool.{cases_lt}
use Rattle.std.proofs.lemmas.Option.{slice_get_within, slice_get-get_or}
use Rattle.std.proofs.lemmas.List.{length-append}
use Rattle.cs_base.proofs.ListLemmas.{at_push, at_push_new, at_push_old}
use Rattle.cs_base.specs.declared.formula.Lit.{Lit}
use Rattle.cs_base.specs.declared.formula.Clause.{Clause}
use Rattle.cs_base.specs.Derivations.{negated, IsSet, assumed, unit, MeetsConflict}
use Rattle.cs_rup.specs.declared.trail.Trail.{Trail}
use Rattle.cs_rup.specs.declared.error.Stop.{Stop}
use Rattle.cs_rup.specs.declared.store.Store.{Store}
use Rattle.cs_rup.specs.Settings.{Setting, has_value, is_true, is_false, AllFalse, AllFalseBut, IsOpen, IsSetIn, IsUnsetIn}
use Rattle.cs_rup.specs.Watchers.{HasPlace}
use Rattle.cs_rup.specs.Stores.{AreListed, list_of, IsWatched, AllWatched, WatchedBelow, AreSame, IsRewatched}
use Rattle.cs_rup.specs.Trails.{IsSound, Explains, StaysSound, ExplainsAny, set_by, Grows, IsUndone, IsReady, Waits, AllWait}
use Rattle.cs_rup.proofs.Lists.{at_contains}
use Rattle.cs_rup.proofs.Settings.{negated_twice, not_both, one_or_other}
use Rattle.cs_rup.proofs.Stores.{watching_free, watching_kept, rewatched_same}

pub grows_same : (trail : Trail) → Grows trail trail
grows_same trail = record {
  stays = λ t is. is;
  longer = omega arith;
  places = λ i t is. is;
  fresh = λ t is. inl is;
  unset = λ i t later found. let within = slice_get_within trail.lits.items i t found in absurd (omega arith);
}

pub grows_more : (a b c : Trail) → Grows a b → Grows b c → Grows a c
grows_more a b c first then' = record {
  stays = λ t is. then'.stays t (first.stays t is);
  longer = let low = first.longer in let high = then'.longer in omega arith;
  places = λ i t is. then'.places i t (first.places i t is);
  fresh = λ t is. elim (then'.fresh t is) [
    | inl before ↦ elim (first.fresh t before) [
      | inl start ↦ inl start
      | inr put ↦ inr (put.0, put.1, then'.places put.0 t put.2)
    ]
    | inr put ↦ inr (put.0, (let low = first.longer in let high = put.1 in omega arith), put.2)
  ];
  unset = λ i t later found u same is. elim (cases_lt i (length b.lits.items)) [
    | inl early ↦
        let was = slice_get-get_or b.lits.items i t early in
        let one : get_or b.lits.items i t ≡ t = let stays = then'.places i (get_or b.lits.items i t) was in cc in
        first.unset i t later (was ∙ ap Some one) u same is
    | inr late ↦ then'.unset i t late found u same (first.stays u is)
  ];
}

-- a literal whose variable has no value is put on the trail, and it or nothing is set
pub grows_put : (old new : Trail) (lit : Lit) → set_by old lit.var ≡ None → new.lits.items ≡ old.lits.items ++ lit ∷ []
    → ((t : Lit) → is_true (set_by old) t ≡ true → is_true (set_by new) t ≡ true)
    → ((t : Lit) → is_true (set_by new) t ≡ true → (is_true (set_by old) t ≡ true) ⊎ (t ≡ lit)) → Grows old new
grows_put old new lit none put stays alone = record {
  stays = stays;
  longer = omega (arith, ap length put, length-append old.lits.items (lit ∷ []));
  places = λ i t found. subst (λ items. slice_get items i ≡ Some t) (sym put) (at_push_old old.lits.items lit i t found);
  fresh = λ t is. elim (alone t is) [
    | inl before ↦ inl before
    | inr one ↦ inr (
      length old.lits.items,
      omega arith,
      subst (λ items. slice_get items (length old.lits.items) ≡ Some t) (sym put) (at_push_new old.lits.items lit ∙ ap Some (sym one)),
    )
  ];
  unset = λ i t later found u same is.
      elim (at_push old.lits.items lit i t (subst (λ items. slice_get items i ≡ Some t) put found)) [
        | inl before ↦ let within = slice_get_within old.lits.items i t before in absurd (omega arith)
        | inr last ↦
            let here : u.var ≡ lit.var = same ∙ ap (λ l. l.var) last.1 in
            let value : set_by old u.var ≡ None = ap (set_by old) here ∙ none in
            let no : is_true (set_by old) u ≡ has_value None u.positive = ap (λ v. has_value v u.positive) value in
            cc
      ];
}

pub undone_same : (trail : Trail) → IsUndone trail trail
undone_same trail = record {
  places = λ i t found. found;
  stays = λ t is off. is;
  alone = λ t is. (
    is,
    λ i lit later found same.
        let within = slice_get_within trail.lits.items i lit found in absurd (omega arith),
  );
}

-- one literal more is taken from the trail
pub undone_more : (start old new : Trail) (lit : Lit) → IsUndone start old → old.lits.items ≡ new.lits.items ++ lit ∷ []
    → IsUnsetIn (set_by old) (set_by new) lit.var → IsUndone start new
undone_more start old new lit before popped unset =
    let more : length old.lits.items ≡ length new.lits.items + 1 = ap length popped ∙ length-append new.lits.items (lit ∷ []) in
    let there : slice_get start.lits.items (length new.lits.items) ≡ Some lit =
    before.places (length new.lits.items) lit
    (subst (λ items. slice_get items (length new.lits.items) ≡ Some lit) (sym popped) (at_push_new new.lits.items lit)) in
    record {
      places = λ i t found. before.places i t
          (subst (λ items. slice_get items i ≡ Some t) (sym popped) (at_push_old new.lits.items lit i t found));
      stays = λ t is off. unset.stays t (before.stays t is (λ i other later found same. off i other (omega arith) found same))
          (λ same. off (length new.lits.items) lit (omega arith) there same);
      alone = λ t is.
          let was = unset.alone t is in
          let all = before.alone t was.0 in (
            all.0,
            λ i other later found same. elim (cases_lt (length new.lits.items) i) [
              | inl beyond ↦ all.1 i other (omega arith) found same
              | inr here ↦
                  let at : i ≡ length new.lits.items = omega arith in
                  let found' : slice_get start.lits.items (length new.lits.items) ≡ Some other =
                  subst (λ j. slice_get start.lits.items j ≡ Some other) at found in
                  let one : other ≡ lit = cc in
                  was.1 (same ∙ ap (λ l. l.var) one)
            ],
          );
    }

-- ---- clauses that wait

module _ (old new : Trail) (next : ℕ) (grows : Grows old new) (within : next ≤ length old.lits.items) where
  -- a literal that wasn't false: it isn't yet, or its negation was put on the trail
  open_grown : (lit : Lit) → IsOpen (set_by old) lit → IsReady new next lit
  open_grown lit open' =
      let cases : (b : Bool) → is_false (set_by new) lit ≡ b → IsReady new next lit =
      λ b. elim b as (λ b. is_false (set_by new) lit ≡ b → IsReady new next lit) [
        | true ↦ λ is. elim (grows.fresh (negated lit) is) [
          | inl before ↦ absurd (open' before)
          | inr put ↦ inr (put.0, (let low = put.1 in omega arith), put.2)
        ]
        | false ↦ λ is. inl (λ is'. cc)
      ] in
      cases (is_false (set_by new) lit) refl

  ready_grown : (lit : Lit) → IsReady old next lit → IsReady new next lit
  ready_grown lit (inl open') = open_grown lit open'
  ready_grown lit (inr put) = inr (put.0, put.1, grows.places put.0 (negated lit) put.2)

  pub waits_grown : (a b : Store) (i : ℕ) (clause : Clause) → IsRewatched (set_by old) a b
      → slice_get a.clauses i ≡ Some clause → Waits old next a i clause.lits → Waits new next b i clause.lits
  waits_grown a b i clause rewatched found (inl has) =
      inl (record { lit = has.lit; among = has.among; is = grows.stays has.lit has.is })
  waits_grown a b i clause rewatched found (inr is) = elim (rewatched.each i clause found) [
    | inl same ↦ inr (watching_kept (IsReady new next) a b i clause.lits same
        (watching_free (IsReady old next) (IsReady new next) a i clause.lits ready_grown is))
    | inr others ↦ inr (watching_free (IsOpen (set_by old)) (IsReady new next) b i clause.lits open_grown others)
  ]

-- a watched clause waits
pub watched_waits : (trail : Trail) (next : ℕ) (store : Store) (i : ℕ) (lits : List Lit) → IsWatched (set_by trail) store i lits
    → Waits trail next store i lits
watched_waits trail next store i lits (inl has) = inl has
watched_waits trail next store i lits (inr is) =
    inr (watching_free (IsOpen (set_by trail)) (IsReady trail next) store i lits (λ lit open'. inl open') is)

ready_less : (trail : Trail) (next later : ℕ) → next ≤ later → (lit : Lit) → IsReady trail later lit → IsReady trail next lit
ready_less trail next later less lit (inl open') = inl open'
ready_less trail next later less lit (inr put) = inr (put.0, (let high = put.1 in omega arith), put.2)

-- a clause that waits from a later place on
pub waits_less : (trail : Trail) (next later : ℕ) (store : Store) (i : ℕ) (lits : List Lit) → next ≤ later
    → Waits trail later store i lits → Waits trail next store i lits
waits_less trail next later store i lits less (inl has) = inl has
waits_less trail next later store i lits less (inr is) =
    inr (watching_free (IsReady trail later) (IsReady trail next) store i lits (ready_less trail next later less) is)

-- a literal is ready from the next place on, or its negation stands at this one
ready_next : (trail : Trail) (next : ℕ) (at : Lit) → slice_get trail.lits.items next ≡ Some at → (lit : Lit)
    → IsReady trail next lit → IsReady trail (next + 1) lit ⊎ (negated at ≡ lit)
ready_next trail next at found lit (inl open') = inl (inl open')
ready_next trail next at found lit (inr put) = elim (cases_lt next put.0) [
  | inl gt ↦ inl (inr (put.0, omega arith, put.2))
  | inr le ↦
      let low : next ≤ put.0 = put.1 in
      let same : put.0 ≡ next = omega arith in
      let there : slice_get trail.lits.items next ≡ Some (negated lit) =
      subst (λ j. slice_get trail.lits.items j ≡ Some (negated lit)) same put.2 in
      let one : at ≡ negated lit = cc in
      inr (ap negated one ∙ negated_twice lit)
]

-- ---- clauses that are rewatched

pub rewatched_more : (s t : Setting) (a b c : Store) → ((lit : Lit) → is_true s lit ≡ true → is_true t lit ≡ true)
    → IsRewatched s a b → IsRewatched t b c → IsRewatched s a c
rewatched_more s t a b c stays first then' = record {
  clauses = then'.clauses ∙ first.clauses;
  each = λ i clause found.
      elim (then'.each i clause (ap (λ cs. slice_get cs i) first.clauses ∙ found)) [
        | inl same ↦ elim (first.each i clause found) [
          | inl same' ↦ inl (same ∙ same')
          | inr is ↦ inr (watching_kept (IsOpen s) b c i clause.lits same is)
        ]
        | inr is ↦ inr (watching_free (IsOpen t) (IsOpen s) c i clause.lits
            (λ lit open' is'. open' (stays (negated lit) is')) is)
      ];
}

pub watched_rewatched : (s : Setting) (old new : Store) (seen : ℕ) → IsRewatched s old new → WatchedBelow s old seen
    → WatchedBelow s new seen
watched_rewatched s old new seen rewatched watched i clause below found =
    let was = subst (λ cs. slice_get cs i ≡ Some clause) rewatched.clauses found in
    elim (watched i clause below was) [
      | inl has ↦ inl has
      | inr is ↦ elim (rewatched.each i clause was) [
        | inl same ↦ inr (watching_kept (IsOpen s) old new i clause.lits same is)
        | inr others ↦ inr others
      ]
    ]

pub rewatched_less : (s t : Setting) (a b : Store) → ((lit : Lit) → is_true s lit ≡ true → is_true t lit ≡ true)
    → IsRewatched t a b → IsRewatched s a b
rewatched_less s t a b stays is =
    rewatched_more s t a a b stays (rewatched_same s a a (record { clauses = refl; watches = refl })) is

-- only lists change after
pub rewatched_then : (s : Setting) (a b c : Store) → IsRewatched s a b → AreSame b c → IsRewatched s a c
rewatched_then s a b c is same = rewatched_more s s a b c (λ lit is. is) is (rewatched_same s b c same)

pub waits_same : (trail : Trail) (next : ℕ) (a b : Store) (i : ℕ) (lits : List Lit) → AreSame a b → Waits trail next a i lits
    → Waits trail next b i lits
waits_same trail next a b i lits same (inl has) = inl has
waits_same trail next a b i lits same (inr is) =
    inr (watching_kept (IsReady trail next) a b i lits (ap (λ ws. slice_get ws i) same.watches) is)

-- a clause that was looked at waits
pub looked_at : (trail : Trail) (next : ℕ) (store : Store) (place : ℕ) (all later : List Clause) → later ≡ all
    → ((clause : Clause) → slice_get later place ≡ Some clause → IsWatched (set_by trail) store place clause.lits)
    → (clause : Clause) → slice_get all place ≡ Some clause → Waits trail next store place clause.lits
looked_at trail next store place all later same watched clause found =
    watched_waits trail next store place clause.lits
    (watched clause (subst (λ cs. slice_get cs place ≡ Some clause) (sym same) found))

-- ---- one step after another

pub sound_after : (clauses later : List Clause) (start old new : Trail) → later ≡ clauses → StaysSound clauses start old
    → StaysSound later old new → StaysSound clauses start new
sound_after clauses later start old new same first then' given sound =
    subst (λ cs. IsSound cs given (set_by new)) same
    (then' given (subst (λ cs. IsSound cs given (set_by old)) (sym same) (first given sound)))

pub explains_after : (clauses later : List Clause) (start old : Trail) (stop : Stop) → later ≡ clauses
    → StaysSound clauses start old → ExplainsAny later old stop → ExplainsAny clauses start stop
explains_after clauses later start old stop same first explains given sound =
    subst (λ cs. Explains cs given stop) same
    (explains given (subst (λ cs. IsSound cs given (set_by old)) (sym same) (first given sound)))

-- the literal of a unit clause follows
pub unit_sound : (clauses : List Clause) (given : List Lit) (clause : Clause) (lit : Lit) (old new : Setting)
    → IsSetIn old new lit → Contains clause.lits lit → AllFalseBut old clause.lits lit → Contains clauses clause
    → IsSound clauses given old → IsSound clauses given new
unit_sound clauses given clause lit old new set among others listed sound t is = elim (set.alone t is) [
  | inl before ↦ sound t before
  | inr same ↦ subst (λ l. IsSet clauses given l) (sym same)
      (unit clause lit listed among (λ other has differ. sound (negated other) (others other has differ)))
]

-- a falsified clause is a conflict
pub falsified : (clauses : List Clause) (given : List Lit) (clause : Clause) (s : Setting) → AllFalse s clause.lits
    → Contains clauses clause → IsSound clauses given s → MeetsConflict clauses given
falsified clauses given clause s false' listed sound =
    inl (record { clause = clause; among = listed; false_all = λ lit has. sound (negated lit) (false' lit has) })

-- a literal that is to be set false follows
pub given_sound : (clauses : List Clause) (given : List Lit) (lit : Lit) (old new : Setting) → IsSetIn old new lit
    → Contains given lit → IsSound clauses given old → IsSound clauses given new
given_sound clauses given lit old new set among sound t is = elim (set.alone t is) [
  | inl before ↦ sound t before
  | inr same ↦ subst (λ l. IsSet clauses given l) (sym same) (assumed lit among)
]

-- a literal that is true is to be set false
pub both_ways : (clauses : List Clause) (given : List Lit) (lit : Lit) (s : Setting) → is_true s lit ≡ true
    → Contains given (negated lit) → IsSound clauses given s → MeetsConflict clauses given
both_ways clauses given lit s is among sound =
    inr (record { lit = lit; one_way = sound lit is; other_way = assumed (negated lit) among })

-- propagation goes one place on
module _ (old new : Trail) (a b : Store) (next : ℕ) (at : Lit) (listed : AreListed a) (within : next < length old.lits.items)
    (at_next : slice_get old.lits.items next ≡ Some at) (grows : Grows old new) (rewatched : IsRewatched (set_by old) a b)
    (visited : (place : ℕ) (clause : Clause) → HasPlace (list_of a.lists.items (negated at)) place
    → slice_get a.clauses place ≡ Some clause → Waits new (length old.lits.items) b place clause.lits)
  where
    visited_one : (i : ℕ) (clause : Clause) (lit : Lit) → slice_get a.clauses i ≡ Some clause → negated at ≡ lit
        → HasPlace (list_of a.lists.items lit) i → Waits new (next + 1) b i clause.lits
    visited_one i clause lit found same has =
        waits_less new (next + 1) (length old.lits.items) b i clause.lits (omega arith)
        (visited i clause (subst (λ l. HasPlace (list_of a.lists.items l) i) (sym same) has) found)

    pub passed : AllWait old next a → AllWait new (next + 1) b
    passed waits i clause found =
        let was = subst (λ cs. slice_get cs i ≡ Some clause) rewatched.clauses found in
        let grown = waits_grown old new (next + 1) grows (omega arith) a b i clause rewatched was in
        elim (waits i clause was) [
          | inl has ↦ grown (inl has)
          | inr is ↦
              let has = listed.each i is.watch is.found in
              elim (ready_next old next at at_next is.watch.one.lit is.pair.one_free) [
                | inr one ↦ visited_one i clause is.watch.one.lit was one has.0
                | inl one ↦ elim (ready_next old next at at_next is.watch.other.lit is.pair.other_free) [
                  | inr other ↦ visited_one i clause is.watch.other.lit was other has.1
                  | inl other ↦ grown (inr (record {
                    watch = is.watch;
                    found = is.found;
                    pair = record {
                      one_among = is.pair.one_among;
                      other_among = is.pair.other_among;
                      differ = is.pair.differ;
                      one_free = one;
                      other_free = other;
                    };
                  }))
                ]
              ]
        ]

-- propagation has come to the end
pub settled : (trail : Trail) (next : ℕ) (store : Store) → length trail.lits.items ≤ next → AllWait trail next store
    → AllWatched (set_by trail) store
settled trail next store end waits i clause found = elim (waits i clause found) [
  | inl has ↦ inl has
  | inr is ↦ inr (watching_free (IsReady trail next) (IsOpen (set_by trail)) store i clause.lits
      (λ lit ready. elim ready [
        | inl open' ↦ open'
        | inr put ↦
            let within = slice_get_within trail.lits.items put.0 (negated lit) put.2 in
            let later = put.1 in
            absurd (omega arith)
      ]) is)
]

module _ (store : Store) (given : List Lit) (s : Setting) (watched : AllWatched s store)
    (holds : (lit : Lit) → Contains given lit → is_true s lit ≡ true)
  where
    -- at the end of propagation all that is set by the definition is set
    pub complete : (lit : Lit) → IsSet store.clauses given lit → is_true s lit ≡ true
    complete lit (assumed _ among) = holds lit among
    complete lit (unit clause _ listed among others) =
        let false' : (other : Lit) → Contains clause.lits other → (other ≡ lit → ⊥) → is_false s other ≡ true =
        λ other has differ. complete (negated other) (others other has differ) in
        let there = at_contains store.clauses clause listed in
        elim (watched there.0 clause there.1) [
          | inl true' ↦ elim (one_or_other true'.lit lit) [
            | inl same ↦ subst (λ l. is_true s l ≡ true) same true'.is
            | inr differ ↦ absurd (not_both s true'.lit true'.is (false' true'.lit true'.among differ))
          ]
          | inr two ↦ elim (one_or_other two.watch.one.lit lit) [
            | inl same ↦ absurd (two.pair.other_free (false' two.watch.other.lit two.pair.other_among (λ other. two.pair.differ (same ∙ sym other))))
            | inr differ ↦ absurd (two.pair.one_free (false' two.watch.one.lit two.pair.one_among differ))
          ]
        ]

    -- and there is no conflict
    pub no_conflict : MeetsConflict store.clauses given → ⊥
    no_conflict (inl falsified') =
        let there = at_contains store.clauses falsified'.clause falsified'.among in
        let false' : (lit : Lit) → Contains falsified'.clause.lits lit → is_false s lit ≡ true =
        λ lit has. complete (negated lit) (falsified'.false_all lit has) in
        elim (watched there.0 falsified'.clause there.1) [
          | inl true' ↦ not_both s true'.lit true'.is (false' true'.lit true'.among)
          | inr two ↦ two.pair.one_free (false' two.watch.one.lit two.pair.one_among)
        ]
    no_conflict (inr both) = not_both s both.lit (complete both.lit both.one_way) (complete (negated both.lit) both.other_way)
