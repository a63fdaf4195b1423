-- Lists of watched clauses grow and lose items, and watches change.
use Rattle.std.proofs.Common.{◌≡◌, ℕ, ◌<◌, inl, inr, List, [], ◌∷◌, ◌++◌, length, get_or, Some, None, refl, sym, arith, subst, ap, ◌∙◌}
use Rattle.std.specs.List.{slice_get}
use Rattle.std.specs.Prelude.{slice_set}
use Rattle.std.proofs.Math.ListN.{length-set}
use Rattle.std.proofs.lemmas.Bool.{cases_eq}
use Rattle.std.proofs.lemmas.Option.{get_or_from_slice_get, slice_get_read, slice_get_within}
use Rattle.std.proofs.lemmas.List.{length-append, get_or-set_same, get_or-set_other, set-get_or}
use Rattle.cs_base.proofs.ListLemmas.{at_push, at_push_old, at_push_new, at_set_other, at_set_same}
use Rattle.cs_base.specs.declared.formula.Lit.{Lit}
use Rattle.cs_base.specs.declared.formula.Clause.{Clause}
use Rattle.cs_rup.specs.declared.watch.Watch.{Watch}
use Rattle.cs_rup.specs.declared.watch.Watched.{Watched}
use Rattle.cs_rup.specs.declared.store.Store.{Store}
use Rattle.cs_rup.specs.Settings.{Setting, HasPair, IsOpen}
use Rattle.cs_rup.specs.Watchers.{IsWithout, HasPlace}
use Rattle.cs_rup.specs.Stores.{Lists, place_of, list_at, list_of, HasList, IsListed, IsBlocked, AreBlocked, AreListed, AreSame, ListsGrow, IsWatching, IsRewatchedAt, IsRewatched}

pub grow_same : (lists : Lists) → ListsGrow lists lists
grow_same lists = record { count = refl; keeps = λ index at watched found. found }

pub grow_more : (a b c : Lists) → ListsGrow a b → ListsGrow b c → ListsGrow a c
grow_more a b c first then' = record {
  count = then'.count ∙ first.count;
  keeps = λ index at watched found. then'.keeps index at watched (first.keeps index at watched found);
}

-- a literal's list in lists that grew
pub has_grown : (old new : Lists) (lit : Lit) (place : ℕ) → ListsGrow old new → HasPlace (list_of old lit) place
    → HasPlace (list_of new lit) place
has_grown old new lit place grow has = record {
  at = has.at;
  watched = has.watched;
  found = subst (λ n. slice_get (list_at new (place_of n lit)) has.at ≡ Some has.watched) (sym grow.count)
      (grow.keeps (place_of (length old) lit) has.at has.watched has.found);
  is = has.is;
}

-- one list is replaced
module _ (lists : Lists) (index : ℕ) (new : List Watched) (within : index < length lists) where
  pub same_length : length (slice_set lists index new) ≡ length lists
  same_length = length-set lists index new

  pub list_here : list_at (slice_set lists index new) index ≡ new
  list_here = get_or-set_same lists index new [] within

  pub list_elsewhere : (i : ℕ) → (i ≡ index → ⊥) → list_at (slice_set lists index new) i ≡ list_at lists i
  list_elsewhere i differ = get_or-set_other lists index i new [] differ

-- a list of the lists was read
pub read_list : (lists : Lists) (index : ℕ) (list : List Watched) → index < length lists → list ≡ get_or lists index list
    → list_at lists index ≡ list
read_list lists index list within is =
    get_or_from_slice_get lists index list [] (slice_get_read lists (length lists) index list refl within is)

-- a list gets one behind the others
module _ (lists : Lists) (index : ℕ) (watched : Watched) (old new : List Watched) (within : index < length lists)
    (is : old ≡ get_or lists index old) (more : new ≡ old ++ watched ∷ [])
  where
    grown : list_at (slice_set lists index new) index ≡ list_at lists index ++ watched ∷ []
    grown =
        list_here lists index new within ∙ more
        ∙ ap (λ l. l ++ watched ∷ []) (sym (read_list lists index old within is))

    pub put_grows : ListsGrow lists (slice_set lists index new)
    put_grows = record {
      count = same_length lists index new within;
      keeps = λ i at w found. elim (cases_eq i index) [
        | inl here ↦
            let was : slice_get (list_at lists index) at ≡ Some w =
            subst (λ j. slice_get (list_at lists j) at ≡ Some w) here found in
            subst (λ j. slice_get (list_at (slice_set lists index new) j) at ≡ Some w) (sym here)
            (subst (λ l. slice_get l at ≡ Some w) (sym grown) (at_push_old (list_at lists index) watched at w was))
        | inr differ ↦ subst (λ l. slice_get l at ≡ Some w) (sym (list_elsewhere lists index new within i differ)) found
      ];
    }

    pub put_has : (lit : Lit) → place_of (length lists) lit ≡ index
        → HasPlace (list_of (slice_set lists index new) lit) watched.place
    put_has lit here = record {
      at = length (list_at lists index);
      watched = watched;
      found = subst
          (λ i. slice_get (list_at (slice_set lists index new) i) (length (list_at lists index)) ≡ Some watched) (sym (ap (λ n. place_of n lit) (same_length lists index new within) ∙ here))
          (subst (λ l. slice_get l (length (list_at lists index)) ≡ Some watched) (sym grown)
          (at_push_new (list_at lists index) watched));
      is = refl;
    }

    pub put_blocked : (clauses : List Clause) → AreBlocked clauses lists → IsBlocked clauses watched
        → AreBlocked clauses (slice_set lists index new)
    put_blocked clauses blocked new' i at w found = elim (cases_eq i index) [
      | inl here ↦
          let there : slice_get (list_at (slice_set lists index new) index) at ≡ Some w =
          subst (λ j. slice_get (list_at (slice_set lists index new) j) at ≡ Some w) here found in
          elim (at_push (list_at lists index) watched at w (subst (λ l. slice_get l at ≡ Some w) grown there)) [
            | inl before ↦ blocked index at w before
            | inr last ↦ subst (λ x. IsBlocked clauses x) (sym last.1) new'
          ]
      | inr differ ↦ blocked i at w
          (subst (λ l. slice_get l at ≡ Some w) (list_elsewhere lists index new within i differ) found)
    ]

-- a list stays
pub put_same : (lists : Lists) (index : ℕ) (old new : List Watched) → index < length lists → old ≡ get_or lists index old
    → new ≡ old → slice_set lists index new ≡ lists
put_same lists index old new within is same =
    ap (λ l. slice_set lists index l) (same ∙ sym (read_list lists index old within is)) ∙ set-get_or lists index []

listed_grown_one : (old new : Lists) (watch : Watch) (place : ℕ) → ListsGrow old new → IsListed old watch place → IsListed new watch place
listed_grown_one old new watch place grow has =
    (has_grown old new watch.one.lit place grow has.0, has_grown old new watch.other.lit place grow has.1)

some_grown : (old new : Lists) → ListsGrow old new → 0 < length old → 0 < length new
some_grown old new grow some = subst (λ n. 0 < n) (sym grow.count) some

-- only lists grow
pub listed_grown : (old new : Store) → AreListed old → AreSame old new → ListsGrow old.lists.items new.lists.items
    → AreBlocked old.clauses new.lists.items → AreListed new
listed_grown old new listed same grow blocked = record {
  some = some_grown old.lists.items new.lists.items grow listed.some;
  enough = let enough = listed.enough in omega (arith, ap length same.clauses, ap length same.watches);
  each = λ place watch found. listed_grown_one old.lists.items new.lists.items watch place grow
      (listed.each place watch (subst (λ ws. slice_get ws place ≡ Some (Some watch)) same.watches found));
  blocked = subst (λ cs. AreBlocked cs new.lists.items) (sym same.clauses) blocked;
}

-- nothing changes
pub listed_same : (old new : Store) → AreListed old → AreSame old new → new.lists.items ≡ old.lists.items → AreListed new
listed_same old new listed same lists =
    listed_grown old new listed same (subst (λ l. ListsGrow old.lists.items l) (sym lists) (grow_same old.lists.items))
    (subst (λ l. AreBlocked old.clauses l) (sym lists) listed.blocked)

-- a clause is watched by others
pub listed_set : (old new : Store) (place : ℕ) (watch : Watch) → AreListed old → place < length old.watches.items
    → new.clauses ≡ old.clauses → new.watches.items ≡ slice_set old.watches.items place (Some watch)
    → new.lists.items ≡ old.lists.items → IsListed old.lists.items watch place → AreListed new
listed_set old new place watch listed within clauses watches lists has = record {
  some = subst (λ l. 0 < length l) (sym lists) listed.some;
  enough = let enough = listed.enough in
      omega (arith, ap length clauses, ap length watches ∙ length-set old.watches.items place (Some watch));
  each = λ i w found.
      let at : slice_get (slice_set old.watches.items place (Some watch)) i ≡ Some (Some w) =
      subst (λ ws. slice_get ws i ≡ Some (Some w)) watches found in
      subst (λ l. IsListed l w i) (sym lists)
      (elim (cases_eq i place) [
        | inl here ↦
            let set : slice_get (slice_set old.watches.items place (Some watch)) i ≡ Some (Some watch) =
            subst (λ j. slice_get (slice_set old.watches.items place (Some watch)) j ≡ Some (Some watch)) (sym here)
            (at_set_same old.watches.items place (Some watch) within) in
            let one : watch ≡ w = cc in
            subst (λ x. IsListed old.lists.items x i) one (subst (λ j. IsListed old.lists.items watch j) (sym here) has)
        | inr differ ↦ listed.each i w (sym (at_set_other old.watches.items place i (Some watch) differ) ∙ at)
      ]);
  blocked = subst (λ l. AreBlocked new.clauses l) (sym lists)
      (subst (λ cs. AreBlocked cs old.lists.items) (sym clauses) listed.blocked);
}

-- a clause that isn't watched is put behind the others
pub blocked_more : (clauses : List Clause) (lists : Lists) (clause : Clause) → AreBlocked clauses lists
    → AreBlocked (clauses ++ clause ∷ []) lists
blocked_more clauses lists clause blocked index at watched found =
    let was = blocked index at watched found in
    record {
      clause = was.clause;
      found = at_push_old clauses clause watched.place was.clause was.found;
      among = was.among;
    }

-- so many watches are kept, and one that isn't there
pub unwatched : (old new : Store) → AreListed old → new.watches.items ≡ old.watches.items ++ None ∷ []
    → new.lists.items ≡ old.lists.items → (place : ℕ) (watch : Watch)
    → slice_get new.watches.items place ≡ Some (Some watch)
    → IsListed new.lists.items watch place
unwatched old new listed watches lists place watch found =
    subst (λ l. IsListed l watch place) (sym lists)
    (elim (at_push old.watches.items None place (Some watch)
    (subst (λ ws. slice_get ws place ≡ Some (Some watch)) watches found)) [
      | inl before ↦ listed.each place watch before
      | inr last ↦ let none = last.1 in cc
    ])

pub listed_unwatched : (old new : Store) → AreListed old → new.clauses ≡ old.clauses
    → new.watches.items ≡ old.watches.items ++ None ∷ [] → new.lists.items ≡ old.lists.items → AreListed new
listed_unwatched old new listed clauses watches lists = record {
  some = subst (λ l. 0 < length l) (sym lists) listed.some;
  enough = let enough = listed.enough in
      omega (arith, ap length clauses, ap length watches ∙ length-append old.watches.items (None ∷ []));
  each = unwatched old new listed watches lists;
  blocked = subst (λ l. AreBlocked new.clauses l) (sym lists)
      (subst (λ cs. AreBlocked cs old.lists.items) (sym clauses) listed.blocked);
}

pub listed_next : (old new : Store) (clause : Clause) → AreListed old → new.clauses ≡ old.clauses ++ clause ∷ []
    → new.watches.items ≡ old.watches.items ++ None ∷ [] → new.lists.items ≡ old.lists.items → AreListed new
listed_next old new clause listed clauses watches lists = record {
  some = subst (λ l. 0 < length l) (sym lists) listed.some;
  enough = let enough = listed.enough in
      omega (
        arith,
        ap length clauses ∙ length-append old.clauses (clause ∷ []),
        ap length watches ∙ length-append old.watches.items (None ∷ []),
      );
  each = unwatched old new listed watches lists;
  blocked = subst (λ l. AreBlocked new.clauses l) (sym lists)
      (subst (λ cs. AreBlocked cs old.lists.items) (sym clauses)
      (blocked_more old.clauses old.lists.items clause listed.blocked));
}

-- a list is replaced by one that keeps the places of the clauses that its literals watch
module _ (old new : Store) (index at : ℕ) (list : List Watched) (listed : AreListed old)
    (within : index < length old.lists.items) (same : AreSame old new)
    (lists : new.lists.items ≡ slice_set old.lists.items index list)
    (keeps : (place : ℕ) (watch : Watch) → slice_get old.watches.items place ≡ Some (Some watch)
    → HasList (length old.lists.items) index watch → HasPlace (list_at old.lists.items index) place
    → HasPlace list place)
    (blocked : (k : ℕ) (w : Watched) → slice_get list k ≡ Some w → IsBlocked old.clauses w)
  where
    count_kept : length new.lists.items ≡ length old.lists.items
    count_kept = ap length lists ∙ length-set old.lists.items index list

    here' : list_at new.lists.items index ≡ list
    here' = ap (λ l. list_at l index) lists ∙ list_here old.lists.items index list within

    elsewhere : (i : ℕ) → (i ≡ index → ⊥) → list_at new.lists.items i ≡ list_at old.lists.items i
    elsewhere i differ = ap (λ l. list_at l i) lists ∙ list_elsewhere old.lists.items index list within i differ

    kept_one : (place : ℕ) (watch : Watch) (lit : Lit) → slice_get old.watches.items place ≡ Some (Some watch)
        → (place_of (length old.lists.items) lit ≡ index → HasList (length old.lists.items) index watch)
        → HasPlace (list_of old.lists.items lit) place → HasPlace (list_of new.lists.items lit) place
    kept_one place watch lit is among has =
        subst (λ n. HasPlace (list_at new.lists.items (place_of n lit)) place) (sym count_kept)
        (elim (cases_eq (place_of (length old.lists.items) lit) index) [
          | inl here ↦
              subst (λ i. HasPlace (list_at new.lists.items i) place) (sym here)
              (subst (λ l. HasPlace l place) (sym here')
              (keeps place watch is (among here) (subst (λ i. HasPlace (list_at old.lists.items i) place) here has)))
          | inr differ ↦
              subst (λ l. HasPlace l place) (sym (elsewhere (place_of (length old.lists.items) lit) differ)) has
        ])

    pub listed_replaced : AreListed new
    listed_replaced = record {
      some = subst (λ n. 0 < n) (sym count_kept) listed.some;
      enough = let enough = listed.enough in omega (arith, ap length same.clauses, ap length same.watches);
      each = λ place watch is.
          let was = subst (λ ws. slice_get ws place ≡ Some (Some watch)) same.watches is in
          let has = listed.each place watch was in (
            kept_one place watch watch.one.lit was (λ here. inl here) has.0,
            kept_one place watch watch.other.lit was (λ here. inr here) has.1,
          );
      blocked = λ i k w is.
          subst (λ cs. IsBlocked cs w) (sym same.clauses)
          (elim (cases_eq i index) [
            | inl here ↦ blocked k w
                (subst (λ l. slice_get l k ≡ Some w) here'
                (subst (λ j. slice_get (list_at new.lists.items j) k ≡ Some w) here is))
            | inr differ ↦ listed.blocked i k w (subst (λ l. slice_get l k ≡ Some w) (elsewhere i differ) is)
          ]);
    }

-- a clause is taken out of a list no literal of which watches it
pub without_keeps : (old new : List Watched) (at : ℕ) (watched : Watched) → IsWithout old new at
    → slice_get old at ≡ Some watched → (place : ℕ) → (place ≡ watched.place → ⊥) → HasPlace old place
    → HasPlace new place
without_keeps old new at watched without found place differ has =
    let other : has.at ≡ at → ⊥ = λ here.
    let there : slice_get old at ≡ Some has.watched = subst (λ k. slice_get old k ≡ Some has.watched) here has.found in
    let one : has.watched ≡ watched = cc in
    differ (sym has.is ∙ ap (λ w. w.place) one) in
    let stands = without.keeps has.at has.watched other has.found in
    record { at = stands.at; watched = has.watched; found = stands.is; is = has.is }

pub listed_without : (old new : Store) (index at : ℕ) (watched : Watched) (list : List Watched) → AreListed old
    → index < length old.lists.items → AreSame old new → new.lists.items ≡ slice_set old.lists.items index list
    → IsWithout (list_at old.lists.items index) list at → slice_get (list_at old.lists.items index) at ≡ Some watched
    → ((watch : Watch) → slice_get old.watches.items watched.place ≡ Some (Some watch)
    → HasList (length old.lists.items) index watch → ⊥)
    → AreListed new
listed_without old new index at watched list listed within same lists without found unused =
    listed_replaced old new index at list listed within same lists
    (λ place watch is has. without_keeps (list_at old.lists.items index) list at watched without found place
    (λ same'. unused watch (subst (λ p. slice_get old.watches.items p ≡ Some (Some watch)) same' is) has))
    (λ k w is. let was = without.alone k w is in listed.blocked index was.at w was.is)

-- another literal stands beside a clause of a list
pub set_keeps : (list : List Watched) (at : ℕ) (was is : Watched) → slice_get list at ≡ Some was → is.place ≡ was.place
    → (place : ℕ) → HasPlace list place → HasPlace (slice_set list at is) place
set_keeps list at was is found same place has = elim (cases_eq has.at at) [
  | inl here ↦
      let there : slice_get list at ≡ Some has.watched =
      subst (λ k. slice_get list k ≡ Some has.watched) here has.found in
      let one : was ≡ has.watched = cc in
      record {
        at = at;
        watched = is;
        found = at_set_same list at is (slice_get_within list at was found);
        is = same ∙ ap (λ w. w.place) one ∙ has.is;
      }
  | inr differ ↦ record {
    at = has.at;
    watched = has.watched;
    found = at_set_other list at has.at is differ ∙ has.found;
    is = has.is;
  }
]

pub listed_beside : (old new : Store) (index at : ℕ) (was is : Watched) (list : List Watched) → AreListed old
    → index < length old.lists.items → AreSame old new → new.lists.items ≡ slice_set old.lists.items index list
    → list ≡ slice_set (list_at old.lists.items index) at is → slice_get (list_at old.lists.items index) at ≡ Some was
    → is.place ≡ was.place → IsBlocked old.clauses is → AreListed new
listed_beside old new index at was is list listed within same lists set found place blocked =
    let before = list_at old.lists.items index in
    listed_replaced old new index at list listed within same lists
    (λ p watch at' has among. subst (λ l. HasPlace l p) (sym set) (set_keeps before at was is found place p among))
    (λ k w at'. elim (cases_eq k at) [
      | inl here ↦
          let there : slice_get (slice_set before at is) at ≡ Some w =
          subst (λ j. slice_get (slice_set before at is) j ≡ Some w) here
          (subst (λ l. slice_get l k ≡ Some w) set at') in
          let put = at_set_same before at is (slice_get_within before at was found) in
          let one : is ≡ w = cc in
          subst (λ x. IsBlocked old.clauses x) one blocked
      | inr differ ↦ listed.blocked index k w
          (sym (at_set_other before at k is differ) ∙ subst (λ l. slice_get l k ≡ Some w) set at')
    ])

-- ---- what is watched

-- free in one sense is free in another
pub pair_free : (F G : Lit → Type 0) (watch : Watch) (lits : List Lit) → ((lit : Lit) → F lit → G lit)
    → HasPair F watch lits → HasPair G watch lits
pair_free F G watch lits free pair = record {
  one_among = pair.one_among;
  other_among = pair.other_among;
  differ = pair.differ;
  one_free = free watch.one.lit pair.one_free;
  other_free = free watch.other.lit pair.other_free;
}

pub watching_free : (F G : Lit → Type 0) (store : Store) (i : ℕ) (lits : List Lit) → ((lit : Lit) → F lit → G lit)
    → IsWatching F store i lits → IsWatching G store i lits
watching_free F G store i lits free is =
    record { watch = is.watch; found = is.found; pair = pair_free F G is.watch lits free is.pair }

pub watching_kept : (F : Lit → Type 0) (old new : Store) (i : ℕ) (lits : List Lit)
    → slice_get new.watches.items i ≡ slice_get old.watches.items i → IsWatching F old i lits → IsWatching F new i lits
watching_kept F old new i lits same is = record { watch = is.watch; found = same ∙ is.found; pair = is.pair }

-- one clause is watched by two of its literals
pub rewatched_set : (s : Setting) (old new : Store) (place : ℕ) (watch : Watch) (lits : List Lit)
    → place < length old.watches.items → new.clauses ≡ old.clauses
    → new.watches.items ≡ slice_set old.watches.items place (Some watch) → HasPair (IsOpen s) watch lits
    → IsRewatchedAt s old new place lits
rewatched_set s old new place watch lits within clauses watches pair = record {
  clauses = clauses;
  others = λ i differ. ap (λ ws. slice_get ws i) watches ∙ at_set_other old.watches.items place i (Some watch) differ;
  here = inr (record {
    watch = watch;
    found = ap (λ ws. slice_get ws place) watches ∙ at_set_same old.watches.items place (Some watch) within;
    pair = pair;
  });
}

pub rewatched_at : (s : Setting) (old new : Store) (place : ℕ) (clause : Clause)
    → slice_get old.clauses place ≡ Some clause → IsRewatchedAt s old new place clause.lits → IsRewatched s old new
rewatched_at s old new place clause found is = record {
  clauses = is.clauses;
  each = λ i other found'. elim (cases_eq i place) [
    | inl here ↦
        let at : slice_get old.clauses place ≡ Some other = subst (λ j. slice_get old.clauses j ≡ Some other) here found' in
        let one : clause ≡ other = cc in
        elim is.here [
          | inl same ↦ inl (subst (λ j. slice_get new.watches.items j ≡ slice_get old.watches.items j) (sym here) same)
          | inr watching ↦ inr (subst (λ j. IsWatching (IsOpen s) new j other.lits) (sym here)
              (subst (λ c. IsWatching (IsOpen s) new place c.lits) one watching))
        ]
    | inr differ ↦ inl (is.others i differ)
  ];
}

-- only lists change
pub rewatched_same : (s : Setting) (old new : Store) → AreSame old new → IsRewatched s old new
rewatched_same s old new same = record {
  clauses = same.clauses;
  each = λ i clause found. inl (ap (λ ws. slice_get ws i) same.watches);
}
