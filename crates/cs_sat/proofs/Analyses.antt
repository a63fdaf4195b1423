-- The analysis of a conflict: marks, resolution with a reason, and the learned clause.
use Rattle.std.proofs.Common.{◌≡◌, ℕ, ◌+◌, ◌-◌, ◌<◌, ◌≤◌, Bool, true, false, not, if◌then◌else◌, ◌⊎◌, inl, inr, List, [], ◌∷◌, ◌++◌, Some, None, length, get_or, set, take, refl, sym, subst, ap, ◌∙◌, arith}
use Rattle.std.specs.List.{Contains, slice_get}
use Rattle.std.proofs.lemmas.Bool.{cases_eq, cases_lt}
use Rattle.std.proofs.lemmas.Option.{slice_get_within, slice_get_read}
use Rattle.std.proofs.lemmas.List.{get_or-set_same, get_or-set_other, length-set, take_more}
use Rattle.std.proofs.lemmas.List.Elements.{Contains-append_left, Contains-append_right, Contains-append_cases}
use Rattle.cs_base.proofs.ListLemmas.{at_contains, contains_at}
use Rattle.cs_base.specs.declared.formula.Lit.{Lit}
use Rattle.cs_base.specs.declared.formula.Clause.{Clause}
use Rattle.cs_base.specs.Derivations.{negated, IsSet, unit}
use Rattle.cs_sat.specs.declared.trail.Reason.TheVariants.{Decision, Propagated}
use Rattle.cs_sat.specs.declared.trail.Step.{Step}
use Rattle.cs_sat.specs.declared.trail.Setting.{Setting}
use Rattle.cs_sat.specs.declared.trail.Trail.{Trail}
use Rattle.cs_sat.specs.declared.marks.Marks.{Marks}
use Rattle.cs_sat.specs.Trails.{setting_of, has_sign, is_true, is_false, AllFalse, IsStep, IsTrail}
use Rattle.cs_sat.specs.Reasons.{IsSetBefore, IsOver}
use Rattle.cs_sat.specs.Analyses.{IsAt, IsMarked, IsBase, IsMarkedMore, IsMarking, IsClear, AreMarkedFalse, IsResolved}
use Rattle.cs_sat.proofs.Literals.{negated_twice, one_or_other, not_in_empty, one_item}
use Rattle.cs_sat.proofs.Trails.{place_at}
use Rattle.cs_sat.proofs.Reasons.{true_step, base_set}

-- ---- steps and places

pub none_some : {A : Type 0} (x : A) → Some x ≡ None → ⊥
none_some x is = cc

one_sign : (a : Bool) → (if a then a else not a) ≡ true
one_sign true = refl
one_sign false = refl

-- what stands on the trail is true
pub step_true : (trail : Trail) (place : ℕ) (lit : Lit) → IsTrail trail → IsStep trail.steps.items place lit
    → is_true trail lit ≡ true
step_true trail place lit is step =
    let kept = is.kept place step.step step.found in
    subst (λ (l : Lit). is_true trail l ≡ true) step.is
    (ap (λ value. has_sign value step.step.lit.positive) kept ∙ one_sign step.step.lit.positive)

-- a literal stands at one place
pub same_place : (trail : Trail) (p q : ℕ) (lit : Lit) → IsTrail trail → IsStep trail.steps.items p lit
    → IsStep trail.steps.items q lit → p ≡ q
same_place trail p q lit is one other =
    let vars : one.step.lit.var ≡ other.step.lit.var = ap (λ (l : Lit). l.var) (one.is ∙ sym other.is) in
    ap place_at (sym (is.kept p one.step one.found) ∙ ap (setting_of trail) vars ∙ is.kept q other.step other.found)

pub same_step : (steps : List Step) (i : ℕ) (s t : Step) → slice_get steps i ≡ Some s → slice_get steps i ≡ Some t → s ≡ t
same_step steps i s t one other = cc

-- where a literal became false
pub false_step : (trail : Trail) (lit : Lit) (setting : Setting) → IsTrail trail → is_false trail lit ≡ true
    → Some setting ≡ setting_of trail lit.var → IsStep trail.steps.items setting.place (negated lit)
false_step trail lit setting is false' value =
    let has = true_step trail (negated lit) is false' in
    let one : has.0.place ≡ setting.place = ap place_at (sym has.1 ∙ sym value) in
    subst (λ p. IsStep trail.steps.items p (negated lit)) one has.2

pub false_within : (trail : Trail) (lit : Lit) (setting : Setting) → IsTrail trail → is_false trail lit ≡ true
    → Some setting ≡ setting_of trail lit.var → setting.place < length trail.steps.items
false_within trail lit setting is false' value =
    let step = false_step trail lit setting is false' value in
    slice_get_within trail.steps.items setting.place step.step step.found

-- the step that is read there
pub false_read : (trail : Trail) (lit : Lit) (setting : Setting) (s : Step) → IsTrail trail → is_false trail lit ≡ true
    → Some setting ≡ setting_of trail lit.var → s ≡ get_or trail.steps.items setting.place s
    → (slice_get trail.steps.items setting.place ≡ Some s) × (s.lit ≡ negated lit)
false_read trail lit setting s is false' value read =
    let step = false_step trail lit setting is false' value in
    let within = false_within trail lit setting is false' value in
    let found = slice_get_read trail.steps.items (length trail.steps.items) setting.place s refl within read in
    let one = same_step trail.steps.items setting.place step.step s step.found found in
    (found, subst (λ (x : Step). x.lit ≡ negated lit) one step.is)

-- ---- marks

pub not_both : (b : Bool) → b ≡ false → b ≡ true → ⊥
not_both b fails holds = let is : true ≡ false = sym holds ∙ fails in cc

module _ (old new : Marks) (place : ℕ) (is : IsMarkedMore old new place) (within : place < length old.marked.items) where
  pub more_cases : (p : ℕ) → IsAt new p → IsAt old p ⊎ (p ≡ place)
  more_cases p at = elim (cases_eq p place) [
    | inl same ↦ inr same
    | inr other ↦ inl (sym (ap (λ xs. get_or xs p false) is.marked ∙ get_or-set_other old.marked.items place p true false other) ∙ at)
  ]

  pub more_here : IsAt new place
  more_here = ap (λ xs. get_or xs place false) is.marked ∙ get_or-set_same old.marked.items place true false within

  pub more_stays : (p : ℕ) → IsAt old p → IsAt new p
  more_stays p at = elim (cases_eq p place) [
    | inl same ↦ subst (λ q. IsAt new q) (sym same) more_here
    | inr other ↦ ap (λ xs. get_or xs p false) is.marked ∙ get_or-set_other old.marked.items place p true false other ∙ at
  ]

  pub more_size : length new.marked.items ≡ length old.marked.items
  more_size = ap length is.marked ∙ length-set old.marked.items place true

  pub more_listed : ((p : ℕ) → IsAt old p → Contains old.touched.items p) → (p : ℕ) → IsAt new p → Contains new.touched.items p
  more_listed listed p at = elim (more_cases p at) [
    | inl before ↦ is.kept p (listed p before)
    | inr same ↦ elim is.has [
      | inl before ↦ subst (λ q. Contains new.touched.items q) (sym same) (is.kept place (listed place before))
      | inr has ↦ subst (λ q. Contains new.touched.items q) (sym same) has
    ]
  ]

-- which place is the lowest once a place is marked
abbrev pub IsLower : ℕ → ℕ → ℕ → ℕ → ℕ → Type 0
IsLower level lowest place stands low = ((low ≡ lowest) × ((stands < level) ⊎ (lowest ≤ place)))
    ⊎ ((low ≡ place) × (place ≤ lowest) × (level ≤ stands))

-- a place is marked where a literal became false above level 0
pub marked_false : (trail : Trail) (level lowest low : ℕ) (lit skip : Lit) (old new : Marks) (place : ℕ) (s : Step)
    → IsTrail trail → length old.marked.items ≡ length trail.table.items → place < length old.marked.items
    → slice_get trail.steps.items place ≡ Some s → s.lit ≡ negated lit → 0 < s.level → IsMarkedMore old new place
    → IsLower level lowest place s.level low → (lit ≡ skip → ⊥)
    → AreMarkedFalse trail level lowest (lit ∷ []) skip old new low
marked_false trail level lowest low lit skip old new place s is size within found same above more lower differ = record {
  marking = λ at before marking.
      let same_low : (low ≡ lowest) ⊎ (low ≡ place) = elim lower [ inl l ↦ inl l.0 | inr l ↦ inr l.0 ] in
      let least : low ≤ lowest = elim lower [ inl l ↦ (let e = l.0 in omega arith) | inr l ↦ (let e = l.0 in let f = l.1 in omega arith) ] in
      record {
        size = more_size old new place more within ∙ marking.size;
        listed = more_listed old new place more within marking.listed;
        only = λ p at'. elim (more_cases old new place more within p at') [
          | inl was ↦
              let o = marking.only p was in
              (o.0, o.1, o.2, elim o.3 [ inl early ↦ inl early | inr (l, h) ↦ inr (omega arith, h) ])
          | inr here ↦
              let found' : slice_get trail.steps.items p ≡ Some s = subst (λ q. slice_get trail.steps.items q ≡ Some s) (sym here) found in (
                s,
                found',
                above,
                elim (cases_lt s.level level) [
                  | inl early ↦ inl early
                  | inr late ↦ inr (
                    elim lower [
                      | inl l ↦ (let e = l.0 in elim l.1 [ inl early ↦ absurd (omega arith) | inr up ↦ omega arith ])
                      | inr l ↦ (let e = l.0 in omega arith)
                    ],
                    (let was = before lit (at_contains (lit ∷ []) 0 lit refl) differ in
                        let one = same_place trail place was.0 (negated lit) is (record { step = s; found = found; is = same }) was.2 in
                        let early = was.1 in
                        omega arith),
                  )
                ],
              )
        ];
        low = elim same_low [
          | inl e ↦ subst (λ q. IsAt new q) (sym e) (more_stays old new place more within lowest marking.low)
          | inr e ↦ subst (λ q. IsAt new q) (sym e) (more_here old new place more within)
        ];
        high = λ p t below found'. marking.high p t below found';
        top = elim lower [
          | inl l ↦ subst (λ q. (t : Step) × (slice_get trail.steps.items q ≡ Some t) × (t.level ≡ level)) (sym l.0) marking.top
          | inr l ↦
              let t = marking.top.0 in
              let t_level = marking.top.2 in
              let low_place = l.1 in
              let high = l.2 in
              let order = is.order place lowest s t low_place found marking.top.1 in
              let level' : s.level ≡ level = omega arith in
              subst (λ q. (t : Step) × (slice_get trail.steps.items q ≡ Some t) × (t.level ≡ level)) (sym l.0) (s, found, level')
        ];
      };
  size = more_size old new place more within;
  stays = more_stays old new place more within;
  has = λ other among _.
      let at = contains_at (lit ∷ []) other among in
      let one = one_item lit other at.0 at.1 in
      subst (λ (l : Lit). IsMarked trail.steps.items new (negated l) ⊎ IsBase trail.steps.items (negated l)) one
      (inl (record {
        place = place;
        step = record { step = s; found = found; is = same };
        marked = more_here old new place more within;
      }));
}

-- nothing is marked for a literal that is skipped, or became false at level 0
pub marked_none : (trail : Trail) (level lowest : ℕ) (lit skip : Lit) (marks : Marks)
    → ((lit ≡ skip → ⊥) → IsBase trail.steps.items (negated lit))
    → AreMarkedFalse trail level lowest (lit ∷ []) skip marks marks lowest
marked_none trail level lowest lit skip marks low = record {
  marking = λ at before marking. marking;
  size = refl;
  stays = λ place at. at;
  has = λ other among differ.
      let at = contains_at (lit ∷ []) other among in
      let one = one_item lit other at.0 at.1 in
      subst (λ (l : Lit). IsMarked trail.steps.items marks (negated l) ⊎ IsBase trail.steps.items (negated l)) one
      (inr (low (λ same. differ (sym one ∙ same))));
}

pub marked_empty : (trail : Trail) (level lowest : ℕ) (skip : Lit) (marks : Marks)
    → AreMarkedFalse trail level lowest [] skip marks marks lowest
marked_empty trail level lowest skip marks = record {
  marking = λ at before marking. marking;
  size = refl;
  stays = λ place at. at;
  has = λ other among differ. absurd (not_in_empty other among);
}

marked_later : (steps : List Step) (old new : Marks) (lit : Lit) → ((place : ℕ) → IsAt old place → IsAt new place)
    → IsMarked steps old lit ⊎ IsBase steps lit → IsMarked steps new lit ⊎ IsBase steps lit
marked_later steps old new lit stays (inl marked) =
    inl (record { place = marked.place; step = marked.step; marked = stays marked.place marked.marked })
marked_later steps old new lit stays (inr low) = inr low

-- more literals
pub marked_more : (trail : Trail) (level a b c : ℕ) (xs ys : List Lit) (skip : Lit) (old mid new : Marks)
    → AreMarkedFalse trail level a xs skip old mid b → AreMarkedFalse trail level b ys skip mid new c
    → AreMarkedFalse trail level a (xs ++ ys) skip old new c
marked_more trail level a b c xs ys skip old mid new first then' = record {
  marking = λ at before marking.
      then'.marking at (λ lit has. before lit (Contains-append_right xs ys lit has))
      (first.marking at (λ lit has. before lit (Contains-append_left xs ys lit has)) marking);
  size = then'.size ∙ first.size;
  stays = λ place at. then'.stays place (first.stays place at);
  has = λ lit has differ. elim (Contains-append_cases xs ys lit has) [
    | inl one ↦ marked_later trail.steps.items mid new (negated lit) then'.stays (first.has lit one differ)
    | inr other ↦ then'.has lit other differ
  ];
}

-- ---- resolution

-- not the last place, so an earlier one
pub below_other : (p at : ℕ) → p ≤ at → (p ≡ at → ⊥) → p ≤ at - 1
below_other p at below other = omega arith

module _ (trail : Trail) (level at lowest : ℕ) (old new : Marks) (is : IsTrail trail)
    (marking : IsMarking trail level at lowest old) (lower : lowest < at) (within : at < length old.marked.items)
    (marked : new.marked.items ≡ set old.marked.items at false) (touched : new.touched.items ≡ old.touched.items)
  where
    unmarked_other : (p : ℕ) → (p ≡ at → ⊥) → get_or new.marked.items p false ≡ get_or old.marked.items p false
    unmarked_other p other =
        ap (λ xs. get_or xs p false) marked ∙ get_or-set_other old.marked.items at p false false other

    unmarked_here : get_or new.marked.items at false ≡ false
    unmarked_here = ap (λ xs. get_or xs at false) marked ∙ get_or-set_same old.marked.items at false false within

    unmarked_cases : (p : ℕ) → IsAt new p → (p ≡ at → ⊥) × IsAt old p
    unmarked_cases p at' =
        let other : p ≡ at → ⊥ =
        λ same. not_both (get_or new.marked.items p false) (ap (λ q. get_or new.marked.items q false) same ∙ unmarked_here) at' in
        (other, sym (unmarked_other p other) ∙ at')

    pub unmarked : IsMarking trail level (at - 1) lowest new
    unmarked = record {
      size = ap length marked ∙ length-set old.marked.items at false ∙ marking.size;
      listed = λ p at'. subst (λ xs. Contains xs p) (sym touched) (marking.listed p (unmarked_cases p at').1);
      only = λ p at'.
          let was = unmarked_cases p at' in
          let o = marking.only p was.1 in (
            o.0,
            o.1,
            o.2,
            elim o.3 [
              | inl early ↦ inl early
              | inr (l, h) ↦ inr (l, below_other p at h was.0)
            ],
          );
      low = unmarked_other lowest (λ same. absurd (omega arith)) ∙ marking.low;
      top = marking.top;
      high = λ p s below found. marking.high p s (omega arith) found;
    }

-- an unmarked place is passed
pub passed : (clauses : List Clause) (trail : Trail) (level at lowest : ℕ) (marks : Marks)
    → get_or marks.marked.items at false ≡ false → IsResolved clauses trail level at marks lowest
    → IsResolved clauses trail level (at - 1) marks lowest
passed clauses trail level at lowest marks open' is = record {
  marking = record {
    size = is.marking.size;
    listed = is.marking.listed;
    only = λ p at'.
        let o = is.marking.only p at' in (
          o.0,
          o.1,
          o.2,
          elim o.3 [
            | inl early ↦ inl early
            | inr (l, h) ↦ inr (
              l,
              below_other p at h (λ same. not_both (get_or marks.marked.items p false)
                  (ap (λ q. get_or marks.marked.items q false) same ∙ open') at'),
            )
          ],
        );
    low = is.marking.low;
    top = is.marking.top;
    high = λ p s below found. is.marking.high p s (omega arith) found;
  };
  clash = is.clash;
}

-- a marked place is one of the trail
pub marking_within : (trail : Trail) (level at lowest : ℕ) (marks : Marks) → IsMarking trail level at lowest marks
    → IsAt marks at → at < length trail.steps.items
marking_within trail level at lowest marks is at' =
    let o = is.only at at' in
    slice_get_within trail.steps.items at o.0 o.1

pub marked_within : (trail : Trail) (level at lowest : ℕ) (marks : Marks) (place : ℕ) → IsMarking trail level at lowest marks
    → IsAt marks place → place < length trail.steps.items
marked_within trail level at lowest marks place is at' =
    let o = is.only place at' in
    slice_get_within trail.steps.items place o.0 o.1

-- the lowest place is at most the one to which the analysis has come
pub lowest_below : (trail : Trail) (level at lowest : ℕ) (marks : Marks) → IsMarking trail level at lowest marks
    → lowest ≤ at
lowest_below trail level at lowest marks is =
    let o = is.only lowest is.low in
    let t = is.top in
    let one = ap (λ (x : Step). x.level) (same_step trail.steps.items lowest o.0 t.0 o.1 t.1) in
    let level' = t.2 in
    elim o.3 [
      | inl early ↦ absurd (omega arith)
      | inr (low, high) ↦ high
    ]

-- a marked place after the lowest one is none of a decision
pub not_decided : (trail : Trail) (level at lowest : ℕ) (marks : Marks) (s : Step) → IsTrail trail
    → IsMarking trail level at lowest marks → IsAt marks at → lowest < at → slice_get trail.steps.items at ≡ Some s
    → s.reason ≡ Decision → ⊥
not_decided trail level at lowest marks s is marking at' lower found decided =
    let t = marking.top.0 in
    let t_level = marking.top.2 in
    let t_low = is.levels lowest t marking.top.1 in
    let s_level = is.decisions at s found decided in
    let high = marking.high at s (omega arith) found in
    omega arith

-- the literal at a marked place is exchanged for those of its reason
pub resolved : (clauses : List Clause) (trail : Trail) (level at lowest low : ℕ) (s : Step) (number : ℕ) (clause : Clause)
    (old mid new : Marks) → IsOver clauses trail → IsResolved clauses trail level at old lowest → lowest < at
    → slice_get trail.steps.items at ≡ Some s → s.reason ≡ Propagated number → slice_get clauses number ≡ Some clause
    → at < length old.marked.items → mid.marked.items ≡ set old.marked.items at false
    → mid.touched.items ≡ old.touched.items → AreMarkedFalse trail level lowest clause.lits s.lit mid new low
    → IsResolved clauses trail level (at - 1) new low
resolved clauses trail level at lowest low s number clause old mid new over is lower found why listed within marked touched others =
    let reason = over.reasons at s number found why in
    let one : reason.clause ≡ clause = let found' = reason.found in cc in
    let before : (lit : Lit) → Contains clause.lits lit → (lit ≡ s.lit → ⊥) → IsSetBefore trail.steps.items at (negated lit) =
    λ lit has differ. reason.others lit (subst (λ (c : Clause). Contains c.lits lit) (sym one) has) differ in
    record {
      marking = others.marking (at - 1)
          (λ lit has differ.
          let was = before lit has differ in
          let early = was.1 in
          (was.0, omega arith, was.2))
          (unmarked trail level at lowest old mid over.sound is.marking lower within marked touched);
      clash = λ given all. is.clash given (λ lit marked'.
          elim (cases_eq marked'.place at) [
            | inl same ↦
                let here : slice_get trail.steps.items at ≡ Some marked'.step.step =
                subst (λ p. slice_get trail.steps.items p ≡ Some marked'.step.step) same marked'.step.found in
                let step = same_step trail.steps.items at s marked'.step.step found here in
                let lit' : s.lit ≡ lit = ap (λ (x : Step). x.lit) step ∙ marked'.step.is in
                subst (λ l. IsSet clauses given l) lit'
                (unit clause s.lit (at_contains clauses number clause listed)
                (subst (λ (c : Clause). Contains c.lits s.lit) one reason.among)
                (λ other has differ. elim (others.has other has differ) [
                  | inl m ↦ all (negated other) m
                  | inr low' ↦ subst (λ l. IsSet clauses given l) low'.step.is
                      (base_set clauses trail given over (low'.place + 1) low'.place low'.step.step (omega arith) low'.step.found
                      low'.low)
                ]))
            | inr differ ↦ all lit (record {
              place = marked'.place;
              step = marked'.step;
              marked = others.stays marked'.place (unmarked_other trail level at lowest old mid over.sound is.marking lower
                  within marked touched marked'.place differ ∙ marked'.marked);
            })
          ]);
    }

-- one item more of a list that is gone through
pub next_item : {A : Type 0} (xs : List A) (i : ℕ) (x : A) → i < length xs → x ≡ get_or xs i x
    → take i xs ++ x ∷ [] ≡ take (i + 1) xs
next_item xs i x within read = ap (λ y. take i xs ++ y ∷ []) read ∙ sym (take_more xs i x within)

-- all reasons of a falsified clause's literals
pub reason_false : (clauses : List Clause) (trail : Trail) (at : ℕ) (s : Step) (number : ℕ) (clause : Clause)
    → IsOver clauses trail → slice_get trail.steps.items at ≡ Some s → s.reason ≡ Propagated number
    → slice_get clauses number ≡ Some clause → (lit : Lit) → Contains clause.lits lit → (lit ≡ s.lit → ⊥)
    → is_false trail lit ≡ true
reason_false clauses trail at s number clause over found why listed lit has differ =
    let reason = over.reasons at s number found why in
    let one : reason.clause ≡ clause = let found' = reason.found in cc in
    let was = reason.others lit (subst (λ (c : Clause). Contains c.lits lit) (sym one) has) differ in
    step_true trail was.0 (negated lit) over.sound was.2

-- a clause that isn't there
pub reason_listed : (clauses : List Clause) (trail : Trail) (at : ℕ) (s : Step) (number : ℕ) → IsOver clauses trail
    → slice_get trail.steps.items at ≡ Some s → s.reason ≡ Propagated number → slice_get clauses number ≡ None → ⊥
reason_listed clauses trail at s number over found why none =
    let reason = over.reasons at s number found why in
    none_some reason.clause (sym reason.found ∙ none)

-- ---- the marks of a conflict

pub conflict_resolved : (trail : Trail) (level top low : ℕ) (s : Step) (lits : List Lit) (old mid new : Marks)
    → IsClear trail old → AllFalse trail lits → top < length old.marked.items
    → slice_get trail.steps.items top ≡ Some s → s.level ≡ level → 0 < level
    → ((lit : Lit) → Contains lits lit → IsSetBefore trail.steps.items (top + 1) (negated lit))
    → IsMarkedMore old mid top → AreMarkedFalse trail level top lits (negated s.lit) mid new low
    → (clauses : List Clause) (clause : Clause) → Contains clauses clause → clause.lits ≡ lits → IsOver clauses trail
    → IsResolved clauses trail level top new low
conflict_resolved trail level top low s lits old mid new clear false' within found level' above before more others clauses
    clause listed same over =
    let only_top : (p : ℕ) → IsAt mid p → p ≡ top =
    λ p at. elim (more_cases old mid top more within p at) [
      | inl was ↦ absurd (not_both (get_or old.marked.items p false) (clear.none p) was)
      | inr here ↦ here
    ] in
    record {
      marking = others.marking top (λ lit has differ. before lit has) (record {
        size = more_size old mid top more within ∙ clear.size;
        listed = more_listed old mid top more within
            (λ p at. absurd (not_both (get_or old.marked.items p false) (clear.none p) at));
        only = λ p at.
            let here = only_top p at in (
              s,
              subst (λ q. slice_get trail.steps.items q ≡ Some s) (sym here) found,
              omega arith,
              inr (omega arith, omega arith),
            );
        low = more_here old mid top more within;
        top = (s, found, level');
        high = λ p t below found'. let order = over.sound.order p top t s below found' found in omega arith;
      });
      clash = λ given all. inl (record {
        clause = clause;
        among = listed;
        false_all = λ lit has.
            let has' = subst (λ xs. Contains xs lit) same has in
            elim (one_or_other lit (negated s.lit)) [
              | inl one ↦
                  let s_lit : s.lit ≡ negated lit = sym (negated_twice s.lit) ∙ ap negated (sym one) in
                  all (negated lit) (record {
                    place = top;
                    step = record { step = s; found = found; is = s_lit };
                    marked = others.stays top (more_here old mid top more within);
                  })
              | inr differ ↦ elim (others.has lit has' differ) [
                | inl m ↦ all (negated lit) m
                | inr low' ↦ subst (λ l. IsSet clauses given l) low'.step.is
                    (base_set clauses trail given over (low'.place + 1) low'.place low'.step.step (omega arith) low'.step.found
                    low'.low)
              ]
            ];
      });
    }
