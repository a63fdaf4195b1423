-- The learned clause: the latest place of a conflict, what is collected from the marks, and the marks taken back.
use Rattle.std.proofs.Common.{◌≡◌, ℕ, ◌<◌, ◌≤◌, Bool, true, false, ◌⊎◌, inl, inr, List, [], ◌∷◌, ◌++◌, Some, None, length, map, get_or, set, refl, sym, subst, ap, ◌∙◌, arith}
use Rattle.std.specs.List.{Contains, slice_get}
use Rattle.std.proofs.lemmas.Bool.{cases_eq}
use Rattle.std.proofs.lemmas.Option.{slice_get_within, slice_get_read}
use Rattle.std.proofs.lemmas.List.{get_or-set_same, get_or-set_other}
use Rattle.std.proofs.lemmas.List.Elements.{Contains-append_left, Contains-append_right, Contains-push_cases}
use Rattle.std.proofs.Math.ListN.{get_or-eq_default}
use Rattle.cs_base.proofs.ListLemmas.{at_contains, contains_at}
use Rattle.cs_base.specs.declared.formula.Lit.{Lit}
use Rattle.cs_base.specs.declared.formula.Clause.{Clause}
use Rattle.cs_base.specs.Derivations.{negated, assumed}
use Rattle.cs_sat.specs.declared.trail.Step.{Step}
use Rattle.cs_sat.specs.declared.trail.Trail.{Trail}
use Rattle.cs_sat.specs.declared.marks.Marks.{Marks}
use Rattle.cs_sat.specs.declared.analyse.Learned.{Learned}
use Rattle.cs_sat.specs.Trails.{IsStep, IsTrail}
use Rattle.cs_sat.specs.Analyses.{IsAt, IsMarking, IsResolved, IsLatest, IsPart, IsCollected, IsLearned}
use Rattle.cs_sat.proofs.Literals.{negated_twice, not_in_empty, one_item, contains_map}
use Rattle.cs_sat.proofs.Analyses.{same_step, not_both, resolved}

-- ---- the learned clause

-- a place is passed that is not marked, or is that of the first unique implication point
pub collected_passed : (trail : Trail) (marks : Marks) (level at : ℕ) (places : List ℕ) (place : ℕ) (learned : Learned)
    → IsTrail trail → ((place ≡ at) ⊎ (IsAt marks place → ⊥)) → IsCollected trail marks level at places learned
    → IsCollected trail marks level at (places ++ place ∷ []) learned
collected_passed trail marks level at places place learned is pass so_far = record {
  point = so_far.point;
  has = so_far.has;
  all = λ p lit has marked step. elim (Contains-push_cases places place p has) [
    | inl before ↦ so_far.all p lit before marked step
    | inr here ↦ elim pass [
      | inl point ↦
          let step' : IsStep trail.steps.items at lit = subst (λ q. IsStep trail.steps.items q lit) (sym here ∙ point) step in
          let steps : slice_get trail.steps.items at ≡ Some step'.step = step'.found in
          let one = same_step trail.steps.items at so_far.point.step step'.step so_far.point.found steps in
          let lit' : negated learned.first ≡ lit = sym so_far.point.is ∙ ap (λ (x : Step). x.lit) one ∙ step'.is in
          subst (λ l. Contains learned.lits.items l) (sym (negated_twice learned.first) ∙ ap negated lit') so_far.has
      | inr none ↦ absurd (none (subst (λ q. IsAt marks q) (sym here) marked))
    ]
  ];
  parts = so_far.parts;
  below = so_far.below;
}

-- the clause begins with the first unique implication point's literal
pub collected_first : (trail : Trail) (marks : Marks) (level at : ℕ) (s : Step) (learned : Learned)
    → slice_get trail.steps.items at ≡ Some s → learned.first ≡ negated s.lit → learned.lits.items ≡ learned.first ∷ []
    → learned.level ≡ 0 → 0 < level → IsCollected trail marks level at [] learned
collected_first trail marks level at s learned found first lits low above = record {
  point = record { step = s; found = found; is = sym (negated_twice s.lit) ∙ ap negated (sym first) };
  has = subst (λ xs. Contains xs learned.first) (sym lits) (at_contains (learned.first ∷ []) 0 learned.first refl);
  all = λ p lit has. absurd (not_in_empty p has);
  parts = λ lit has.
      let at' = contains_at (learned.first ∷ []) lit (subst (λ xs. Contains xs lit) lits has) in
      inl (sym (one_item learned.first lit at'.0 at'.1));
  below = omega arith;
}

part_more : (steps : List Step) (first : Lit) (level more : ℕ) (lit : Lit) → level ≤ more → IsPart steps first level lit
    → IsPart steps first more lit
part_more steps first level more lit below (inl one) = inl one
part_more steps first level more lit below (inr (place, step, low)) = inr (place, step, omega arith)

-- the literal at a marked place is taken in
pub collected_more : (trail : Trail) (marks : Marks) (level at : ℕ) (places : List ℕ) (place : ℕ) (s : Step)
    (old new : Learned) → IsTrail trail → IsMarking trail level at at marks → slice_get trail.steps.items place ≡ Some s
    → IsAt marks place → (place ≡ at → ⊥) → new.lits.items ≡ old.lits.items ++ negated s.lit ∷ []
    → new.first ≡ old.first → ((old.level < s.level) × (new.level ≡ s.level)) ⊎ ((s.level ≤ old.level) × (new.level ≡ old.level))
    → IsCollected trail marks level at places old → IsCollected trail marks level at (places ++ place ∷ []) new
collected_more trail marks level at places place s old new is marking found marked other lits first levels so_far =
    let o = marking.only place marked in
    let one = ap (λ (x : Step). x.level) (same_step trail.steps.items place o.0 s o.1 found) in
    let early : s.level < level = elim o.3 [
      | inl low ↦ omega arith
      | inr (low, high) ↦ absurd (other (omega arith))
    ] in
    let above : old.level ≤ new.level = elim levels [
      | inl l ↦ (let a = l.0 in let b = l.1 in omega arith)
      | inr l ↦ (let b = l.1 in omega arith)
    ] in
    let high : s.level ≤ new.level = elim levels [
      | inl l ↦ (let b = l.1 in omega arith)
      | inr l ↦ (let a = l.0 in let b = l.1 in omega arith)
    ] in
    let kept : (lit : Lit) → Contains old.lits.items lit → Contains new.lits.items lit =
    λ lit has. subst (λ xs. Contains xs lit) (sym lits) (Contains-append_left old.lits.items (negated s.lit ∷ []) lit has) in
    let added : Contains new.lits.items (negated s.lit) =
    subst (λ xs. Contains xs (negated s.lit)) (sym lits)
    (Contains-append_right old.lits.items (negated s.lit ∷ []) (negated s.lit) (at_contains (negated s.lit ∷ []) 0 (negated s.lit) refl)) in
    record {
      point = subst (λ l. IsStep trail.steps.items at (negated l)) (sym first) so_far.point;
      has = subst (λ l. Contains new.lits.items l) (sym first) (kept old.first so_far.has);
      all = λ p lit has marked' step. elim (Contains-push_cases places place p has) [
        | inl before ↦ kept (negated lit) (so_far.all p lit before marked' step)
        | inr here ↦
            let step' : slice_get trail.steps.items place ≡ Some step.step =
            subst (λ q. slice_get trail.steps.items q ≡ Some step.step) (sym here) step.found in
            let same = same_step trail.steps.items place s step.step found step' in
            subst (λ l. Contains new.lits.items (negated l)) (ap (λ (x : Step). x.lit) same ∙ step.is) added
      ];
      parts = λ lit has. elim (Contains-push_cases old.lits.items (negated s.lit) lit (subst (λ xs. Contains xs lit) lits has)) [
        | inl before ↦
            subst (λ l. IsPart trail.steps.items l new.level lit) (sym first)
            (part_more trail.steps.items old.first old.level new.level lit above (so_far.parts lit before))
        | inr here ↦
            inr (place, record { step = s; found = found; is = sym (negated_twice s.lit) ∙ ap negated here }, high)
      ];
      below = elim levels [
        | inl l ↦ (let b = l.1 in omega arith)
        | inr l ↦ (let b = l.1 in let low = so_far.below in omega arith)
      ];
    }

-- the clause is learned once all marked places are gone through
pub learned_rup : (clauses : List Clause) (trail : Trail) (level at : ℕ) (marks : Marks) (learned : Learned)
    → IsResolved clauses trail level at marks at → IsCollected trail marks level at marks.touched.items learned
    → IsLearned clauses trail learned
learned_rup clauses trail level at marks learned resolved collected = record {
  rup = resolved.clash (map negated learned.lits.items) (λ lit marked.
      let has = collected.all marked.place lit (resolved.marking.listed marked.place marked.marked) marked.marked marked.step in
      let given = contains_map negated learned.lits.items (negated lit) has in
      assumed lit (subst (λ l. Contains (map negated learned.lits.items) l) (negated_twice lit) given));
  at = at;
  point = collected.point;
  has = collected.has;
  parts = collected.parts;
  below =
      let t = resolved.marking.top in
      let one = ap (λ (x : Step). x.level) (same_step trail.steps.items at t.0 collected.point.step t.1 collected.point.found) in
      let level' = t.2 in
      let low = collected.below in
      omega arith;
}

-- ---- the latest place

pub latest_more : (steps : List Step) (lits : List Lit) (lit : Lit) (top new : ℕ) (place : ℕ) → IsStep steps place (negated lit)
    → ((new ≡ top) × (place ≤ top)) ⊎ ((new ≡ place) × (top ≤ place)) → IsLatest steps lits (Some top)
    → IsLatest steps (lits ++ lit ∷ []) (Some new)
latest_more steps lits lit top new place step (inl (same, below)) is = (
  (is.0.0, Contains-append_left lits (lit ∷ []) is.0.0 is.0.1, subst (λ p. IsStep steps p (negated is.0.0)) (sym same) is.0.2),
  λ other has. elim (Contains-push_cases lits lit other has) [
    | inl before ↦ let was = is.1 other before in let early = was.1 in (was.0, omega arith, was.2)
    | inr here ↦ (place, omega arith, subst (λ l. IsStep steps place (negated l)) here step)
  ],
)
latest_more steps lits lit top new place step (inr (same, below)) is = (
  (
    lit,
    Contains-append_right lits (lit ∷ []) lit (at_contains (lit ∷ []) 0 lit refl),
    subst (λ p. IsStep steps p (negated lit)) (sym same) step,
  ),
  λ other has. elim (Contains-push_cases lits lit other has) [
    | inl before ↦ let was = is.1 other before in let early = was.1 in (was.0, omega arith, was.2)
    | inr here ↦ (place, omega arith, subst (λ l. IsStep steps place (negated l)) here step)
  ],
)

pub latest_first : (steps : List Step) (lits : List Lit) (lit : Lit) (place : ℕ) → IsStep steps place (negated lit)
    → IsLatest steps lits None → IsLatest steps (lits ++ lit ∷ []) (Some place)
latest_first steps lits lit place step none = (
  (lit, Contains-append_right lits (lit ∷ []) lit (at_contains (lit ∷ []) 0 lit refl), step),
  λ other has. elim (Contains-push_cases lits lit other has) [
    | inl before ↦ absurd (none other before)
    | inr here ↦ (place, omega arith, subst (λ l. IsStep steps place (negated l)) here step)
  ],
)

pub latest_within : (steps : List Step) (lits : List Lit) (top : ℕ) → IsLatest steps lits (Some top) → top < length steps
latest_within steps lits top is = slice_get_within steps top is.0.2.step is.0.2.found

-- the step that is read there
pub latest_read : (steps : List Step) (lits : List Lit) (top : ℕ) (s : Step) → IsLatest steps lits (Some top)
    → s ≡ get_or steps top s → slice_get steps top ≡ Some s
latest_read steps lits top s is read = slice_get_read steps (length steps) top s refl (latest_within steps lits top is) read

-- ---- marks are taken back

-- the last place that is listed is clear now
pub cleared_more : (marked new : List Bool) (touched left : List ℕ) (place : ℕ) → touched ≡ left ++ place ∷ []
    → new ≡ set marked place false → place < length marked
    → ((p : ℕ) → get_or marked p false ≡ true → Contains touched p) → (p : ℕ) → get_or new p false ≡ true → Contains left p
cleared_more marked new touched left place popped cleared within listed p at = elim (cases_eq p place) [
  | inl same ↦
      let fails : get_or new p false ≡ false =
      ap (λ xs. get_or xs p false) cleared ∙ ap (λ q. get_or (set marked place false) q false) same
      ∙ get_or-set_same marked place false false within in
      absurd (not_both (get_or new p false) fails at)
  | inr other ↦
      let was : get_or marked p false ≡ true =
      sym (ap (λ xs. get_or xs p false) cleared ∙ get_or-set_other marked place p false false other) ∙ at in
      elim (Contains-push_cases left place p (subst (λ xs. Contains xs p) popped (listed p was))) [
        | inl before ↦ before
        | inr here ↦ absurd (other (sym here))
      ]
]

-- the last place that is listed has no mark
pub cleared_past : (marked : List Bool) (touched left : List ℕ) (place : ℕ) → touched ≡ left ++ place ∷ []
    → length marked ≤ place → ((p : ℕ) → get_or marked p false ≡ true → Contains touched p) → (p : ℕ)
    → get_or marked p false ≡ true → Contains left p
cleared_past marked touched left place popped past listed p at =
    elim (Contains-push_cases left place p (subst (λ xs. Contains xs p) popped (listed p at))) [
      | inl before ↦ before
      | inr here ↦
          let fails : get_or marked p false ≡ false = get_or-eq_default marked false (omega arith) in
          absurd (not_both (get_or marked p false) fails at)
    ]

pub cleared_all : (marked : List Bool) (touched : List ℕ) → touched ≡ []
    → ((p : ℕ) → get_or marked p false ≡ true → Contains touched p) → (p : ℕ) → get_or marked p false ≡ false
cleared_all marked touched none listed p =
    let cases : (b : Bool) → get_or marked p false ≡ b → get_or marked p false ≡ false =
    λ b. elim b as (λ b. get_or marked p false ≡ b → get_or marked p false ≡ false) [
      | true ↦ λ is. absurd (not_in_empty p (subst (λ xs. Contains xs p) none (listed p is)))
      | false ↦ λ is. is
    ] in
    cases (get_or marked p false) refl
