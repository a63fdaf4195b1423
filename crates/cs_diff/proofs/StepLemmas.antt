-- Steps taken one by one show what is known, and reach every vertex that has a label.
use Rattle.std.proofs.Common.{◌≡◌, ℕ, zero, suc, ◌+◌, ◌<◌, ◌≤◌, ◌⊎◌, Bool, true, false, not, cond, List, [], ◌∷◌, ◌++◌, length, Option, Some, None, set, replicate, sym, ap, ◌∙◌, subst, arith, inl, inr, refl, below_more}
use Rattle.std.specs.Prelude.{ℤ, pos, ◌+ℤ◌, ◌-ℤ◌, neg_ℤ, slice_get, ◌==◌, if◌then◌else◌}
use Rattle.std.specs.Option.{option_map}
use Rattle.std.proofs.lemmas.Int.{ints}
use Rattle.std.proofs.lemmas.Bool.{cases_eq, cases_lt}
use Rattle.std.proofs.lemmas.Bool.Decides.{nat_tests}
use Rattle.std.proofs.lemmas.List.{get_or-set_same, get_or-set_other, get_or_past, get_or-replicate, length-replicate}
use Rattle.std.proofs.lemmas.List.Sums.{sum_by-set}
use Rattle.std.proofs.lemmas.Option.{slice_get_within}
use Rattle.cs_diff.specs.Ranges.{place_at}
use Rattle.cs_diff.proofs.SystemLemmas.{turn_of}
use Rattle.cs_diff.specs.declared.system.Constraint.{Constraint}
use Rattle.cs_diff.specs.declared.system.System.{System}
use Rattle.cs_diff.specs.declared.reading.Reading.TheVariants.{Lower}
use Rattle.cs_diff.specs.Floors.{Shows, learn, root_alone}
use Rattle.cs_diff.specs.Labels.{Labels, at, AreReached}
use Rattle.cs_diff.specs.Steps.{is_in, IsStep, known_of, unreached, HasTaken, NoStep, IsExtended, HasStepped, root_label}

-- ---- what is known

learn_here : (known : ℕ → Option ℤ) (u : ℕ) (z : ℤ) (v : ℕ) → v ≡ u → learn known u z v ≡ Some z
learn_here known u z v is = grind (arith, nat_tests)

learn_there : (known : ℕ → Option ℤ) (u : ℕ) (z : ℤ) (v : ℕ) → (v ≡ u → ⊥)
    → learn known u z v ≡ known v
learn_there known u z v is = grind (arith, nat_tests)

-- one step more
shows_more : (s : System) (steps : List ℕ) (known all all' : ℕ → Option ℤ) (i : ℕ) (c : Constraint)
    (z : ℤ)
    → Shows s known steps all → slice_get s.constraints i ≡ Some c → all c.from ≡ Some z
    → all c.to ≡ None → ((v : ℕ) → learn all c.to (z -ℤ c.most) v ≡ all' v)
    → Shows s known (steps ++ i ∷ []) all'
shows_more s [] known all all' i c z same found from to learnt = (
  c,
  z,
  found,
  same c.from ∙ from,
  same c.to ∙ to,
  λ v. ap
      (λ o. if v == c.to then Some (z -ℤ c.most) else o) (same v) ∙ learnt v,
)
shows_more s (j ∷ steps) known all all' i c z (e, y, first, begins, ends, rest) found from to learnt
    = (
      e,
      y,
      first,
      begins,
      ends,
      shows_more s steps (learn known e.to (y -ℤ e.most)) all all' i c z
          rest found from to learnt,
    )

-- ---- one constraint

less_of : (z m : ℤ) → neg_ℤ (z +ℤ m) ≡ neg_ℤ z -ℤ m
less_of z m = omega (arith, ints)

known_in : (labels : Labels) (reached : List Bool) (v : ℕ) → is_in reached v ≡ true
    → known_of labels reached v ≡ option_map neg_ℤ (at labels v)
known_in labels reached v is = ap (λ b. if b then option_map neg_ℤ (at labels v) else None) is

known_out : (labels : Labels) (reached : List Bool) (v : ℕ) → is_in reached v ≡ false
    → known_of labels reached v ≡ None
known_out labels reached v is = ap (λ b. if b then option_map neg_ℤ (at labels v) else None) is

module _ (s : System) (labels : Labels) (place : ℕ) (reached : List Bool) (steps : List ℕ)
    (c : Constraint) (found : slice_get s.constraints place ≡ Some c)
    (step : IsStep labels reached c) (below : c.to < length reached) where
  reached' : List Bool
  reached' = set reached c.to true

  in_here : is_in reached' c.to ≡ true
  unfolding reached'
  in_here = get_or-set_same reached c.to true false below

  in_there : (v : ℕ) → (v ≡ c.to → ⊥) → is_in reached' v ≡ is_in reached v
  unfolding reached'
  in_there v h = get_or-set_other reached c.to v true false h

  learnt : (v : ℕ)
      → learn (known_of labels reached) c.to (neg_ℤ step.2 -ℤ c.most) v ≡ known_of labels reached' v
  learnt v = elim (cases_eq v c.to) [
    | inl same ↦
        let here : known_of labels reached' c.to ≡ Some (neg_ℤ step.2 -ℤ c.most) =
        known_in labels reached' c.to in_here ∙ ap (option_map neg_ℤ) step.4 ∙ ap (λ z. Some z)
        (less_of step.2 c.most) in
        learn_here (known_of labels reached) c.to (neg_ℤ step.2 -ℤ c.most) v same ∙ sym
        (ap (known_of labels reached') same ∙ here)
    | inr other ↦
        learn_there (known_of labels reached) c.to (neg_ℤ step.2 -ℤ c.most) v other
        ∙ ap (λ b. if b then option_map neg_ℤ (at labels v) else None) (sym (in_there v other))
  ]

  extended_by : IsExtended s labels reached steps reached' (steps ++ place ∷ [])
  extended_by = record {
    shows = λ known h. shows_more s steps known (known_of labels reached) (known_of labels reached')
        place c (neg_ℤ step.2) h found
        (known_in labels reached c.from step.0 ∙ ap (option_map neg_ℤ) step.3)
        (known_out labels reached c.to step.1) learnt;
    keeps = λ v is. elim (cases_eq v c.to) [
      | inl same ↦ ap (is_in reached') same ∙ in_here
      | inr other ↦ in_there v other ∙ is
    ];
  }

  fewer : unreached reached' < unreached reached
  unfolding reached'
  fewer =
      let sum = sum_by-set (λ (b : Bool). cond (not b) 1 0) reached c.to true false below in
      let here : cond (not (is_in reached c.to)) 1 0 ≡ 1 = ap {B = ℕ} (λ b. cond (not b) 1 0) step.1
      in
      omega (arith, sum, here)

pub extended_none : (s : System) (labels : Labels) (reached : List Bool) (steps : List ℕ)
    → IsExtended s labels reached steps reached steps
extended_none s labels reached steps = record { shows = λ known h. h; keeps = λ v is. is }

pub extended_taken : (s : System) (labels : Labels) (place : ℕ) (reached : List Bool)
    (steps : List ℕ) (after : List Bool) (steps' : List ℕ) (b : Bool)
    → length reached ≡ s.vertices → HasTaken s labels place reached steps after steps' b
    → IsExtended s labels reached steps after steps'
unfolding reached'
extended_taken s labels place reached steps after steps' false len (same, still, none) = rw
    (same, still) (extended_none s labels reached steps)
extended_taken s labels place reached steps after steps' true len (c, found, step, now, pushed) =
    let below = (s.in_range place c found).to in
    rw (now, pushed) (extended_by s labels place reached steps c found step (omega arith))

pub extended_more : (s : System) (labels : Labels) (r r' r'' : List Bool) (p p' p'' : List ℕ)
    → IsExtended s labels r p r' p' → IsExtended s labels r' p' r'' p''
    → IsExtended s labels r p r'' p''
extended_more s labels r r' r'' p p' p'' h g = record {
  shows = λ known is. g.shows known (h.shows known is);
  keeps = λ v is. g.keeps v (h.keeps v is);
}

-- ---- a pass

-- no constraint before this turn is a step, or more vertices are reached
abbrev pub StepsBelow : System → Bool → Labels → List Bool → List Bool → ℕ → Bool → Type 0
StepsBelow s back labels reached now turn false =
    (now ≡ reached)
    × ((i : ℕ) → i < turn → (c : Constraint) → slice_get s.constraints
    (place_at back (length s.constraints) i) ≡ Some c → ¬ (IsStep labels reached c))
StepsBelow s back labels reached now turn true = unreached now < unreached reached

taken_fewer : (s : System) (labels : Labels) (place : ℕ) (reached : List Bool) (steps : List ℕ)
    (after : List Bool) (steps' : List ℕ)
    → length reached ≡ s.vertices → HasTaken s labels place reached steps after steps' true
    → unreached after < unreached reached
unfolding reached'
taken_fewer s labels place reached steps after steps' len (c, found, step, now, pushed) =
    let below = (s.in_range place c found).to in
    rw now (fewer s labels place reached steps c found step (omega arith))

pub below_kept : (s : System) (back : Bool) (labels : Labels) (reached now after : List Bool)
    (steps steps' : List ℕ) (turn : ℕ) (b : Bool)
    → StepsBelow s back labels reached now turn b
    → HasTaken s labels (place_at back (length s.constraints) turn) now steps after steps' false
    → StepsBelow s back labels reached after (turn + 1) b
below_kept s back labels reached now after steps steps' turn false (same, none)
    (still, as_before, here) = (
      still ∙ same,
      below_more (λ i. (c : Constraint) → slice_get s.constraints
          (place_at back (length s.constraints) i) ≡ Some c → ¬ (IsStep labels reached c)) turn none
          (λ c found. let P : List Bool → Type 0 = λ r. ¬ (IsStep labels r c) in subst P same
          (here c found)),
    )
below_kept s back labels reached now after steps steps' turn true less (still, as_before, here) =
    omega (arith, ap unreached still)

pub below_taken : (s : System) (back : Bool) (labels : Labels) (reached now after : List Bool)
    (steps steps' : List ℕ) (turn place : ℕ) (b : Bool)
    → length now ≡ s.vertices → StepsBelow s back labels reached now turn b
    → HasTaken s labels place now steps after steps' true
    → StepsBelow s back labels reached after (turn + 1) true
below_taken s back labels reached now after steps steps' turn place false len (same, none) took =
    omega (arith, taken_fewer s labels place now steps after steps' len took, ap unreached same)
below_taken s back labels reached now after steps steps' turn place true len less took = omega
    (arith, taken_fewer s labels place now steps after steps' len took)

pub below_end : (s : System) (back : Bool) (labels : Labels) (reached now : List Bool) (turn : ℕ)
    (b : Bool)
    → length s.constraints ≤ turn → StepsBelow s back labels reached now turn b
    → HasStepped s labels reached now b
below_end s back labels reached now turn false most (same, none) = (
  same,
  λ i c found.
      let t = turn_of back (length s.constraints) i (slice_get_within s.constraints i c found) in
      none (place_at back (length s.constraints) i) (omega (arith, t.0)) c
      (ap (slice_get s.constraints) t.1 ∙ found),
)
below_end s back labels reached now turn true most less = less

-- ---- all vertices with a label are reached

module _ (s : System) (labels : Labels) (root : ℕ) (reached : List Bool)
    (from : AreReached Lower s.constraints (root_label s.vertices root) labels)
    (begins : is_in reached root ≡ true) (none : NoStep s labels reached) where
  root_only : (v : ℕ) (z : ℤ) → at (root_label s.vertices root) v ≡ Some z → v ≡ root
  root_only v z is = elim (cases_eq v root) [
    | inl same ↦ same
    | inr other ↦
        let none : Labels = replicate s.vertices None in
        let before : at (root_label s.vertices root) v ≡ at none v = get_or-set_other none root v
        (Some (pos 0)) None other in
        let gone : at none v ≡ None = elim (cases_lt v s.vertices) [
          | inl below ↦ get_or-replicate s.vertices v None None below
          | inr past ↦ get_or_past none v None (omega (
            arith,
            length-replicate {A = Option ℤ}
                s.vertices None,
          ))
        ] in
        cc
  ]

  in_or_out : (v : ℕ) → (is_in reached v ≡ true) ⊎ (is_in reached v ≡ false)
  in_or_out v = either (is_in reached v) refl where
    either : (b : Bool) → is_in reached v ≡ b → (is_in reached v ≡ true) ⊎ (is_in reached v ≡ false)
    either true is = inl is
    either false is = inr is

  reaches : (fuel v : ℕ) (z : ℤ) → from.stamp v < fuel → at labels v ≡ Some z
      → is_in reached v ≡ true
  reaches zero v z less is = absurd (omega arith)
  reaches (suc fuel) v z less is = elim (from.reached v z is) [
    | inl start ↦ ap (is_in reached) (root_only v z start) ∙ begins
    | inr t ↦
        let before : is_in reached t.constraint.from ≡ true = reaches fuel t.constraint.from t.there
        (omega (arith, t.earlier)) t.above in
        elim (in_or_out v) [
          | inl here ↦ here
          | inr out ↦
              absurd (none t.place t.constraint t.found (
                before,
                ap (is_in reached) t.ends ∙ out,
                t.there,
                t.above,
                ap (at labels) t.ends ∙ is ∙ ap (λ x. Some x) t.sum,
              ))
        ]
  ]

  known_at : (v : ℕ) (o : Option ℤ) → at labels v ≡ o
      → known_of labels reached v ≡ option_map neg_ℤ (at labels v)
  known_at v (Some z) is = known_in labels reached v
      (reaches (suc (from.stamp v)) v z (omega arith) is)
  known_at v None is = elim (in_or_out v) [
    | inl here ↦ known_in labels reached v here
    | inr out ↦ known_out labels reached v out ∙ sym (ap (option_map neg_ℤ) is)
  ]

  pub known_all : (v : ℕ) → known_of labels reached v ≡ option_map neg_ℤ (at labels v)
  known_all v = known_at v (at labels v) refl

-- the same things are known in the end
pub shows_same : (s : System) (steps : List ℕ) (known all all' : ℕ → Option ℤ)
    → Shows s known steps all → ((v : ℕ) → all v ≡ all' v) → Shows s known steps all'
shows_same s [] known all all' h same = λ v. h v ∙ same v
shows_same s (i ∷ steps) known all all' (c, z, found, from, to, rest) same =
    (c, z, found, from, to, shows_same s steps (learn known c.to (z -ℤ c.most)) all all' rest same)

-- ---- the root alone is reached

module _ (n root : ℕ) (labels : Labels) (below : root < n) (label : at labels root ≡ Some (pos 0))
  where
    pub root_in : is_in (set (replicate n false) root true) root ≡ true
    root_in = get_or-set_same (replicate n false) root true false
        (omega (arith, length-replicate n false))

    root_out : (v : ℕ) → (v ≡ root → ⊥) → is_in (set (replicate n false) root true) v ≡ false
    root_out v other = get_or-set_other (replicate n false) root v true false other ∙ elim
        (cases_lt v n) [
          | inl in_list ↦ get_or-replicate n v false false in_list
          | inr past ↦ get_or_past (replicate n false) v false (omega (arith, length-replicate n false))
        ]

    alone_here : (v : ℕ) → v ≡ root → root_alone root v ≡ Some (pos 0)
    alone_here v is = grind (arith, nat_tests)

    alone_there : (v : ℕ) → (v ≡ root → ⊥) → root_alone root v ≡ None
    alone_there v is = grind (arith, nat_tests)

    pub shows_root : (s : System)
        → Shows s (root_alone root) [] (known_of labels (set (replicate n false) root true))
    shows_root s v = elim (cases_eq v root) [
      | inl same ↦
          let here = known_in labels (set (replicate n false) root true) root root_in ∙ ap
          (option_map neg_ℤ) label in
          alone_here v same ∙ sym (ap (known_of labels (set (replicate n false) root true)) same ∙
          here)
      | inr other ↦ alone_there v other ∙ sym (known_out labels (set (replicate n false) root true) v
          (root_out v other))
    ]
