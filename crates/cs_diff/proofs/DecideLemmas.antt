-- A system has a solution, or a loop of its constraints has a sum below 0.
use Rattle.std.proofs.Common.{◌≡◌, ℕ, zero, suc, ◌*◌, ◌^◌, ◌<◌, ◌⊎◌, List, [], ◌∷◌, ◌++◌, length, Option, Some, None, set, map, replicate, sym, ap, ◌∙◌, arith, inl, inr, refl}
use Rattle.std.specs.Prelude.{ℤ, pos, ◌+ℤ◌, ◌-ℤ◌, ◌≤ℤ◌, ◌<ℤ◌, IsSome, slice_get}
use Rattle.std.specs.Option.{unwrap_or}
use Rattle.std.proofs.lemmas.Int.{ints, by_lt_z}
use Rattle.std.proofs.lemmas.List.{length-map, length-replicate, length-set, get_or-set_same, get_or-replicate, length_push}
use Rattle.std.proofs.lemmas.Option.{option_and_then_some}
use Rattle.cs_diff.specs.declared.system.Constraint.{Constraint}
use Rattle.cs_diff.specs.declared.system.System.{System}
use Rattle.cs_diff.specs.declared.reading.Reading.{Reading}
use Rattle.cs_diff.specs.declared.reading.Reading.TheVariants.{Upper}
use Rattle.cs_base.specs.Ranges.{IsSmall}
use Rattle.cs_diff.specs.Systems.{Holds, HasSolution, IsNegativeLoop, value_of}
use Rattle.cs_diff.specs.Labels.{Labels, Parents, at, up, ancestor, ClimbsBy, IsForest, IsLowered, AreInRange, slack_of}
use Rattle.cs_diff.proofs.LabelLemmas.{IsViolated, lowered_by}
use Rattle.cs_diff.proofs.RangeLemmas.{range_by}
use Rattle.cs_diff.proofs.ClimbLemmas.{step_up, comes_back, climbs_more}
use Rattle.cs_diff.proofs.LoopLemmas.{parent_loop, too_low}
use Rattle.cs_diff.proofs.SettleLemmas.{forest_none}
use Rattle.cs_diff.proofs.SolveLemmas.{negative_loop, starts_by_caps, cap_is}

-- ---- all constraints hold, or one fails

pub record Fails (cs : List Constraint) (r : ℕ → ℤ) : Type 0 where
  pub place : ℕ
  pub constraint : Constraint
  pub found : slice_get cs place ≡ Some constraint
  pub breaks : constraint.most <ℤ (r constraint.from -ℤ r constraint.to)

pub holds_or : (cs : List Constraint) (r : ℕ → ℤ)
    → ((i : ℕ) (c : Constraint) → slice_get cs i ≡ Some c → Holds r c) ⊎ Fails cs r
holds_or [] r = inl (λ i c is. cc)
holds_or (c ∷ cs) r =
    by_lt_z c.most (r c.from -ℤ r c.to)
    (λ fails. inr (record { place = 0; constraint = c; found = refl; breaks = fails }))
    (λ holds. elim (holds_or cs r) [
      | inl rest ↦ inl (elim [
        | zero ↦ λ d is. let same : c ≡ d = cc in rw (← same) holds
        | suc i ↦ λ
            d is. rest i d is
      ])
      | inr f ↦ inr (record {
        place = suc f.place;
        constraint = f.constraint;
        found = f.found;
        breaks = f.breaks;
      })
    ])

-- ---- loops of parents

record Climb (d : Reading) (cs : List Constraint) (parents : Parents) (p x w : ℕ) : Type 0 where
  places : List ℕ
  count : length places ≡ p
  climbs : ClimbsBy d cs parents x places w

climb_of : (d : Reading) (cs : List Constraint) (parents : Parents) (p x w : ℕ)
    → ancestor d cs parents p x ≡ Some w → Climb d cs parents p x w
climb_of d cs parents zero x w is = record { places = []; count = refl; climbs = cc }
climb_of d cs parents (suc p) x w is =
    option_and_then_some (up d cs parents) (ancestor d cs parents p x) w is (λ u before step.
    let g = climb_of d cs parents p x u before in
    let s = step_up d cs parents u w step in
    record {
      places = g.places ++ s.place ∷ [];
      count = omega (arith, length_push g.places s.place, g.count);
      climbs = climbs_more d cs parents g.places x u s.place w g.climbs s.parent step;
    })

-- ---- one relaxation after another

falls_to : (a b m : ℤ) → m <ℤ (a -ℤ b) → (b +ℤ m) <ℤ a
falls_to a b m h = omega (arith, ints)

pub record Refuted (s : System) : Type 0 where
  pub places : List ℕ
  pub loop : IsNegativeLoop s places

module _ (s : System) where
  -- labels and parents in the course of the labelling method, with a label for each vertex
  record State : Type 0 where
    labels : Labels
    parents : Parents
    labels_len : length labels ≡ s.vertices
    parents_len : length parents ≡ s.vertices
    forest : IsForest Upper s.constraints labels parents
    range : AreInRange s.vertices labels
    full : (v : ℕ) → v < s.vertices → (z : ℤ) × (at labels v ≡ Some z)

  value : Labels → ℕ → ℤ
  value labels v = unwrap_or (at labels v) (pos 0)

  value_at : (st : State) (v : ℕ) → v < s.vertices → at st.labels v ≡ Some (value st.labels v)
  unfolding value
  value_at st v below = let f = st.full v below in f.1 ∙ ap (λ z. Some z)
      (sym (ap (λ (o : Option ℤ). unwrap_or o (pos 0)) f.1))

  module _ (st : State) (f : Fails s.constraints (value st.labels)) where
    from_in : f.constraint.from < s.vertices
    from_in = (s.in_range f.place f.constraint f.found).from

    bound : ℤ
    bound = value st.labels f.constraint.to +ℤ f.constraint.most

    labels' : Labels
    labels' = set st.labels f.constraint.from (Some bound)

    parents' : Parents
    parents' = set st.parents f.constraint.from (Some f.place)

    violated : IsViolated st.labels f.constraint.from bound
    unfolding bound
    violated y is =
        let here = value_at st f.constraint.from from_in in
        let same : value st.labels f.constraint.from ≡ y = cc in
        let less = falls_to (value st.labels f.constraint.from) (value st.labels f.constraint.to)
        f.constraint.most f.breaks in
        rw same at less

    lowered : IsLowered Upper s.constraints st.labels st.parents labels' parents'
    unfolding bound labels' parents'
    lowered =
        lowered_by Upper s.constraints st.labels st.parents f.place f.constraint f.found
        (let h = from_in in let l = st.labels_len in omega arith)
        (let h = from_in in let l = st.parents_len in omega arith)
        (value st.labels f.constraint.to) (value_at st f.constraint.to
        (s.in_range f.place f.constraint f.found).to) violated

    forest' : IsForest Upper s.constraints labels' parents'
    forest' = lowered.forest st.forest

    -- a label too low has parents that close a loop
    refuted : ((bound +ℤ pos (2 ^ 31 * s.vertices)) <ℤ pos 0) → Refuted s
    unfolding labels'
    refuted low =
        let here : at labels' f.constraint.from ≡ Some bound = get_or-set_same st.labels
        f.constraint.from (Some bound) None (let h = from_in in let l = st.labels_len in omega
        arith) in
        let lasts = too_low Upper s.constraints labels' parents' s.vertices f.constraint.from
        forest' s.in_range (bound, here, low) in
        refuted_by (ancestor Upper s.constraints parents' s.vertices f.constraint.from) refl lasts
      where
        refuted_by : (o : Option ℕ)
            → ancestor Upper s.constraints parents' s.vertices f.constraint.from ≡ o
            → IsSome (ancestor Upper s.constraints parents' s.vertices f.constraint.from)
            → Refuted s
        refuted_by None is lasts = absurd (let bad = rw is at lasts in cc)
        refuted_by (Some u) is lasts =
            let back = comes_back Upper s.constraints parents' s.vertices s.in_range
            f.constraint.from u from_in is in
            let g = climb_of Upper s.constraints parents' back.0 u u back.3 in
            let l = parent_loop Upper s.constraints labels' parents' g.places forest'
            (record { vertex = u; some = omega (arith, g.count, back.1); climbs = g.climbs })
            in
            record { places = g.places; loop = negative_loop s g.places l }

    ranged : pos 0 ≤ℤ (bound +ℤ pos (2 ^ 31 * s.vertices))
        → AreInRange s.vertices labels' × (slack_of s.vertices labels' < slack_of s.vertices
        st.labels)
    unfolding bound labels'
    ranged low =
        let there = value_at st f.constraint.to (s.in_range f.place f.constraint f.found).to in
        range_by s.vertices st.labels f.constraint.from (value st.labels f.constraint.to)
        f.constraint.most st.labels_len st.range
        (let h = from_in in let l = st.labels_len in omega arith) low
        (st.range.high f.constraint.to (value st.labels f.constraint.to) there)
        (s.in_range f.place f.constraint f.found).most violated

    next : pos 0 ≤ℤ (bound +ℤ pos (2 ^ 31 * s.vertices)) → State
    unfolding labels' parents'
    next low = record {
      labels = labels';
      parents = parents';
      labels_len = length-set st.labels f.constraint.from (Some bound) ∙ st.labels_len;
      parents_len = length-set st.parents f.constraint.from (Some f.place) ∙ st.parents_len;
      forest = forest';
      range = (ranged low).0;
      full = λ v below. let had = st.full v below in let has = lowered.lower v had.0 had.1 in
          (has.0, has.1);
    }

  decide_from : (fuel : ℕ) (st : State) → slack_of s.vertices st.labels < fuel
      → HasSolution s ⊎ Refuted s
  unfolding next
  decide_from zero st less = absurd (omega arith)
  decide_from (suc fuel) st less = elim (holds_or s.constraints (value st.labels)) [
    | inl holds ↦ inl (record { values = value st.labels; solves = holds })
    | inr f ↦
        by_lt_z (bound st f +ℤ pos (2 ^ 31 * s.vertices)) (pos 0)
        (λ low. inr (refuted st f low))
        (λ low. let fell = (ranged st f low).1 in decide_from fuel (next st f low) (omega arith))
  ]

  small_zero : IsSmall (pos 0)
  small_zero = record { low = omega (arith, ints); high = omega (arith, ints) }

  start : State
  start =
      let zeros : List ℤ = replicate s.vertices (pos 0) in
      let len : length zeros ≡ s.vertices = length-replicate s.vertices (pos 0) in
      let starts = starts_by_caps s.vertices zeros len
      (λ k d below. rw (get_or-replicate s.vertices k (pos 0) d (omega arith)) small_zero) in
      let fresh : Parents = replicate s.vertices None in
      record {
        labels = map (λ cap. Some cap) zeros;
        parents = fresh;
        labels_len = length-map zeros (λ (cap : ℤ). Some cap) ∙ len;
        parents_len = length-replicate {A = Option ℕ} s.vertices None;
        forest = forest_none Upper s.constraints s.vertices (map (λ cap. Some cap) zeros) fresh
            starts (λ v. no_parent s.vertices v);
        range = starts.range;
        full = λ v below. (value_of zeros v, cap_is zeros v (omega arith));
      } where
        no_parent : (n v : ℕ) → at (replicate n (let o : Option ℕ = None in o)) v ≡ None
        no_parent zero v = refl
        no_parent (suc n) zero = refl
        no_parent (suc n) (suc v) = no_parent n v

  pub decided : HasSolution s ⊎ Refuted s
  decided = decide_from (suc (slack_of s.vertices start.labels)) start (omega arith)

-- without a loop below 0 there is a solution
pub solution_exists : (s : System) → ((places : List ℕ) → IsNegativeLoop s places → ⊥)
    → HasSolution s
solution_exists s none = elim (decided s) [
  | inl some ↦ some
  | inr r ↦ absurd (none r.places r.loop)
]
