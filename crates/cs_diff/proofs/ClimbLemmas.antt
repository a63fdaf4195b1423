-- Climbing by parents: where it goes on without an end it comes back, and a label too low makes it
-- endless.
use Rattle.std.proofs.Common.{◌≡◌, ℕ, zero, suc, ◌+◌, ◌-◌, ◌<◌, ◌≤◌, List, [], ◌∷◌, ◌++◌, Option, Some, None, sym, ap, ◌∙◌, arith, inl, inr, refl, add-one, add-zero, add-suc}
use Rattle.std.specs.Prelude.{slice_get}
use Rattle.std.specs.Option.{option_map, option_and_then, unwrap_or}
use Rattle.std.proofs.lemmas.Bool.{cases_eq, cases_lt}
use Rattle.std.proofs.lemmas.Option.{option_and_then_some}
use Rattle.cs_diff.proofs.Pigeons.{pigeons}
use Rattle.cs_diff.specs.declared.system.Constraint.{Constraint}
use Rattle.cs_diff.specs.declared.reading.Reading.{Reading}
use Rattle.cs_diff.specs.declared.reading.Reading.TheVariants.{Upper, Lower}
use Rattle.cs_diff.specs.Ranges.{IsAmong, AreAmong}
use Rattle.cs_diff.specs.Labels.{tail, Parents, at, up, ancestor, ClimbsBy}

module _ (d : Reading) (cs : List Constraint) (parents : Parents) where
  -- one parent more
  pub ancestor_more : (k v w : ℕ) → ancestor d cs parents k v ≡ Some w
      → ancestor d cs parents (k + 1) v ≡ up d cs parents w
  ancestor_more k v w is = rw add-one (ap (option_and_then (up d cs parents)) is)

  -- where the parents end, they lead no further
  pub ancestor_ends : (k n v : ℕ) → ancestor d cs parents k v ≡ None → k ≤ n
      → ancestor d cs parents n v ≡ None
  ancestor_ends k zero v none most = let same : k ≡ 0 = omega arith in rw same at none
  ancestor_ends k (suc n) v none most = elim (cases_lt n k) [
    | inl past ↦ let same : k ≡ suc n = omega arith in rw same at none
    | inr below ↦ ap (option_and_then (up d cs parents)) (ancestor_ends k n v none below)
  ]

  -- before a vertex that the parents reach they reach others
  pub ancestor_before : (k n v u : ℕ) → ancestor d cs parents n v ≡ Some u → k ≤ n
      → (w : ℕ) × (ancestor d cs parents k v ≡ Some w)
  ancestor_before k n v u is most = before (ancestor d cs parents k v) refl where
    before : (o : Option ℕ) → ancestor d cs parents k v ≡ o
        → (w : ℕ) × (ancestor d cs parents k v ≡ Some w)
    before None none = let gone = ancestor_ends k n v none most in cc
    before (Some w) found = (w, found)

  pub ancestor_add : (p k v u : ℕ) → ancestor d cs parents k v ≡ Some u
      → ancestor d cs parents (k + p) v ≡ ancestor d cs parents p u
  ancestor_add zero k v u is = rw add-zero is
  ancestor_add (suc p) k v u is = rw add-suc (ap (option_and_then (up d cs parents))
      (ancestor_add p k v u is))

  -- what a parent leads to, and by which constraint
  pub record Step (w u : ℕ) : Type 0 where
    pub place : ℕ
    pub constraint : Constraint
    pub parent : at parents w ≡ Some place
    pub found : slice_get cs place ≡ Some constraint
    pub ends : tail d constraint ≡ u

  pub step_up : (w u : ℕ) → up d cs parents w ≡ Some u → Step w u
  step_up w u is = by_parent (at parents w) refl is where
    by_place : (i : ℕ) → at parents w ≡ Some i → (o : Option Constraint) → slice_get cs i ≡ o
        → option_map (tail d) o ≡ Some u → Step w u
    by_place i parent None found bad = cc
    by_place i parent (Some c) found good = record {
      place = i;
      constraint = c;
      parent = parent;
      found = found;
      ends = cc;
    }

    by_parent : (o : Option ℕ) → at parents w ≡ o
        → option_map (tail d) (option_and_then (slice_get cs) o) ≡ Some u → Step w u
    by_parent None parent bad = cc
    by_parent (Some i) parent good = by_place i parent (slice_get cs i) refl good

  -- ---- the parents stay among n vertices

  module _ (n : ℕ) (among : AreAmong n cs) where
    tail_among : (c : Constraint) (e : Reading) → IsAmong n c → tail e c < n
    tail_among c Upper one = one.to
    tail_among c Lower one = one.from

    pub ancestor_within : (k v w : ℕ) → v < n → ancestor d cs parents k v ≡ Some w → w < n
    ancestor_within zero v w below is = let same : v ≡ w = cc in rw (← same) below
    ancestor_within (suc k) v w below is =
        option_and_then_some (up d cs parents) (ancestor d cs parents k v) w is (λ u before step.
        let s = step_up u w step in
        rw (← s.ends) (tail_among s.constraint d (among s.place s.constraint s.found)))

    -- parents that lead on for n steps come back to where they lead
    pub comes_back : (v u : ℕ) → v < n → ancestor d cs parents n v ≡ Some u
        → (p : ℕ) × (0 < p) × (p ≤ n) × (ancestor d cs parents p u ≡ Some u)
    comes_back v u below is =
        let reached : (k : ℕ) → k ≤ n → (w : ℕ) × (ancestor d cs parents k v ≡ Some w) = λ k most.
        ancestor_before k n v u is most in
        let place : ℕ → ℕ = λ k. unwrap_or (ancestor d cs parents k v) 0 in
        let r = pigeons n place (λ k most. let there = reached k most in ancestor_within k v
        (place k) below (at_place k v there.0 there.1)) in
        let i = r.first in
        let j = r.second in
        let one = reached i (omega (arith, r.order, r.within)) in
        let two = reached j r.within in
        let same : one.0 ≡ two.0 = sym (ap (λ o. unwrap_or o 0) one.1) ∙ r.same ∙ ap
        (λ o. unwrap_or o 0) two.1 in
        let rest = n - i in
        let p = j - i in
        let here : ancestor d cs parents rest one.0 ≡ Some u =
        sym (ancestor_add rest i v one.0 one.1) ∙ ap (λ k. ancestor d cs parents k v)
        (let e : i + rest ≡ n = omega (arith, r.order, r.within) in e) ∙ is in
        let again : ancestor d cs parents (n + p) v ≡ Some u =
        ap (λ k. ancestor d cs parents k v) (let e : n + p ≡ j + rest = omega
        (arith, r.order, r.within) in e) ∙ ancestor_add rest j v two.0 two.1 ∙ ap
        (ancestor d cs parents rest) (sym same) ∙ here in
        (p, omega (arith, r.order), omega (arith, r.within), sym (ancestor_add p n v u is) ∙ again)
      where
        at_place : (k v w : ℕ) → ancestor d cs parents k v ≡ Some w
            → ancestor d cs parents k v ≡ Some (unwrap_or (ancestor d cs parents k v) 0)
        at_place k v w is = rw is refl

  -- ---- what the code's loops keep

  -- one parent more behind a way up
  pub climbs_more : (places : List ℕ) (x y i w : ℕ) → ClimbsBy d cs parents x places y
      → at parents y ≡ Some i → up d cs parents y ≡ Some w
      → ClimbsBy d cs parents x (places ++ i ∷ []) w
  climbs_more [] x y i w same parent step =
      let s = step_up y w step in
      let place : s.place ≡ i = cc (s.parent) in
      rw same (s.constraint, parent, rw (← place) s.found, s.ends)
  climbs_more (j ∷ places) x y i w (c, first, found, rest) parent step =
      (c, first, found, climbs_more places (tail d c) y i w rest parent step)

  -- no way of up to k parents leads back to x
  abbrev pub NoneBack : ℕ → ℕ → Type 0
  NoneBack x k = (j : ℕ) → 0 < j → j ≤ k → ancestor d cs parents j x ≡ Some x → ⊥

  pub back_none : (x : ℕ) → NoneBack x 0
  back_none x j some most is = absurd (omega arith)

  pub back_more : (x k : ℕ) → NoneBack x k → (ancestor d cs parents (k + 1) x ≡ Some x → ⊥)
      → NoneBack x (k + 1)
  back_more x k before here j some most is = elim (cases_eq j (k + 1)) [
    | inl same ↦ here (rw (← same) is)
    | inr other ↦ before j some (omega arith) is
  ]

  -- where the way up ends, none of its vertices comes back
  pub back_ends : (x k n : ℕ) → NoneBack x k → ancestor d cs parents (k + 1) x ≡ None → NoneBack x n
  back_ends x k n before none j some most is = elim (cases_lt k j) [
    | inl past ↦ let gone = ancestor_ends (k + 1) j x none (omega arith) in cc
    | inr below ↦ before j some below is
  ]

  pub up_none : (v : ℕ) → at parents v ≡ None → up d cs parents v ≡ None
  up_none v is = ap (λ o. option_map (tail d) (option_and_then (slice_get cs) o)) is
