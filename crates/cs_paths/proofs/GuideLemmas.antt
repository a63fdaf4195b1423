-- The table of edges by their beginning, edge by edge, and the places of vertices, one by one.
use Rattle.std.proofs.Common.{◌≡◌, ℕ, zero, suc, ◌+◌, ◌<◌, ◌≤◌, List, [], ◌∷◌, ◌++◌, length, set, get_or, replicate, refl, sym, ap, subst, ◌∙◌, inl, inr, arith}
use Rattle.std.specs.Prelude.{pos, Some, slice_get, Contains}
use Rattle.std.proofs.lemmas.Bool.{cases_lt, cases_eq}
use Rattle.std.proofs.lemmas.List.{get_or-set_same, get_or-set_other, length-set, length-replicate}
use Rattle.std.proofs.lemmas.List.Elements.{Contains-push, Contains-push_cases, Contains-append_left}
use Rattle.std.proofs.lemmas.Option.{same_Some, slice_get_within, get_or_from_slice_get}
use Rattle.cs_base.proofs.ListLemmas.{at_set_same, at_set_other}
use Rattle.cs_graph.specs.declared.edge.Edge.{Edge}
use Rattle.cs_graph.specs.declared.graph.Graph.{Graph}
use Rattle.cs_graph.specs.Invariant.{IsMachine}
use Rattle.cs_graph.specs.Order.{IsOrder, no_lags}
use Rattle.cs_graph.proofs.LagLemmas.{weight_alone}
use Rattle.cs_paths.proofs.DefaultLemmas.{get_or_default}
use Rattle.cs_paths.specs.declared.guide.Guide.{Guide}
use Rattle.cs_paths.specs.Guides.{leaving_of, AreLeaving, ArePlaces, place_of, IsGuide}

-- ---- edges by their beginning

-- for each vertex those of the first n edges that leave it
pub record AreLeavingSoFar (g : Graph) (n : ℕ) (leaving : List (List ℕ)) : Type 0 where
  pub count : length leaving ≡ length g.vertices
  pub every : (e : ℕ) (d : Edge) → e < n → slice_get g.edges e ≡ Some d → Contains (leaving_of leaving d.from) e
  pub only : (v e : ℕ) → Contains (leaving_of leaving v) e
      → (d : Edge) × (slice_get g.edges e ≡ Some d) × (d.from ≡ v)

empty_at : (n v : ℕ) → leaving_of (replicate n []) v ≡ []
empty_at zero v = refl
empty_at (suc n) zero = refl
empty_at (suc n) (suc v) = empty_at n v

none_contained : (e : ℕ) → Contains [] e → ⊥
none_contained e (k, low, is) = omega (arith, low)

pub leaving_begins : (g : Graph) (leaving : List (List ℕ)) → leaving ≡ replicate (length g.vertices) []
    → AreLeavingSoFar g 0 leaving
leaving_begins g leaving is = subst (AreLeavingSoFar g 0) (sym is) (record {
  count = length-replicate (length g.vertices) [];
  every = λ e d low found. absurd (omega (arith, low));
  only = λ v e h. absurd (none_contained e (subst (λ es. Contains es e) (empty_at (length g.vertices) v) h));
})

-- edge n more leaves v
abbrev pub with_edge : List (List ℕ) → ℕ → ℕ → List (List ℕ)
with_edge leaving v n = set leaving v (leaving_of leaving v ++ n ∷ [])

pub leaving_goes_on : (g : Graph) (n : ℕ) (leaving : List (List ℕ)) (d : Edge) → AreLeavingSoFar g n leaving
    → slice_get g.edges n ≡ Some d → d.from < length g.vertices
    → AreLeavingSoFar g (n + 1) (with_edge leaving d.from n)
leaving_goes_on g n leaving d are found among = record {
  count = length-set leaving d.from _ ∙ are.count;
  every = λ e c low there. elim (cases_lt e n) [
    | inl less ↦ elim (cases_eq c.from d.from) [
      | inl same ↦
          let old = subst (λ v. Contains (leaving_of leaving v) e) same (are.every e c less there) in
          subst (λ v. Contains (leaving_of (with_edge leaving d.from n) v) e) (sym same)
          (subst (λ es. Contains es e) (sym here)
          (Contains-append_left (leaving_of leaving d.from) (n ∷ []) e old))
      | inr away ↦ subst (λ es. Contains es e) (sym (other c.from away)) (are.every e c less there)
    ]
    | inr more ↦
        let same : e ≡ n = omega (arith, low, more) in
        let edge = same_Some d c (sym found ∙ ap (slice_get g.edges) (sym same) ∙ there) in
        subst (λ (x : Edge). Contains (leaving_of (with_edge leaving d.from n) x.from) e) edge
        (subst (λ es. Contains es e) (sym here)
        (subst (Contains (leaving_of leaving d.from ++ n ∷ [])) (sym same)
        (Contains-push (leaving_of leaving d.from) n)))
  ];
  only = λ v e h. elim (cases_eq v d.from) [
    | inl same ↦
        elim (Contains-push_cases (leaving_of leaving d.from) n e
        (subst (λ es. Contains es e) (ap (leaving_of (with_edge leaving d.from n)) same ∙ here) h)) [
          | inl old ↦ subst (λ w. (c : Edge) × (slice_get g.edges e ≡ Some c) × (c.from ≡ w)) (sym same)
              (are.only d.from e old)
          | inr new ↦ (d, ap (slice_get g.edges) (sym new) ∙ found, sym same)
        ]
    | inr away ↦ are.only v e (subst (λ es. Contains es e) (other v away) h)
  ];
}
  where
    here : leaving_of (with_edge leaving d.from n) d.from ≡ leaving_of leaving d.from ++ n ∷ []
    here = get_or-set_same leaving d.from (leaving_of leaving d.from ++ n ∷ []) []
        (let count = are.count in omega (arith, among, count))

    other : (v : ℕ) → (v ≡ d.from → ⊥) → leaving_of (with_edge leaving d.from n) v ≡ leaving_of leaving v
    other v away = get_or-set_other leaving d.from v (leaving_of leaving d.from ++ n ∷ []) [] away

-- the list that is read is that of the vertex
pub leaving_read : (leaving : List (List ℕ)) (row : List ℕ) (i v : ℕ) → i ≡ v → v < length leaving
    → row ≡ get_or leaving i row → leaving_of leaving v ≡ row
leaving_read leaving row i v same low read =
    ap (leaving_of leaving) (sym same)
    ∙ get_or_default leaving i [] row (subst (λ n. n < length leaving) (sym same) low) ∙ sym read

pub leaving_ends : (g : Graph) (n : ℕ) (leaving : List (List ℕ)) → AreLeavingSoFar g n leaving
    → length g.edges ≤ n → AreLeaving g leaving
leaving_ends g n leaving are all = record {
  count = are.count;
  every = λ e d found. are.every e d
      (let within = slice_get_within g.edges e d found in omega (arith, within, all)) found;
  only = are.only;
}

-- ---- places

-- the places of the first k vertices of an order
pub record ArePlacesSoFar (order : List ℕ) (k : ℕ) (places : List ℕ) : Type 0 where
  pub count : length places ≡ length order
  pub each : (j v : ℕ) → j < k → slice_get order j ≡ Some v → slice_get places v ≡ Some j

module _ (g : Graph) (order : List ℕ) (ordered : IsOrder g no_lags order) where
  pub order_low : (k v : ℕ) → slice_get order k ≡ Some v → v < length order
  order_low k v at = let low = (ordered.once k v at).0 in let count = ordered.count in omega (arith, low, count)

  pub places_begin : (places : List ℕ) → length places ≡ length order → ArePlacesSoFar order 0 places
  places_begin places count = record { count = count; each = λ j v low at. absurd (omega (arith, low)) }

  pub places_go_on : (k v : ℕ) (places : List ℕ) → ArePlacesSoFar order k places → slice_get order k ≡ Some v
      → ArePlacesSoFar order (k + 1) (set places v k)
  places_go_on k v places are at = record {
    count = length-set places v k ∙ are.count;
    each = λ j w low there. elim (cases_lt j k) [
      | inl less ↦
          at_set_other places v w k (λ same.
          let first = (ordered.once k v at).1 in
          let second = (ordered.once j w there).1 in
          let place = ap ordered.place same in
          absurd (omega (arith, first, second, place, less))) ∙ are.each j w less there
      | inr more ↦
          let same : j ≡ k = omega (arith, low, more) in
          let vertex = same_Some v w (sym at ∙ ap (slice_get order) (sym same) ∙ there) in
          let within = order_low k v at in
          let count = are.count in
          subst (λ n. slice_get (set places v k) n ≡ Some j) vertex
          (at_set_same places v k (omega (arith, within, count)) ∙ ap Some (sym same))
    ];
  }

  pub places_end : (k : ℕ) (places : List ℕ) → ArePlacesSoFar order k places → length order ≤ k
      → ArePlaces order places
  places_end k places are all = record {
    count = are.count;
    each = λ j v at. are.each j v (let within = slice_get_within order j v at in omega (arith, within, all)) at;
  }

  -- ---- guides

  module _ (machine : IsMachine g) (leaving : List (List ℕ)) (places : List ℕ) (edges : AreLeaving g leaving)
      (are : ArePlaces order places) where
    abbrev made : Guide
    made = record { leaving = leaving; order = order; places = places }

    place_known : (k v : ℕ) → slice_get order k ≡ Some v → place_of made v ≡ k
    place_known k v at = get_or_from_slice_get places v k 0 (are.each k v at)

    place_same : (v : ℕ) → v < length g.vertices → place_of made v ≡ ordered.place v
    place_same v low = place_known (ordered.place v) v (ordered.at v low)

    pub guide_made : IsGuide g made
    guide_made = record {
      leaving = edges;
      count = are.count ∙ ordered.count;
      ordered = ordered.count;
      at = λ v low. ap (slice_get order) (place_same v low) ∙ ordered.at v low;
      once = λ k v at. ((ordered.once k v at).0, place_known k v at);
      below = λ e d found none.
          let from = place_same d.from (machine.well_formed.from e d found) in
          let to = place_same d.to (machine.well_formed.to e d found) in
          let less = ordered.below e d found (weight_alone d ∙ ap pos none) in
          omega (arith, from, to, less);
    }
