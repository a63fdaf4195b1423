-- A machine with other contents on its edges is a machine, and has the same order.
use Rattle.std.proofs.Common.{◌≡◌, ℕ, zero, suc, ◌+◌, ◌<◌, ◌≤◌, ◌^◌, Bool, List, [], ◌∷◌, ◌++◌, length, drop, get_or, refl, sym, ap, ap₂, subst, ◌∙◌, arith, length-append, append_assoc}
use Rattle.std.specs.Prelude.{pos, slice_get, Some}
use Rattle.std.specs.List.{sum_by}
use Rattle.std.proofs.lemmas.Int.{ints}
use Rattle.std.proofs.lemmas.List.Sums.{sum_by-cons}
use Rattle.std.proofs.lemmas.Option.{none-some, same_Some}
use Rattle.cs_graph.specs.declared.contents.Contents.{Contents}
use Rattle.cs_graph.specs.declared.vertex.Feed.TheVariants.{Edge as Along}
use Rattle.cs_graph.specs.declared.vertex.Vertex.{Vertex}
use Rattle.cs_graph.specs.declared.edge.Edge.{Edge}
use Rattle.cs_graph.specs.declared.graph.Graph.{Graph}
use Rattle.cs_graph.specs.Invariant.{IsWellFormed, IsMachine, LeadsBefore, HasOutput, kinds}
use Rattle.cs_graph.specs.Lags.{of_edge, weight_under}
use Rattle.cs_graph.specs.Order.{IsOrder, no_lags}
use Rattle.cs_graph.specs.OtherContents.{edge_with, edges_with, with_contents, FitsEdges, register_count}
use Rattle.cs_graph.proofs.LagLemmas.{weight_alone}

-- ---- edges

-- each new edge is an old one with the contents of its place
pub made_from : (ds : List Edge) (ks : List (List Bool)) (e : ℕ) (d' : Edge)
    → slice_get (edges_with ds ks) e ≡ Some d'
    → (d : Edge) × (slice_get ds e ≡ Some d) × (d' ≡ edge_with d (get_or ks e []))
made_from [] ks e d' h = absurd (none-some d' h)
made_from (d ∷ ds) [] e d' h = absurd (none-some d' h)
made_from (d ∷ ds) (k ∷ ks) zero d' h = (d, refl, sym (same_Some (edge_with d k) d' h))
made_from (d ∷ ds) (k ∷ ks) (suc e) d' h = made_from ds ks e d' h

pub length_edges_with : (ds : List Edge) (ks : List (List Bool)) → length ks ≡ length ds
    → length (edges_with ds ks) ≡ length ds
length_edges_with [] ks h = refl
length_edges_with (d ∷ ds) [] h = absurd (omega arith)
length_edges_with (d ∷ ds) (k ∷ ks) h = ap suc (length_edges_with ds ks (omega arith))

pub weights_with : (ds : List Edge) (ks : List (List Bool)) → length ks ≡ length ds
    → sum_by (λ (d : Edge). d.weight) (edges_with ds ks) ≡ sum_by length ks
weights_with [] [] h = refl
weights_with [] (k ∷ ks) h = absurd (omega arith)
weights_with (d ∷ ds) [] h = absurd (omega arith)
weights_with (d ∷ ds) (k ∷ ks) h =
    sum_by-cons (λ (x : Edge). x.weight) (edge_with d k) (edges_with ds ks)
    ∙ ap (λ n. length k + n) (weights_with ds ks (omega arith))
    ∙ sym (sum_by-cons length k ks)

-- ---- the machine

weight_alone_is : (d : Edge) → weight_under no_lags d ≡ pos 0 → d.weight ≡ 0
weight_alone_is d h = none d.weight (sym (weight_alone d) ∙ h)
  where
    none : (w : ℕ) → pos w ≡ pos 0 → w ≡ 0
    none w h = omega (arith, ints)

none_alone : (d : Edge) → d.weight ≡ 0 → weight_under no_lags d ≡ pos 0
none_alone d h = weight_alone d ∙ ap pos h

module _ (g : Graph) (k : Contents) (fits : FitsEdges g k) where
  -- the edge that it was
  was : (e : ℕ) (d' : Edge) → slice_get (with_contents k g).edges e ≡ Some d'
      → (d : Edge) × (slice_get g.edges e ≡ Some d) × (d' ≡ edge_with d (of_edge k e))
  was e d' found = made_from g.edges k.of e d' found

  -- an edge without a register had none
  had_none : (e : ℕ) (d' : Edge) → (found : slice_get (with_contents k g).edges e ≡ Some d') → d'.weight ≡ 0
      → (was e d' found).0.weight ≡ 0
  had_none e d' found none =
      let old = was e d' found in
      (fits.wires e old.0 old.1).1 (sym (ap (λ (x : Edge). x.weight) old.2) ∙ none)

  pub with_contents_whole : IsWellFormed g → IsWellFormed (with_contents k g)
  with_contents_whole whole = record {
    fed = record {
      named = λ v i e x is at.
          let named = whole.fed.named v i e x is at in
          subst (λ n. e < n) (sym (length_edges_with g.edges k.of fits.lists)) named;
      to = λ v i e x d' is at found.
          let old = was e d' found in
          ap (λ (y : Edge). y.to) old.2 ∙ whole.fed.to v i e x old.0 is at old.1;
      pin = λ v i e x d' is at found.
          let old = was e d' found in
          ap (λ (y : Edge). y.pin) old.2 ∙ whole.fed.pin v i e x old.0 is at old.1;
      feeds = λ e d' found.
          let old = was e d' found in
          subst (λ (y : Edge). (x : Vertex) × (slice_get g.vertices y.to ≡ Some x) × (slice_get x.pins y.pin ≡
          Some (Along e))) (sym old.2) (whole.fed.feeds e old.0 old.1);
    };
    from = λ e d' found.
        let old = was e d' found in
        subst (λ (y : Edge). y.from < length g.vertices) (sym old.2) (whole.from e old.0 old.1);
    to = λ e d' found.
        let old = was e d' found in
        subst (λ (y : Edge). y.to < length g.vertices) (sym old.2) (whole.to e old.0 old.1);
    held = λ e d' found.
        let old = was e d' found in
        subst (λ (y : Edge). length y.contents ≡ y.weight) (sym old.2) refl;
    order = record {
      place = whole.order.place;
      span = whole.order.span;
      within = whole.order.within;
      below = λ e d' found none.
          let old = was e d' found in
          subst (λ (y : Edge). whole.order.place y.from < whole.order.place y.to) (sym old.2) (whole.order.below e
          old.0 old.1 (had_none e d' found none));
    };
  }

  pub with_contents_machine : IsMachine g → register_count k ≤ 65536 → IsMachine (with_contents k g)
  with_contents_machine machine few = record {
    well_formed = with_contents_whole machine.well_formed;
    host = machine.host;
    pins = machine.pins;
    outputs = λ e d' found.
        let old = was e d' found in
        subst (λ (y : Edge). HasOutput g.memories (kinds g.vertices) y.from y.output) (sym old.2) (machine.outputs e
        old.0 old.1);
    memories = machine.memories;
    numbered = λ e f d d' less found found'.
        let one = was e d found in
        let other = was f d' found' in
        subst (λ (y : Edge). LeadsBefore y d') (sym one.2) (subst (λ (y : Edge). LeadsBefore one.0 y) (sym other.2)
        (machine.numbered e f one.0 other.0 less one.1 other.1));
    limits = record {
      vertices = machine.limits.vertices;
      edges = let same = length_edges_with g.edges k.of fits.lists in let most = machine.limits.edges in omega (
        arith,
        same,
        most,
      );
      weight = let same = weights_with g.edges k.of fits.lists in omega (arith, same, few);
    };
  }

  pub with_contents_order : (order : List ℕ) → IsOrder g no_lags order → IsOrder (with_contents k g) no_lags order
  with_contents_order order is = record {
    place = is.place;
    count = is.count;
    at = is.at;
    once = is.once;
    below = λ e d' found none.
        let old = was e d' found in
        let empty = had_none e d' found (weight_alone_is d' none) in
        subst (λ (y : Edge). is.place y.from < is.place y.to) (sym old.2) (is.below e old.0 old.1 (none_alone old.0
        empty));
  }

-- ---- edge by edge

-- what is made of the edges so far, and of the rest with the rest of the contents
pub record EdgesSoFar (ds : List Edge) (ks : List (List Bool)) (made : List Edge) (rest : List (List Bool)) : Type
    0 where
  pub all : made ++ edges_with (drop (length made) ds) rest ≡ edges_with ds ks
  pub count : length made + length rest ≡ length ds
  pub few : sum_by length rest < 2 ^ 32

dropped : (ds : List Edge) (n : ℕ) (d : Edge) → slice_get ds n ≡ Some d → drop n ds ≡ d ∷ drop (suc n) ds
dropped [] n d h = absurd (none-some d h)
dropped (x ∷ ds) zero d h = ap (λ y. y ∷ ds) (same_Some x d h)
dropped (x ∷ ds) (suc n) d h = dropped ds n d h

pub edges_begin : (ds : List Edge) (ks : List (List Bool)) (made : List Edge) (rest : List (List Bool)) → made ≡ []
    → rest ≡ ks → length ks ≡ length ds → sum_by length ks < 2 ^ 32 → EdgesSoFar ds ks made rest
edges_begin ds ks made rest none same count few = rw (none, same) (record {
  all = refl;
  count = omega (arith, count);
  few = few;
})

pub edges_go_on : (ds : List Edge) (ks : List (List Bool)) (made made' : List Edge) (rest rest' : List (List Bool))
    (k : List Bool) (d : Edge) → EdgesSoFar ds ks made rest → rest ≡ k ∷ rest' → slice_get ds (length made) ≡ Some d
    → made' ≡ made ++ edge_with d k ∷ [] → EdgesSoFar ds ks made' rest'
edges_go_on ds ks made made' rest rest' k d so_far next found more =
    let longer : length made' ≡ suc (length made) = ap length more ∙ length-append made (edge_with d k ∷ []) ∙
    omega arith in
    let sum = ap (sum_by length) next ∙ sum_by-cons length k rest' in
    record {
      all =
          ap₂ (λ xs n. xs ++ edges_with (drop n ds) rest') more longer
          ∙ append_assoc made (edge_with d k ∷ []) (edges_with (drop (suc (length made)) ds) rest')
          ∙ ap (λ xs. made ++ edges_with xs (k ∷ rest')) (sym (dropped ds (length made) d found))
          ∙ ap (λ xs. made ++ edges_with (drop (length made) ds) xs) (sym next)
          ∙ so_far.all;
      count = let count = so_far.count in let left = ap length next in omega (arith, count, left, longer);
      few = let few = so_far.few in omega (arith, few, sum);
    }

pub next_is_short : (ds : List Edge) (ks : List (List Bool)) (made : List Edge) (rest rest' : List (List Bool))
    (k : List Bool) → EdgesSoFar ds ks made rest → rest ≡ k ∷ rest'
    → (length made < length ds) × (length k < 2 ^ 32)
next_is_short ds ks made rest rest' k so_far next =
    let sum = ap (sum_by length) next ∙ sum_by-cons length k rest' in
    let left = ap length next in
    let count = so_far.count in
    let few = so_far.few in
    (omega (arith, count, left), omega (arith, few, sum))
