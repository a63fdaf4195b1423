-- Numbering the edges of a machine anew, with nothing added, gives the machine.
use Rattle.std.proofs.Common.{◌≡◌, ◌⊎◌, ℕ, zero, suc, ◌+◌, ◌<◌, ◌≤◌, List, [], ◌∷◌, ◌++◌, length, map, drop, refl, sym, ap, ap₂, subst, ◌∙◌, inl, inr, arith}
use Rattle.std.specs.Prelude.{slice_get, Some}
use Rattle.std.specs.List.{sum_by}
use Rattle.std.proofs.lemmas.Bool.{cases_lt}
use Rattle.std.proofs.lemmas.List.Sums.{sum_by-cons}
use Rattle.std.proofs.lemmas.Option.{same_Some, slice_get_within}
use Rattle.cs_graph.specs.declared.edge.Edge.{Edge}
use Rattle.cs_graph.specs.declared.graph.Graph.{Graph}
use Rattle.cs_graph.specs.declared.source.OpenVertex.{OpenVertex}
use Rattle.cs_graph.specs.declared.vertex.Feed.{Feed}
use Rattle.cs_graph.specs.declared.vertex.Feed.TheVariants.{Edge as Along, Tied}
use Rattle.cs_graph.specs.declared.vertex.Vertex.{Vertex}
use Rattle.cs_graph.specs.Draft.{built, driven, edge_into, edges_from, edges_into, feed_of, feeds_from, vertices_from}
use Rattle.cs_graph.specs.Invariant.{IsMachine}
use Rattle.cs_bank.specs.Wired.{edge_source, feed_source, wired, wired_vertex}
use Rattle.cs_bank.proofs.Lists.{append_assoc, append_none, drop_at, there}

-- an edge leads to a pin before pin i of vertex v, or not
abbrev LeadsAhead : ℕ → ℕ → Edge → Type 0
LeadsAhead v i d = (d.to < v) ⊎ ((d.to ≡ v) × (d.pin < i))

abbrev LeadsFrom : ℕ → ℕ → Edge → Type 0
LeadsFrom v i d = (v < d.to) ⊎ ((v ≡ d.to) × (i ≤ d.pin))

-- the edges below e lead to pins before pin i of vertex v, and all others to that pin or later ones
pub record IsNext (es : List Edge) (e v i : ℕ) : Type 0 where
  pub before : (f : ℕ) (d : Edge) → f < e → slice_get es f ≡ Some d → LeadsAhead v i d
  pub after : (f : ℕ) (d : Edge) → e ≤ f → slice_get es f ≡ Some d → LeadsFrom v i d

number_of_feed : Feed → ℕ
number_of_feed (Tied b) = 0
number_of_feed (Along e) = suc e

not_tied : (b : _) (e : ℕ) → Tied b ≡ Along e → ⊥
unfolding number_of_feed
not_tied b e same = let no : ◌≡◌ {A = ℕ} 0 (suc e) = ap number_of_feed same in absurd (omega (arith, no))

not_ahead : (v i : ℕ) (d : Edge) → d.to ≡ v → d.pin ≡ i → LeadsAhead v i d → ⊥
not_ahead v i d to pin (inl less) = absurd (omega (arith, to, less))
not_ahead v i d to pin (inr (same, less)) = absurd (omega (arith, pin, less))

-- an edge that leads to pin i of v or later, before one that leads to it
not_between : (v i : ℕ) (d d' : Edge) → d'.to ≡ v → d'.pin ≡ i → LeadsFrom v i d
    → (d.to < d'.to) ⊎ ((d.to ≡ d'.to) × (d.pin < d'.pin)) → ⊥
not_between v i d d' to pin (inl more) (inl less) = absurd (omega (arith, to, more, less))
not_between v i d d' to pin (inl more) (inr (same, less)) = absurd (omega (arith, to, more, same))
not_between v i d d' to pin (inr (here, more)) (inl less) = absurd (omega (arith, to, here, less))
not_between v i d d' to pin (inr (here, more)) (inr (same, less)) = absurd (omega (arith, pin, more, less))

ahead_next : (v i : ℕ) (d : Edge) → LeadsAhead v i d → LeadsAhead v (i + 1) d
ahead_next v i d (inl less) = inl less
ahead_next v i d (inr (same, less)) = inr (same, omega (arith, less))

from_next : (v i : ℕ) (d : Edge) → LeadsFrom v i d → (v ≡ d.to → i ≡ d.pin → ⊥) → LeadsFrom v (i + 1) d
from_next v i d (inl more) other = inl more
from_next v i d (inr (here, more)) other = elim (cases_lt i d.pin) [
  | inl less ↦ inr (here, omega (arith, less))
  | inr least ↦ absurd (other here (omega (arith, more, least)))
]

-- what leads after an edge to pin i of v leads to later pins
after_here : (v i : ℕ) (d d' : Edge) → d.to ≡ v → d.pin ≡ i → (d.to < d'.to) ⊎ ((d.to ≡ d'.to) × (d.pin < d'.pin))
    → LeadsFrom v (i + 1) d'
after_here v i d d' to pin (inl less) = inl (omega (arith, to, less))
after_here v i d d' to pin (inr (same, less)) = inr (sym to ∙ same, omega (arith, pin, less))

ahead_vertex : (v i : ℕ) (d : Edge) → LeadsAhead v i d → LeadsAhead (v + 1) 0 d
ahead_vertex v i d (inl less) = inl (omega (arith, less))
ahead_vertex v i d (inr (same, less)) = inl (omega (arith, same))

from_vertex : (v i : ℕ) (d : Edge) → LeadsFrom v i d → (v ≡ d.to → d.pin < i) → LeadsFrom (v + 1) 0 d
from_vertex v i d (inr (here, more)) within = let less = within here in absurd (omega (arith, more, less))
from_vertex v i d (inl more) within = elim (cases_lt (v + 1) d.to) [
  | inl less ↦ inl less
  | inr least ↦ inr (omega (arith, more, least), omega arith)
]

-- the pins fs from pin i of vertex v on, where the next edge is e
pub record PinsAgain (es : List Edge) (e v i : ℕ) (fs : List Feed) : Type 0 where
  pub feeds : feeds_from e (map (feed_source es) fs) ≡ fs
  pub edges : edges_into v i (map (feed_source es) fs) ++ drop (e + sum_by driven (map (feed_source es) fs)) es
      ≡ drop e es
  pub next : IsNext es (e + sum_by driven (map (feed_source es) fs)) v (i + length fs)

module _ (g : Graph) (is : IsMachine g) where
  -- the same of one pin
  record PinAgain (e v i : ℕ) (f : Feed) : Type 0 where
    feed : feed_of e (feed_source g.edges f) ≡ f
    edge : edge_into v i (feed_source g.edges f) ++ drop (e + driven (feed_source g.edges f)) g.edges ≡ drop e g.edges
    next : IsNext g.edges (e + driven (feed_source g.edges f)) v (i + 1)

  module _ (v i e : ℕ) (x : Vertex) (found : slice_get g.vertices v ≡ Some x) (at : IsNext g.edges e v i) where
    tied_again : (b : _) → slice_get x.pins i ≡ Some (Tied b) → PinAgain e v i (Tied b)
    tied_again b pin =
        let none : e + 0 ≡ e = omega arith in
        record {
          feed = refl;
          edge = ap (λ n. drop n g.edges) none;
          next = record {
            before = λ f d low here. ahead_next v i d (at.before f d (omega (arith, low)) here);
            after = λ f d high here. from_next v i d (at.after f d (omega (arith, high)) here) (λ to same.
                let feeds = is.well_formed.fed.feeds f d here in
                let y = same_Some x feeds.0 (sym found ∙ ap (slice_get g.vertices) to ∙ feeds.1) in
                let tied = sym pin ∙ ap (slice_get x.pins) same ∙ ap (λ (z : Vertex). slice_get z.pins d.pin) y
                ∙ feeds.2 in
                not_tied b f (same_Some (Tied b) (Along f) tied));
          };
        }

    -- the edge that a pin names is the next
    is_next : (f : ℕ) (d : Edge) → slice_get x.pins i ≡ Some (Along f) → slice_get g.edges f ≡ Some d → e ≡ f
    is_next f d pin here =
        let to = is.well_formed.fed.to v i f x d found pin here in
        let at_pin = is.well_formed.fed.pin v i f x d found pin here in
        elim (cases_lt f e) [
          | inl less ↦ absurd (not_ahead v i d to at_pin (at.before f d less here))
          | inr least ↦ elim (cases_lt e f) [
            | inl more ↦
                let within = slice_get_within g.edges f d here in
                let first = there g.edges e (omega (arith, more, within)) in
                absurd (not_between v i first.0 d to at_pin (at.after e first.0 (omega arith) first.1)
                (is.numbered e f first.0 d more first.1 here))
            | inr most ↦ omega (arith, least, most)
          ]
        ]

    along_edge : (f : ℕ) (d : Edge) → slice_get x.pins i ≡ Some (Along f) → slice_get g.edges f ≡ Some d
        → PinAgain e v i (Along f)
    along_edge f d pin here =
        let to = is.well_formed.fed.to v i f x d found pin here in
        let at_pin = is.well_formed.fed.pin v i f x d found pin here in
        let held = is.well_formed.held f d here in
        let same = is_next f d pin here in
        let source = ap edge_source here in
        let count = ap driven source in
        let next : e + driven (feed_source g.edges (Along f)) ≡ e + 1 = ap (λ n. e + n) count in
        record {
          feed = ap (feed_of e) source ∙ ap Along same;
          edge = ap₂ (λ s n. edge_into v i s ++ drop n g.edges) source next
              ∙ ap₂ (λ t p. record d { to = t; pin = p; weight = length d.contents } ∷ drop (e + 1) g.edges) (sym to)
              (sym at_pin)
              ∙ ap (λ w. record d { weight = w } ∷ drop (e + 1) g.edges) held
              ∙ sym (drop_at g.edges e d (ap (slice_get g.edges) same ∙ here));
          next = record {
            before = λ k y low there. elim (cases_lt k e) [
              | inl less ↦ ahead_next v i y (at.before k y less there)
              | inr least ↦
                  let k_is : k ≡ f = omega (arith, low, next, least, same) in
                  let y_is = same_Some d y (sym here ∙ ap (slice_get g.edges) (sym k_is) ∙ there) in
                  inr (
                    sym (ap (λ (z : Edge). z.to) y_is) ∙ to,
                    let pin_is = sym (ap (λ (z : Edge). z.pin) y_is)
                        ∙ at_pin in omega (arith, pin_is),
                  )
            ];
            after = λ k y high there. after_here v i d y to at_pin
                (is.numbered f k d y (omega (arith, high, next, same)) here there);
          };
        }

    pin_again : (f : Feed) → slice_get x.pins i ≡ Some f → PinAgain e v i f
    pin_again (Tied b) pin = tied_again b pin
    pin_again (Along f) pin =
        let found_edge = there g.edges f (is.well_formed.fed.named v i f x found pin) in
        along_edge f found_edge.0 pin found_edge.1

  -- ---- all pins of a vertex

  pins_again : (v : ℕ) (x : Vertex) → slice_get g.vertices v ≡ Some x → (i e : ℕ) (fs : List Feed)
      → ((k : ℕ) → slice_get fs k ≡ slice_get x.pins (i + k)) → IsNext g.edges e v i → PinsAgain g.edges e v i fs
  pins_again v x found i e [] pins at =
      let none : e + 0 ≡ e = omega arith in
      let here : i + 0 ≡ i = omega arith in
      record {
        feeds = refl;
        edges = ap (λ n. drop n g.edges) none;
        next = record {
          before = λ f d low there. subst (λ j. LeadsAhead v j d) (sym here) (at.before f d (omega (arith, low)) there);
          after = λ f d high there. subst (λ j. LeadsFrom v j d) (sym here) (at.after f d (omega (arith, high)) there);
        };
      }
  pins_again v x found i e (f ∷ fs) pins at =
      let first : i + 0 ≡ i = omega arith in
      let one = pin_again v i e x found at f (ap (slice_get x.pins) (sym first) ∙ sym (pins 0)) in
      let s = feed_source g.edges f in
      let ss = map (feed_source g.edges) fs in
      let rest = pins_again v x found (i + 1) (e + driven s) fs
      (λ k. let place : i + suc k ≡ (i + 1) + k = omega arith in pins (suc k) ∙ ap (slice_get x.pins) place)
      one.next in
      let count = sum_by-cons driven s ss in
      let total : e + sum_by driven (s ∷ ss) ≡ (e + driven s) + sum_by driven ss = omega (arith, count) in
      let many : (i + 1) + length fs ≡ i + length (f ∷ fs) = omega arith in
      record {
        feeds = ap₂ (λ y ys. y ∷ ys) one.feed rest.feeds;
        edges = ap (λ n. (edge_into v i s ++ edges_into v (i + 1) ss) ++ drop n g.edges) total
            ∙ append_assoc (edge_into v i s) (edges_into v (i + 1) ss)
            (drop ((e + driven s) + sum_by driven ss) g.edges)
            ∙ ap (λ es. edge_into v i s ++ es) rest.edges
            ∙ one.edge;
        next = subst (λ n. IsNext g.edges n v (i + length (f ∷ fs))) (sym total)
            (subst (λ j. IsNext g.edges ((e + driven s) + sum_by driven ss) v j) many rest.next);
      }

  -- ---- all vertices

  edge_counts : List Vertex → ℕ
  edge_counts xs = sum_by (λ (y : OpenVertex). sum_by driven y.pins) (map (wired_vertex g.edges) xs)

  -- the vertices xs from v on, where the next edge is e
  record VerticesAgain (e v : ℕ) (xs : List Vertex) : Type 0 where
    vertices : vertices_from e (map (wired_vertex g.edges) xs) ≡ xs
    edges : edges_from v (map (wired_vertex g.edges) xs) ++ drop (e + edge_counts xs) g.edges ≡ drop e g.edges
    next : IsNext g.edges (e + edge_counts xs) (v + length xs) 0

  next_vertex : (v e : ℕ) (x : Vertex) → slice_get g.vertices v ≡ Some x → IsNext g.edges e v (0 + length x.pins)
      → IsNext g.edges e (v + 1) 0
  next_vertex v e x found at = record {
    before = λ f d low there. ahead_vertex v (0 + length x.pins) d (at.before f d low there);
    after = λ f d high there. from_vertex v (0 + length x.pins) d (at.after f d high there) (λ to.
        let feeds = is.well_formed.fed.feeds f d there in
        let y = same_Some x feeds.0 (sym found ∙ ap (slice_get g.vertices) to ∙ feeds.1) in
        let within = slice_get_within x.pins d.pin (Along f) (ap (λ (z : Vertex). slice_get z.pins d.pin) y
        ∙ feeds.2) in
        omega (arith, within));
  }

  vertices_again : (v e : ℕ) (xs : List Vertex) → ((k : ℕ) → slice_get xs k ≡ slice_get g.vertices (v + k))
      → IsNext g.edges e v 0 → VerticesAgain e v xs
  unfolding edge_counts
  vertices_again v e [] rows at =
      let none : e + 0 ≡ e = omega arith in
      let here : v + 0 ≡ v = omega arith in
      record {
        vertices = refl;
        edges = ap (λ n. drop n g.edges) none;
        next = subst (λ n. IsNext g.edges n (v + 0) 0) (sym none) (subst (λ u. IsNext g.edges e u 0) (sym here) at);
      }
  vertices_again v e (x ∷ xs) rows at =
      let first : v + 0 ≡ v = omega arith in
      let found = ap (slice_get g.vertices) (sym first) ∙ sym (rows 0) in
      let one = pins_again v x found 0 e x.pins
      (λ k. let place : k ≡ 0 + k = omega arith in ap (slice_get x.pins) place) at in
      let ss = map (feed_source g.edges) x.pins in
      let next = next_vertex v (e + sum_by driven ss) x found one.next in
      let rest = vertices_again (v + 1) (e + sum_by driven ss) xs
      (λ k. let place : v + suc k ≡ (v + 1) + k = omega arith in rows (suc k) ∙ ap (slice_get g.vertices) place)
      next in
      let count = sum_by-cons (λ (y : OpenVertex). sum_by driven y.pins) (wired_vertex g.edges x)
      (map (wired_vertex g.edges) xs) in
      let total : e + edge_counts (x ∷ xs) ≡ (e + sum_by driven ss) + edge_counts xs = omega (arith, count) in
      let many : (v + 1) + length xs ≡ v + length (x ∷ xs) = omega arith in
      record {
        vertices = ap₂ (λ y ys. record { kind = x.kind; pins = y } ∷ ys) one.feeds rest.vertices;
        edges = ap (λ n. (edges_into v 0 ss ++ edges_from (v + 1) (map (wired_vertex g.edges) xs)) ++ drop n g.edges)
            total
            ∙ append_assoc (edges_into v 0 ss) (edges_from (v + 1) (map (wired_vertex g.edges) xs))
            (drop ((e + sum_by driven ss) + edge_counts xs) g.edges)
            ∙ ap (λ es. edges_into v 0 ss ++ es) rest.edges
            ∙ one.edges;
        next = subst (λ n. IsNext g.edges n (v + length (x ∷ xs)) 0) (sym total)
            (subst (λ u. IsNext g.edges ((e + sum_by driven ss) + edge_counts xs) u 0) many rest.next);
      }

  -- ---- the machine

  starts_next : IsNext g.edges 0 0 0
  starts_next = record {
    before = λ f d low there. absurd (omega (arith, low));
    after = λ f d high there. elim (cases_lt 0 d.to) [
      | inl less ↦ inl less
      | inr least ↦ inr (omega (arith, least), omega arith)
    ];
  }

  none_after : (es : List Edge) (e v : ℕ) → es ≡ g.edges → IsNext es e v 0 → v ≡ length g.vertices → drop e es ≡ []
  none_after es e v same at all = elim (cases_lt e (length es)) [
    | inl less ↦
        let first = there es e less in
        let low = is.well_formed.to e first.0 (ap (λ xs. slice_get xs e) (sym same) ∙ first.1) in
        absurd (past_all first.0 low all (at.after e first.0 (omega arith) first.1))
    | inr least ↦ drop_past es e least
  ]
    where
      past_all : (d : Edge) → d.to < length g.vertices → v ≡ length g.vertices → LeadsFrom v 0 d → ⊥
      past_all d low all (inl more) = absurd (omega (arith, low, all, more))
      past_all d low all (inr (here, more)) = absurd (omega (arith, low, all, here))

      drop_past : (ds : List Edge) (n : ℕ) → length ds ≤ n → drop n ds ≡ []
      drop_past [] zero h = refl
      drop_past [] (suc n) h = refl
      drop_past (d ∷ ds) zero h = absurd (omega (arith, h))
      drop_past (d ∷ ds) (suc n) h = drop_past ds n (omega (arith, h))

  -- built of its own sources, a machine is what it was
  pub built_again : built (wired g) ≡ g
  built_again =
      let all = vertices_again 0 0 g.vertices
      (λ k. let place : k ≡ 0 + k = omega arith in ap (slice_get g.vertices) place) starts_next in
      let many : 0 + length g.vertices ≡ length g.vertices = omega arith in
      let rest = none_after g.edges (0 + edge_counts g.vertices) (0 + length g.vertices) refl all.next many in
      let edges = sym (append_none (edges_from 0 (wired g).vertices))
      ∙ ap (λ es. edges_from 0 (wired g).vertices ++ es) (sym rest)
      ∙ all.edges
      ∙ drop_none g.edges in
      ap₂ (λ vs es. record { vertices = vs; edges = es; memories = g.memories }) all.vertices edges
    where
      drop_none : (ds : List Edge) → drop 0 ds ≡ ds
      drop_none [] = refl
      drop_none (d ∷ ds) = refl
