-- What the pins of a built graph read: of each source, its tied bit or an edge of its own.
use Rattle.std.proofs.Common.{◌≡◌, ℕ, zero, suc, ◌+◌, false, List, [], ◌∷◌, ◌++◌, length, Option, Some, None, refl, ap, subst, ◌∙◌, arith}
use Rattle.std.specs.Prelude.{slice_get}
use Rattle.std.specs.List.{sum_by}
use Rattle.std.proofs.lemmas.Option.{none-some, same_Some}
use Rattle.cs_graph.specs.declared.edge.Edge.{Edge}
use Rattle.cs_graph.specs.declared.source.Driver.{Driver}
use Rattle.cs_graph.specs.declared.source.OpenVertex.{OpenVertex}
use Rattle.cs_graph.specs.declared.source.Source.{Source}
use Rattle.cs_graph.specs.declared.source.Source.TheVariants.{Tied as TiedTo, Driven}
use Rattle.cs_graph.specs.declared.vertex.Feed.{Feed}
use Rattle.cs_graph.specs.declared.vertex.Feed.TheVariants.{Edge as Along, Tied}
use Rattle.cs_graph.specs.declared.vertex.Vertex.{Vertex}
use Rattle.cs_graph.specs.Draft.{Draft, built, driven, edge_into, edges_from, edges_into, feed_of, feeds_from, vertices_from}
use Rattle.cs_graph.proofs.NumberingLemmas.{length_edge_into, length_edges_into, length_feeds_from}
use Rattle.cs_graph.proofs.Lists.{get_left, get_right}

-- ---- edges

-- the edge that a driver makes at pin i of vertex v
abbrev pub edge_by : ℕ → ℕ → Driver → Edge
edge_by v i k = record {
  from = k.from;
  output = k.output;
  to = v;
  pin = i;
  weight = length k.contents;
  contents = k.contents;
}

-- what pin i of vertex v reads of its source, among these edges
abbrev pub Reads : List Edge → ℕ → ℕ → Option Source → Feed → Type 0
Reads edges v i None f = f ≡ Tied false
Reads edges v i (Some (TiedTo b)) f = f ≡ Tied b
Reads edges v i (Some (Driven k)) f = (n : ℕ) × (f ≡ Along n) × (slice_get edges n ≡ Some (edge_by v i k))

-- those of a part are those of all from number e on
abbrev pub AreFrom : List Edge → ℕ → List Edge → Type 0
AreFrom edges e part = (n : ℕ) (d : Edge) → slice_get part n ≡ Some d → slice_get edges (e + n) ≡ Some d

first_from : (edges : List Edge) (e : ℕ) (part rest : List Edge) → AreFrom edges e (part ++ rest)
    → AreFrom edges e part
first_from edges e part rest from n d at = from n d (get_left part rest n d at)

then_from : (edges : List Edge) (e k : ℕ) (part rest : List Edge) → length part ≡ k
    → AreFrom edges e (part ++ rest) → AreFrom edges (e + k) rest
then_from edges e k part rest count from n d at =
    let place : (e + k) + n ≡ e + (k + n) = omega arith in
    let there : k + n ≡ length part + n = omega (arith, count) in
    ap (slice_get edges) place ∙ from (k + n) d (get_right part rest (k + n) n there ∙ at)

-- ---- pins

-- a pin that reads its source
pub record PinAt (edges : List Edge) (v i : ℕ) (s : Option Source) (pin : Option Feed) : Type 0 where
  pub feed : Feed
  pub found : pin ≡ Some feed
  pub reads : Reads edges v i s feed

first_pin : (edges : List Edge) (v j e : ℕ) (s : Option Source) → AreFrom edges e (edge_into v j s)
    → Reads edges v j s (feed_of e s)
first_pin edges v j e None from = refl
first_pin edges v j e (Some (TiedTo b)) from = refl
first_pin edges v j e (Some (Driven k)) from =
    let here : e ≡ e + 0 = omega arith in (e, refl, ap (slice_get edges) here ∙ from 0 (edge_by v j k) refl)

pin_at : (edges : List Edge) (v j e : ℕ) (ss : List (Option Source)) → AreFrom edges e (edges_into v j ss)
    → (i : ℕ) (s : Option Source) → slice_get ss i ≡ Some s → PinAt edges v (j + i) s (slice_get (feeds_from e ss) i)
pin_at edges v j e [] from i s at = absurd (none-some s at)
pin_at edges v j e (z ∷ ss) from zero s at =
    let here : j ≡ j + 0 = omega arith in
    let first = first_pin edges v j e z (first_from edges e (edge_into v j z) (edges_into v (j + 1) ss) from) in
    subst (λ k. PinAt edges v k s (slice_get (feeds_from e (z ∷ ss)) 0)) here
    (subst (λ y. PinAt edges v j y (slice_get (feeds_from e (z ∷ ss)) 0)) (same_Some z s at)
    (record { feed = feed_of e z; found = refl; reads = first }))
pin_at edges v j e (z ∷ ss) from (suc i) s at =
    let place : (j + 1) + i ≡ j + suc i = omega arith in
    subst (λ k. PinAt edges v k s (slice_get (feeds_from (e + driven z) ss) i)) place
    (pin_at edges v (j + 1) (e + driven z) ss
    (then_from edges e (driven z) (edge_into v j z) (edges_into v (j + 1) ss) (length_edge_into v j z) from) i s at)

-- ---- vertices

-- a vertex of a kind whose pins read their sources
pub record VertexAt (edges : List Edge) (v : ℕ) (open_vertex : OpenVertex) (found_vertex : Option Vertex) : Type 0 where
  pub vertex : Vertex
  pub found : found_vertex ≡ Some vertex
  pub kind : vertex.kind ≡ open_vertex.kind
  pub count : length vertex.pins ≡ length open_vertex.pins
  pub pins : (i : ℕ) (s : Option Source) → slice_get open_vertex.pins i ≡ Some s
      → PinAt edges v i s (slice_get vertex.pins i)

first_vertex : (edges : List Edge) (v e : ℕ) (x : OpenVertex) → AreFrom edges e (edges_into v 0 x.pins)
    → VertexAt edges v x (Some (record { kind = x.kind; pins = feeds_from e x.pins }))
first_vertex edges v e x from = record {
  vertex = record { kind = x.kind; pins = feeds_from e x.pins };
  found = refl;
  kind = refl;
  count = length_feeds_from e x.pins;
  pins = λ i s at.
      let same : 0 + i ≡ i = omega arith in
      subst (λ k. PinAt edges v k s (slice_get (feeds_from e x.pins) i)) same (pin_at edges v 0 e x.pins from i s at);
}

vertex_at : (edges : List Edge) (v e : ℕ) (xs : List OpenVertex) → AreFrom edges e (edges_from v xs)
    → (w : ℕ) (x : OpenVertex) → slice_get xs w ≡ Some x
    → VertexAt edges (v + w) x (slice_get (vertices_from e xs) w)
vertex_at edges v e [] from w x at = absurd (none-some x at)
vertex_at edges v e (y ∷ xs) from zero x at =
    let here : v ≡ v + 0 = omega arith in
    let first = first_vertex edges v e y (first_from edges e (edges_into v 0 y.pins) (edges_from (v + 1) xs) from) in
    subst (λ k. VertexAt edges k x (slice_get (vertices_from e (y ∷ xs)) 0)) here
    (subst (λ z. VertexAt edges v z (slice_get (vertices_from e (y ∷ xs)) 0)) (same_Some y x at) first)
vertex_at edges v e (y ∷ xs) from (suc w) x at =
    let place : (v + 1) + w ≡ v + suc w = omega arith in
    subst (λ k. VertexAt edges k x (slice_get (vertices_from (e + sum_by driven y.pins) xs) w)) place
    (vertex_at edges (v + 1) (e + sum_by driven y.pins) xs
    (then_from edges e (sum_by driven y.pins) (edges_into v 0 y.pins) (edges_from (v + 1) xs)
    (length_edges_into v 0 y.pins) from) w x at)

-- each vertex of a draft is one of what is built of it, by the same number
pub built_vertex : (d : Draft) (v : ℕ) (x : OpenVertex) → slice_get d.vertices v ≡ Some x
    → VertexAt (built d).edges v x (slice_get (built d).vertices v)
built_vertex d v x at =
    let same : 0 + v ≡ v = omega arith in
    subst (λ k. VertexAt (built d).edges k x (slice_get (built d).vertices v)) same
    (vertex_at (built d).edges 0 0 d.vertices (λ n e there. whole n e there) v x at)
  where
    whole : (n : ℕ) (e : Edge) → slice_get (edges_from 0 d.vertices) n ≡ Some e
        → slice_get (edges_from 0 d.vertices) (0 + n) ≡ Some e
    whole n e there = let same : 0 + n ≡ n = omega arith in ap (slice_get (edges_from 0 d.vertices)) same ∙ there
