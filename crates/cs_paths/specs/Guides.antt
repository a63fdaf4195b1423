-- What all searches of a machine share: the edges by their beginning, and the places of vertices in an order.
use Rattle.std.specs.Prelude.{◌≡◌, ℕ, ◌<◌, List, [], length, get_or, slice_get, Some, Contains}
use Rattle.cs_graph.specs.declared.edge.Edge.{Edge}
use Rattle.cs_graph.specs.declared.graph.Graph.{Graph}
use Rattle.cs_paths.specs.declared.guide.Guide.{Guide}

-- the edges that leave a vertex
abbrev pub leaving_of : List (List ℕ) → ℕ → List ℕ
leaving_of leaving v = get_or leaving v []

-- for each vertex the edges that leave it
pub record AreLeaving (g : Graph) (leaving : List (List ℕ)) : Type 0 where
  pub count : length leaving ≡ length g.vertices
  pub every : (e : ℕ) (d : Edge) → slice_get g.edges e ≡ Some d → Contains (leaving_of leaving d.from) e
  pub only : (v e : ℕ) → Contains (leaving_of leaving v) e
      → (d : Edge) × (slice_get g.edges e ≡ Some d) × (d.from ≡ v)

-- for each vertex its place in the order
pub record ArePlaces (order places : List ℕ) : Type 0 where
  pub count : length places ≡ length order
  pub each : (k v : ℕ) → slice_get order k ≡ Some v → slice_get places v ≡ Some k

-- the place of a vertex
abbrev pub place_of : Guide → ℕ → ℕ
place_of guide v = get_or guide.places v 0

-- the edges by their beginning, an order of the vertices in which each comes after all that feed it without a
-- register, and their places in it
pub record IsGuide (g : Graph) (guide : Guide) : Type 0 where
  pub leaving : AreLeaving g guide.leaving
  pub count : length guide.places ≡ length g.vertices
  pub ordered : length guide.order ≡ length g.vertices
  pub at : (v : ℕ) → v < length g.vertices → slice_get guide.order (place_of guide v) ≡ Some v
  pub once : (k v : ℕ) → slice_get guide.order k ≡ Some v → (v < length g.vertices) × (place_of guide v ≡ k)
  pub below : (e : ℕ) (d : Edge) → slice_get g.edges e ≡ Some d → d.weight ≡ 0
      → place_of guide d.from < place_of guide d.to
