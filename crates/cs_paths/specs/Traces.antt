-- Edges by which what is known of a vertex is attained.
use Rattle.std.specs.Prelude.{◌≡◌, ℕ, List, Some, slice_get}
use Rattle.cs_graph.specs.declared.delays.Delays.{Delays}
use Rattle.cs_graph.specs.declared.edge.Edge.{Edge}
use Rattle.cs_graph.specs.declared.graph.Graph.{Graph}
use Rattle.cs_paths.specs.declared.reach.Reach.{Reach}
use Rattle.cs_paths.specs.Reaches.{known_at}
use Rattle.cs_paths.specs.Searches.{along}

-- what is known of the beginning of edge e is, along it, so many registers and this delay
pub record Attains (g : Graph) (delays : Delays) (row : List Reach) (at : ℕ × ℕ) (e : ℕ) : Type 0 where
  pub edge : Edge
  pub found : slice_get g.edges e ≡ Some edge
  pub before : ℕ × ℕ
  pub known : known_at row edge.from ≡ Some before
  pub is : along delays edge before ≡ at

-- edge e attains them, and leads to v
pub record IsLastEdge (g : Graph) (delays : Delays) (row : List Reach) (v : ℕ) (at : ℕ × ℕ) (e : ℕ) : Type 0 where
  pub attains : Attains g delays row at e
  pub to : attains.edge.to ≡ v
