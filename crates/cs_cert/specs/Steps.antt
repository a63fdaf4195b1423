-- Steps between vertices, cycles of them, and lower bounds that they show (after Leiserson and Saxe's constraints).
use Rattle.std.specs.Prelude.{◌≡◌, ◌≢◌, ℕ, ◌<◌, ◌⊎◌, ℤ, pos, ◌+ℤ◌, ◌-ℤ◌, ◌<ℤ◌, List, [], ◌∷◌, length, slice_get, Some, IsTrue}
use Rattle.cs_base.specs.declared.contexts.Mode.{Mode}
use Rattle.cs_base.specs.declared.contexts.Mode.TheVariants.{Forward}
use Rattle.cs_graph.specs.declared.edge.Edge.{Edge}
use Rattle.cs_graph.specs.declared.vertex.Vertex.{Vertex}
use Rattle.cs_graph.specs.declared.graph.Graph.{Graph}
use Rattle.cs_graph.specs.declared.delays.Delays.{Delays}
use Rattle.cs_graph.specs.Kinds.{is_pinned}
use Rattle.cs_graph.specs.Period.{IsPath, edge_weight, path_delay, path_weight}
use Rattle.cs_cert.specs.declared.step.Step.{Step}
use Rattle.cs_cert.specs.declared.step.Step.TheVariants.{EdgeStep, PathStep, PinStep}

-- the vertex is one that no lag moves
pub record IsPinned (g : Graph) (v : ℕ) : Type 0 where
  pub vertex : Vertex
  pub there : slice_get g.vertices v ≡ Some vertex
  pub pinned : IsTrue (is_pinned vertex.kind)

-- the step goes from u to v: along its edge, along the edges of its path, or from its one vertex to the other
abbrev pub Goes : Graph → Step → ℕ → ℕ → Type 0
Goes g (EdgeStep e) u v = (d : Edge) × (slice_get g.edges e ≡ Some d) × (d.from ≡ u) × (d.to ≡ v)
Goes g (PathStep from edges) u v = (from ≡ u) × (from < length g.vertices) × IsPath g from edges v
Goes g (PinStep from to) u v = (from ≡ u) × (to ≡ v)

-- what it costs: the registers of its edge, those of its path less one, or nothing
abbrev pub cost : Graph → Step → ℤ
cost g (EdgeStep e) = pos (edge_weight (slice_get g.edges e))
cost g (PathStep from edges) = pos (path_weight g edges) -ℤ pos 1
cost g (PinStep from to) = pos 0

-- it is valid for a bound: a path's delay is above the bound; a step between pins ends at a pinned vertex, and begins at
-- one, or registers move forward alone
abbrev pub IsValid : Graph → Delays → Mode → ℕ → Step → Type 0
IsValid g delays mode bound (EdgeStep e) = Unit {0}
IsValid g delays mode bound (PathStep from edges) = bound < path_delay g delays from edges
IsValid g delays mode bound (PinStep from to) = IsPinned g to × ((mode ≡ Forward) ⊎ IsPinned g from)

-- steps that lead from u to v, each valid for the bound and beginning where the one before it ended
abbrev pub Lead : Graph → Delays → Mode → ℕ → ℕ → List Step → ℕ → Type 0
Lead g delays mode bound u [] v = u ≡ v
Lead g delays mode bound u (step ∷ steps) v =
    (w : ℕ) × Goes g step u w × IsValid g delays mode bound step × Lead g delays mode bound w steps v

-- what the steps cost together
abbrev pub total_cost : Graph → List Step → ℤ
total_cost g [] = pos 0
total_cost g (step ∷ steps) = cost g step +ℤ total_cost g steps

-- valid steps, at least one, that lead from a vertex back to it and cost less than nothing
pub record IsValidCycle (g : Graph) (delays : Delays) (mode : Mode) (bound : ℕ) (steps : List Step) : Type 0 where
  pub some : steps ≢ []
  pub vertex : ℕ
  pub leads : Lead g delays mode bound vertex steps vertex
  pub negative : total_cost g steps <ℤ pos 0
