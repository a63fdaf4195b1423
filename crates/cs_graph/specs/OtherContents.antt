-- A machine with other contents, and so with other weights, on the same edges.
use Rattle.std.specs.Prelude.{◌≡◌, ℕ, ◌-◌, ◌^◌, ◌↔◌, min, nat_lt, if◌then◌else◌, List, [], ◌∷◌, length, slice_get, Bool, Option, Some, None}
use Rattle.std.specs.List.{sum_by}
use Rattle.cs_base.specs.declared.limit.LimitFault.{LimitFault}
use Rattle.cs_base.specs.declared.limit.Counted.TheVariants.{Weight}
use Rattle.cs_graph.specs.declared.contents.Contents.{Contents}
use Rattle.cs_graph.specs.declared.edge.Edge.{Edge}
use Rattle.cs_graph.specs.declared.graph.Graph.{Graph}
use Rattle.cs_graph.specs.Lags.{of_edge}

-- an edge with these contents, and a register for each
abbrev pub edge_with : Edge → List Bool → Edge
edge_with d contents = record d { weight = length contents; contents = contents }

-- each edge with the contents of its place
abbrev pub edges_with : List Edge → List (List Bool) → List Edge
edges_with [] ks = []
edges_with (d ∷ ds) [] = []
edges_with (d ∷ ds) (k ∷ ks) = edge_with d k ∷ edges_with ds ks

-- the same vertices and memories, with these contents on the edges
abbrev pub with_contents : Contents → Graph → Graph
with_contents k g = record g { edges = edges_with g.edges k.of }

-- just an edge without a register has no contents
abbrev pub IsWireKept : Edge → List Bool → Type 0
IsWireKept d contents = (d.weight ≡ 0) ↔ (length contents ≡ 0)

-- contents for each edge, and none for just those without a register
pub record FitsEdges (g : Graph) (k : Contents) : Type 0 where
  pub lists : length k.of ≡ length g.edges
  pub wires : (e : ℕ) (d : Edge) → slice_get g.edges e ≡ Some d → IsWireKept d (of_edge k e)

-- how many registers hold these contents
abbrev pub register_count : Contents → ℕ
register_count k = sum_by length k.of

-- they are more registers than a machine may have; a count past 2^64 - 1 is told as that
abbrev pub weight_fault : Contents → Option LimitFault
weight_fault k =
    if nat_lt 65536 (register_count k)
    then Some (record { what = Weight; found = min (register_count k) (2 ^ 64 - 1); most = 65536 })
    else None
