-- What a builder holds: vertices whose pins may be open, and memories.
use Rattle.std.specs.Prelude.{◌≡◌, ℕ, zero, suc, ◌+◌, ◌<◌, ◌≤◌, ◌⊎◌, false, nat_lt, if◌then◌else◌, List, [], ◌∷◌, ◌++◌, length, map, slice_get, slice_set, Option, Some, None}
use Rattle.std.specs.List.{sum_by}
use Rattle.cs_base.specs.declared.limit.LimitFault.{LimitFault}
use Rattle.cs_base.specs.declared.limit.Counted.TheVariants.{Vertices, Edges, Weight}
use Rattle.cs_graph.specs.declared.source.Source.{Source}
use Rattle.cs_graph.specs.declared.source.Source.TheVariants.{Tied as TiedTo, Driven}
use Rattle.cs_graph.specs.declared.source.Driver.{Driver}
use Rattle.cs_graph.specs.declared.source.OpenVertex.{OpenVertex}
use Rattle.cs_graph.specs.declared.vertex.Feed.{Feed}
use Rattle.cs_graph.specs.declared.vertex.Feed.TheVariants.{Tied, Edge as Along}
use Rattle.cs_graph.specs.declared.vertex.VertexKind.{VertexKind}
use Rattle.cs_graph.specs.declared.vertex.VertexKind.TheVariants.{Host}
use Rattle.cs_graph.specs.declared.vertex.Vertex.{Vertex}
use Rattle.cs_graph.specs.declared.edge.Edge.{Edge}
use Rattle.cs_graph.specs.declared.memory.Memory.{Memory}
use Rattle.cs_graph.specs.declared.graph.Graph.{Graph}
use Rattle.cs_graph.specs.Kinds.{pin_count}
use Rattle.cs_graph.specs.Invariant.{HasHost, HasMemories, HasOutput}

-- the vertices and memories given so far
pub record Draft : Type 0 where
  pub vertices : List OpenVertex
  pub memories : List Memory

-- the kinds of the vertices
abbrev pub open_kinds : List OpenVertex → List VertexKind
open_kinds vertices = map (λ x. x.kind) vertices

-- the Host alone
abbrev pub host_alone : Draft
host_alone = record { vertices = record { kind = Host; pins = [] } ∷ []; memories = [] }

-- pin i of vertex v is there and isn't fed
abbrev pub IsOpen : List OpenVertex → ℕ → ℕ → Type 0
IsOpen xs v i = (x : OpenVertex) × (slice_get xs v ≡ Some x) × (slice_get x.pins i ≡ Some None)

-- the vertices with this source at pin i of vertex v
abbrev pub with_source : List OpenVertex → ℕ → ℕ → Source → List OpenVertex
with_source [] v i s = []
with_source (x ∷ xs) zero i s = record x { pins = slice_set x.pins i (Some s) } ∷ xs
with_source (x ∷ xs) (suc v) i s = x ∷ with_source xs v i s

-- ---- counts

-- how many edges a pin makes
abbrev pub driven : Option Source → ℕ
driven None = 0
driven (Some (TiedTo b)) = 0
driven (Some (Driven k)) = 1

-- how many registers it has
abbrev pub registers : Option Source → ℕ
registers None = 0
registers (Some (TiedTo b)) = 0
registers (Some (Driven k)) = length k.contents

-- how many edges there are
abbrev pub edge_count : List OpenVertex → ℕ
edge_count xs = sum_by (λ (x : OpenVertex). sum_by driven x.pins) xs

-- how many registers there are
abbrev pub weight : List OpenVertex → ℕ
weight xs = sum_by (λ (x : OpenVertex). sum_by registers x.pins) xs

-- one vertex more would be too many
abbrev pub vertex_fault : List OpenVertex → Option LimitFault
vertex_fault xs =
    if nat_lt 4096 (length xs + 1) then Some (record { what = Vertices; found = length xs + 1; most = 4096 })
    else None

-- one edge more would be too many, or else so many registers more
abbrev pub edge_fault : List OpenVertex → ℕ → Option LimitFault
edge_fault xs more =
    if nat_lt 32768 (edge_count xs + 1)
    then Some (record { what = Edges; found = edge_count xs + 1; most = 32768 })
    else if nat_lt 65536 (weight xs + more)
    then Some (record { what = Weight; found = weight xs + more; most = 65536 })
    else None

-- ---- what every builder keeps

-- vertices, edges and registers are within their limits
pub record IsWithinLimits (xs : List OpenVertex) : Type 0 where
  pub vertices : length xs ≤ 4096
  pub edges : edge_count xs ≤ 32768
  pub weight : weight xs ≤ 65536

-- as what every machine keeps, but for open pins and loops
pub record IsDraft (d : Draft) : Type 0 where
  pub host : HasHost (open_kinds d.vertices)
  pub pins : (v : ℕ) (x : OpenVertex) → slice_get d.vertices v ≡ Some x
      → length x.pins ≡ pin_count d.memories x.kind
  pub outputs : (v i : ℕ) (x : OpenVertex) (k : Driver) → slice_get d.vertices v ≡ Some x
      → slice_get x.pins i ≡ Some (Some (Driven k))
      → HasOutput d.memories (open_kinds d.vertices) k.from k.output
  pub memories : HasMemories d.memories (open_kinds d.vertices)
  pub limits : IsWithinLimits d.vertices

-- ---- what `finish` makes

-- what a pin reads where its edge would have the number e
abbrev pub feed_of : ℕ → Option Source → Feed
feed_of e None = Tied false
feed_of e (Some (TiedTo b)) = Tied b
feed_of e (Some (Driven k)) = Along e

-- the edge that leads to pin i of vertex v, if there is one
abbrev pub edge_into : ℕ → ℕ → Option Source → List Edge
edge_into v i None = []
edge_into v i (Some (TiedTo b)) = []
edge_into v i (Some (Driven k)) =
    record {
      from = k.from;
      output = k.output;
      to = v;
      pin = i;
      weight = length k.contents;
      contents = k.contents;
    } ∷ []

-- what pins read where their edges are numbered from e on
abbrev pub feeds_from : ℕ → List (Option Source) → List Feed
feeds_from e [] = []
feeds_from e (s ∷ ss) = feed_of e s ∷ feeds_from (e + driven s) ss

-- the edges that lead to the pins from i on of vertex v
abbrev pub edges_into : ℕ → ℕ → List (Option Source) → List Edge
edges_into v i [] = []
edges_into v i (s ∷ ss) = edge_into v i s ++ edges_into v (i + 1) ss

-- the vertices where their edges are numbered from e on
abbrev pub vertices_from : ℕ → List OpenVertex → List Vertex
vertices_from e [] = []
vertices_from e (x ∷ xs) =
    record { kind = x.kind; pins = feeds_from e x.pins } ∷ vertices_from (e + sum_by driven x.pins) xs

-- the edges that lead to the vertices from v on
abbrev pub edges_from : ℕ → List OpenVertex → List Edge
edges_from v [] = []
edges_from v (x ∷ xs) = edges_into v 0 x.pins ++ edges_from (v + 1) xs

-- the machine of exactly what was given, its edges numbered by vertex, then by pin
abbrev pub built : Draft → Graph
built d = record {
  vertices = vertices_from 0 d.vertices;
  edges = edges_from 0 d.vertices;
  memories =
      d.memories;
}

-- every pin is fed
abbrev pub AreFed : List OpenVertex → Type 0
AreFed xs = (v i : ℕ) → IsOpen xs v i → ⊥

-- pin i of vertex v is the first that isn't fed
pub record IsFirstOpen (xs : List OpenVertex) (v i : ℕ) : Type 0 where
  pub open_pin : IsOpen xs v i
  pub first : (u j : ℕ) → IsOpen xs u j → (v < u) ⊎ ((v ≡ u) × (i ≤ j))
