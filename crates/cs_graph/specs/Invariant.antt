-- What each machine keeps.
use Rattle.std.specs.Prelude.{◌≡◌, ℕ, ◌*◌, ◌^◌, ◌<◌, ◌≤◌, ◌⊎◌, Some, List, slice_get, take, map, length}
use Rattle.std.specs.List.{count_by, sum_by}
use Rattle.cs_graph.specs.declared.vertex.Feed.TheVariants.{Edge as Along}
use Rattle.cs_graph.specs.declared.vertex.VertexKind.{VertexKind}
use Rattle.cs_graph.specs.declared.vertex.VertexKind.TheVariants.{Host, Input, Output, Constant, Gate, Read, Write}
use Rattle.cs_graph.specs.declared.vertex.Vertex.{Vertex}
use Rattle.cs_graph.specs.declared.edge.Edge.{Edge}
use Rattle.cs_graph.specs.declared.memory.Memory.{Memory}
use Rattle.cs_graph.specs.declared.graph.Graph.{Graph}
use Rattle.cs_graph.specs.Kinds.{pin_count, output_count, read_width, is_read_of, is_write_of}

-- an edge that a pin names leads to it, and every edge leads to a pin that names it
pub record IsFed (g : Graph) : Type 0 where
  pub named : (v i e : ℕ) (x : Vertex) → slice_get g.vertices v ≡ Some x
      → slice_get x.pins i ≡ Some (Along e) → e < length g.edges
  pub to : (v i e : ℕ) (x : Vertex) (d : Edge) → slice_get g.vertices v ≡ Some x
      → slice_get x.pins i ≡ Some (Along e) → slice_get g.edges e ≡ Some d → d.to ≡ v
  pub pin : (v i e : ℕ) (x : Vertex) (d : Edge) → slice_get g.vertices v ≡ Some x
      → slice_get x.pins i ≡ Some (Along e) → slice_get g.edges e ≡ Some d → d.pin ≡ i
  pub feeds : (e : ℕ) (d : Edge) → slice_get g.edges e ≡ Some d
      → (x : Vertex) × (slice_get g.vertices d.to ≡ Some x) × (slice_get x.pins d.pin ≡ Some (Along e))

-- some place for each vertex, after all that feed it by an edge of weight 0: no loop lacks a register
pub record HasOrder (g : Graph) : Type 0 where
  pub place : ℕ → ℕ
  pub span : ℕ
  pub within : (v : ℕ) → place v < span
  pub below : (e : ℕ) (d : Edge) → slice_get g.edges e ≡ Some d → d.weight ≡ 0 → place d.from < place d.to

-- pins, ends and contents fit one another, and no loop lacks a register
pub record IsWellFormed (g : Graph) : Type 0 where
  pub fed : IsFed g
  pub from : (e : ℕ) (d : Edge) → slice_get g.edges e ≡ Some d → d.from < length g.vertices
  pub to : (e : ℕ) (d : Edge) → slice_get g.edges e ≡ Some d → d.to < length g.vertices
  pub held : (e : ℕ) (d : Edge) → slice_get g.edges e ≡ Some d → length d.contents ≡ d.weight
  pub order : HasOrder g

-- vertex 0 is the one Host
pub record HasHost (kinds : List VertexKind) : Type 0 where
  pub first : slice_get kinds 0 ≡ Some Host
  pub one : (v : ℕ) → slice_get kinds v ≡ Some Host → v ≡ 0

-- vertex u has an output of this number
pub record HasOutput (memories : List Memory) (kinds : List VertexKind) (u output : ℕ) : Type 0 where
  pub kind : VertexKind
  pub found : slice_get kinds u ≡ Some kind
  pub among : output < output_count memories kind

-- the sizes of a memory fit one another and the limits
pub record IsMemory (m : Memory) : Type 0 where
  pub address_bits : m.abits ≤ 24
  pub some_words : 0 < m.words
  pub some_bits : 0 < m.width
  pub reached : m.words ≤ 2 ^ m.abits
  pub size : m.words * m.width ≤ 4194304
  pub start : length m.start ≡ m.words * m.width

-- the memory of a Read or Write is there
abbrev pub HasMemory : List Memory → VertexKind → Type 0
HasMemory ms Host = Unit {0}
HasMemory ms Input = Unit {0}
HasMemory ms Output = Unit {0}
HasMemory ms (Constant b) = Unit {0}
HasMemory ms (Gate gate) = Unit {0}
HasMemory ms (Read memory port) = memory < length ms
HasMemory ms (Write memory port) = memory < length ms

-- the port of a Read or Write is the number of those of its kind and memory before it
abbrev pub IsNextPort : List VertexKind → VertexKind → Type 0
IsNextPort before Host = Unit {0}
IsNextPort before Input = Unit {0}
IsNextPort before Output = Unit {0}
IsNextPort before (Constant b) = Unit {0}
IsNextPort before (Gate gate) = Unit {0}
IsNextPort before (Read memory port) = port ≡ count_by (is_read_of memory) before
IsNextPort before (Write memory port) = port ≡ count_by (is_write_of memory) before

-- the kinds of the vertices
abbrev pub kinds : List Vertex → List VertexKind
kinds vertices = map (λ x. x.kind) vertices

-- memories fit the limits, their ports are numbered in order, and Reads have at most 4,194,304 outputs in all
pub record HasMemories (memories : List Memory) (kinds : List VertexKind) : Type 0 where
  pub few : length memories < 2 ^ 32
  pub each : (i : ℕ) (m : Memory) → slice_get memories i ≡ Some m → IsMemory m
  pub there : (v : ℕ) (kind : VertexKind) → slice_get kinds v ≡ Some kind → HasMemory memories kind
  pub ports : (v : ℕ) (kind : VertexKind) → slice_get kinds v ≡ Some kind → IsNextPort (take v kinds) kind
  pub reads : sum_by (read_width memories) kinds ≤ 4194304

-- an edge is numbered before another where it leads to an earlier vertex, or to an earlier pin of the same
abbrev pub LeadsBefore : Edge → Edge → Type 0
LeadsBefore d d' = (d.to < d'.to) ⊎ ((d.to ≡ d'.to) × (d.pin < d'.pin))

-- vertices, edges and registers are within their limits
pub record IsWithinLimits (g : Graph) : Type 0 where
  pub vertices : length g.vertices ≤ 4096
  pub edges : length g.edges ≤ 32768
  pub weight : sum_by (λ (d : Edge). d.weight) g.edges ≤ 65536

-- what every machine keeps
pub record IsMachine (g : Graph) : Type 0 where
  pub well_formed : IsWellFormed g
  pub host : HasHost (kinds g.vertices)
  pub pins : (v : ℕ) (x : Vertex) → slice_get g.vertices v ≡ Some x
      → length x.pins ≡ pin_count g.memories x.kind
  pub outputs : (e : ℕ) (d : Edge) → slice_get g.edges e ≡ Some d
      → HasOutput g.memories (kinds g.vertices) d.from d.output
  pub memories : HasMemories g.memories (kinds g.vertices)
  pub numbered : (e f : ℕ) (d d' : Edge) → e < f → slice_get g.edges e ≡ Some d
      → slice_get g.edges f ≡ Some d'
      → LeadsBefore d d'
  pub limits : IsWithinLimits g
