-- Values before clock 0, and contents that continue them (after Touati and Brayton, "Computing the initial states of
-- retimed circuits", 1993: a start of a retimed circuit is found by going back from the old one).
use Rattle.std.specs.Prelude.{◌≡◌, ℕ, ◌+◌, ◌-◌, ◌*◌, ◌%◌, ℤ, pos, negsuc, ◌-ℤ◌, ◌<◌, ◌≤◌, List, length, get_or, map, slice_get, Option, Some, None, Bool, false, if◌then◌else◌, nat_lt}
use Rattle.cs_cells.specs.declared.gate.Kind.{Kind}
use Rattle.cs_cells.specs.Gates.{gate_value}
use Rattle.cs_cells.specs.Memories.{Words}
use Rattle.cs_graph.specs.declared.vertex.VertexKind.TheVariants.{Gate}
use Rattle.cs_graph.specs.declared.vertex.Feed.{Feed}
use Rattle.cs_graph.specs.declared.vertex.Feed.TheVariants.{Tied, Edge as Along}
use Rattle.cs_graph.specs.declared.vertex.Vertex.{Vertex}
use Rattle.cs_graph.specs.declared.edge.Edge.{Edge}
use Rattle.cs_graph.specs.declared.contents.Contents.{Contents}
use Rattle.cs_graph.specs.declared.graph.Graph.{Graph}
use Rattle.cs_graph.specs.Run.{Row, Outs, RunsOn}
use Rattle.cs_graph.specs.Lags.{lag_at, of_edge, HasLengths}

-- values of vertices and contents of edges at the clocks -1, -2 and on, which are numbered 0, 1 and on
pub record Past : Type 0 where
  pub values : ℕ → ℕ → Bool
  pub contents : ℕ → ℕ → Bool

-- how many clocks before clock 0 a lag reaches
abbrev pub lead : ℤ → ℕ
lead (pos n) = n
lead (negsuc n) = 0

-- what edge e carries before its own contents: its driver's value where there is one, else its content
abbrev pub past_carried : List ℤ → Past → ℕ → Edge → ℕ → Bool
past_carried lags past e d i = if nat_lt i (lead (lag_at lags d.from)) then past.values d.from i else
    past.contents e i

-- what an edge brings at clock -(i + 1), false where there is no edge
abbrev pub past_edge : List ℤ → Past → ℕ → Option Edge → ℕ → Bool
past_edge lags past e None i = false
past_edge lags past e (Some d) i = past_carried lags past e d (i + d.weight)

-- what a pin sees at clock -(i + 1)
abbrev pub past_seen : Graph → List ℤ → Past → ℕ → Feed → Bool
past_seen g lags past i (Tied b) = b
past_seen g lags past i (Along e) = past_edge lags past e (slice_get g.edges e) i

-- what edge e carries at any clock: its driver's value, its contents, and what came before
abbrev pub ever : List ℤ → Past → (ℕ → Outs) → ℕ → Edge → ℤ → Bool
ever lags past value e d (pos n) = value n d.from d.output
ever lags past value e d (negsuc i) = if nat_lt i d.weight then get_or d.contents i false else past_carried
    lags past e d i

-- each gate's past is its equation, and what has a start has it
pub record IsPast (g : Graph) (lags : List ℤ) (past : Past) : Type 0 where
  pub gates : (v i : ℕ) (x : Vertex) (kind : Kind) → slice_get g.vertices v ≡ Some x → x.kind ≡ Gate kind
      → i < lead (lag_at lags v) → past.values v i ≡ gate_value kind (map (past_seen g lags past i) x.pins)
  pub starts : (e i : ℕ) (d : Edge) → slice_get g.edges e ≡ Some d → i < lead (lag_at lags d.from)
      → i < d.weight → past.values d.from i ≡ get_or d.contents i false
  pub held : (e i : ℕ) (d : Edge) → slice_get g.edges e ≡ Some d → 0 < lead (lag_at lags d.to)
      → lead (lag_at lags d.from) ≤ i → i < d.weight → past.contents e i ≡ get_or d.contents i false

-- content j of a retimed edge is what the edge carries at clock -(j + 1) less its driver's lag, whatever
-- the rows
pub record AreRight (g : Graph) (lags : List ℤ) (past : Past) (k : Contents) : Type 0 where
  pub lengths : HasLengths g lags k
  pub each : (e j : ℕ) (d : Edge) → slice_get g.edges e ≡ Some d → j < length (of_edge k e) → (row : ℕ
      → Row) (value : ℕ → Outs) (words : ℕ → ℕ → Words) → RunsOn false g row value words
      → get_or (of_edge k e) j false ≡ ever lags past value e d (negsuc j -ℤ lag_at lags d.from)

-- these lags have a past
pub record HasPast (g : Graph) (lags : List ℤ) : Type 0 where
  pub past : Past
  pub is : IsPast g lags past

-- ---- context by context

-- the context of clock -(i + 1)
abbrev pub context_of : ℕ → ℕ → ℕ
context_of c i = c - 1 - i % c

-- the same of the clocks of one context
pub record IsPastOf (g : Graph) (lags : List ℤ) (c k : ℕ) (past : Past) : Type 0 where
  pub gates : (v i : ℕ) (x : Vertex) (kind : Kind) → context_of c i ≡ k → slice_get g.vertices v ≡ Some x
      → x.kind ≡ Gate kind → i < lead (lag_at lags v)
      → past.values v i ≡ gate_value kind (map (past_seen g lags past i) x.pins)
  pub starts : (e i : ℕ) (d : Edge) → context_of c i ≡ k → slice_get g.edges e ≡ Some d
      → i < lead (lag_at lags d.from) → i < d.weight → past.values d.from i ≡ get_or d.contents i false
  pub held : (e i : ℕ) (d : Edge) → context_of c i ≡ k → slice_get g.edges e ≡ Some d
      → 0 < lead (lag_at lags d.to) → lead (lag_at lags d.from) ≤ i → i < d.weight
      → past.contents e i ≡ get_or d.contents i false

-- these lags have a past at the clocks of context k
pub record HasPastOf (g : Graph) (lags : List ℤ) (c k : ℕ) : Type 0 where
  pub past : Past
  pub is : IsPastOf g lags c k past

-- at each clock the past that is chosen for its context
abbrev pub joined : ℕ → (ℕ → Past) → Past
joined c pasts = record {
  values = λ v i. (pasts (context_of c i)).values v i;
  contents = λ e i. (pasts (context_of c i)).contents e i;
}

-- every weight is a multiple of c
pub record IsSlowedBy (c : ℕ) (g : Graph) : Type 0 where
  pub turns : ℕ → ℕ
  pub are : (e : ℕ) (d : Edge) → slice_get g.edges e ≡ Some d → d.weight ≡ turns e * c
