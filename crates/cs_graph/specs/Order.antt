-- Orders of the vertices in which each comes after all that feed it without a register, and loops that leave
-- none, under lags.
use Rattle.std.specs.Prelude.{◌≡◌, ℕ, ◌<◌, ◌++◌, ℤ, pos, List, [], ◌∷◌, length, slice_get, Some, Contains}
use Rattle.cs_order.specs.Graphs.{HasNoRepeat, sources_of}
use Rattle.cs_graph.specs.declared.vertex.Feed.TheVariants.{Edge as Along}
use Rattle.cs_graph.specs.declared.vertex.Vertex.{Vertex}
use Rattle.cs_graph.specs.declared.edge.Edge.{Edge}
use Rattle.cs_graph.specs.declared.graph.Graph.{Graph}
use Rattle.cs_graph.specs.declared.order.OrderError.{OrderError}
use Rattle.cs_graph.specs.declared.order.OrderError.TheVariants.{Loop, NoMemory}
use Rattle.cs_graph.specs.Invariant.{IsFed}
use Rattle.cs_graph.specs.Lags.{weight_under}

-- no lags, which leave each edge its weight
abbrev pub no_lags : List ℤ
no_lags = []

-- ---- orders and loops

-- an edge without a register under these lags leads from u to v
abbrev pub Feeds : Graph → List ℤ → ℕ → ℕ → Type 0
Feeds g lags u v = (e : ℕ) × (d : Edge) × (slice_get g.edges e ≡ Some d) × (weight_under lags d ≡ pos 0)
    × (d.from ≡ u) × (d.to ≡ v)

-- u is fed by the first of the vertices, each of them by the next, and the last by v, without a register
abbrev pub IsFedAlong : Graph → List ℤ → ℕ → List ℕ → ℕ → Type 0
IsFedAlong g lags u [] v = Feeds g lags v u
IsFedAlong g lags u (w ∷ ws) v = Feeds g lags w u × IsFedAlong g lags w ws v

-- a loop without a register: each of the vertices is fed by the next, and the last by the first
abbrev pub IsLoop : Graph → List ℤ → List ℕ → Type 0
IsLoop g lags [] = ⊥
IsLoop g lags (v ∷ vs) = IsFedAlong g lags v vs v

-- a loop that comes to no vertex twice
abbrev pub IsSimpleLoop : Graph → List ℤ → List ℕ → Type 0
IsSimpleLoop g lags vs = IsLoop g lags vs × HasNoRepeat vs

-- the vertices, each once, each after all that feed it without a register
pub record IsOrder (g : Graph) (lags : List ℤ) (order : List ℕ) : Type 0 where
  pub place : ℕ → ℕ
  pub count : length order ≡ length g.vertices
  pub at : (v : ℕ) → v < length g.vertices → slice_get order (place v) ≡ Some v
  pub once : (k v : ℕ) → slice_get order k ≡ Some v → (v < length g.vertices) × (place v ≡ k)
  pub below : (e : ℕ) (d : Edge) → slice_get g.edges e ≡ Some d → weight_under lags d ≡ pos 0
      → place d.from < place d.to

-- the error tells a loop that comes to no vertex twice, or that memory ran out
abbrev pub TellsLoop : Graph → List ℤ → OrderError → Type 0
TellsLoop g lags (Loop vs) = IsSimpleLoop g lags vs
TellsLoop g lags NoMemory = Unit {0}

-- ---- what feeds a pin

-- pins and edges fit one another, and edges begin at vertices
pub record IsWired (g : Graph) : Type 0 where
  pub fed : IsFed g
  pub from : (e : ℕ) (d : Edge) → slice_get g.edges e ≡ Some d → d.from < length g.vertices

-- pin i of v reads u without a register under these lags
pub record IsDriver (g : Graph) (lags : List ℤ) (v i u : ℕ) : Type 0 where
  pub vertex : Vertex
  pub e : ℕ
  pub edge : Edge
  pub there : slice_get g.vertices v ≡ Some vertex
  pub pin : slice_get vertex.pins i ≡ Some (Along e)
  pub found : slice_get g.edges e ≡ Some edge
  pub none : weight_under lags edge ≡ pos 0
  pub from : edge.from ≡ u

-- just the vertices that the pins of v read without a register
pub record AreDrivers (g : Graph) (lags : List ℤ) (v : ℕ) (us : List ℕ) : Type 0 where
  pub only : (u : ℕ) → Contains us u → (i : ℕ) × IsDriver g lags v i u
  pub every : (i u : ℕ) → IsDriver g lags v i u → Contains us u

-- a vertex more, which depends on just those that the pins of v read without a register
pub record IsAdded (g : Graph) (lags : List ℤ) (v : ℕ) (old new : List (List ℕ)) : Type 0 where
  pub sources : List ℕ
  pub drivers : AreDrivers g lags v sources
  pub added : new ≡ old ++ sources ∷ []

-- the first n vertices, each of which depends on just those that its pins read without a register
pub record AreDependencies (g : Graph) (lags : List ℤ) (n : ℕ) (dependencies : List (List ℕ)) : Type 0 where
  pub count : length dependencies ≡ n
  pub drivers : (v : ℕ) → v < n → AreDrivers g lags v (sources_of dependencies v)
