-- Delays of paths, periods, and the path matrices W and D (Leiserson and Saxe).
use Rattle.std.specs.Prelude.{◌≡◌, ℕ, ◌+◌, ◌<◌, ◌≤◌, ◌⊎◌, ℤ, pos, ◌+ℤ◌, ◌-ℤ◌, ◌≤ℤ◌, map, List, [], ◌∷◌, length, get_or, slice_get, Option, Some, None}
use Rattle.cs_base.specs.declared.contexts.Mode.{Mode}
use Rattle.cs_graph.specs.declared.vertex.Vertex.{Vertex}
use Rattle.cs_graph.specs.declared.edge.Edge.{Edge}
use Rattle.cs_graph.specs.declared.delays.Delays.{Delays}
use Rattle.cs_graph.specs.declared.graph.Graph.{Graph}
use Rattle.cs_graph.specs.Lags.{lag_at, weight_under, IsLegal}

-- one delay for each pin of these vertices
abbrev pub ArePinsOf : List Vertex → List (List ℕ) → Type 0
ArePinsOf vertices per_pin =
    (v : ℕ) (x : Vertex) (ds : List ℕ) → slice_get vertices v ≡ Some x → slice_get per_pin v ≡ Some ds
    → length ds ≡ length x.pins

-- one delay for each vertex and for each pin
pub record AreDelaysOf (g : Graph) (delays : Delays) : Type 0 where
  pub vertices : length delays.per_vertex ≡ length g.vertices
  pub pins : ArePinsOf g.vertices delays.per_pin

-- the delay of a vertex
abbrev pub vertex_delay : Delays → ℕ → ℕ
vertex_delay d v = get_or d.per_vertex v 0

-- the delay of pin i of a vertex
abbrev pub pin_delay : Delays → ℕ → ℕ → ℕ
pin_delay d v i = get_or (get_or d.per_pin v []) i 0

-- ---- paths, as the numbers of their edges

-- the edges lead from u to v: each begins where the one before it ends
abbrev pub IsPath : Graph → ℕ → List ℕ → ℕ → Type 0
IsPath g u [] v = u ≡ v
IsPath g u (e ∷ es) v = (d : Edge) × (slice_get g.edges e ≡ Some d) × (d.from ≡ u) × IsPath g d.to es v

-- the delay of the pin at which an edge ends
abbrev pub edge_delay : Delays → Option Edge → ℕ
edge_delay delays None = 0
edge_delay delays (Some d) = pin_delay delays d.to d.pin

-- the sum of the delays of the pins at which the edges end
abbrev pub edges_delay : Graph → Delays → List ℕ → ℕ
edges_delay g delays [] = 0
edges_delay g delays (e ∷ es) = edge_delay delays (slice_get g.edges e) + edges_delay g delays es

-- the delay of a path: that of its first vertex and those of the pins at which its edges end
abbrev pub path_delay : Graph → Delays → ℕ → List ℕ → ℕ
path_delay g delays u es = vertex_delay delays u + edges_delay g delays es

-- the registers of an edge
abbrev pub edge_weight : Option Edge → ℕ
edge_weight None = 0
edge_weight (Some d) = d.weight

-- the registers of a path
abbrev pub path_weight : Graph → List ℕ → ℕ
path_weight g [] = 0
path_weight g (e ∷ es) = edge_weight (slice_get g.edges e) + path_weight g es

-- the registers of an edge under these lags
abbrev pub edge_weight_under : List ℤ → Option Edge → ℤ
edge_weight_under lags None = pos 0
edge_weight_under lags (Some d) = weight_under lags d

-- the registers of a path under these lags
abbrev pub path_weight_under : Graph → List ℤ → List ℕ → ℤ
path_weight_under g lags [] = pos 0
path_weight_under g lags (e ∷ es) =
    edge_weight_under lags (slice_get g.edges e) +ℤ path_weight_under g lags es

-- the vertex that an edge leads to
abbrev pub edge_end : Option Edge → ℕ
edge_end None = 0
edge_end (Some d) = d.to

-- the vertices of a path from u, in order
abbrev pub path_vertices : Graph → ℕ → List ℕ → List ℕ
path_vertices g u es = u ∷ map (λ e. edge_end (slice_get g.edges e)) es

-- no edge has a register under these lags
abbrev pub HasNoRegister : Graph → List ℤ → List ℕ → Type 0
HasNoRegister g lags [] = Unit {0}
HasNoRegister g lags (e ∷ es) =
    ((d : Edge) → slice_get g.edges e ≡ Some d → weight_under lags d ≡ pos 0) × HasNoRegister g lags es

-- ---- periods

-- no path without a register under these lags has a delay above the bound
abbrev pub IsPeriodWithin : Graph → Delays → List ℤ → ℕ → Type 0
IsPeriodWithin g delays lags bound =
    (u v : ℕ) (es : List ℕ) → u < length g.vertices → IsPath g u es v → HasNoRegister g lags es
    → path_delay g delays u es ≤ bound

-- a path without a register under these lags, of this delay
pub record HasPathOf (g : Graph) (delays : Delays) (lags : List ℤ) (delay : ℕ) : Type 0 where
  pub first : ℕ
  pub last : ℕ
  pub edges : List ℕ
  pub among : first < length g.vertices
  pub leads : IsPath g first edges last
  pub no_register : HasNoRegister g lags edges
  pub is : path_delay g delays first edges ≡ delay

-- the greatest delay of a path without a register under these lags, 0 where there is no vertex
pub record IsPeriod (g : Graph) (delays : Delays) (lags : List ℤ) (period : ℕ) : Type 0 where
  pub within : IsPeriodWithin g delays lags period
  pub reached : ((length g.vertices ≡ 0) × (period ≡ 0)) ⊎ HasPathOf g delays lags period

-- some legal lags have this period, and none has a smaller one
pub record IsLeastPeriod (g : Graph) (delays : Delays) (mode : Mode) (period : ℕ) : Type 0 where
  pub lags : List ℤ
  pub legal : IsLegal g mode lags
  pub is : IsPeriod g delays lags period
  pub least : (other : List ℤ) (c : ℕ) → IsLegal g mode other → IsPeriod g delays other c → period ≤ c

-- ---- W and D

-- W(u, v): the least sum of registers of a path from u to v
pub record IsLeastWeight (g : Graph) (u v weight : ℕ) : Type 0 where
  pub path : List ℕ
  pub leads : IsPath g u path v
  pub is : path_weight g path ≡ weight
  pub least : (es : List ℕ) → IsPath g u es v → weight ≤ path_weight g es

-- D(u, v): the greatest delay of the paths from u to v with W(u, v) registers
pub record IsGreatestDelay (g : Graph) (delays : Delays) (u v weight delay : ℕ) : Type 0 where
  pub path : List ℕ
  pub leads : IsPath g u path v
  pub weighs : path_weight g path ≡ weight
  pub is : path_delay g delays u path ≡ delay
  pub greatest : (es : List ℕ) → IsPath g u es v → path_weight g es ≡ weight
      → path_delay g delays u es ≤ delay

-- a pair of path matrices at u and v: W(u, v) and D(u, v)
pub record IsPathPair (g : Graph) (delays : Delays) (u v weight delay : ℕ) : Type 0 where
  pub least_weight : IsLeastWeight g u v weight
  pub greatest_delay : IsGreatestDelay g delays u v weight delay

-- the delay is D(u, v) of some vertices
pub record IsPathDelay (g : Graph) (delays : Delays) (delay : ℕ) : Type 0 where
  pub first : ℕ
  pub last : ℕ
  pub weight : ℕ
  pub among : first < length g.vertices
  pub pair : IsPathPair g delays first last weight delay

-- r(u) - r(v) is at most W(u, v) - 1 wherever D(u, v) is above the bound
abbrev pub MeetsBound : Graph → Delays → List ℤ → ℕ → Type 0
MeetsBound g delays lags bound =
    (u v weight delay : ℕ) → u < length g.vertices → IsPathPair g delays u v weight delay → bound < delay
    → (lag_at lags u -ℤ lag_at lags v) ≤ℤ (pos weight -ℤ pos 1)
