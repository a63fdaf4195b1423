-- What vertices do depends on what their pins see alone.
use Rattle.std.proofs.Common.{◌≡◌, ℕ, List, Bool, map, refl, sym, ap, ap₂}
use Rattle.std.specs.Prelude.{ℤ, pos, negsuc, slice_get, Option, Some, None, fold, IsTrue}
use mathlib.Core.Path.{fun_ext}
use Rattle.cs_cells.specs.Memories.{Words}
use Rattle.cs_graph.specs.declared.vertex.Feed.{Feed}
use Rattle.cs_graph.specs.declared.vertex.Vertex.{Vertex}
use Rattle.cs_graph.specs.declared.edge.Edge.{Edge}
use Rattle.cs_graph.specs.declared.memory.Memory.{Memory}
use Rattle.cs_graph.specs.declared.vertex.VertexKind.{VertexKind}
use Rattle.cs_graph.specs.declared.vertex.VertexKind.TheVariants.{Host, Input, Output, Constant, Gate, Read, Write as WritePort}
use Rattle.cs_graph.specs.declared.graph.Graph.{Graph}
use Rattle.cs_graph.specs.Run.{Row, Outs, carried, seen_edge, output_of, vertex_output, value_at, inputs_before, writes_by, writes_at, taken_in, memory_after, words_after, shown_by, outputs_at}
use Rattle.cs_graph.specs.Kinds.{is_pinned}
use Rattle.cs_graph.proofs.Lists.{map_same, flat_map_same}

-- two settings agree on what the pins of a vertex read
pub record SameSight (x : Vertex) (sees sees' : Feed → Bool) : Type 0 where
  pub at : (i : ℕ) (f : Feed) → slice_get x.pins i ≡ Some f → sees f ≡ sees' f

pub pins_same : (x : Vertex) (sees sees' : Feed → Bool) → SameSight x sees sees'
    → map sees x.pins ≡ map sees' x.pins
pins_same x sees sees' h = map_same sees sees' x.pins h.at

vertex_same : (x : Option Vertex) (i : ℕ) (row : Row) (words words' : ℕ → Words) (sees sees' : Feed
    → Bool) (o : ℕ) → ((k : ℕ) → words k ≡ words' k) → ((y : Vertex) → x ≡ Some y
    → SameSight y sees sees') → vertex_output x i row words sees o ≡ vertex_output x i row words' sees' o
vertex_same None i row words words' sees sees' o same h = refl
vertex_same (Some y) i row words words' sees sees' o same h =
    ap₂ (λ pins now. output_of y.kind i row now pins o) (pins_same y sees sees' (h y refl)) (fun_ext same)

pub value_same : (g : Graph) (row : Row) (words words' : ℕ → Words) (sees sees' : Feed → Bool) (v o : ℕ)
    → ((k : ℕ) → words k ≡ words' k) → ((x : Vertex) → slice_get g.vertices v ≡ Some x
    → SameSight x sees sees') → value_at g row words sees v o ≡ value_at g row words' sees' v o
value_same g row words words' sees sees' v o same h = vertex_same (slice_get g.vertices v) (inputs_before
    g.vertices v) row words words' sees sees' o same h

-- the pinned vertices have the same sight
abbrev pub SamePinned : Graph → (Feed → Bool) → (Feed → Bool) → Type 0
SamePinned g sees sees' = (v : ℕ) (x : Vertex) → slice_get g.vertices v ≡ Some x
    → IsTrue (is_pinned x.kind) → SameSight x sees sees'

writes_by_same : (i : ℕ) (m : Memory) (kind : VertexKind) (pins pins' : List Bool)
    → (IsTrue (is_pinned kind) → pins ≡ pins') → writes_by i m kind pins ≡ writes_by i m kind pins'
writes_by_same i m Host pins pins' h = refl
writes_by_same i m Input pins pins' h = refl
writes_by_same i m Output pins pins' h = refl
writes_by_same i m (Constant b) pins pins' h = refl
writes_by_same i m (Gate kind) pins pins' h = refl
writes_by_same i m (Read memory port) pins pins' h = refl
writes_by_same i m (WritePort memory port) pins pins' h = ap (writes_by i m (WritePort memory port)) (h refl)

shown_by_same : (kind : VertexKind) (pins pins' : List Bool) → (IsTrue (is_pinned kind) → pins ≡ pins')
    → shown_by kind pins ≡ shown_by kind pins'
shown_by_same Host pins pins' h = refl
shown_by_same Input pins pins' h = refl
shown_by_same Output pins pins' h = h refl
shown_by_same (Constant b) pins pins' h = refl
shown_by_same (Gate kind) pins pins' h = refl
shown_by_same (Read memory port) pins pins' h = refl
shown_by_same (WritePort memory port) pins pins' h = refl

pub writes_same : (g : Graph) (i : ℕ) (m : Memory) (sees sees' : Feed → Bool) → SamePinned g sees sees'
    → writes_at g i m sees ≡ writes_at g i m sees'
writes_same g i m sees sees' h = flat_map_same (λ x. writes_by i m x.kind (map sees x.pins)) (λ x.
    writes_by i m x.kind (map sees' x.pins)) g.vertices (λ v x is. writes_by_same i m x.kind (map sees
    x.pins) (map sees' x.pins) (λ pinned. pins_same x sees sees' (h v x is pinned)))

memory_same : (bounded : Bool) (g : Graph) (i : ℕ) (o : Option Memory) (sees sees' : Feed
    → Bool) (now now' : Words) → now ≡ now' → SamePinned g sees sees'
    → memory_after bounded g i o sees now ≡ memory_after bounded g i o sees' now'
memory_same bounded g i None sees sees' now now' same h = same
memory_same bounded g i (Some m) sees sees' now now' same h = ap₂ (λ words writes. fold (taken_in bounded
    m) words writes) same (writes_same g i m sees sees' h)

pub words_same : (bounded : Bool) (g : Graph) (sees sees' : Feed → Bool) (now now' : ℕ → Words) (i : ℕ)
    → now i ≡ now' i → SamePinned g sees sees'
    → words_after bounded g sees now i ≡ words_after bounded g sees' now' i
words_same bounded g sees sees' now now' i same h = memory_same bounded g i (slice_get g.memories i) sees
    sees' (now i) (now' i) same h

pub outputs_same : (g : Graph) (sees sees' : Feed → Bool) → SamePinned g sees sees'
    → outputs_at g sees ≡ outputs_at g sees'
outputs_same g sees sees' h = flat_map_same (λ x. shown_by x.kind (map sees x.pins)) (λ x. shown_by x.kind
    (map sees' x.pins)) g.vertices (λ v x is. shown_by_same x.kind (map sees x.pins) (map sees' x.pins) (λ
    pinned. pins_same x sees sees' (h v x is pinned)))

-- ---- edges

pub carried_same : (d : Edge) (a b : ℕ → Outs) (t : ℤ) → ((m : ℕ) → t ≡ pos m
    → a m d.from d.output ≡ b m d.from d.output) → carried d a t ≡ carried d b t
carried_same d a b (pos m) h = h m refl
carried_same d a b (negsuc j) h = refl

-- an edge that isn't there carries nothing
pub edge_same : (o o' : Option Edge) (a b : ℕ → Outs) (n n' : ℕ) → (o ≡ None → o' ≡ None) → ((d : Edge)
    → o ≡ Some d → seen_edge (Some d) a n ≡ seen_edge o' b n') → seen_edge o a n ≡ seen_edge o' b n'
edge_same None o' a b n n' none h = sym (ap (λ p. seen_edge p b n') (none refl))
edge_same (Some d) o' a b n n' none h = h d refl
