-- Lags, and the machine that they give: the retiming of Leiserson and Saxe, with contents.
use Rattle.std.specs.Prelude.{◌≡◌, ℕ, ℤ, pos, ◌+ℤ◌, ◌-ℤ◌, ◌≤ℤ◌, ◌<◌, List, [], length, get_or, map, slice_get, Some, Bool, IsTrue, unsigned_abs}
use Rattle.std.specs.List.{enumerate_from}
use Rattle.cs_base.specs.declared.contexts.Mode.{Mode}
use Rattle.cs_base.specs.Ranges.{IsWithin}
use Rattle.cs_base.specs.declared.contexts.Mode.TheVariants.{Forward}
use Rattle.cs_graph.specs.declared.vertex.VertexKind.{VertexKind}
use Rattle.cs_graph.specs.declared.vertex.Vertex.{Vertex}
use Rattle.cs_graph.specs.declared.edge.Edge.{Edge}
use Rattle.cs_graph.specs.declared.contents.Contents.{Contents}
use Rattle.cs_cells.specs.Memories.{Words}
use Rattle.cs_graph.specs.declared.vertex.Feed.{Feed}
use Rattle.cs_graph.specs.declared.graph.Graph.{Graph}
use Rattle.cs_graph.specs.Run.{Row, Outs, IsRun, seen}
use Rattle.cs_graph.specs.Kinds.{is_pinned}

-- the lag of a vertex, 0 past the end of the list
abbrev pub lag_at : List ℤ → ℕ → ℤ
lag_at lags v = get_or lags v (pos 0)

-- w(e) + r(to) - r(from)
abbrev pub weight_under : List ℤ → Edge → ℤ
weight_under lags d = pos d.weight +ℤ lag_at lags d.to -ℤ lag_at lags d.from

-- a lag for each vertex, 0 where it may not move, that leaves no weight below 0; forward, none is above 0
pub record IsLegal (g : Graph) (mode : Mode) (lags : List ℤ) : Type 0 where
  pub count : length lags ≡ length g.vertices
  pub pinned : (v : ℕ) (x : Vertex) → slice_get g.vertices v ≡ Some x → IsTrue (is_pinned x.kind)
      → lag_at lags v ≡ pos 0
  pub weights : (e : ℕ) (d : Edge) → slice_get g.edges e ≡ Some d → pos 0 ≤ℤ (weight_under lags d)
  pub ahead : mode ≡ Forward → (v : ℕ) → (lag_at lags v) ≤ℤ pos 0

-- the contents of edge e, none past the end of the list
abbrev pub of_edge : Contents → ℕ → List Bool
of_edge k e = get_or k.of e []

-- an edge with its weight under these lags, and with its contents among these
abbrev pub retimed_edge : List ℤ → Contents → ℕ × Edge → Edge
retimed_edge lags k p = record p.1 {
  weight = unsigned_abs (weight_under lags p.1);
  contents = of_edge k p.0;
}

-- the same vertices and memories, with the weights of these lags and these contents
abbrev pub retimed : List ℤ → Contents → Graph → Graph
retimed lags k g = record g { edges = map (retimed_edge lags k) (enumerate_from 0 g.edges) }

-- the retimed machine sees at each pin what the machine sees, its vertex's lag later
abbrev pub Justifies : Graph → List ℤ → Contents → Type 0
Justifies g lags k = (rows : List Row) (value value' : ℕ → Outs) (words words' : ℕ → ℕ → Words)
    → IsRun g rows value words → IsRun (retimed lags k g) rows value' words'
    → (v i n m : ℕ) (x : Vertex) (f : Feed) → slice_get g.vertices v ≡ Some x
    → slice_get x.pins i ≡ Some f → n < length rows → m < length rows → pos m ≡ pos n +ℤ lag_at lags v
    → seen (retimed lags k g) value' m f ≡ seen g value n f

-- contents for each edge, as many as it has registers under these lags
pub record HasLengths (g : Graph) (lags : List ℤ) (k : Contents) : Type 0 where
  pub lists : length k.of ≡ length g.edges
  pub each : (e : ℕ) (d : Edge) → slice_get g.edges e ≡ Some d
      → length (of_edge k e) ≡ unsigned_abs (weight_under lags d)

-- contents of the right lengths that justify these lags
pub record HasStart (g : Graph) (lags : List ℤ) : Type 0 where
  pub contents : Contents
  pub lengths : HasLengths g lags contents
  pub justifies : Justifies g lags contents

-- lags between -reach and reach
pub record AreWithin (reach : ℕ) (lags : List ℤ) : Type 0 where
  pub each : (v : ℕ) → IsWithin reach (lag_at lags v)

-- a vertex of this kind may have this lag
pub record IsLegalLag (mode : Mode) (kind : VertexKind) (lag : ℤ) : Type 0 where
  pub pinned : IsTrue (is_pinned kind) → lag ≡ pos 0
  pub ahead : mode ≡ Forward → lag ≤ℤ pos 0
