-- Which vertices are the Writes of a memory.
use Rattle.std.specs.Prelude.{ℕ, ◌+◌, if◌then◌else◌, List, [], ◌∷◌, ◌++◌, get_or, length, map, slice_set}
use Rattle.std.specs.List.{range_with_len}
use Rattle.cs_graph.specs.declared.graph.Graph.{Graph}
use Rattle.cs_graph.specs.declared.vertex.Vertex.{Vertex}
use Rattle.cs_graph.specs.declared.vertex.VertexKind.{VertexKind}
use Rattle.cs_graph.specs.declared.vertex.VertexKind.TheVariants.{Constant, Gate, Host, Input, Output, Read, Write}
use Rattle.cs_graph.specs.Kinds.{is_write_of}

-- the numbers of the Writes of memory i, where these vertices are numbered from v on
abbrev pub writes_from : ℕ → ℕ → List Vertex → List ℕ
writes_from i v [] = []
writes_from i v (x ∷ xs) =
    if is_write_of i x.kind then v ∷ writes_from i (v + 1) xs else writes_from i (v + 1) xs

-- those of each memory
abbrev pub writes_of : Graph → List (List ℕ)
writes_of g = map (λ i. writes_from i 0 g.vertices) (range_with_len 0 (length g.memories))

-- these lists with vertex v of this kind behind the others of its memory, if it is a Write
abbrev pub noted_in : List (List ℕ) → ℕ → VertexKind → List (List ℕ)
noted_in lists v Host = lists
noted_in lists v Input = lists
noted_in lists v Output = lists
noted_in lists v (Constant b) = lists
noted_in lists v (Gate kind) = lists
noted_in lists v (Read memory port) = lists
noted_in lists v (Write memory port) = slice_set lists memory (get_or lists memory [] ++ v ∷ [])
