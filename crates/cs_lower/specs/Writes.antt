-- The write ports of one memory among vertices.
use Rattle.std.specs.Prelude.{ℕ, ◌==◌, List, Bool, false, filter}
use Rattle.cs_graph.specs.declared.vertex.VertexKind.{VertexKind}
use Rattle.cs_graph.specs.declared.vertex.VertexKind.TheVariants.{Constant, Gate, Host, Input, Output, Read, Write}
use Rattle.cs_lower.specs.declared.taps.Piece.{Piece}

-- a vertex of this kind is a write port of the memory
abbrev pub writes_to : ℕ → VertexKind → Bool
writes_to memory Host = false
writes_to memory Input = false
writes_to memory Output = false
writes_to memory (Constant b) = false
writes_to memory (Gate kind) = false
writes_to memory (Read m port) = false
writes_to memory (Write m port) = m == memory

-- its write ports, in the order of the vertices
abbrev pub write_ports : ℕ → List Piece → List Piece
write_ports memory pieces = filter (λ p. writes_to memory p.kind) pieces
