-- Vertices whose pins aren't followed back through registers yet.
use Rattle.std.specs.Prelude.{ℕ, ◌+◌, List, [], ◌∷◌, ◌++◌, length}
use Rattle.cs_base.specs.declared.signal.Signal.{Signal}
use Rattle.cs_graph.specs.declared.vertex.VertexKind.{VertexKind}
use Rattle.cs_lower.specs.declared.taps.Parts.{Parts}
use Rattle.cs_lower.specs.declared.taps.Piece.{Piece}
use Rattle.cs_lower.specs.declared.taps.Tap.{Tap}
use Rattle.cs_lower.specs.declared.taps.Wire.{Wire}

-- a vertex that is no gate cell
abbrev pub piece : VertexKind → List Tap → Piece
piece kind pins = record { kind = kind; pins = pins; origin = [] }

abbrev pub no_parts : Parts
no_parts = record { pieces = []; wires = [] }

-- parts with more vertices, which drive nothing
abbrev pub with_pieces : Parts → List Piece → Parts
with_pieces parts more = record { pieces = parts.pieces ++ more; wires = parts.wires }

-- parts in which one signal more is driven
abbrev pub with_wire : Parts → Signal → Wire → Parts
with_wire parts signal wire = record { pieces = parts.pieces; wires = parts.wires ++ (signal, wire) ∷ [] }

abbrev pub both : Parts → Parts → Parts
both a b = record { pieces = a.pieces ++ b.pieces; wires = a.wires ++ b.wires }

-- the parts of several, whose vertices are numbered on from n
abbrev pub in_turn : {A : Type 0} → (ℕ → A → Parts) → ℕ → List A → Parts
in_turn parts n [] = no_parts
in_turn parts n (x ∷ xs) = both (parts n x) (in_turn parts (n + length (parts n x).pieces) xs)
