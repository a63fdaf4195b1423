-- `Lower(N)`: the graph of a netlist.
use Rattle.std.specs.Prelude.{ℕ, ◌+◌, ◌-◌, ◌*◌, ◌^◌, List, [], ◌∷◌, ◌++◌, Bool, true, false, ◌&&◌, not, if◌then◌else◌, length, map, replicate, flat_map, Option, Some, None}
use Rattle.std.specs.List.{list_any, zip}
use Rattle.cs_cells.specs.declared.gate.Kind.TheVariants.{Buf}
use Rattle.cs_cells.specs.declared.memory.MemShape.{MemShape}
use Rattle.cs_cells.specs.Memories.{Words}
use Rattle.cs_graph.specs.declared.graph.Graph.{Graph}
use Rattle.cs_graph.specs.declared.memory.Memory.{Memory}
use Rattle.cs_graph.specs.declared.source.OpenVertex.{OpenVertex}
use Rattle.cs_graph.specs.declared.source.Source.{Source}
use Rattle.cs_graph.specs.declared.source.Source.TheVariants.{Driven, Tied}
use Rattle.cs_graph.specs.declared.vertex.VertexKind.TheVariants.{Constant, Gate}
use Rattle.cs_graph.specs.Draft.{Draft, built}
use Rattle.cs_modules.specs.Memories.{shapes_in}
use Rattle.cs_net.specs.declared.state.MemoryWords.{MemoryWords}
use Rattle.cs_net.specs.Drivers.{own_start}
use Rattle.cs_net.specs.Netlist.{Net, bit_at}
use Rattle.cs_lower.specs.Followed.{Trail, Wiring, followed}
use Rattle.cs_lower.specs.declared.taps.End.{End}
use Rattle.cs_lower.specs.declared.taps.End.TheVariants.{Constant as at_bit, Vertex as at_vertex}
use Rattle.cs_lower.specs.Rings.{rings}
use Rattle.cs_lower.specs.declared.taps.Tap.{Tap}
use Rattle.cs_lower.specs.declared.taps.Tap.TheVariants.{Register as of_register}
use Rattle.cs_lower.specs.declared.taps.Piece.{Piece}
use Rattle.cs_lower.specs.Taps.{piece}
use Rattle.cs_lower.specs.Wires.{parts_of}

-- ---- vertices

-- what drives the bits of a netlist
abbrev pub wiring_of : Net → Wiring
wiring_of net = record {
  wires = (parts_of net).wires;
  start = bit_at (own_start net).bits;
  rings = rings (parts_of net).wires;
  first_buffer = length (parts_of net).pieces;
}

-- a ring's buffer reads the register whose bit it takes the place of
abbrev pub buffer : ℕ → Piece
buffer b = piece (Gate Buf) (of_register b ∷ [])

-- the ports, the cells and the ring buffers
abbrev pub pieces_of : Net → List Piece
pieces_of net = (parts_of net).pieces ++ map buffer (wiring_of net).rings

-- what a pin reads
abbrev pub trail_of : Net → Tap → Trail
trail_of net t = followed (wiring_of net) (length (wiring_of net).wires + 2) t

-- ---- constants behind registers

abbrev pub is_value : Bool → End → Bool
is_value value (at_vertex v o) = false
is_value value (at_bit b) = if b then value else not value

abbrev pub passes_some : List Bool → Bool
passes_some [] = false
passes_some (start ∷ contents) = true

-- a pin reads this constant through a register
abbrev pub needs_constant : Bool → Trail → Bool
needs_constant value t = passes_some t.contents && is_value value t.end

-- some pin does
abbrev pub is_used : Net → Bool → Bool
is_used net value = list_any (λ p. list_any (λ t. needs_constant value (trail_of net t)) p.pins) (pieces_of net)

-- the Constant vertices, each where it is used, and their numbers
abbrev pub constants : Net → List Piece
constants net =
    (if is_used net false then piece (Constant false) [] ∷ [] else [])
    ++ (if is_used net true then piece (Constant true) [] ∷ [] else [])

abbrev pub constant_number : Net → Bool → ℕ
constant_number net false = length (pieces_of net)
constant_number net true = length (pieces_of net) + (if is_used net false then 1 else 0)

-- ---- pins

-- a constant is tied where no register stands before it, else it is an edge from its vertex
abbrev pub constant_source : Net → Bool → List Bool → Source
constant_source net b [] = Tied b
constant_source net b (start ∷ contents) =
    Driven (record { from = constant_number net b; output = 0; contents = start ∷ contents })

abbrev pub source_by : Net → List Bool → End → Source
source_by net contents (at_vertex v o) = Driven (record { from = v; output = o; contents = contents })
source_by net contents (at_bit b) = constant_source net b contents

abbrev pub source_of : Net → Tap → Source
source_of net t = source_by net (trail_of net t).contents (trail_of net t).end

abbrev pub vertex_of : Net → Piece → OpenVertex
vertex_of net p = record { kind = p.kind; pins = map (λ t. Some (source_of net t)) p.pins }

-- ---- memories

-- words of a width, and as many more of 0 as there are addresses
abbrev pub filled : ℕ → ℕ → Words → List Bool
filled count width words = flat_map (λ w. w) words ++ replicate ((count - length words) * width) false

abbrev pub memory_of : MemoryWords × MemShape → Memory
memory_of m = record {
  size = m.1.size;
  words = 2 ^ m.1.abits;
  abits = m.1.abits;
  width = m.1.width;
  start = filled (2 ^ m.1.abits) m.1.width m.0.words;
}

-- the memory of these words, if there are some, and a shape
abbrev pub next_memory : MemShape → Option MemoryWords → List Memory
next_memory shape None = []
next_memory shape (Some words) = memory_of (words, shape) ∷ []

-- ---- the graph

abbrev pub draft_of : Net → Draft
draft_of net = record {
  vertices = map (vertex_of net) (pieces_of net ++ constants net);
  memories = map memory_of (zip net.memories (shapes_in net.shapes));
}

-- the graph of a netlist
abbrev pub lowered : Net → Graph
lowered net = built (draft_of net)

-- the name of the gate cell of each vertex, empty for every other
abbrev pub origins : Net → List (List ℕ)
origins net = map (λ p. p.origin) (pieces_of net ++ constants net)
