-- What drives a bit of the netlist, and what drives it among the vertices.
use Rattle.std.specs.Prelude.{◌≡◌, ℕ, ◌+◌, List, [], get_or, length, map, take, drop, option_map, slice_get, Some, Bool}
use Rattle.cs_base.specs.declared.signal.Signal.{Signal}
use Rattle.cs_cells.specs.declared.memory.MemShape.{MemShape}
use Rattle.cs_graph.specs.declared.vertex.VertexKind.{VertexKind}
use Rattle.cs_graph.specs.declared.vertex.VertexKind.TheVariants.{Gate, Input, Read}
use Rattle.cs_net.specs.declared.netlist.Cell.{Cell}
use Rattle.cs_net.specs.Build.{places_from}
use Rattle.cs_net.specs.Drivers.{Driver, Source, StateElement, WordBit, from_signal, from_word, gate, input, register, undriven as driven_by_none, word_bit}
use Rattle.cs_net.specs.Netlist.{Net}
use Rattle.cs_lower.specs.Registers.{register_chain}
use Rattle.cs_lower.specs.declared.taps.Tap.{Tap}
use Rattle.cs_lower.specs.declared.taps.Tap.TheVariants.{Signal as of_signal, Vertex as of_vertex}
use Rattle.cs_lower.specs.declared.taps.Wire.{Wire}
use Rattle.cs_lower.specs.declared.taps.Wire.TheVariants.{Register as from_register, Vertex as from_vertex, Undriven as undriven}
use Rattle.cs_lower.specs.declared.taps.Piece.{Piece}
use Rattle.cs_lower.specs.Wires.{parts_of}

-- ---- vertices by their numbers

-- the vertex of a number has such a kind and such pins
pub record IsVertex (net : Net) (v : ℕ) (kind : VertexKind) (pins : List Tap) : Type 0 where
  pub vertex : Piece
  pub stands : slice_get (parts_of net).pieces v ≡ Some vertex
  pub kind_is : vertex.kind ≡ kind
  pub pins_are : vertex.pins ≡ pins

-- these vertices stand one after another from a number on
abbrev pub StandFrom : Net → ℕ → List Piece → Type 0
StandFrom net n pieces = take (length pieces) (drop n (parts_of net).pieces) ≡ pieces

-- ---- memories by their names

-- the memory at a place among the netlist's has this name
abbrev pub IsNamed : Net → ℕ → List ℕ → Type 0
IsNamed net memory name = option_map (λ m. m.name) (slice_get net.memories memory) ≡ Some name

-- the memories stand in order of their cells, under the cells' names
abbrev pub AreNamedInOrder : Net → Type 0
AreNamedInOrder net =
    (i : ℕ) (cell : Cell) (shape : MemShape) → slice_get net.cells i ≡ Some cell
    → slice_get net.shapes i ≡ Some (Some shape) → IsNamed net (get_or (places_from 0 net.shapes) i 0) cell.name

-- the vertex of a number reads the word of the memory of a name at this address
pub record ReadsWord (net : Net) (name : List ℕ) (address : List Signal) (v : ℕ) : Type 0 where
  pub memory : ℕ
  pub port : ℕ
  pub named : IsNamed net memory name
  pub vertex : IsVertex net v (Read memory port) (map of_signal address)

-- an output of a vertex is such a bit of a word
abbrev pub IsWordBit : Net → WordBit → ℕ → ℕ → Type 0
IsWordBit net w v o = ReadsWord net w.memory w.address v × (o ≡ w.place)

-- ---- registers

-- what a register has at D, before its multiplexers
abbrev pub IsSource : Net → Source → Tap → Type 0
IsSource net (from_signal s) d = d ≡ of_signal s
IsSource net (from_word w) d = (v : ℕ) × (d ≡ of_vertex v w.place) × ReadsWord net w.memory w.address v

-- what the register that drives Q takes is what comes out of its multiplexers, which stand among the vertices
pub record TakesFrom (net : Net) (q : Signal × Bool) (r : StateElement) (taken : Tap) : Type 0 where
  pub first : ℕ
  pub d : Tap
  pub source : IsSource net r.source d
  pub stand : StandFrom net first (register_chain net first q r d).pieces
  pub last : taken ≡ (register_chain net first q r d).last

-- ---- all drivers

-- what drives a signal in the netlist and what drives it among the vertices are the same
abbrev pub Matches : Net → Signal → Driver → Wire → Type 0
Matches net q driven_by_none undriven = Unit {0}
Matches net q (input i) (from_vertex v o) = (v ≡ 1 + i) × (o ≡ 0) × IsVertex net v Input []
Matches net q (gate kind pins) (from_vertex v o) = IsVertex net v (Gate kind) (map of_signal pins) × (o ≡ 0)
Matches net q (word_bit w) (from_vertex v o) = IsWordBit net w v o
Matches net q (register r) (from_register d) = (start : Bool) × TakesFrom net (q, start) r d
Matches net q driver wire = ⊥
