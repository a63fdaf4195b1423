-- What a machine does, clock by clock: the graph of Leiserson and Saxe ("Retiming synchronous circuitry", Algorithmica
-- 6, 1991), with a start for each register, and with memories.
use Rattle.std.specs.Prelude.{◌≡◌, ℕ, zero, suc, ◌+◌, ◌<◌, ◌≤◌, ◌==◌, nat_lt, ℤ, pos, negsuc, ◌-ℤ◌, List, [], ◌∷◌, length, get_or, map, take, drop, fold, Bool, true, false, ◌&&◌, not, if◌then◌else◌, Option, Some, None, slice_get, flat_map}
use Rattle.cs_cells.specs.Gates.{gate_value}
use Rattle.cs_cells.specs.Memories.{Words, Write, number_of, read_bit, after_write}
use Rattle.cs_graph.specs.declared.vertex.VertexKind.{VertexKind}
use Rattle.cs_graph.specs.declared.vertex.VertexKind.TheVariants.{Host, Input, Output, Constant, Gate, Read, Write as WritePort}
use Rattle.cs_graph.specs.declared.vertex.Feed.{Feed}
use Rattle.cs_graph.specs.declared.vertex.Feed.TheVariants.{Tied, Edge as Along}
use Rattle.cs_graph.specs.declared.vertex.Vertex.{Vertex}
use Rattle.cs_graph.specs.declared.edge.Edge.{Edge}
use Rattle.cs_graph.specs.declared.memory.Memory.{Memory}
use Rattle.cs_graph.specs.declared.graph.Graph.{Graph}
use Rattle.cs_graph.specs.Kinds.{is_input}

-- the bits of one clock
abbrev pub Row : Type 0
Row = List Bool

-- the outputs of the vertices in one clock
abbrev pub Outs : Type 0
Outs = ℕ → ℕ → Bool

-- ---- edges and pins

-- what an edge carries at a clock: what its driver has, and its contents before clock 0
abbrev pub carried : Edge → (ℕ → Outs) → ℤ → Bool
carried e value (pos n) = value n e.from e.output
carried e value (negsuc j) = get_or e.contents j false

-- what an edge brings at clock n: what it carried as many clocks before as it has registers
abbrev pub seen_edge : Option Edge → (ℕ → Outs) → ℕ → Bool
seen_edge None value n = false
seen_edge (Some e) value n = carried e value (pos n -ℤ pos e.weight)

-- what a pin sees at clock n: the bit that it is tied to, or what its edge brings
abbrev pub seen : Graph → (ℕ → Outs) → ℕ → Feed → Bool
seen g value n (Tied b) = b
seen g value n (Along e) = seen_edge (slice_get g.edges e) value n

-- ---- vertices

-- how many of the first v vertices are inputs
abbrev pub inputs_before : List Vertex → ℕ → ℕ
inputs_before [] v = 0
inputs_before (x ∷ xs) zero = 0
inputs_before (x ∷ xs) (suc v) = (if is_input x.kind then 1 else 0) + inputs_before xs v

-- an output of a vertex, by what its pins see; i is its number among the inputs
abbrev pub output_of : VertexKind → ℕ → Row → (ℕ → Words) → List Bool → ℕ → Bool
output_of Host i row words pins o = false
output_of Input i row words pins o = get_or row i false
output_of Output i row words pins o = false
output_of (Constant b) i row words pins o = b
output_of (Gate kind) i row words pins o = gate_value kind pins
output_of (Read memory port) i row words pins o = read_bit (words memory) pins o
output_of (WritePort memory port) i row words pins o = false

-- the same of the vertex of a number, 0 where there is none
abbrev pub vertex_output : Option Vertex → ℕ → Row → (ℕ → Words) → (Feed → Bool) → ℕ → Bool
vertex_output None i row words sees o = false
vertex_output (Some x) i row words sees o = output_of x.kind i row words (map sees x.pins) o

-- the outputs of all vertices, by what their pins see
abbrev pub value_at : Graph → Row → (ℕ → Words) → (Feed → Bool) → Outs
value_at g row words sees v o = vertex_output (slice_get g.vertices v) (inputs_before g.vertices v) row
    words sees o

-- ---- memories

-- a list of bits cut into so many words of a width
abbrev pub words_from : ℕ → ℕ → List Bool → Words
words_from zero width start = []
words_from (suc count) width start = take width start ∷ words_from count width (drop width start)

-- the words that a memory starts with
abbrev pub start_words : Option Memory → Words
start_words None = []
start_words (Some m) = words_from m.words m.width m.start

-- the pins of a Write are address, data and enable bits
abbrev pub write_of : Memory → List Bool → Write
write_of m pins = record {
  address = take m.abits pins;
  word = take m.width (drop m.abits pins);
  enable =
      drop m.width (drop m.abits pins);
}

-- what a vertex gives memory i, where it is one of its write ports
abbrev pub writes_by : ℕ → Memory → VertexKind → List Bool → List Write
writes_by i m Host pins = []
writes_by i m Input pins = []
writes_by i m Output pins = []
writes_by i m (Constant b) pins = []
writes_by i m (Gate kind) pins = []
writes_by i m (Read memory port) pins = []
writes_by i m (WritePort memory port) pins = if memory == i then write_of m pins ∷ [] else []

-- what a memory's ports are given, in their order, which is that of their vertices
abbrev pub writes_at : Graph → ℕ → Memory → (Feed → Bool) → List Write
writes_at g i m sees = flat_map (λ x. writes_by i m x.kind (map sees x.pins)) g.vertices

-- a write at an address that is no word is dropped, in a bounded run also one from `size` on
abbrev pub taken_in : Bool → Memory → Words → Write → Words
taken_in bounded m words w = if bounded && not (nat_lt (number_of w.address) m.size) then words else
    after_write words w

-- a memory's words after one clock: its write ports act in order
abbrev pub memory_after : Bool → Graph → ℕ → Option Memory → (Feed → Bool) → Words → Words
memory_after bounded g i None sees now = now
memory_after bounded g i (Some m) sees now = fold (taken_in bounded m) now (writes_at g i m sees)

-- the words of memory i after one clock
abbrev pub words_after : Bool → Graph → (Feed → Bool) → (ℕ → Words) → ℕ → Words
words_after bounded g sees now i = memory_after bounded g i (slice_get g.memories i) sees (now i)

-- ---- runs

-- the words of memory i at clock 0
abbrev pub first_words : Graph → ℕ → Words
first_words g i = start_words (slice_get g.memories i)

-- the outputs of clock n are those that the vertices give
abbrev pub Settles : Graph → Row → (ℕ → Words) → (ℕ → Outs) → ℕ → Type 0
Settles g row now value n = (v o : ℕ) → value n v o ≡ value_at g row now (seen g value n) v o

-- in the first `clocks` clocks, with these rows
pub record RunsFor (bounded : Bool) (g : Graph) (clocks : ℕ) (row : ℕ → Row) (value : ℕ → Outs) (words : ℕ
    → ℕ → Words) : Type 0 where
  pub begins : (i : ℕ) → words 0 i ≡ first_words g i
  pub settles : (n : ℕ) → n < clocks → Settles g (row n) (words n) value n
  pub goes_on : (n : ℕ) → n < clocks → (i : ℕ)
      → words (suc n) i ≡ words_after bounded g (seen g value n) (words n) i

-- for ever
abbrev pub RunsOn : Bool → Graph → (ℕ → Row) → (ℕ → Outs) → (ℕ → ℕ → Words) → Type 0
RunsOn bounded g row value words = (n : ℕ) → RunsFor bounded g n row value words

-- row n of a list, none past its end
abbrev pub row_of : List Row → ℕ → Row
row_of rows n = get_or rows n []

-- a run over rows: in each of their clocks every vertex gives its output, and memories go on from their starts
abbrev pub IsRun : Graph → List Row → (ℕ → Outs) → (ℕ → ℕ → Words) → Type 0
IsRun g rows value words = RunsFor false g (length rows) (row_of rows) value words

-- a run in which a write from `size` on is dropped
abbrev pub IsBoundedRun : Graph → List Row → (ℕ → Outs) → (ℕ → ℕ → Words) → Type 0
IsBoundedRun g rows value words = RunsFor true g (length rows) (row_of rows) value words

-- two runs agree
pub record AgreeFor (clocks : ℕ) (value value' : ℕ → Outs) (words words' : ℕ → ℕ → Words) : Type 0 where
  pub same_values : (n : ℕ) → n < clocks → (v o : ℕ) → value n v o ≡ value' n v o
  pub same_words : (n : ℕ) → n ≤ clocks → (i : ℕ) → words n i ≡ words' n i

-- there is a run, and every other agrees with it
pub record HasOneRun (bounded : Bool) (g : Graph) (clocks : ℕ) (row : ℕ → Row) : Type 0 where
  pub value : ℕ → Outs
  pub words : ℕ → ℕ → Words
  pub run : RunsFor bounded g clocks row value words
  pub only : (value' : ℕ → Outs) (words' : ℕ → ℕ → Words) → RunsFor bounded g clocks row value' words'
      → AgreeFor clocks value value' words words'

-- there is a run for ever, and each run of so many clocks over the same rows is its beginning
pub record HasOneRunOn (bounded : Bool) (g : Graph) (row : ℕ → Row) : Type 0 where
  pub value : ℕ → Outs
  pub words : ℕ → ℕ → Words
  pub run : RunsOn bounded g row value words
  pub begins : (clocks : ℕ) (row' : ℕ → Row) (value' : ℕ → Outs) (words' : ℕ → ℕ → Words)
      → ((n : ℕ) → n < clocks → row' n ≡ row n) → RunsFor bounded g clocks row' value' words'
      → AgreeFor clocks value value' words words'

-- ---- outputs

-- what an Output sees
abbrev pub shown_by : VertexKind → List Bool → List Bool
shown_by Host pins = []
shown_by Input pins = []
shown_by Output pins = pins
shown_by (Constant b) pins = []
shown_by (Gate kind) pins = []
shown_by (Read memory port) pins = []
shown_by (WritePort memory port) pins = []

-- the row of what the Output vertices see, in order
abbrev pub outputs_at : Graph → (Feed → Bool) → Row
outputs_at g sees = flat_map (λ x. shown_by x.kind (map sees x.pins)) g.vertices

-- these are the rows of outputs of so many clocks
pub record Shows (g : Graph) (clocks : ℕ) (value : ℕ → Outs) (outputs : List Row) : Type 0 where
  pub count : length outputs ≡ clocks
  pub each : (n : ℕ) → n < clocks → get_or outputs n [] ≡ outputs_at g (seen g value n)

-- what a machine answers to rows
pub record RunsWith (bounded : Bool) (g : Graph) (rows outputs : List Row) : Type 0 where
  pub value : ℕ → Outs
  pub words : ℕ → ℕ → Words
  pub run : RunsFor bounded g (length rows) (row_of rows) value words
  pub shows : Shows g (length rows) value outputs
