-- What each netlist keeps.
use Rattle.std.specs.Prelude.{◌≡◌, ◌<◌, ℕ, List, Some, None, get_or, length, map, option_map, slice_get}
use Rattle.cs_cells.specs.declared.memory.MemShape.{MemShape}
use Rattle.cs_cells.specs.Memories.{word_count}
use Rattle.cs_net.specs.declared.netlist.Cell.{Cell}
use Rattle.cs_json.specs.declared.document.Module.{Module}
use Rattle.cs_json.specs.Readable.{IsModule}
use Rattle.cs_net.specs.declared.state.MemoryWords.{MemoryWords}
use Rattle.cs_net.specs.Netlist.{Net, words_at}
use Rattle.cs_net.specs.Drivers.{IsBitOrder}
use Rattle.cs_conditions.specs.Conditions.{early_refusal, reserved}
use Rattle.cs_net.specs.Build.{net_of}
use Rattle.cs_net.specs.Accept.{limit_fault}

-- some place for each bit, after those that it depends on
pub record HasBitOrder (net : Net) : Type 0 where
  pub place : ℕ → ℕ
  pub order : IsBitOrder net place

-- none of the conditions 15 to 17 holds of a module's netlist, and its bits have an order
pub record IsSound (m : Module) : Type 0 where
  pub order : HasBitOrder (net_of m)
  pub not_reserved : reserved m ≡ None
  pub within : limit_fault (net_of m) ≡ None

-- a memory's name, and how long each of its words is
abbrev pub size_of : MemoryWords → List ℕ × List ℕ
size_of m = (m.name, map length m.words)

-- the same memories, each of as many words of the same lengths
abbrev pub AreAlike : List MemoryWords → List MemoryWords → Type 0
AreAlike old new = map size_of old ≡ map size_of new

-- it is the netlist of a readable module that no condition refuses, but for what is in the words of its memories, and
-- its bits have an order
pub record IsWellFormed (net : Net) : Type 0 where
  pub «module» : Module
  pub readable : IsModule «module»
  pub early : early_refusal «module» ≡ None
  pub not_reserved : reserved «module» ≡ None
  pub is : net ≡ record (net_of «module») { memories = net.memories }
  pub memories : AreAlike (net_of «module»).memories net.memories
  pub order : HasBitOrder net
  pub within : limit_fault net ≡ None

-- for each cell that is a memory, the place of its words among the memories
abbrev pub AreMemoryPlaces : Net → List ℕ → Type 0
AreMemoryPlaces net places = (i : ℕ) (cell : Cell) (shape : MemShape) → slice_get net.cells i ≡ Some cell → slice_get net.shapes i ≡ Some (Some shape) →
    option_map (λ m. m.words) (slice_get net.memories (get_or places i 0)) ≡ Some (words_at net.memories cell.name)

-- cell i is a memory, with such a word and such a bit in each
pub record IsMemoryBit (net : Net) (i word bit : ℕ) : Type 0 where
  pub shape : MemShape
  pub memory : slice_get net.shapes i ≡ Some (Some shape)
  pub is_word : word < word_count shape
  pub is_bit : bit < shape.width
