-- What a memory of the graph of a netlist is given: what the taps of the write ports of its cell show.
use Rattle.std.proofs.Common.{◌≡◌, ℕ, ◌<◌, Bool, true, false, List, [], ◌∷◌, ◌++◌, map, Some, None, flat_map, refl, ap₂, ◌∙◌}
use Rattle.std.specs.Prelude.{◌==◌, if◌then◌else◌, slice_get}
use Rattle.std.proofs.lemmas.Bool.{eq-eqb, ne_eqb}
use Rattle.cs_cells.specs.declared.class.Class.{Class}
use Rattle.cs_cells.specs.declared.class.Class.TheVariants.{Asynchronous, Gate, Memory, NotFine, Register, Scope, Unknown}
use Rattle.cs_cells.specs.declared.memory.MemShape.{MemShape}
use Rattle.cs_cells.specs.Memories.{Words, Write}
use Rattle.cs_graph.specs.declared.memory.Memory.{Memory as GraphMemory}
use Rattle.cs_graph.specs.Run.{Outs, Row, RunsFor, seen, write_of, writes_at}
use Rattle.cs_modules.specs.Pins.{count_from}
use Rattle.cs_net.specs.declared.netlist.Cell.{Cell}
use Rattle.cs_net.specs.Netlist.{Net}
use Rattle.cs_lower.specs.Cells.{Placed, placed_cells, write_piece}
use Rattle.cs_lower.specs.Lowered.{lowered}
use Rattle.cs_lower.specs.declared.taps.Tap.{Tap}
use Rattle.cs_lower.proofs.PlacedCells.{IsOfMemory, made_of_one}
use Rattle.cs_lower.proofs.SeenLemmas.{shows}
use Rattle.cs_lower.proofs.SeenSinks.{given_by, writes_show}
use Rattle.cs_lower.proofs.SinkPieces.{class_write_pieces, write_pieces}

-- what the write ports of a memory are given, by what their taps show
abbrev pub port_writes : GraphMemory → (Tap → Bool) → ℕ → Cell → MemShape → List Write
port_writes m tap memory cell shape =
    map (λ port. write_of m (map tap (write_piece memory cell shape port).pins)) (count_from 0 shape.writes)

module _ (i : ℕ) (m : GraphMemory) (tap : Tap → Bool) where
  others_given : (memory : ℕ) (cell : Cell) (shape : MemShape) (ports : List ℕ) → (memory == i) ≡ false
      → flat_map (given_by i m tap) (map (write_piece memory cell shape) ports) ≡ []
  others_given memory cell shape [] other = refl
  others_given memory cell shape (port ∷ ports) other =
      ap₂ (λ here rest. (if here then write_of m (map tap (write_piece memory cell shape port).pins) ∷ [] else []) ++ rest)
      other (others_given memory cell shape ports other)

  own_given : (memory : ℕ) (cell : Cell) (shape : MemShape) (ports : List ℕ) → (memory == i) ≡ true
      → flat_map (given_by i m tap) (map (write_piece memory cell shape) ports)
      ≡ map (λ port. write_of m (map tap (write_piece memory cell shape port).pins)) ports
  own_given memory cell shape [] own = refl
  own_given memory cell shape (port ∷ ports) own =
      ap₂ (λ here rest. (if here then write_of m (map tap (write_piece memory cell shape port).pins) ∷ [] else []) ++ rest)
      own (own_given memory cell shape ports own)

  abbrev cell_gives : Placed → List Write
  cell_gives c = flat_map (given_by i m tap) (write_pieces c)

  none_by_class : (class : Class) (cell : Cell) (memory : ℕ)
      → flat_map (given_by i m tap) (class_write_pieces class (record { cell = cell; shape = None; memory = memory })) ≡ []
  none_by_class (Gate kind) cell memory = refl
  none_by_class (Register kind) cell memory = refl
  none_by_class Memory cell memory = refl
  none_by_class Scope cell memory = refl
  none_by_class Asynchronous cell memory = refl
  none_by_class NotFine cell memory = refl
  none_by_class Unknown cell memory = refl

  others_by_class : (class : Class) (cell : Cell) (shape : MemShape) (memory : ℕ) → (memory ≡ i → ⊥)
      → flat_map (given_by i m tap) (class_write_pieces class
      (record { cell = cell; shape = Some shape; memory = memory })) ≡ []
  others_by_class (Gate kind) cell shape memory other = refl
  others_by_class (Register kind) cell shape memory other = refl
  others_by_class Memory cell shape memory other =
      others_given memory cell shape (count_from 0 shape.writes) (ne_eqb memory i other)
  others_by_class Scope cell shape memory other = refl
  others_by_class Asynchronous cell shape memory other = refl
  others_by_class NotFine cell shape memory other = refl
  others_by_class Unknown cell shape memory other = refl

  given_of_memory : IsOfMemory i cell_gives
  given_of_memory = record {
    none = λ cell memory. none_by_class cell.class cell memory;
    others = λ cell shape memory other. others_by_class cell.class cell shape memory other;
  }

  own_cell : (c : Placed) (shape : MemShape) → c.cell.class ≡ Memory → c.shape ≡ Some shape → c.memory ≡ i
      → cell_gives c ≡ port_writes m tap c.memory c.cell shape
  own_cell c shape class is number =
      ap₂ (λ y s. flat_map (given_by i m tap) (class_write_pieces y (record { cell = c.cell; shape = s; memory = c.memory })))
      class is
      ∙ own_given c.memory c.cell shape (count_from 0 shape.writes) (eq-eqb c.memory i number)

  -- the write ports of a memory are those of its cell, and no others
  pub given_by_one : (net : Net) (k : ℕ) (c : Placed) (shape : MemShape) → slice_get (placed_cells net) k ≡ Some c
      → c.cell.class ≡ Memory → c.shape ≡ Some shape → c.memory ≡ i
      → flat_map (λ d. flat_map (given_by i m tap) (write_pieces d)) (placed_cells net)
      ≡ port_writes m tap c.memory c.cell shape
  given_by_one net k c shape at class is number =
      made_of_one i cell_gives given_of_memory 0 net.cells net.shapes k c shape at is number
      ∙ own_cell c shape class is number

-- ---- a run

module _ (net : Net) (bounded : Bool) (clocks : ℕ) (row : ℕ → Row) (value : ℕ → Outs) (words : ℕ → ℕ
    → Words) (run : RunsFor bounded (lowered net) clocks row value words)
  where
    -- a memory is given what the taps of its cell's write ports show
    pub memory_given : (n : ℕ) → n < clocks → (k : ℕ) (c : Placed) (shape : MemShape) (m : GraphMemory)
        → slice_get (placed_cells net) k ≡ Some c → c.cell.class ≡ Memory → c.shape ≡ Some shape
        → writes_at (lowered net) c.memory m (seen (lowered net) value n)
        ≡ port_writes m (shows net value n) c.memory c.cell shape
    memory_given n h k c shape m at class is =
        writes_show net bounded clocks row value words run n h c.memory m
        ∙ given_by_one c.memory m (shows net value n) net k c shape at class is refl
