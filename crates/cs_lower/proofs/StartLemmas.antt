-- The starts of registers and of clocked reads, as they are pushed.
use Rattle.std.proofs.Common.{◌≡◌, ℕ, ◌≤◌, Bool, false, List, [], ◌++◌, drop, length, filter_map, flat_map, get_or, Option, append-nil, sym, ap, ◌∙◌}
use Rattle.std.specs.List.{enumerate_from, zip}
use Rattle.cs_base.specs.declared.signal.Signal.{Signal}
use Rattle.cs_cells.specs.declared.memory.MemShape.{MemShape}
use Rattle.cs_cells.specs.declared.memory.ReadShape.{ReadShape}
use Rattle.cs_net.specs.declared.netlist.Cell.{Cell}
use Rattle.cs_net.specs.declared.state.BitValue.{BitValue}
use Rattle.cs_net.specs.Drivers.{bit_value, memory_read_starts, own_start, read_starts}
use Rattle.cs_net.specs.Netlist.{Net}
use Rattle.cs_lower.proofs.DrivenLemmas.{none_left}

-- the starts of a clocked read's data bits, from this place on
abbrev pub bits_from : List Bool → ℕ → List Signal → List BitValue
bits_from starts k bits = filter_map (λ e. bit_value e.1 (get_or starts e.0 false)) (enumerate_from k bits)

-- the starts of a memory's read ports, from this one on
abbrev pub reads_from : Cell → MemShape → ℕ → List ReadShape → List BitValue
reads_from cell shape k reads = flat_map (read_starts cell shape) (enumerate_from k reads)

-- past the last bit all is pushed
pub bits_pushed : (starts : List Bool) (place : ℕ) (bits : List Signal) (made old : List BitValue) → length bits ≤ place
    → made ++ bits_from starts place (drop place bits) ≡ old ++ bits_from starts 0 bits
    → made ≡ old ++ bits_from starts 0 bits
bits_pushed starts place bits made old past so_far =
    sym (append-nil made)
    ∙ ap (λ left. made ++ bits_from starts place left) (sym (none_left place bits past)) ∙ so_far

-- past the last port all is pushed
pub reads_pushed : (cell : Cell) (shape : MemShape) (port : ℕ) (reads : List ReadShape) (made old : List BitValue)
    → reads ≡ shape.reads → length reads ≤ port
    → made ++ reads_from cell shape port (drop port reads) ≡ old ++ reads_from cell shape 0 reads
    → made ≡ old ++ reads_from cell shape 0 shape.reads
reads_pushed cell shape port reads made old same past so_far =
    sym (append-nil made)
    ∙ ap (λ left. made ++ reads_from cell shape port left) (sym (none_left port reads past)) ∙ so_far
    ∙ ap (λ all. old ++ reads_from cell shape 0 all) same

-- past the last cell all is pushed
pub all_pushed : (net : Net) (left : List (Cell × Option MemShape)) (made : List BitValue) → left ≡ []
    → made ++ flat_map memory_read_starts left ≡ net.starts ++ flat_map memory_read_starts (zip net.cells net.shapes)
    → made ≡ (own_start net).bits
all_pushed net left made none so_far =
    sym (append-nil made) ∙ ap (λ cells. made ++ flat_map memory_read_starts cells) (sym none) ∙ so_far
