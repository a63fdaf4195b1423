-- The cells that are written for memories: `$mem_v2` of the Yosys cell library, with unclocked reads.
use Rattle.std.specs.Prelude.{ℕ, zero, suc, ◌+◌, ◌*◌, ◌/◌, ◌%◌, ◌==◌, nat_lt, List, [], ◌∷◌, ◌++◌, length, map, flat_map, replicate, reverse, Bool, true, false, Option, codes}
use Rattle.cs_base.specs.declared.signal.Signal.{Signal}
use Rattle.cs_base.specs.declared.signal.Signal.TheVariants.{Zero, One, Bit}
use Rattle.cs_json.specs.declared.document.CellDecl.{CellDecl}
use Rattle.cs_json.specs.declared.document.PinDecl.{PinDecl}
use Rattle.cs_json.specs.declared.document.Entry.{Entry}
use Rattle.cs_modules.specs.declared.clocks.Clock.{Clock}
use Rattle.cs_modules.specs.Pins.{count_from}
use Rattle.cs_circuit.specs.declared.circuit.MemoryPart.{MemoryPart}
use Rattle.cs_circuit.specs.declared.circuit.ReadPart.{ReadPart}
use Rattle.cs_circuit.specs.declared.circuit.WritePart.{WritePart}
use Rattle.cs_circuit.specs.Cells.{clock_signal, digit, is_rising, numbered, pin, text_entry}

-- ---- texts of digits, the greatest first

-- a list that would be empty has one digit 0
abbrev pub some_digits : List ℕ → List ℕ
some_digits [] = codes "0"
some_digits (d ∷ ds) = d ∷ ds

-- the text of bits that are listed least first
abbrev pub digits_text : List Bool → List ℕ
digits_text bits = some_digits (reverse (map digit bits))

-- so many bits of a number, least first
unfoldable pub bits_of_number : ℕ → ℕ → List Bool
bits_of_number zero n = []
bits_of_number (suc count) n = (n % 2 == 1) ∷ bits_of_number count (n / 2)

-- a number in 32 digits
abbrev pub number_text : ℕ → List ℕ
number_text n = digits_text (bits_of_number 32 n)

-- so many digits alike
abbrev pub same_digits : ℕ → Bool → List ℕ
same_digits count b = digits_text (replicate count b)

-- for each write port those below it, over which it wins
abbrev pub priorities : ℕ → List Bool
priorities count = flat_map (λ i. map (λ j. nat_lt j i) (count_from 0 count)) (count_from 0 count)

-- ---- parameters

-- the parameters of the read ports, n of them, beside m write ports
abbrev pub read_entries : (n m width : ℕ) → List Entry
read_entries n m width =
    text_entry (codes "RD_ARST_VALUE") (same_digits (n * width) false)
    ∷ text_entry (codes "RD_CE_OVER_SRST") (same_digits n false)
    ∷ text_entry (codes "RD_CLK_ENABLE") (same_digits n false)
    ∷ text_entry (codes "RD_CLK_POLARITY") (same_digits n false)
    ∷ text_entry (codes "RD_COLLISION_X_MASK") (same_digits (n * m) false)
    ∷ text_entry (codes "RD_INIT_VALUE") (same_digits (n * width) false)
    ∷ text_entry (codes "RD_PORTS") (number_text n)
    ∷ text_entry (codes "RD_SRST_VALUE") (same_digits (n * width) false)
    ∷ text_entry (codes "RD_TRANSPARENCY_MASK") (same_digits (n * m) false)
    ∷ text_entry (codes "RD_WIDE_CONTINUATION") (same_digits n false) ∷ []

-- the parameters of the write ports, m of them
abbrev pub write_entries : (m : ℕ) → Bool → List Entry
write_entries m rising =
    text_entry (codes "WR_CLK_ENABLE") (same_digits m true)
    ∷ text_entry (codes "WR_CLK_POLARITY") (same_digits m rising)
    ∷ text_entry (codes "WR_PORTS") (number_text m)
    ∷ text_entry (codes "WR_PRIORITY_MASK") (digits_text (priorities m))
    ∷ text_entry (codes "WR_WIDE_CONTINUATION") (same_digits m false) ∷ []

-- memory i, all its parameters in byte order of names
abbrev pub memory_entries : Option Clock → ℕ → MemoryPart → List Entry
memory_entries clock i memory =
    text_entry (codes "ABITS") (number_text memory.abits)
    ∷ text_entry (codes "INIT") (digits_text memory.start)
    ∷ text_entry (codes "MEMID") (numbered (codes "\\cs_m") i)
    ∷ text_entry (codes "OFFSET") (number_text 0)
    ∷ read_entries (length memory.reads) (length memory.writes) memory.width
    ++ text_entry (codes "SIZE") (number_text memory.words)
    ∷ text_entry (codes "WIDTH") (number_text memory.width)
    ∷ write_entries (length memory.writes) (is_rising clock)

-- ---- pins

-- the bits that a read port drives
abbrev pub read_data : ℕ → ReadPart → List Signal
read_data width read = map (λ j. Bit (read.first + j)) (count_from 0 width)

-- the pins of the read ports, port by port
abbrev pub read_pins : ℕ → List ReadPart → List PinDecl
read_pins width reads =
    pin (codes "RD_ADDR") (flat_map (λ read. read.address) reads) false
    ∷ pin (codes "RD_ARST") (replicate (length reads) Zero) false
    ∷ pin (codes "RD_CLK") (replicate (length reads) Zero) false
    ∷ pin (codes "RD_DATA") (flat_map (read_data width) reads) true
    ∷ pin (codes "RD_EN") (replicate (length reads) One) false
    ∷ pin (codes "RD_SRST") (replicate (length reads) Zero) false ∷ []

-- the pins of the write ports, port by port
abbrev pub write_pins : Option Clock → List WritePart → List PinDecl
write_pins clock writes =
    pin (codes "WR_ADDR") (flat_map (λ write. write.address) writes) false
    ∷ pin (codes "WR_CLK") (replicate (length writes) (clock_signal clock)) false
    ∷ pin (codes "WR_DATA") (flat_map (λ write. write.«data») writes) false
    ∷ pin (codes "WR_EN") (flat_map (λ write. write.enable) writes) false ∷ []

-- the cell's name
abbrev pub memory_name : ℕ → List ℕ
memory_name i = numbered (codes "$cs$m") i

abbrev pub memory_cell : Option Clock → ℕ → MemoryPart → CellDecl
memory_cell clock i memory = record {
  name = memory_name i;
  kind = codes "$mem_v2";
  parameters = memory_entries clock i memory;
  attributes = [];
  pins = read_pins memory.width memory.reads ++ write_pins clock memory.writes;
}
