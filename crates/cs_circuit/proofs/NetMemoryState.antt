-- The bits that the cell of a memory drives, its words at the start, and what its write ports are given.
use Rattle.std.proofs.Common.{◌≡◌, ℕ, ◌+◌, ◌*◌, ◌^◌, ◌<◌, min, List, [], map, get_or, length, Bool, false, Option, Some, None, slice_get, refl, sym, ap, ap₂, subst, ◌∙◌, codes, arith}
use Rattle.std.proofs.Math.Nat.{min-eq_left}
use Rattle.std.specs.List.{AllByRecursion, enumerate_from}
use Rattle.cs_base.specs.declared.signal.Signal.{Signal}
use Rattle.cs_base.specs.declared.signal.Signal.TheVariants.{Bit}
use Rattle.cs_json.specs.declared.document.CellDecl.{CellDecl}
use Rattle.cs_cells.specs.declared.memory.MemShape.{MemShape}
use Rattle.cs_cells.specs.declared.memory.ReadShape.{ReadShape}
use Rattle.cs_cells.specs.Memories.{Words, Write, word_count}
use Rattle.cs_modules.specs.declared.clocks.Clock.{Clock}
use Rattle.cs_modules.specs.Digits.{is_one}
use Rattle.cs_modules.specs.Memories.{digits_part, first_words, memory_shape, read_shape, shape_of}
use Rattle.cs_modules.specs.Pins.{class_at, count_from, parameter}
use Rattle.cs_net.specs.declared.state.BitValue.{BitValue}
use Rattle.cs_net.specs.declared.state.MemoryWords.{MemoryWords}
use Rattle.cs_net.specs.Build.{cell_of, words_by}
use Rattle.cs_net.specs.Drivers.{DrivenSignal, cell_drives, memory_read_starts, port_part, read_driver, read_drives, read_starts}
use Rattle.cs_net.specs.Trace.{Valuation, signal_value, write_at, writes_of}
use Rattle.cs_net.proofs.Members.{Has, has_in_chain, has_in_map, has_of_chain, numbered}
use Rattle.cs_circuit.specs.declared.circuit.MemoryPart.{MemoryPart}
use Rattle.cs_circuit.specs.declared.circuit.ReadPart.{ReadPart}
use Rattle.cs_circuit.specs.declared.circuit.WritePart.{WritePart}
use Rattle.cs_circuit.specs.MemoryCells.{memory_name}
use Rattle.cs_circuit.specs.ReadBack.{memory_words, write_by}
use Rattle.cs_circuit.specs.WellFormed.{IsMemoryPart, IsWritePart}
use Rattle.cs_circuit.proofs.NetDigits.{bit_read}
use Rattle.cs_circuit.proofs.NetLists.{counted_at, has_numbered, image_by_place, joined_part, mapped_at, stands_within}
use Rattle.cs_circuit.proofs.NetMemories as memories
use Rattle.cs_circuit.proofs.NetMemories.{IsReadDriven, all_step, decl, read_driven, same_images}

module _ (clock : Option Clock) (i : ℕ) (m : MemoryPart) (fits : IsMemoryPart clock m) where
  abbrev made : CellDecl
  made = decl clock i m fits

  abbrev shape : MemShape
  shape = memory_shape made

  -- ---- what it drives

  -- each bit of a read port is driven
  pub memory_has_bit : (j o : ℕ) (read : ReadPart) → slice_get m.reads j ≡ Some read → o < m.width
      → Has (cell_drives (cell_of made, shape_of made)) (read_driven i read o)
  memory_has_bit j o read stands among =
      let below = stands_within m.reads j read stands in
      let r = read_shape made shape.width j in
      let there = memories.read_there clock i m fits j below in
      let unclocked = (memories.read_is clock i m fits j r there).1 in
      let bits = port_part (cell_of made) (codes "RD_DATA") shape.width j in
      let drive : ℕ × Signal → DrivenSignal = λ e. (e.1, read_driver (cell_of made) shape r j e.0) in
      let place : 0 + o ≡ o = omega arith in
      let data_is : slice_get bits o ≡ Some (Bit (read.first + o)) =
      ap (λ bits. slice_get bits o) (memories.data_part clock i m fits j read stands)
      ∙ mapped_at (λ n. Bit (read.first + n)) (count_from 0 m.width) o o
      (counted_at 0 m.width o among ∙ ap (λ n. Some n) place) in
      let here = has_in_map drive (enumerate_from 0 bits) (o, Bit (read.first + o))
      (has_numbered 0 bits o o (Bit (read.first + o)) data_is place) in
      let same : drive (o, Bit (read.first + o)) ≡ read_driven i read o =
      ap (λ driver. (Bit (read.first + o), driver))
      (memories.driver_read clock i m fits j o read r stands unclocked) in
      let port : 0 + j ≡ j = omega arith in
      let all = has_in_chain (read_drives (cell_of made) shape) (enumerate_from 0 shape.reads) (j, r)
      (read_driven i read o) (has_numbered 0 shape.reads j j r there port)
      (subst (λ d. Has (read_drives (cell_of made) shape (j, r)) d) same here) in
      subst (λ ds. Has ds (read_driven i read o)) (sym (memories.memory_cell_drives clock i m fits)) all

  -- ---- its start

  -- no read port has a start of its own
  pub no_read_starts : (e : BitValue) → Has (memory_read_starts (cell_of made, shape_of made)) e → ⊥
  no_read_starts e has =
      let P : Option MemShape → Type 0 = λ s. Has (memory_read_starts (cell_of made, s)) e in
      let there = subst P (memories.shape_of_memory_cell clock i m fits) has in
      let port = has_of_chain (read_starts (cell_of made) shape) (enumerate_from 0 shape.reads) e there in
      let at = numbered 0 shape.reads port.0 port.1 in
      none port.0 (memories.read_is clock i m fits at.0 port.0.1 at.2).1 port.2
    where
      none : (p : ℕ × ReadShape) → p.1.clocked ≡ false → Has (read_starts (cell_of made) shape p) e → ⊥
      none p unclocked has =
          let starts = read_starts (cell_of made) shape p in
          let empty : starts ≡ [] = rw unclocked refl in
          let nothing = subst (λ es. Has es e) empty has in
          let never : None ≡ Some e = nothing.1 in
          cc

  count_is : word_count shape ≡ m.words
  count_is =
      ap₂ (λ size abits. min size (2 ^ abits)) (memories.words_read clock i m fits)
      (memories.abits_read clock i m fits)
      ∙ min-eq_left fits.reached

  -- it starts with the words that its INIT says
  pub first_words_read : first_words made shape ≡ memory_words m
  first_words_read =
      ap₂ (λ width count. map (digits_part made (codes "INIT") width) (count_from 0 count))
      (memories.width_read clock i m fits) count_is
      ∙ same_images (digits_part made (codes "INIT") m.width) word (λ n. each n) (count_from 0 m.words)
    where
      word : ℕ → List Bool
      word n = map (λ j. get_or m.start (n * m.width + j) false) (count_from 0 m.width)

      each : (n : ℕ) → digits_part made (codes "INIT") m.width n ≡ word n
      each n =
          same_images (λ j. is_one (parameter made (codes "INIT")) (n * m.width + j))
          (λ j. get_or m.start (n * m.width + j) false) (λ j. bit_read m.start (n * m.width + j))
          (count_from 0 m.width)

  pub words_of_memory_cell : words_by (class_at made) made
      ≡ Some (record { name = memory_name i; words = memory_words m })
  words_of_memory_cell =
      ap (λ c. words_by c made) (memories.class_of_memory_cell clock i m fits)
      ∙ ap words_named first_words_read
    where
      words_named : Words → Option MemoryWords
      words_named words = Some (record { name = memory_name i; words = words })

  -- ---- its writes

  sizes : (part : WritePart → List Signal) (width : ℕ)
      → ((w : WritePart) → IsWritePart clock m.abits m.width w → length (part w) ≡ width)
      → AllByRecursion (λ w. length (part w) ≡ width) m.writes
  sizes part width each =
      all_step (IsWritePart clock m.abits m.width) (λ w. length (part w) ≡ width) each m.writes fits.writes

  write_is : (v : Valuation) (j : ℕ) (w : WritePart) → slice_get m.writes j ≡ Some w
      → write_at (cell_of made) shape v j ≡ write_by v w
  write_is v j w stands =
      ap₂ (λ address width. write_of address
      (port_part (cell_of made) (codes "WR_DATA") width j) (port_part (cell_of made) (codes "WR_EN") width j))
      address_is (memories.width_read clock i m fits)
      ∙ ap₂ (write_of w.address) data_is enable_is
    where
      write_of : (address data_bits enable : List Signal) → Write
      write_of address data_bits enable = record {
        address = map (signal_value v) address;
        word = map (signal_value v) data_bits;
        enable = map (signal_value v) enable;
      }

      address_is : port_part (cell_of made) (codes "WR_ADDR") shape.abits j ≡ w.address
      address_is =
          ap (λ n. port_part (cell_of made) (codes "WR_ADDR") n j) (memories.abits_read clock i m fits)
          ∙ joined_part (λ (w : WritePart). w.address) m.abits m.writes
          (sizes (λ w. w.address) m.abits (λ w is. is.address)) j w stands

      data_is : port_part (cell_of made) (codes "WR_DATA") m.width j ≡ w.«data»
      data_is =
          joined_part (λ (w : WritePart). w.«data») m.width m.writes
          (sizes (λ w. w.«data») m.width (λ w is. is.«data»)) j w stands

      enable_is : port_part (cell_of made) (codes "WR_EN") m.width j ≡ w.enable
      enable_is =
          joined_part (λ (w : WritePart). w.enable) m.width m.writes
          (sizes (λ w. w.enable) m.width (λ w is. is.enable)) j w stands

  -- its write ports are given what the circuit's are
  pub writes_of_memory_cell : (v : Valuation)
      → writes_of (cell_of made, shape_of made) v ≡ map (write_by v) m.writes
  writes_of_memory_cell v =
      ap (λ s. writes_of (cell_of made, s) v) (memories.shape_of_memory_cell clock i m fits)
      ∙ ap (λ n. map (write_at (cell_of made) shape v) (count_from 0 n)) (memories.writes_read clock i m fits)
      ∙ image_by_place (write_at (cell_of made) shape v) (write_by v) m.writes
      (λ j w stands. write_is v j w stands)
