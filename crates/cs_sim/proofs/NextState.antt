-- What is held after a clock shows the netlist's next state.
use Rattle.std.proofs.Common.{◌≡◌, ◌∙◌, ℕ, zero, suc, ◌+◌, List, [], ◌∷◌, length, get_or, map, Bool, true, false, Some, refl, sym, ap, ap₂, arith, inl, inr, codes}
use mathlib.Core.Path.{fun_ext}
use Rattle.std.specs.Prelude.{◌⊎◌, if◌then◌else◌, slice_get}
use Rattle.std.specs.List.{enumerate_from, zip}
use Rattle.std.proofs.lemmas.List.{length-map}
use Rattle.std.proofs.lemmas.Option.{get_or_from_slice_get, slice_get-get_or}
use Rattle.cs_base.specs.declared.signal.Signal.{Signal}
use Rattle.cs_base.specs.declared.signal.Signal.TheVariants.{Zero}
use Rattle.cs_cells.specs.declared.memory.MemShape.{MemShape}
use Rattle.cs_cells.specs.declared.memory.ReadShape.{ReadShape}
use Rattle.cs_cells.specs.declared.register.FfKind.{FfKind}
use Rattle.cs_cells.specs.Memories.{Words, number_of, read_bit, read_register}
use Rattle.cs_cells.specs.Registers.{next_value}
use Rattle.cs_net.specs.declared.netlist.Cell.{Cell}
use Rattle.cs_net.specs.Drivers.{DrivenSignal, Driver, bits_of, data_inputs, driver_of, gate, input, port_part, read_data, read_driver, read_element, read_word_bit, register, register_of, signal_of, undriven, word_bit}
use Rattle.cs_net.specs.Invariant.{IsWellFormed}
use Rattle.cs_net.specs.Netlist.{Net, NetState, bit_at, state_of}
use Rattle.cs_net.specs.Trace.{Valuation, next_bit, next_state, signal_value, word_bit_value}
use Rattle.cs_sim.specs.declared.layout.Layout.{Layout}
use Rattle.cs_sim.specs.declared.layout.ReadBit.{ReadBit}
use Rattle.cs_sim.specs.declared.layout.ReadPortSlots.{ReadPortSlots}
use Rattle.cs_sim.specs.declared.layout.RegisterSlots.{RegisterSlots}
use Rattle.cs_sim.specs.Clock.{HeldValues, next_held, next_read, next_read_bit, next_register, word_in}
use Rattle.cs_sim.specs.Layout.{address_slots, driven_signals, layout_of, read_bit_of, read_port_slots, register_slots}
use Rattle.cs_sim.specs.Slots.{slot_of, value_at}
use Rattle.cs_sim.specs.Start.{Fits, snapshot_of}
use Rattle.cs_sim.proofs.Agreement.{count_at}
use Rattle.cs_sim.proofs.DriverLemmas.{driver_is, driver_is_none}
use Rattle.cs_sim.proofs.FitLemmas.{fits_next}
use Rattle.cs_sim.proofs.HeldWords.{memory_place, next_words_shown, signals_same, words_held}
use Rattle.cs_sim.proofs.KeptLemmas.{is_register}
use Rattle.cs_sim.proofs.PlaceLemmas.{IsDriven, IsUndriven, located, offset, slice_get_below}
use Rattle.cs_sim.proofs.Pieces.{Piece, drives, gate_piece, inputs_piece, pieces, ports_of, read_piece, register_piece, registers_of}
use Rattle.cs_sim.proofs.ShownBits.{other_shown, port_at, read_shown, register_at, register_shown, undriven_shown}
use Rattle.cs_sim.proofs.ZipLemmas.{image_at, numbered_at, only_at, preimage_at, zipped_at}

-- ---- what is held after a clock

-- the next value of a register
next_register_at : (l : Layout) (held : HeldValues) (values : List Bool) → Fits l held → (q : ℕ) (slots : RegisterSlots) → slice_get l.registers q ≡ Some slots
    → get_or (next_held l values held).registers q false ≡ next_register values (slots, get_or held.registers q false)
unfolding next_held
next_register_at l held values fits q slots at =
    let below = slice_get_below l.registers q slots at in
    let old = slice_get-get_or held.registers q false (omega (arith, below, fits.registers)) in
    get_or_from_slice_get (next_held l values held).registers q (next_register values (slots, get_or held.registers q false)) false
    (image_at (next_register values) (zip l.registers held.registers) q (slots, get_or held.registers q false)
    (zipped_at l.registers held.registers q slots (get_or held.registers q false) at old))

same_counts : (ports : List ReadPortSlots) (reads : List (List Bool)) → map (λ bits. length bits) reads ≡ map (λ p. length p.bits) ports → length reads ≡ length ports
same_counts ports reads fit = sym (length-map reads (λ bits. length bits)) ∙ ap length fit ∙ length-map ports (λ p. length p.bits)

-- the next value of a data bit of a clocked read
next_read_at : (l : Layout) (held : HeldValues) (values : List Bool) → Fits l held → (q p : ℕ) (port : ReadPortSlots) (bit : ReadBit)
    → slice_get l.read_ports q ≡ Some port → slice_get port.bits p ≡ Some bit
    → get_or (get_or (next_held l values held).reads q []) p false
    ≡ next_read_bit values port (word_in held.memories port.memory values port.address) (p, (bit, get_or (get_or held.reads q []) p false))
unfolding next_held
next_read_at l held values fits q p port bit at bit_is =
    let below = slice_get_below l.read_ports q port at in
    let old = get_or held.reads q [] in
    let old_at = slice_get-get_or held.reads q [] (omega (arith, below, same_counts l.read_ports held.reads fits.reads)) in
    let word = word_in held.memories port.memory values port.address in
    let bit_below = slice_get_below port.bits p bit bit_is in
    let value_is = slice_get-get_or old p false (omega (arith, bit_below, count_at l.read_ports held.reads q port fits.reads at)) in
    let here = zipped_at port.bits old p bit (get_or old p false) bit_is value_is in
    let none : 0 + p ≡ p = omega arith in
    ap (λ bits. get_or bits p false)
    (get_or_from_slice_get (next_held l values held).reads q (next_read held.memories values (port, old)) []
    (image_at (next_read held.memories values) (zip l.read_ports held.reads) q (port, old) (zipped_at l.read_ports held.reads q port old at old_at)))
    ∙ get_or_from_slice_get (next_read held.memories values (port, old)) p (next_read_bit values port word (0 + p, (bit, get_or old p false))) false
    (image_at (next_read_bit values port word) (enumerate_from 0 (zip port.bits old)) p (0 + p, (bit, get_or old p false))
    (numbered_at 0 (zip port.bits old) p (bit, get_or old p false) here))
    ∙ ap (λ n. next_read_bit values port word (n, (bit, get_or old p false))) none

plus_none : (n : ℕ) → 0 + n ≡ n
plus_none n = omega arith

-- a data bit stands at its place
numbered_place : {A : Type 0} (k : ℕ) (xs : List A) (i : ℕ) (e : ℕ × A) → slice_get (enumerate_from k xs) i ≡ Some e → e.0 ≡ k + i
numbered_place k [] i e h = absurd (cc)
numbered_place {A = A} k (x ∷ xs) zero e h =
    let same : (k, x) ≡ e = cc in
    sym (ap (λ (p : ℕ × A). p.0) same) ∙ omega arith
numbered_place k (x ∷ xs) (suc i) e h = numbered_place (k + 1) xs i e h ∙ omega arith

none_next : (x : Driver) (old : Bool) (words : List ℕ → Words) (v : Valuation) → is_register x ≡ false → next_bit x old words v ≡ false
none_next undriven old words v other = refl
none_next (input i) old words v other = refl
none_next (gate kind pins) old words v other = refl
none_next (word_bit w) old words v other = refl
none_next (register r) old words v other = absurd (cc)

-- ---- the bits that are shown

module _ (net : Net) (w : IsWellFormed net) (held : HeldValues) (fits : Fits (layout_of net) held) (values : List Bool) (v : Valuation)
    (settled : (s : Signal) → value_at values (slot_of (driven_signals net) s) ≡ signal_value v s) where
  abbrev later : HeldValues
  later = next_held (layout_of net) values held

  later_fits : Fits (layout_of net) later
  later_fits = fits_next (layout_of net) values held fits

  abbrev now : NetState
  now = state_of (snapshot_of net (layout_of net) held)

  abbrev shown_later : ℕ → Bool
  shown_later b = bit_at (snapshot_of net (layout_of net) later).bits b

  by_pins : (kind : FfKind) (source : Bool) (old : Bool) (enable reset : Signal)
      → next_value kind source old (value_at values (slot_of (driven_signals net) enable)) (value_at values (slot_of (driven_signals net) reset))
      ≡ next_value kind source old (signal_value v enable) (signal_value v reset)
  by_pins kind source old enable reset = ap₂ (λ e r. next_value kind source old e r) (settled enable) (settled reset)

  register_next : (b : ℕ) (d : IsDriven (drives net) (pieces net) b) (cell : Cell) (kind : FfKind) → d.row ≡ register_piece cell kind
      → shown_later b ≡ next_bit (driver_of net b) (now.bit b) now.words v
  register_next b d cell kind is =
      let q = offset (registers_of net) (pieces net) d.v in
      let slots = register_slots (driven_signals net) net.starts cell kind in
      let at = register_at net d.v cell kind (d.row_at ∙ ap (λ x. Some x) is) in
      let first = only_at _ d.driver d.p (ap (λ x. slice_get (drives net x) d.p) (sym is) ∙ d.driver_at) in
      let driver : register (register_of cell kind) ≡ driver_of net b = ap (λ (x : DrivenSignal). x.1) first ∙ sym (driver_is net b d) in
      register_shown net w later later_fits b d cell kind is
      ∙ next_register_at (layout_of net) held values fits q slots at
      ∙ by_pins kind (value_at values slots.source) (get_or held.registers q false) (signal_of cell (codes "E")) (signal_of cell (codes "R"))
      ∙ ap₂ (λ source old. next_value kind source old (signal_value v (signal_of cell (codes "E"))) (signal_value v (signal_of cell (codes "R"))))
      (settled (signal_of cell (codes "D"))) (sym (register_shown net w held fits b d cell kind is))
      ∙ ap (λ x. next_bit x (now.bit b) now.words v) driver

  -- the word that a read port addresses
  word_there : (m : ℕ) (cell : Cell) (shape : MemShape) (port p : ℕ) (i : ℕ) (read : ReadShape) → slice_get (pieces net) i ≡ Some (read_piece m cell shape port read)
      → get_or (word_in held.memories m values (address_slots (driven_signals net) cell shape port)) p false
      ≡ word_bit_value now.words v (read_word_bit cell shape port p)
  unfolding read_bit
  word_there m cell shape port p i read at =
      ap₂ (λ (words : Words) (address : List Bool). get_or (get_or words (number_of address) []) p false)
      (words_held net w held fits m cell shape (memory_place net w i m cell shape port read at))
      (signals_same net values v settled (port_part cell (codes "RD_ADDR") shape.abits port))

  read_next : (b : ℕ) (d : IsDriven (drives net) (pieces net) b) (m : ℕ) (cell : Cell) (shape : MemShape) (port : ℕ) (read : ReadShape)
      → d.row ≡ read_piece m cell shape port read → read.clocked ≡ true
      → shown_later b ≡ next_bit (driver_of net b) (now.bit b) now.words v
  read_next b d m cell shape port read is clocked =
      let q = offset (ports_of net) (pieces net) d.v in
      let slots = read_port_slots (driven_signals net) m cell shape (port, read) in
      let row_at = d.row_at ∙ ap (λ x. Some x) is in
      let at = port_at net d.v m cell shape port read row_at clocked in
      let e = preimage_at (λ (e : ℕ × Signal). let s : DrivenSignal = (e.1, read_driver cell shape read port e.0) in s) (read_data cell shape port) d.p d.driver
      (ap (λ x. slice_get (drives net x) d.p) (sym is) ∙ d.driver_at) in
      let place : e.0.0 ≡ d.p = numbered_place 0 (port_part cell (codes "RD_DATA") shape.width port) d.p e.0 e.1 ∙ plus_none d.p in
      let bit_at' = image_at (read_bit_of read) (read_data cell shape port) d.p e.0 e.1 in
      let kind = read_register (get_or read.reset_value e.0.0 false) read.enable_over_reset in
      let enable = get_or (bits_of cell (codes "RD_EN")) port Zero in
      let reset = get_or (bits_of cell (codes "RD_SRST")) port Zero in
      let source = get_or (word_in held.memories m values (address_slots (driven_signals net) cell shape port)) d.p false in
      let driver : register (read_element cell shape read port e.0.0) ≡ driver_of net b =
      ap (λ t. if t then register (read_element cell shape read port e.0.0) else word_bit (read_word_bit cell shape port e.0.0)) (sym clocked)
      ∙ ap (λ (x : DrivenSignal). x.1) e.2 ∙ sym (driver_is net b d) in
      read_shown net w later later_fits b d m cell shape port read is clocked
      ∙ next_read_at (layout_of net) held values fits q d.p slots (read_bit_of read e.0) at bit_at'
      ∙ by_pins kind source (get_or (get_or held.reads q []) d.p false) enable reset
      ∙ ap₂ (λ source old. next_value kind source old (signal_value v enable) (signal_value v reset))
      (word_there m cell shape port d.p d.v read row_at ∙ ap (λ p. word_bit_value now.words v (read_word_bit cell shape port p)) (sym place))
      (sym (read_shown net w held fits b d m cell shape port read is clocked))
      ∙ ap (λ x. next_bit x (now.bit b) now.words v) driver

  -- a bit whose driver holds no value
  other_next : (b : ℕ) (d : IsDriven (drives net) (pieces net) b) → is_register d.driver.1 ≡ false
      → shown_later b ≡ next_bit (driver_of net b) (now.bit b) now.words v
  other_next b d other =
      other_shown net w later later_fits b d other ∙ sym (none_next d.driver.1 (now.bit b) now.words v other)
      ∙ ap (λ x. next_bit x (now.bit b) now.words v) (sym (driver_is net b d))

  undriven_next : (b : ℕ) → IsUndriven (drives net) (pieces net) b → shown_later b ≡ next_bit (driver_of net b) (now.bit b) now.words v
  undriven_next b u =
      undriven_shown net w later later_fits b u ∙ ap (λ x. next_bit x (now.bit b) now.words v) (sym (driver_is_none net b u))

  driven_next : (b : ℕ) (d : IsDriven (drives net) (pieces net) b) → shown_later b ≡ next_bit (driver_of net b) (now.bit b) now.words v
  driven_next b d = by_row d.row refl
    where
      driver_at : (row : Piece) → d.row ≡ row → slice_get (drives net row) d.p ≡ Some d.driver
      driver_at row is = ap (λ x. slice_get (drives net x) d.p) (sym is) ∙ d.driver_at

      by_clock : (m : ℕ) (cell : Cell) (shape : MemShape) (port : ℕ) (read : ReadShape) → d.row ≡ read_piece m cell shape port read
          → (clocked : Bool) → read.clocked ≡ clocked → shown_later b ≡ next_bit (driver_of net b) (now.bit b) now.words v
      by_clock m cell shape port read is true clocked = read_next b d m cell shape port read is clocked
      by_clock m cell shape port read is false clocked =
          let e = preimage_at (λ (e : ℕ × Signal). let s : DrivenSignal = (e.1, read_driver cell shape read port e.0) in s) (read_data cell shape port) d.p d.driver
          (driver_at (read_piece m cell shape port read) is) in
          other_next b d
          (ap (λ (x : DrivenSignal). is_register x.1) (sym e.2)
          ∙ ap (λ t. is_register (if t then register (read_element cell shape read port e.0.0) else word_bit (read_word_bit cell shape port e.0.0))) clocked)

      by_row : (row : Piece) → d.row ≡ row → shown_later b ≡ next_bit (driver_of net b) (now.bit b) now.words v
      by_row inputs_piece is =
          let e = preimage_at (λ (e : ℕ × Signal). let s : DrivenSignal = (e.1, input e.0) in s) (enumerate_from 0 (data_inputs net)) d.p d.driver
          (driver_at inputs_piece is) in
          other_next b d (ap (λ (x : DrivenSignal). is_register x.1) (sym e.2))
      by_row (gate_piece cell kind) is =
          other_next b d (ap (λ (x : DrivenSignal). is_register x.1) (sym (only_at _ d.driver d.p (driver_at (gate_piece cell kind) is))))
      by_row (register_piece cell kind) is = register_next b d cell kind is
      by_row (read_piece m cell shape port read) is = by_clock m cell shape port read is read.clocked refl

  next_bit_shown : (b : ℕ) → shown_later b ≡ next_bit (driver_of net b) (now.bit b) now.words v
  next_bit_shown b = by (located (drives net) b (pieces net))
    where
      by : IsDriven (drives net) (pieces net) b ⊎ IsUndriven (drives net) (pieces net) b
          → shown_later b ≡ next_bit (driver_of net b) (now.bit b) now.words v
      by (inl d) = driven_next b d
      by (inr u) = undriven_next b u

  -- what is held after the clock shows the next state
  pub next_state_shown : state_of (snapshot_of net (layout_of net) (next_held (layout_of net) values held))
      ≡ next_state net (state_of (snapshot_of net (layout_of net) held)) v
  next_state_shown =
      ap₂ (λ bit words. let s : NetState = record { bit = bit; words = words } in s)
      (fun_ext next_bit_shown) (fun_ext (next_words_shown net values v settled w held fits))
