-- The value that is shown for a bit is what its register or its clocked read holds, and 0 where it has none.
use Rattle.std.proofs.Common.{◌≡◌, ◌∙◌, ℕ, zero, suc, ◌+◌, List, [], ◌∷◌, ◌++◌, length, get_or, map, Bool, true, false, Some, refl, sym, ap, ap₂, arith, codes}
use Rattle.std.specs.Prelude.{filter_map, flat_map, if◌then◌else◌, slice_get}
use Rattle.std.specs.List.{cons_option, zip}
use Rattle.std.proofs.lemmas.List.{length-map}
use Rattle.cs_base.specs.declared.signal.Signal.{Signal}
use Rattle.cs_cells.specs.declared.memory.MemShape.{MemShape}
use Rattle.cs_cells.specs.declared.memory.ReadShape.{ReadShape}
use Rattle.cs_cells.specs.declared.register.FfKind.{FfKind}
use Rattle.cs_net.specs.declared.netlist.Cell.{Cell}
use Rattle.cs_modules.specs.Signals.{is_bit}
use Rattle.cs_net.specs.Drivers.{DrivenSignal, bit_value, read_data, read_driver, signal_of}
use Rattle.cs_net.specs.Invariant.{IsWellFormed}
use Rattle.cs_net.specs.Netlist.{Net, bit_at}
use Rattle.cs_net.proofs.Occurrences.{count_of}
use Rattle.cs_sim.specs.declared.layout.Layout.{Layout}
use Rattle.cs_sim.specs.declared.layout.ReadPortSlots.{ReadPortSlots}
use Rattle.cs_sim.specs.Clock.{HeldValues}
use Rattle.cs_sim.specs.Layout.{driven_signals, layout_of, read_bit_of, read_port_slots, register_slots}
use Rattle.cs_sim.specs.Start.{Fits, read_values, snapshot_of}
use Rattle.cs_sim.proofs.FitLemmas.{same_first}
use Rattle.cs_sim.proofs.KeptLemmas.{both_fewer, both_within, held_signals, is_kept, is_register, kept_count, kept_once, none_found, once, port_outputs, register_outputs}
use Rattle.cs_sim.proofs.LayoutLemmas.{laid_out}
use Rattle.cs_sim.proofs.PlaceLemmas.{IsDriven, IsUndriven, joined_at, offset}
use Rattle.cs_sim.proofs.Pieces.{drives, pieces, ports_of, read_piece, register_piece, registers_of}
use Rattle.cs_sim.proofs.ZipLemmas.{StandsWith, chosen_parts, image_at, none_shown, one_shown, only_at, preimage_at, shown_values, stands_behind, stands_in_front, zipped_parts}

-- ---- the bits that are shown

-- all values that are held, in order
abbrev pub held_bits : HeldValues → List Bool
held_bits held = held.registers ++ flat_map (λ bits. bits) held.reads

by_outputs : {A : Type 0} (f : A → Signal) (xs : List A) (values : List Bool)
    → filter_map (λ e. bit_value (f e.0) e.1) (zip xs values) ≡ shown_values (map f xs) values
by_outputs f [] values = refl
by_outputs f (x ∷ xs) [] = refl
by_outputs f (x ∷ xs) (value ∷ values) = ap (cons_option (bit_value (f x) value)) (by_outputs f xs values)

shown_parts : (signals signals' : List Signal) (values values' : List Bool) → length signals ≡ length values
    → shown_values (signals ++ signals') (values ++ values') ≡ shown_values signals values ++ shown_values signals' values'
shown_parts signals signals' values values' fit =
    ap (filter_map (λ (s : Signal × Bool). bit_value s.0 s.1)) (zipped_parts signals signals' values values' fit)
    ∙ chosen_parts (λ (s : Signal × Bool). bit_value s.0 s.1) (zip signals values) (zip signals' values')

outputs_count : (p : ReadPortSlots) (bits : List Bool) → length bits ≡ length p.bits → length (port_outputs p) ≡ length bits
outputs_count p bits fit = length-map p.bits (λ b. b.output) ∙ sym fit

reads_by_outputs : (ports : List ReadPortSlots) (reads : List (List Bool)) → map (λ bits. length bits) reads ≡ map (λ p. length p.bits) ports
    → flat_map read_values (zip ports reads) ≡ shown_values (flat_map port_outputs ports) (flat_map (λ bits. bits) reads)
reads_by_outputs [] reads fit = refl
reads_by_outputs (p ∷ ports) [] fit = absurd (cc)
reads_by_outputs (p ∷ ports) (bits ∷ reads) fit =
    let same = same_first (length bits) (length p.bits) (map (λ bits. length bits) reads) (map (λ p. length p.bits) ports) fit in
    ap₂ (λ xs ys. xs ++ ys) (by_outputs (λ b. b.output) p.bits bits) (reads_by_outputs ports reads same.1)
    ∙ sym (shown_parts (port_outputs p) (flat_map port_outputs ports) bits (flat_map (λ bits. bits) reads) (outputs_count p bits same.0))

registers_count : (l : Layout) (held : HeldValues) → Fits l held → length (register_outputs l.registers) ≡ length held.registers
registers_count l held fits = length-map l.registers (λ r. r.output) ∙ sym fits.registers

pub bits_shown : (net : Net) (l : Layout) (held : HeldValues) → Fits l held → (snapshot_of net l held).bits ≡ shown_values (held_signals l) (held_bits held)
bits_shown net l held fits =
    ap₂ (λ xs ys. xs ++ ys) (by_outputs (λ r. r.output) l.registers held.registers) (reads_by_outputs l.read_ports held.reads fits.reads)
    ∙ sym (shown_parts (register_outputs l.registers) (flat_map port_outputs l.read_ports) held.registers (flat_map (λ bits. bits) held.reads) (registers_count l held fits))

-- ---- where a value stands

-- bit p of port q
read_stands : (ports : List ReadPortSlots) (reads : List (List Bool)) (q p : ℕ) (port : ReadPortSlots) (s : Signal)
    → map (λ bits. length bits) reads ≡ map (λ p. length p.bits) ports → slice_get ports q ≡ Some port → slice_get (port_outputs port) p ≡ Some s
    → StandsWith (flat_map port_outputs ports) (flat_map (λ bits. bits) reads) s (get_or (get_or reads q []) p false)
read_stands [] reads q p port s fit at is = absurd (cc)
read_stands (x ∷ ports) [] q p port s fit at is = absurd (cc)
read_stands (x ∷ ports) (bits ∷ reads) zero p port s fit at is =
    let counts = same_first (length bits) (length x.bits) (map (λ bits. length bits) reads) (map (λ p. length p.bits) ports) fit in
    let same : x ≡ port = cc in
    stands_in_front (port_outputs x) (flat_map port_outputs ports) bits (flat_map (λ bits. bits) reads) s (get_or bits p false)
    (outputs_count x bits counts.0)
    (record { i = p; signal_at = ap (λ y. slice_get (port_outputs y) p) same ∙ is; value_at = refl })
read_stands (x ∷ ports) (bits ∷ reads) (suc q) p port s fit at is =
    let counts = same_first (length bits) (length x.bits) (map (λ bits. length bits) reads) (map (λ p. length p.bits) ports) fit in
    stands_behind (port_outputs x) (flat_map port_outputs ports) bits (flat_map (λ bits. bits) reads) s (get_or (get_or reads q []) p false)
    (outputs_count x bits counts.0) (read_stands ports reads q p port s counts.1 at is)

-- the slots of a register piece
pub register_at : (net : Net) (v : ℕ) (cell : Cell) (kind : FfKind) → slice_get (pieces net) v ≡ Some (register_piece cell kind)
    → slice_get (layout_of net).registers (offset (registers_of net) (pieces net) v) ≡ Some (register_slots (driven_signals net) net.starts cell kind)
register_at net v cell kind at =
    let none : offset (registers_of net) (pieces net) v ≡ offset (registers_of net) (pieces net) v + 0 = omega arith in
    ap (λ rs. slice_get rs (offset (registers_of net) (pieces net) v)) (laid_out net).registers
    ∙ ap (slice_get (flat_map (registers_of net) (pieces net))) none
    ∙ joined_at (registers_of net) (pieces net) v 0 (register_piece cell kind) (register_slots (driven_signals net) net.starts cell kind) at refl

-- the slots of a clocked read
pub port_at : (net : Net) (v m : ℕ) (cell : Cell) (shape : MemShape) (port : ℕ) (read : ReadShape)
    → slice_get (pieces net) v ≡ Some (read_piece m cell shape port read) → read.clocked ≡ true
    → slice_get (layout_of net).read_ports (offset (ports_of net) (pieces net) v) ≡ Some (read_port_slots (driven_signals net) m cell shape (port, read))
port_at net v m cell shape port read at clocked =
    let none : offset (ports_of net) (pieces net) v ≡ offset (ports_of net) (pieces net) v + 0 = omega arith in
    let slots = read_port_slots (driven_signals net) m cell shape (port, read) in
    ap (λ ps. slice_get ps (offset (ports_of net) (pieces net) v)) (laid_out net).ports
    ∙ ap (slice_get (flat_map (ports_of net) (pieces net))) none
    ∙ joined_at (ports_of net) (pieces net) v 0 (read_piece m cell shape port read) slots at
    (ap (λ t. slice_get (if t then slots ∷ [] else []) 0) clocked)

-- ---- of a netlist

module _ (net : Net) (w : IsWellFormed net) (held : HeldValues) (fits : Fits (layout_of net) held) where
  -- the value that is shown for a bit
  abbrev pub shown : ℕ → Bool
  shown b = bit_at (snapshot_of net (layout_of net) held).bits b

  shown_there : (b : ℕ) (s : Signal) (value : Bool) → is_bit b s ≡ true
      → StandsWith (held_signals (layout_of net)) (held_bits held) s value → shown b ≡ value
  shown_there b s value is stands =
      ap (λ bits. bit_at bits b) (bits_shown net (layout_of net) held fits)
      ∙ one_shown b (held_signals (layout_of net)) (held_bits held) s value (kept_once net w b) is stands

  -- a register's bit
  pub register_shown : (b : ℕ) (d : IsDriven (drives net) (pieces net) b) (cell : Cell) (kind : FfKind) → d.row ≡ register_piece cell kind
      → shown b ≡ get_or held.registers (offset (registers_of net) (pieces net) d.v) false
  register_shown b d cell kind is =
      let at = register_at net d.v cell kind (d.row_at ∙ ap (λ x. Some x) is) in
      let driver = only_at _ d.driver d.p (ap (λ x. slice_get (drives net x) d.p) (sym is) ∙ d.driver_at) in
      let output : signal_of cell (codes "Q") ≡ d.driver.0 = ap (λ (x : DrivenSignal). x.0) driver in
      shown_there b d.driver.0 (get_or held.registers (offset (registers_of net) (pieces net) d.v) false) d.drives
      (stands_in_front (register_outputs (layout_of net).registers) (flat_map port_outputs (layout_of net).read_ports) held.registers (flat_map (λ bits. bits) held.reads)
      d.driver.0 (get_or held.registers (offset (registers_of net) (pieces net) d.v) false) (registers_count (layout_of net) held fits)
      (record {
        i = offset (registers_of net) (pieces net) d.v;
        signal_at =
            image_at (λ r. r.output) (layout_of net).registers (offset (registers_of net) (pieces net) d.v) (register_slots (driven_signals net) net.starts cell kind) at
            ∙ ap (λ s. Some s) output;
        value_at = refl;
      }))

  -- a clocked read's bit
  pub read_shown : (b : ℕ) (d : IsDriven (drives net) (pieces net) b) (m : ℕ) (cell : Cell) (shape : MemShape) (port : ℕ) (read : ReadShape)
      → d.row ≡ read_piece m cell shape port read → read.clocked ≡ true
      → shown b ≡ get_or (get_or held.reads (offset (ports_of net) (pieces net) d.v) []) d.p false
  read_shown b d m cell shape port read is clocked =
      let slots = read_port_slots (driven_signals net) m cell shape (port, read) in
      let q = offset (ports_of net) (pieces net) d.v in
      let at = port_at net d.v m cell shape port read (d.row_at ∙ ap (λ x. Some x) is) clocked in
      let e = preimage_at (λ (e : ℕ × Signal). let s : DrivenSignal = (e.1, read_driver cell shape read port e.0) in s) (read_data cell shape port) d.p d.driver
      (ap (λ x. slice_get (drives net x) d.p) (sym is) ∙ d.driver_at) in
      let output : e.0.1 ≡ d.driver.0 = ap (λ (x : DrivenSignal). x.0) e.2 in
      let output_at : slice_get (port_outputs slots) d.p ≡ Some d.driver.0 =
      image_at (λ b. b.output) slots.bits d.p (read_bit_of read e.0) (image_at (read_bit_of read) (read_data cell shape port) d.p e.0 e.1)
      ∙ ap (λ s. Some s) output in
      shown_there b d.driver.0 (get_or (get_or held.reads q []) d.p false) d.drives
      (stands_behind (register_outputs (layout_of net).registers) (flat_map port_outputs (layout_of net).read_ports) held.registers (flat_map (λ bits. bits) held.reads)
      d.driver.0 (get_or (get_or held.reads q []) d.p false) (registers_count (layout_of net) held fits)
      (read_stands (layout_of net).read_ports held.reads q d.p slots d.driver.0 fits.reads at output_at))

  shown_nowhere : (b : ℕ) → count_of (is_kept b) (flat_map (drives net) (pieces net)) ≡ 0 → shown b ≡ false
  shown_nowhere b none =
      ap (λ bits. bit_at bits b) (bits_shown net (layout_of net) held fits)
      ∙ none_shown b (held_signals (layout_of net)) (held_bits held) (kept_count net b ∙ none)

  -- a bit that nothing drives
  pub undriven_shown : (b : ℕ) → IsUndriven (drives net) (pieces net) b → shown b ≡ false
  undriven_shown b u =
      shown_nowhere b
      (omega (arith, none_found (λ (d : DrivenSignal). is_bit b d.0) (flat_map (drives net) (pieces net)) u.found, both_within (λ (d : DrivenSignal). is_bit b d.0) (λ d. is_register d.1) (flat_map (drives net) (pieces net))))

  -- a bit that neither a register nor a clocked read drives
  pub other_shown : (b : ℕ) (d : IsDriven (drives net) (pieces net) b) → is_register d.driver.1 ≡ false → shown b ≡ false
  other_shown b d other =
      let at = joined_at (drives net) (pieces net) d.v d.p d.row d.driver d.row_at d.driver_at in
      shown_nowhere b
      (omega (arith, once net w b, both_fewer (λ (d : DrivenSignal). is_bit b d.0) (λ d. is_register d.1) (flat_map (drives net) (pieces net)) (offset (drives net) (pieces net) d.v + d.p) d.driver at d.drives other))
