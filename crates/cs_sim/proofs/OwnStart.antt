-- What is held at the start shows the netlist's own start.
use Rattle.std.proofs.Common.{◌≡◌, ◌∙◌, ℕ, ◌+◌, List, [], ◌∷◌, ◌++◌, append-nil, length, get_or, map, Bool, true, false, Option, Some, None, refl, sym, ap, ap₂, arith, codes}
use Rattle.std.specs.Prelude.{filter_map, flat_map, if◌then◌else◌, is_some}
use Rattle.std.specs.List.{cons_option, enumerate_from, zip}
use Rattle.std.specs.Option.{option_to_list}
use Rattle.std.proofs.lemmas.Grind.{flat_map-append}
use Rattle.cs_base.specs.declared.signal.Signal.{Signal}
use Rattle.cs_base.specs.declared.signal.Signal.TheVariants.{Zero, One, Unknown, HighZ, Bit}
use Rattle.cs_cells.specs.declared.class.Class.{Class}
use Rattle.cs_cells.specs.declared.class.Class.TheVariants as class
use Rattle.cs_cells.specs.declared.memory.MemShape.{MemShape}
use Rattle.cs_cells.specs.declared.memory.ReadShape.{ReadShape}
use Rattle.cs_net.specs.declared.netlist.Cell.{Cell}
use Rattle.cs_net.specs.declared.state.BitValue.{BitValue}
use Rattle.cs_net.specs.declared.state.MemoryWords.{MemoryWords}
use Rattle.cs_net.specs.declared.state.Snapshot.{Snapshot}
use Rattle.cs_modules.specs.Modules.{is_memory}
use Rattle.cs_net.specs.Drivers.{bit_value, memory_read_starts, own_start, read_data, read_starts, signal_of}
use Rattle.cs_net.specs.Invariant.{IsWellFormed}
use Rattle.cs_net.specs.Netlist.{Net, bit_at}
use Rattle.cs_net.specs.Starts.{start_by, start_of_class, starts_of_cell}
use Rattle.cs_net.proofs.MemoryFacts.{shape_count, shapes_fit}
use Rattle.cs_net.proofs.StartOrder.{starts_in_order}
use Rattle.cs_sim.specs.declared.layout.ReadPortSlots.{ReadPortSlots}
use Rattle.cs_sim.specs.declared.layout.RegisterSlots.{RegisterSlots}
use Rattle.cs_sim.specs.Layout.{driven_signals, layout_of, read_bit_of, read_port_slots, start_of}
use Rattle.cs_sim.specs.Start.{held_at_start, read_values, register_values, snapshot_of}
use Rattle.cs_sim.proofs.FitLemmas.{HaveShapes}
use Rattle.cs_sim.proofs.LayoutLemmas.{laid_out}
use Rattle.cs_sim.proofs.Pieces.{class_pieces, class_writes, pieces, pieces_from, ports_of, read_piece, read_pieces, registers_of}
use Rattle.cs_sim.proofs.ZipLemmas.{chosen_image, chosen_parts, zipped_image}

-- ---- registers

abbrev start_value : RegisterSlots → Option BitValue
start_value r = bit_value r.output r.start

one_start : (starts : List BitValue) (s : Signal) → cons_option (bit_value s (start_of starts s)) [] ≡ option_to_list (start_by (bit_at starts) s)
one_start starts Zero = refl
one_start starts One = refl
one_start starts Unknown = refl
one_start starts HighZ = refl
one_start starts (Bit b) = refl

no_registers : (net : Net) (m : ℕ) (cell : Cell) (shape : MemShape) (reads : List (ℕ × ReadShape))
    → flat_map (registers_of net) (read_pieces m cell shape reads) ≡ []
no_registers net m cell shape [] = refl
no_registers net m cell shape (e ∷ reads) = no_registers net m cell shape reads

class_registers : (net : Net) (m : ℕ) (k : Class) (cell : Cell) (shape : Option MemShape)
    → filter_map start_value (flat_map (registers_of net) (class_pieces k m cell shape)) ≡ start_of_class (bit_at net.starts) k cell
class_registers net m (class.Gate kind) cell shape = refl
class_registers net m (class.Register kind) cell shape = one_start net.starts (signal_of cell (codes "Q"))
class_registers net m class.Memory cell None = refl
class_registers net m class.Memory cell (Some shape) = ap (filter_map start_value) (no_registers net m cell shape (enumerate_from 0 shape.reads))
class_registers net m class.Scope cell shape = refl
class_registers net m class.Asynchronous cell shape = refl
class_registers net m class.NotFine cell shape = refl
class_registers net m class.Unknown cell shape = refl

cell_registers : (net : Net) (m : ℕ) (cells : List Cell) (shapes : List (Option MemShape)) → length shapes ≡ length cells
    → filter_map start_value (flat_map (registers_of net) (pieces_from net m (zip cells shapes))) ≡ flat_map (starts_of_cell net.starts) cells
cell_registers net m [] shapes same = refl
cell_registers net m (c ∷ cells) [] same = absurd (omega (arith, same))
cell_registers net m (c ∷ cells) (s ∷ shapes) same =
    let n = m + length (class_writes net c.class c s) in
    let here = class_pieces c.class m c s in
    let later = pieces_from net n (zip cells shapes) in
    ap (filter_map start_value) (flat_map-append (registers_of net) here later)
    ∙ chosen_parts start_value (flat_map (registers_of net) here) (flat_map (registers_of net) later)
    ∙ ap₂ (λ xs ys. xs ++ ys) (class_registers net m c.class c s) (cell_registers net n cells shapes (omega (arith, same)))

registers_shown : (net : Net) (w : IsWellFormed net)
    → register_values (layout_of net).registers (held_at_start net (layout_of net)).registers ≡ net.starts
unfolding pieces
registers_shown net w =
    zipped_image (λ (r : RegisterSlots × Bool). bit_value r.0.output r.1) (λ r. r.start) (layout_of net).registers
    ∙ ap (filter_map start_value) (laid_out net).registers
    ∙ cell_registers net 0 net.cells net.shapes (shape_count net w) ∙ sym (starts_in_order net w)

-- ---- clocked reads

abbrev port_starts : ReadPortSlots → List BitValue
port_starts p = filter_map (λ b. bit_value b.output b.start) p.bits

one_read : (net : Net) (m : ℕ) (cell : Cell) (shape : MemShape) (e : ℕ × ReadShape)
    → flat_map port_starts (ports_of net (read_piece m cell shape e.0 e.1)) ≡ read_starts cell shape e
one_read net m cell shape e =
    let slots = read_port_slots (driven_signals net) m cell shape (e.0, e.1) in
    let values = filter_map (λ (d : ℕ × Signal). bit_value d.1 (get_or e.1.start d.0 false)) (read_data cell shape e.0) in
    elim (e.1.clocked) as (λ t. flat_map port_starts (if t then slots ∷ [] else []) ≡ (if t then values else [])) [
      | true ↦ append-nil (port_starts slots) ∙ chosen_image (λ b. bit_value b.output b.start) (read_bit_of e.1) (read_data cell shape e.0)
      | false ↦ refl
    ]

all_reads : (net : Net) (m : ℕ) (cell : Cell) (shape : MemShape) (reads : List (ℕ × ReadShape))
    → flat_map port_starts (flat_map (ports_of net) (read_pieces m cell shape reads)) ≡ flat_map (read_starts cell shape) reads
all_reads net m cell shape [] = refl
all_reads net m cell shape (e ∷ reads) =
    flat_map-append port_starts (ports_of net (read_piece m cell shape e.0 e.1)) (flat_map (ports_of net) (read_pieces m cell shape reads))
    ∙ ap₂ (λ xs ys. xs ++ ys) (one_read net m cell shape e) (all_reads net m cell shape reads)

no_reads : (cell : Cell) (shape : Option MemShape) → is_some shape ≡ false → [] ≡ memory_read_starts (cell, shape)
no_reads cell None none = refl
no_reads cell (Some shape) none = absurd (cc)

class_reads : (net : Net) (m : ℕ) (k : Class) (cell : Cell) (shape : Option MemShape) → is_some shape ≡ is_memory k
    → flat_map port_starts (flat_map (ports_of net) (class_pieces k m cell shape)) ≡ memory_read_starts (cell, shape)
class_reads net m (class.Gate kind) cell shape fit = no_reads cell shape fit
class_reads net m (class.Register kind) cell shape fit = no_reads cell shape fit
class_reads net m class.Memory cell None fit = refl
class_reads net m class.Memory cell (Some shape) fit = all_reads net m cell shape (enumerate_from 0 shape.reads)
class_reads net m class.Scope cell shape fit = no_reads cell shape fit
class_reads net m class.Asynchronous cell shape fit = no_reads cell shape fit
class_reads net m class.NotFine cell shape fit = no_reads cell shape fit
class_reads net m class.Unknown cell shape fit = no_reads cell shape fit

cell_reads : (net : Net) (m : ℕ) (cells : List (Cell × Option MemShape)) → HaveShapes cells
    → flat_map port_starts (flat_map (ports_of net) (pieces_from net m cells)) ≡ flat_map memory_read_starts cells
cell_reads net m [] fit = refl
cell_reads net m (c ∷ cells) fit =
    let n = m + length (class_writes net c.0.class c.0 c.1) in
    let here = class_pieces c.0.class m c.0 c.1 in
    let later = pieces_from net n cells in
    ap (flat_map port_starts) (flat_map-append (ports_of net) here later)
    ∙ flat_map-append port_starts (flat_map (ports_of net) here) (flat_map (ports_of net) later)
    ∙ ap₂ (λ xs ys. xs ++ ys) (class_reads net m c.0.class c.0 c.1 fit.0) (cell_reads net n cells fit.1)

port_values : (ports : List ReadPortSlots) → flat_map read_values (zip ports (map (λ p. map (λ b. b.start) p.bits) ports)) ≡ flat_map port_starts ports
port_values [] = refl
port_values (p ∷ ports) =
    ap₂ (λ xs ys. xs ++ ys) (zipped_image (λ b. bit_value b.0.output b.1) (λ b. b.start) p.bits) (port_values ports)

reads_shown : (net : Net) (w : IsWellFormed net)
    → flat_map read_values (zip (layout_of net).read_ports (held_at_start net (layout_of net)).reads) ≡ flat_map memory_read_starts (zip net.cells net.shapes)
unfolding pieces
reads_shown net w =
    port_values (layout_of net).read_ports ∙ ap (flat_map port_starts) (laid_out net).ports
    ∙ cell_reads net 0 (zip net.cells net.shapes) (shapes_fit net w)

-- ---- all of it

memories_shown : (ms : List MemoryWords)
    → map (λ (m : MemoryWords × _). let shown : MemoryWords = record { name = m.0.name; words = m.1 } in shown) (zip ms (map (λ m. m.words) ms)) ≡ ms
memories_shown [] = refl
memories_shown (m ∷ ms) = ap (λ rest. m ∷ rest) (memories_shown ms)

-- at the start the netlist's own start is shown
pub starts : (net : Net) → IsWellFormed net → snapshot_of net (layout_of net) (held_at_start net (layout_of net)) ≡ own_start net
starts net w =
    ap₂ (λ bits memories. let s : Snapshot = record { bits = bits; memories = memories } in s)
    (ap₂ (λ xs ys. xs ++ ys) (registers_shown net w) (reads_shown net w)) (memories_shown net.memories)
