-- What the vertices give a memory is what its cell's write ports are given.
use Rattle.std.specs.Prelude.{◌==◌, if◌then◌else◌, slice_get, codes}
use Rattle.std.proofs.Common.{◌≡◌, ℕ, zero, suc, ◌+◌, ◌-◌, ◌*◌, ◌<◌, ◌≤◌, Bool, true, false, cond, List, [], ◌∷◌, ◌++◌, length, map, take, drop, get_or, Some, refl, sym, ap, ap₂, ◌∙◌, arith, mul-le-mul_right}
use Rattle.std.specs.List.{flat_map}
use Rattle.std.proofs.lemmas.List.{append_assoc, append-nil, length-drop, length-map, length-take-le, map-append}
use Rattle.std.proofs.lemmas.Simd.{map-map}
use Rattle.std.proofs.Math.Seq.{drop-append_seam, take-append_seam}
use Rattle.cs_base.specs.declared.signal.Signal.{Signal}
use Rattle.cs_cells.specs.declared.class.Class.{Class}
use Rattle.cs_cells.specs.declared.class.Class.TheVariants.{Asynchronous, Gate as GateClass, Memory, NotFine, Register, Scope, Unknown}
use Rattle.cs_cells.specs.declared.memory.MemShape.{MemShape}
use Rattle.cs_cells.specs.Memories.{Write}
use Rattle.cs_graph.specs.declared.memory.Memory.{Memory as Words}
use Rattle.cs_graph.specs.declared.vertex.VertexKind.{VertexKind}
use Rattle.cs_graph.specs.declared.vertex.VertexKind.TheVariants.{Constant, Gate, Host, Input, Output, Read, Write as WritePort}
use Rattle.cs_graph.specs.Run.{write_of, writes_by}
use Rattle.cs_modules.specs.Modules.{is_memory}
use Rattle.cs_modules.specs.Pins.{count_from, width_at}
use Rattle.cs_net.specs.declared.netlist.Cell.{Cell}
use Rattle.cs_net.specs.Build.{places_from}
use Rattle.cs_net.specs.Drivers.{bits_of, port_part}
use Rattle.cs_net.specs.Invariant.{IsWellFormed}
use Rattle.cs_net.specs.Netlist.{Net}
use Rattle.cs_net.specs.Trace.{Valuation, signal_value, write_at}
use Rattle.cs_net.specs.Widths.{widths_by}
use Rattle.cs_net.proofs.MemoryFacts.{shape_fits}
use Rattle.cs_net.proofs.PinWidths.{pin_is_wide}
use Rattle.cs_lower.specs.Cells.{write_piece}
use Rattle.cs_lower.specs.Lowered.{buffer, constants, is_used, pieces_of, wiring_of}
use Rattle.cs_lower.specs.declared.taps.Tap.{Tap}
use Rattle.cs_lower.specs.declared.taps.Tap.TheVariants.{Signal as of_signal}
use Rattle.cs_lower.specs.declared.taps.Piece.{Piece}
use Rattle.cs_lower.specs.Taps.{piece}
use Rattle.cs_lower.specs.Wires.{parts_of}
use Rattle.cs_lower.specs.Writes.{write_ports, writes_to}
use Rattle.cs_lower.proofs.WriteLemmas.{join_ports, places_of_writes}

-- ---- no other vertex is a write port

none_buffers : (m : ℕ) (rings : List ℕ) → write_ports m (map buffer rings) ≡ []
none_buffers m [] = refl
none_buffers m (b ∷ rings) = none_buffers m rings

none_constants : (m : ℕ) (net : Net) → write_ports m (constants net) ≡ []
none_constants m net = by (is_used net false) (is_used net true)
  where
    by : (low high : Bool) → write_ports m
        ((if low then piece (Constant false) [] ∷ [] else []) ++ (if high then piece (Constant true) [] ∷ [] else []))
        ≡ []
    by false false = refl
    by false true = refl
    by true false = refl
    by true true = refl

pub all_write_ports : (m : ℕ) (net : Net)
    → write_ports m (pieces_of net ++ constants net) ≡ write_ports m (parts_of net).pieces
all_write_ports m net =
    join_ports m (pieces_of net) (constants net)
    ∙ ap₂ (λ a b. a ++ b) (join_ports m (parts_of net).pieces (map buffer (wiring_of net).rings)
    ∙ ap (λ b. write_ports m (parts_of net).pieces ++ b) (none_buffers m (wiring_of net).rings)
    ∙ append-nil (write_ports m (parts_of net).pieces)) (none_constants m net)
    ∙ append-nil (write_ports m (parts_of net).pieces)

-- ---- by the write ports alone

-- what the vertices give memory m
abbrev pub given : ℕ → Words → (Tap → Bool) → List Piece → List Write
given m memory tap pieces = flat_map (λ p. writes_by m memory p.kind (map tap p.pins)) pieces

by_ports : (m : ℕ) (memory : Words) (tap : Tap → Bool) (pieces : List Piece)
    → given m memory tap pieces ≡ map (λ p. write_of memory (map tap p.pins)) (write_ports m pieces)
by_ports m memory tap [] = refl
by_ports m memory tap (p ∷ pieces) = by p.kind (by_ports m memory tap pieces)
  where
    write : Piece → Write
    write p = write_of memory (map tap p.pins)

    one : (here : Bool) → given m memory tap pieces ≡ map write (write_ports m pieces)
        → (if here then write p ∷ [] else []) ++ given m memory tap pieces
        ≡ map write (cond here (p ∷ write_ports m pieces) (write_ports m pieces))
    one true rest = ap (λ ws. write p ∷ ws) rest
    one false rest = rest

    by : (kind : VertexKind) → given m memory tap pieces ≡ map write (write_ports m pieces)
        → writes_by m memory kind (map tap p.pins) ++ given m memory tap pieces
        ≡ map write (cond (writes_to m kind) (p ∷ write_ports m pieces) (write_ports m pieces))
    by Host rest = rest
    by Input rest = rest
    by Output rest = rest
    by (Constant b) rest = rest
    by (Gate kind) rest = rest
    by (Read i port) rest = rest
    by (WritePort i port) rest = one (i == m) rest

-- ---- one write port

three_parts : (memory : Words) (a d e : List Bool) → length a ≡ memory.abits → length d ≡ memory.width
    → write_of memory (a ++ d ++ e) ≡ record { address = a; word = d; enable = e }
three_parts memory a d e narrow wide =
    let joined : a ++ d ++ e ≡ a ++ (d ++ e) = append_assoc a d e in
    let rest : drop memory.abits (a ++ d ++ e) ≡ d ++ e =
    ap₂ drop (sym narrow) joined ∙ drop-append_seam a (d ++ e) in
    let address : take memory.abits (a ++ d ++ e) ≡ a = ap₂ take (sym narrow) joined ∙ take-append_seam a (d ++ e) in
    let word : take memory.width (drop memory.abits (a ++ d ++ e)) ≡ d =
    ap₂ take (sym wide) rest ∙ take-append_seam d e in
    let enable : drop memory.width (drop memory.abits (a ++ d ++ e)) ≡ e =
    ap₂ drop (sym wide) rest ∙ drop-append_seam d e in
    made address word enable
  where
    made : {a b : List Bool} {c d : List Bool} {e f : List Bool} → a ≡ b → c ≡ d → e ≡ f
        → ◌≡◌ {A = Write} (record { address = a; word = c; enable = e }) (record { address = b; word = d; enable = f })
    made p q r = λ i. record { address = p i; word = q i; enable = r i }

-- a port's part of a pin is as wide as its ports
pub part_wide : (cell : Cell) (name : List ℕ) (width i count : ℕ) → length (bits_of cell name) ≡ count * width → i < count
    → length (port_part cell name width i) ≡ width
part_wide cell name width i count long below =
    let whole : (i + 1) * width ≤ count * width = mul-le-mul_right width (omega (arith, below)) in
    let next : (i + 1) * width ≡ i * width + width = omega arith in
    let exact : i * width + width - i * width ≡ width = omega arith in
    let room : width ≤ length (drop (i * width) (bits_of cell name)) =
    omega (arith, long, whole, next, length-drop (i * width) (bits_of cell name)) in
    ap (λ n. length (take n (drop (i * width) (bits_of cell name)))) exact
    ∙ length-take-le width (drop (i * width) (bits_of cell name)) room

-- a port gives what the cell's is given
port_given : (memory : Words) (tap : Tap → Bool) (v : Valuation) → ((s : Signal) → tap (of_signal s) ≡ signal_value v s)
    → (m : ℕ) (cell : Cell) (shape : MemShape) → memory.abits ≡ shape.abits → memory.width ≡ shape.width → (i : ℕ)
    → length (port_part cell (codes "WR_ADDR") shape.abits i) ≡ shape.abits
    → length (port_part cell (codes "WR_DATA") shape.width i) ≡ shape.width
    → write_of memory (map tap (write_piece m cell shape i).pins) ≡ write_at cell shape v i
port_given memory tap v shows m cell shape narrow wide i address_wide data_wide =
    let a : List Signal = port_part cell (codes "WR_ADDR") shape.abits i in
    let d : List Signal = port_part cell (codes "WR_DATA") shape.width i in
    let e : List Signal = port_part cell (codes "WR_EN") shape.width i in
    let f : Signal → Bool = signal_value v in
    let parted : map f (a ++ d ++ e) ≡ map f a ++ map f d ++ map f e =
    map-append f (a ++ d) e ∙ ap (λ l. l ++ map f e) (map-append f a d) in
    ap (write_of memory) (map-map tap of_signal (a ++ d ++ e) ∙ shown (a ++ d ++ e) ∙ parted)
    ∙ three_parts memory (map f a) (map f d) (map f e) (length-map a f ∙ address_wide ∙ sym narrow)
    (length-map d f ∙ data_wide ∙ sym wide)
  where
    shown : (signals : List Signal) → map (λ s. tap (of_signal s)) signals ≡ map (signal_value v) signals
    shown [] = refl
    shown (s ∷ signals) = ap₂ (λ b bs. b ∷ bs) (shows s) (shown signals)

ports_given : (f g : ℕ → Write) (writes k count : ℕ) → k + count ≤ writes → ((i : ℕ) → i < writes → f i ≡ g i)
    → map f (count_from k count) ≡ map g (count_from k count)
ports_given f g writes k zero within each = refl
ports_given f g writes k (suc count) within each =
    ap₂ (λ w ws. w ∷ ws) (each k (omega (arith, within))) (ports_given f g writes (k + 1) count (omega (arith, within)) each)

-- ---- of a netlist

memory_class : (class : Class) → is_memory class ≡ true → class ≡ Memory
memory_class (GateClass kind) is = cc
memory_class (Register kind) is = cc
memory_class Memory is = refl
memory_class Scope is = cc
memory_class Asynchronous is = cc
memory_class NotFine is = cc
memory_class Unknown is = cc

-- a cell with a shape is a memory
pub has_memory_class : (net : Net) → IsWellFormed net → (i : ℕ) (cell : Cell) (shape : MemShape)
    → slice_get net.cells i ≡ Some cell → slice_get net.shapes i ≡ Some (Some shape) → cell.class ≡ Memory
has_memory_class net w i cell shape at is =
    memory_class cell.class (sym (shape_fits net w i cell (Some shape) at is))

-- what the vertices of a netlist give the memory that cell i is, where their pins show what its bits are
pub given_writes : (net : Net) → IsWellFormed net → (tap : Tap → Bool) (v : Valuation)
    → ((s : Signal) → tap (of_signal s) ≡ signal_value v s) → (i : ℕ) (cell : Cell) (shape : MemShape)
    → slice_get net.cells i ≡ Some cell → slice_get net.shapes i ≡ Some (Some shape) → (memory : Words)
    → memory.abits ≡ shape.abits → memory.width ≡ shape.width
    → given (get_or (places_from 0 net.shapes) i 0) memory tap (pieces_of net ++ constants net)
    ≡ map (write_at cell shape v) (count_from 0 shape.writes)
given_writes net w tap v shows i cell shape at is memory narrow wide =
    let m : ℕ = get_or (places_from 0 net.shapes) i 0 in
    let class : cell.class ≡ Memory = has_memory_class net w i cell shape at is in
    let write : Piece → Write = λ p. write_of memory (map tap p.pins) in
    by_ports m memory tap (pieces_of net ++ constants net)
    ∙ ap (map write) (all_write_ports m net ∙ places_of_writes net i cell shape at is class)
    ∙ map-map write (write_piece m cell shape) (count_from 0 shape.writes)
    ∙ ports_given (λ port. write (write_piece m cell shape port)) (write_at cell shape v) shape.writes 0 shape.writes
    (omega arith)
    (λ port below. port_given memory tap v shows m cell shape narrow wide port
    (part_wide cell (codes "WR_ADDR") shape.abits port shape.writes (wide_pin (codes "WR_ADDR") (shape.writes * shape.abits) class refl) below)
    (part_wide cell (codes "WR_DATA") shape.width port shape.writes (wide_pin (codes "WR_DATA") (shape.writes * shape.width) class refl) below))
  where
    wide_pin : (name : List ℕ) (n : ℕ) → cell.class ≡ Memory → width_at (widths_by Memory (Some shape)) name ≡ Some n
        → length (bits_of cell name) ≡ n
    wide_pin name n class wide =
        pin_is_wide net w i cell (Some shape) at is name n
        (ap (λ c. width_at (widths_by c (Some shape)) name) class ∙ wide)
