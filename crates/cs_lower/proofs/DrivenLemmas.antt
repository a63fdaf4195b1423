-- The signals that a netlist drives, and whether a bit is among them.
use Rattle.std.proofs.Common.{◌≡◌, ◌⊎◌, inl, inr, ℕ, zero, suc, ◌+◌, ◌≤◌, ◌==◌, ◌||◌, Bool, true, false, not, if◌then◌else◌, List, [], ◌∷◌, ◌++◌, map, Option, Some, None, find, filter_map, is_some, option_map, unwrap_or, flat_map, codes, drop, length, arith, append-nil, refl, sym, ap, ap₂, ◌∙◌}
use Rattle.std.specs.List.{AllByRecursion, enumerate_from, list_any, zip}
use Rattle.std.specs.Option.{option_to_list}
use Rattle.std.proofs.lemmas.List.Folds.{list_any-append}
use Rattle.cs_base.specs.declared.signal.Signal.{Signal}
use Rattle.cs_base.specs.declared.signal.Signal.TheVariants.{Zero, One, Unknown, HighZ, Bit}
use Rattle.cs_cells.specs.declared.class.Class.{Class}
use Rattle.cs_cells.specs.declared.class.Class.TheVariants as class
use Rattle.cs_cells.specs.declared.memory.MemShape.{MemShape}
use Rattle.cs_cells.specs.declared.memory.ReadShape.{ReadShape}
use Rattle.cs_modules.specs.Signals.{is_bit, number_in}
use Rattle.cs_net.specs.declared.netlist.Cell.{Cell}
use Rattle.cs_net.specs.declared.state.BitValue.{BitValue}
use Rattle.cs_net.specs.Drivers.{DrivenSignal, Driver, cell_drives, class_drives, data_inputs, driver_of, drivers, input, memory_drives, port_part, read_driver, read_drives, signal_of, undriven}
use Rattle.cs_net.specs.Invariant.{IsWellFormed}
use Rattle.cs_net.specs.Netlist.{Net, bit_at}
use Rattle.cs_net.specs.Starts.{start_by, start_of_class}
use Rattle.cs_net.proofs.MemoryFacts.{shape_count}
use Rattle.cs_net.proofs.StartOrder.{starts_in_order}
use Rattle.cs_lower.specs.Driven.{driven_beside, outputs_beside}
use Rattle.cs_lower.specs.Registers.{is_driven, still_driver}

-- ---- what memories drive

map-append : {A B : Type 0} (f : A → B) (xs ys : List A) → map f (xs ++ ys) ≡ map f xs ++ map f ys
map-append f [] ys = refl
map-append f (x ∷ xs) ys = ap (λ rest. f x ∷ rest) (map-append f xs ys)

pub none_left : {A : Type 0} (i : ℕ) (xs : List A) → length xs ≤ i → drop i xs ≡ []
none_left zero [] past = refl
none_left (suc i) [] past = refl
none_left zero (x ∷ xs) past = absurd (omega (arith, past))
none_left (suc i) (x ∷ xs) past = none_left i xs (omega (arith, past))

signals_of : {C : Type 0} (f : ℕ × Signal → C) (k : ℕ) (xs : List Signal)
    → map (λ (d : Signal × C). d.0) (map (λ e. (e.1, f e)) (enumerate_from k xs)) ≡ xs
signals_of f k [] = refl
signals_of f k (x ∷ xs) = ap (λ rest. x ∷ rest) (signals_of f (k + 1) xs)

-- the data bits of these read ports
abbrev pub data_of : Cell → MemShape → List (ℕ × ReadShape) → List Signal
data_of cell shape reads = flat_map (λ r. port_part cell (codes "RD_DATA") shape.width r.0) reads

memory_signals : (cell : Cell) (shape : MemShape) (reads : List (ℕ × ReadShape))
    → data_of cell shape reads ≡ map (λ (d : DrivenSignal). d.0) (flat_map (read_drives cell shape) reads)
memory_signals cell shape [] = refl
memory_signals cell shape (read ∷ reads) =
    let part = port_part cell (codes "RD_DATA") shape.width read.0 in
    ap (λ rest. part ++ rest) (memory_signals cell shape reads)
    ∙ ap (λ first. first ++ map (λ (d : DrivenSignal). d.0) (flat_map (read_drives cell shape) reads))
    (sym (signals_of (λ e. read_driver cell shape read.1 read.0 e.0) 0 part))
    ∙ sym (map-append (λ (d : DrivenSignal). d.0) (read_drives cell shape read) (flat_map (read_drives cell shape) reads))

memory_data : (cell : Cell) (shape : MemShape)
    → data_of cell shape (enumerate_from 0 shape.reads) ≡ map (λ (d : DrivenSignal). d.0) (memory_drives cell (Some shape))
memory_data cell shape = memory_signals cell shape (enumerate_from 0 shape.reads)

-- past the last port all is pushed
pub data_pushed : (cell : Cell) (shape : MemShape) (port : ℕ) (reads : List ReadShape) (made old : List Signal)
    → reads ≡ shape.reads → length reads ≤ port
    → made ++ data_of cell shape (enumerate_from port (drop port reads)) ≡ old ++ data_of cell shape (enumerate_from 0 reads)
    → made ≡ old ++ map (λ (d : DrivenSignal). d.0) (memory_drives cell (Some shape))
data_pushed cell shape port reads made old same past so_far =
    sym (append-nil made)
    ∙ ap (λ left. made ++ data_of cell shape (enumerate_from port left)) (sym (none_left port reads past))
    ∙ so_far
    ∙ ap (λ all. old ++ data_of cell shape (enumerate_from 0 all)) same
    ∙ ap (λ bits. old ++ bits) (memory_data cell shape)

-- ---- all signals

-- the signals of these cells, and those that are no registers'
abbrev outputs_of : List (Cell × Option MemShape) → List Signal
outputs_of cells = map (λ (d : DrivenSignal). d.0) (flat_map cell_drives cells)

abbrev pub outputs_but : List (Cell × Option MemShape) → List Signal
outputs_but cells = flat_map (λ (c : Cell × Option MemShape). outputs_beside c.0.class c) cells

all_signals : (net : Net)
    → data_inputs net ++ outputs_of (zip net.cells net.shapes) ≡ map (λ (d : DrivenSignal). d.0) (drivers net)
all_signals net =
    let inputs : List DrivenSignal = map (λ e. (e.1, input e.0)) (enumerate_from 0 (data_inputs net)) in
    ap (λ first. first ++ outputs_of (zip net.cells net.shapes)) (sym (signals_of (λ e. input e.0) 0 (data_inputs net)))
    ∙ sym (map-append (λ (d : DrivenSignal). d.0) inputs (flat_map cell_drives (zip net.cells net.shapes)))

-- where either list has ended there are no pairs
pub no_pairs : {A B : Type 0} (xs : List A) (ys : List B) → (length xs ≡ 0) ⊎ (length ys ≡ 0) → zip xs ys ≡ []
no_pairs [] ys ended = refl
no_pairs (x ∷ xs) [] ended = refl
no_pairs (x ∷ xs) (y ∷ ys) (inl ended) = absurd (omega (arith, ended))
no_pairs (x ∷ xs) (y ∷ ys) (inr ended) = absurd (omega (arith, ended))

pub all_outputs : (net : Net) (cells : List (Cell × Option MemShape)) (made : List Signal) → cells ≡ []
    → made ++ outputs_but cells ≡ data_inputs net ++ outputs_but (zip net.cells net.shapes)
    → made ≡ driven_beside net
all_outputs net cells made none so_far =
    sym (append-nil made) ∙ ap (λ left. made ++ outputs_but left) (sym none) ∙ so_far

-- ---- which bits are driven

-- each is driven by something
abbrev DriveAll : List DrivenSignal → Type 0
DriveAll ds = AllByRecursion (λ (d : DrivenSignal). still_driver d.1 ≡ None) ds

drive_both : (ds es : List DrivenSignal) → DriveAll ds → DriveAll es → DriveAll (ds ++ es)
drive_both [] es first second = second
drive_both (d ∷ ds) es first second = (first.0, drive_both ds es first.1 second)

inputs_drive : (k : ℕ) (signals : List Signal) → DriveAll (map (λ e. (e.1, input e.0)) (enumerate_from k signals))
inputs_drive k [] = tt
inputs_drive k (s ∷ signals) = (refl, inputs_drive (k + 1) signals)

read_drive : (cell : Cell) (shape : MemShape) (read : ReadShape) (port place : ℕ)
    → still_driver (read_driver cell shape read port place) ≡ None
read_drive cell shape read port place = by read.clocked
  where
    by : (clocked : Bool) → still_driver (read_driver cell shape (record read { clocked = clocked }) port place) ≡ None
    by true = refl
    by false = refl

data_drive : (cell : Cell) (shape : MemShape) (read : ℕ × ReadShape) (k : ℕ) (bits : List Signal)
    → DriveAll (map (λ e. (e.1, read_driver cell shape read.1 read.0 e.0)) (enumerate_from k bits))
data_drive cell shape read k [] = tt
data_drive cell shape read k (s ∷ bits) = (read_drive cell shape read.1 read.0 k, data_drive cell shape read (k + 1) bits)

reads_drive : (cell : Cell) (shape : MemShape) (reads : List (ℕ × ReadShape)) → DriveAll (flat_map (read_drives cell shape) reads)
reads_drive cell shape [] = tt
reads_drive cell shape (read ∷ reads) =
    drive_both (read_drives cell shape read) (flat_map (read_drives cell shape) reads)
    (data_drive cell shape read 0 (port_part cell (codes "RD_DATA") shape.width read.0)) (reads_drive cell shape reads)

memory_drive : (cell : Cell) (shape : Option MemShape) → DriveAll (memory_drives cell shape)
memory_drive cell None = tt
memory_drive cell (Some shape) = reads_drive cell shape (enumerate_from 0 shape.reads)

class_drive : (k : Class) (cell : Cell) (shape : Option MemShape) → DriveAll (class_drives k cell shape)
class_drive (class.Gate kind) cell shape = (refl, tt)
class_drive (class.Register kind) cell shape = (refl, tt)
class_drive class.Memory cell shape = memory_drive cell shape
class_drive class.Scope cell shape = tt
class_drive class.Asynchronous cell shape = tt
class_drive class.NotFine cell shape = tt
class_drive class.Unknown cell shape = tt

cells_drive : (cells : List (Cell × Option MemShape)) → DriveAll (flat_map cell_drives cells)
cells_drive [] = tt
cells_drive (c ∷ cells) =
    drive_both (cell_drives c) (flat_map cell_drives cells) (class_drive c.0.class c.0 c.1) (cells_drive cells)

all_drive : (net : Net) → DriveAll (drivers net)
all_drive net =
    drive_both (map (λ e. (e.1, input e.0)) (enumerate_from 0 (data_inputs net)))
    (flat_map cell_drives (zip net.cells net.shapes))
    (inputs_drive 0 (data_inputs net)) (cells_drive (zip net.cells net.shapes))

-- what drives a bit among these
abbrev driver_in : ℕ → List DrivenSignal → Driver
driver_in b ds = unwrap_or (option_map (λ (d : DrivenSignal). d.1) (find (λ (d : DrivenSignal). is_bit b d.0) ds)) undriven

abbrev numbers_of : List DrivenSignal → List ℕ
numbers_of ds = filter_map number_in (map (λ (d : DrivenSignal). d.0) ds)

driven_among : (b : ℕ) (ds : List DrivenSignal) → DriveAll ds
    → list_any (λ a. a == b) (numbers_of ds) ≡ not (is_some (still_driver (driver_in b ds)))
driven_among b [] all = refl
driven_among b ((Zero, d) ∷ ds) all = driven_among b ds all.1
driven_among b ((One, d) ∷ ds) all = driven_among b ds all.1
driven_among b ((Unknown, d) ∷ ds) all = driven_among b ds all.1
driven_among b ((HighZ, d) ∷ ds) all = driven_among b ds all.1
driven_among b ((Bit a, d) ∷ ds) all = by (driven_among b ds all.1) (a == b)
  where
    by : list_any (λ a. a == b) (numbers_of ds) ≡ not (is_some (still_driver (driver_in b ds))) → (here : Bool) → (here || list_any (λ a. a == b) (numbers_of ds))
        ≡ not (is_some (still_driver (unwrap_or (option_map (λ (d : DrivenSignal). d.1) (if here then Some (Bit a, d) else find (λ (d : DrivenSignal). is_bit b d.0) ds)) undriven)))
    by rest true = sym (ap (λ found. not (is_some found)) all.0)
    by rest false = rest

-- a bit is among signals
abbrev has : ℕ → List Signal → Bool
has b signals = list_any (λ a. a == b) (filter_map number_in signals)

driven_by : (net : Net) (b : ℕ) → has b (map (λ (d : DrivenSignal). d.0) (drivers net)) ≡ is_driven net b
unfolding driver_of
driven_by net b = driven_among b (drivers net) (all_drive net)

-- ---- registers by their starts

or_assoc : (x y z : Bool) → (x || (y || z)) ≡ ((x || y) || z)
or_assoc true y z = refl
or_assoc false y z = refl

or_false : (x : Bool) → x ≡ (x || false)
or_false true = refl
or_false false = refl

-- a bit is that of a start
abbrev has_start : ℕ → List BitValue → Bool
has_start b starts = list_any (λ a. a == b) (map (λ s. s.bit) starts)

has_either : (b : ℕ) (xs ys : List Signal) → has b (xs ++ ys) ≡ (has b xs || has b ys)
has_either b [] ys = refl
has_either b (Zero ∷ xs) ys = has_either b xs ys
has_either b (One ∷ xs) ys = has_either b xs ys
has_either b (Unknown ∷ xs) ys = has_either b xs ys
has_either b (HighZ ∷ xs) ys = has_either b xs ys
has_either b (Bit a ∷ xs) ys =
    ap (λ rest. (a == b) || rest) (has_either b xs ys) ∙ or_assoc (a == b) (has b xs) (has b ys)

start_either : (b : ℕ) (xs ys : List BitValue) → has_start b (xs ++ ys) ≡ (has_start b xs || has_start b ys)
start_either b [] ys = refl
start_either b (x ∷ xs) ys =
    ap (λ rest. (x.bit == b) || rest) (start_either b xs ys) ∙ or_assoc (x.bit == b) (has_start b xs) (has_start b ys)

register_has : (b : ℕ) (value : ℕ → Bool) (q : Signal)
    → has b (q ∷ []) ≡ has_start b (option_to_list (start_by value q))
register_has b value Zero = refl
register_has b value One = refl
register_has b value Unknown = refl
register_has b value HighZ = refl
register_has b value (Bit a) = refl

-- a class drives the bit of a start, or what is no register's
class_has : (b : ℕ) (value : ℕ → Bool) (k : Class) (cell : Cell) (shape : Option MemShape)
    → has b (map (λ (d : DrivenSignal). d.0) (class_drives k cell shape))
    ≡ (has b (outputs_beside k (cell, shape)) || has_start b (start_of_class value k cell))
class_has b value (class.Gate kind) cell shape = or_false _
class_has b value (class.Register kind) cell shape = register_has b value (signal_of cell (codes "Q"))
class_has b value class.Memory cell shape = or_false _
class_has b value class.Scope cell shape = refl
class_has b value class.Asynchronous cell shape = refl
class_has b value class.NotFine cell shape = refl
class_has b value class.Unknown cell shape = refl

-- the starts of these cells
abbrev starts_of : (ℕ → Bool) → List (Cell × Option MemShape) → List BitValue
starts_of value cells = flat_map (λ (c : Cell × Option MemShape). start_of_class value c.0.class c.0) cells

swap : (a b c d : Bool) → ((a || b) || (c || d)) ≡ ((a || c) || (b || d))
swap true b c d = refl
swap false true true d = refl
swap false true false d = refl
swap false false c d = refl

cells_have : (b : ℕ) (value : ℕ → Bool) (cells : List (Cell × Option MemShape))
    → has b (outputs_of cells) ≡ (has b (outputs_but cells) || has_start b (starts_of value cells))
cells_have b value [] = refl
cells_have b value (c ∷ cells) =
    let own = map (λ (d : DrivenSignal). d.0) (cell_drives c) in
    let beside = outputs_beside c.0.class c in
    let start = start_of_class value c.0.class c.0 in
    ap (has b) (map-append (λ (d : DrivenSignal). d.0) (cell_drives c) (flat_map cell_drives cells))
    ∙ has_either b own (outputs_of cells)
    ∙ ap₂ (λ x y. x || y) (class_has b value c.0.class c.0 c.1) (cells_have b value cells)
    ∙ swap (has b beside) (has_start b start) (has b (outputs_but cells)) (has_start b (starts_of value cells))
    ∙ sym (ap₂ (λ x y. x || y) (has_either b beside (outputs_but cells)) (start_either b start (starts_of value cells)))

cells_alone : (value : ℕ → Bool) (cells : List Cell) (shapes : List (Option MemShape)) → length shapes ≡ length cells
    → starts_of value (zip cells shapes) ≡ flat_map (λ (c : Cell). start_of_class value c.class c) cells
cells_alone value [] [] same = refl
cells_alone value [] (s ∷ shapes) same = refl
cells_alone value (c ∷ cells) [] same = absurd (omega (arith, same))
cells_alone value (c ∷ cells) (s ∷ shapes) same =
    ap (λ rest. start_of_class value c.class c ++ rest) (cells_alone value cells shapes (omega (arith, same)))

-- the bits that no register drives, then those of starts
pub is_driven_by : (net : Net) → IsWellFormed net → (b : ℕ)
    → list_any (λ a. a == b) (filter_map number_in (driven_beside net) ++ map (λ s. s.bit) net.starts) ≡ is_driven net b
is_driven_by net w b =
    let cells = zip net.cells net.shapes in
    let value = bit_at net.starts in
    let starts : net.starts ≡ starts_of value cells =
    starts_in_order net w ∙ sym (cells_alone value net.cells net.shapes (shape_count net w)) in
    list_any-append (λ a. a == b) (filter_map number_in (driven_beside net)) (map (λ s. s.bit) net.starts)
    ∙ ap₂ (λ x y. x || y) (has_either b (data_inputs net) (outputs_but cells)) (ap (has_start b) starts)
    ∙ sym (or_assoc (has b (data_inputs net)) (has b (outputs_but cells)) (has_start b (starts_of value cells)))
    ∙ ap (λ rest. has b (data_inputs net) || rest) (sym (cells_have b value cells))
    ∙ sym (has_either b (data_inputs net) (outputs_of cells))
    ∙ ap (has b) (all_signals net) ∙ driven_by net b
