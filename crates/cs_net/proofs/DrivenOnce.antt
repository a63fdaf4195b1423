-- No bit of a netlist is driven twice: each bit is driven no more often than the module's input ports and output pins drive it.
use Rattle.std.proofs.Common.{◌≡◌, ◌∙◌, ℕ, ◌+◌, ◌-◌, ◌*◌, ◌≤◌, List, [], ◌∷◌, ◌++◌, Bool, true, false, ◌&&◌, ◌||◌, cond, Option, Some, None, ap, ap₂, arith, codes, drop, eqb-true, filter, find, get_or, map, option_map, refl, subst, sym, take}
use Rattle.std.specs.Prelude.{◌==◌, bytes_eq, filter_map, flat_map, not, slice_get, unwrap_or}
use Rattle.std.specs.List.{enumerate_from, list_any, slice_range, zip}
use Rattle.std.proofs.lemmas.List.{drop-drop}
use Rattle.std.proofs.lemmas.Slice.Eq.{bytes_eq-Decides}
use Rattle.cs_base.specs.declared.signal.Signal.{Signal}
use Rattle.cs_base.specs.declared.signal.Signal.TheVariants.{Zero, One, Unknown as UnknownSignal, HighZ, Bit}
use Rattle.cs_cells.specs.declared.class.Class.{Class}
use Rattle.cs_cells.specs.declared.class.Class.TheVariants.{Gate, Register, Memory, Scope, Asynchronous, NotFine, Unknown}
use Rattle.cs_cells.specs.declared.memory.MemShape.{MemShape}
use Rattle.cs_cells.specs.declared.memory.ReadShape.{ReadShape}
use Rattle.cs_json.specs.declared.document.CellDecl.{CellDecl}
use Rattle.cs_json.specs.declared.document.Module.{Module}
use Rattle.cs_json.specs.declared.document.PinDecl.{PinDecl}
use Rattle.cs_conditions.specs.declared.error.NetError.TheVariants.{TwoDrivers}
use Rattle.cs_net.specs.declared.netlist.Cell.{Cell}
use Rattle.cs_modules.specs.Memories.{memory_shape, shape_by, shape_of}
use Rattle.cs_net.specs.Build.{cell_of, net_of}
use Rattle.cs_conditions.specs.Conditions.{duplicates, early_refusal, least}
use Rattle.cs_modules.specs.Modules.{cells_of, connections_of, driven_signals, input_bits, is_cell_output}
use Rattle.cs_modules.specs.Signals.{number_in, is_bit, is_input}
use Rattle.cs_net.specs.Drivers.{DrivenSignal, bits_of, cell_drives, class_drives, data_inputs, drivers, input, is_clock, port_part, read_drives, read_driver, signal_of}
use Rattle.cs_net.specs.Invariant.{IsWellFormed}
use Rattle.cs_net.specs.Netlist.{Net}
use Rattle.cs_modules.specs.Pins.{Connection, cell_connections, class_at, connections, pin_bits, pin_connections, role_of}
use Rattle.cs_modules.proofs.Connections.{list_any-numbers}
use Rattle.cs_net.proofs.Occurrences.{at_one_place, count_of, count_of-append, count_of-enumerate, count_of-filter, count_of-map, count_of-parts, one_if}
use Rattle.cs_net.proofs.PinLemmas.{same_port_bits, same_bits}
use Rattle.cs_conditions.proofs.Refusals.{no_two_drivers}

-- ---- a list of signals that has no bit twice

-- a bit that is not there is counted no time
none_counted : (b : ℕ) (signals : List Signal) → list_any (is_bit b) signals ≡ false → count_of (is_bit b) signals ≡ 0
none_counted b [] none = refl
none_counted b (s ∷ signals) none = by (is_bit b s) none (none_counted b signals)
  where
    by : (t : Bool) → (t || list_any (is_bit b) signals) ≡ false → (list_any (is_bit b) signals ≡ false → count_of (is_bit b) signals ≡ 0) →
        one_if t + count_of (is_bit b) signals ≡ 0
    by true h later = absurd (cc)
    by false h later = let rest = later h in omega arith

-- the first number stands no second time, and neither does another
once_more : (n : ℕ) (numbers : List ℕ) → duplicates (n ∷ numbers) ≡ [] → (list_any (λ a. a == n) numbers ≡ false) × (duplicates numbers ≡ [])
once_more n numbers none = by (list_any (λ a. a == n) numbers) refl none
  where
    by : (t : Bool) → list_any (λ a. a == n) numbers ≡ t → cond t (n ∷ duplicates numbers) (duplicates numbers) ≡ [] → (list_any (λ a. a == n) numbers ≡ false) × (duplicates numbers ≡ [])
    by true is h = absurd (cc)
    by false is h = (is, h)

counted_once : (b : ℕ) (signals : List Signal) → duplicates (filter_map number_in signals) ≡ [] → count_of (is_bit b) signals ≤ 1
counted_once b [] none = omega arith
counted_once b (Zero ∷ signals) none = let rest = counted_once b signals none in omega arith
counted_once b (One ∷ signals) none = let rest = counted_once b signals none in omega arith
counted_once b (UnknownSignal ∷ signals) none = let rest = counted_once b signals none in omega arith
counted_once b (HighZ ∷ signals) none = let rest = counted_once b signals none in omega arith
counted_once b (Bit a ∷ signals) none =
    let parts = once_more a (filter_map number_in signals) none in
    by (a == b) refl parts.0 (counted_once b signals parts.1)
  where
    by : (t : Bool) → (a == b) ≡ t → list_any (λ n. n == a) (filter_map number_in signals) ≡ false → count_of (is_bit b) signals ≤ 1 → one_if t + count_of (is_bit b) signals ≤ 1
    by true is other rest =
        let none_left : count_of (is_bit b) signals ≡ 0 =
        none_counted b signals (sym (list_any-numbers b signals) ∙ ap (λ n. list_any (λ m. m == n) (filter_map number_in signals)) (sym (eqb-true a b is)) ∙ other) in
        omega arith
    by false is other rest = omega arith

-- ---- what a cell's output pins drive

-- an output that holds the bit
abbrev drives_bit : ℕ → Connection → Bool
drives_bit b c = is_cell_output c.role && is_bit b c.signal

outputs_counted : (b : ℕ) (cs : List Connection) → count_of (is_bit b) (map (λ (c : Connection). c.signal) (filter (λ (c : Connection). is_cell_output c.role) cs)) ≡ count_of (drives_bit b) cs
outputs_counted b [] = refl
outputs_counted b (c ∷ cs) = by (is_cell_output c.role) (outputs_counted b cs)
  where
    outputs : List Connection → List Signal
    outputs cs = map (λ (c : Connection). c.signal) (filter (λ (c : Connection). is_cell_output c.role) cs)

    by : (t : Bool) → count_of (is_bit b) (map (λ (c : Connection). c.signal) (filter (λ (c : Connection). is_cell_output c.role) cs)) ≡ count_of (drives_bit b) cs →
        count_of (is_bit b) (map (λ (c : Connection). c.signal) (cond t (c ∷ filter (λ (c : Connection). is_cell_output c.role) cs) (filter (λ (c : Connection). is_cell_output c.role) cs)))
        ≡ one_if (t && is_bit b c.signal) + count_of (drives_bit b) cs
    by true rest = ap (λ n. one_if (is_bit b c.signal) + n) rest
    by false rest = let here : count_of (drives_bit b) cs ≡ 0 + count_of (drives_bit b) cs = omega arith in rest ∙ here

-- the pin of a cell is an output at each of its bits
abbrev IsOutput : CellDecl → List ℕ → Type 0
IsOutput d name = (i : ℕ) → is_cell_output (role_of (class_at d) d name i) ≡ true

module _ (b : ℕ) (d : CellDecl) (name : List ℕ) (is_output : IsOutput d name) where
  one_pin : (n : ℕ) (bits : List Signal) →
      count_of (drives_bit b) (map (λ (e : ℕ × Signal). let c : Connection = record { cell = d.name; signal = e.1; role = role_of (class_at d) d name e.0 } in c) (enumerate_from n bits)) ≡ count_of (is_bit b) bits
  one_pin n [] = refl
  one_pin n (s ∷ bits) =
      let here : one_if (is_cell_output (role_of (class_at d) d name n) && is_bit b s) ≡ one_if (is_bit b s) = ap (λ t. one_if (t && is_bit b s)) (is_output n) in
      ap₂ (λ x y. x + y) here (one_pin (n + 1) bits)

  -- the bits of an output pin are among those that the cell's pins drive
  pin_counted : (pins : List PinDecl) → count_of (is_bit b) (pin_bits pins name) ≤ count_of (drives_bit b) (flat_map (pin_connections d) pins)
  pin_counted [] = omega arith
  pin_counted (p ∷ pins) =
      let parts = count_of-append (drives_bit b) (pin_connections d p) (flat_map (pin_connections d) pins) in
      let rest = pin_counted pins in
      elim (bytes_eq p.name name) as (λ t. bytes_eq p.name name ≡ t →
      count_of (is_bit b) (unwrap_or (option_map (λ (q : PinDecl). q.bits) (cond t (Some p) (find (λ q. bytes_eq q.name name) pins))) [])
      ≤ count_of (drives_bit b) (pin_connections d p ++ flat_map (pin_connections d) pins)) [
        | true ↦ λ same.
            let named : count_of (drives_bit b) (pin_connections d p) ≡ count_of (is_bit b) p.bits =
            ap
            (λ n. count_of (drives_bit b) (map (λ (e : ℕ × Signal). let c : Connection = record { cell = d.name; signal = e.1; role = role_of (class_at d) d n e.0 } in c) (enumerate_from 0 p.bits)))
            ((bytes_eq-Decides p.name name).0 same)
            ∙ one_pin 0 p.bits in
            omega arith
        | false ↦ λ other. omega arith
      ] refl

-- ---- what a cell drives in a netlist

-- the signal holds the bit
abbrev pub drives_of : ℕ → DrivenSignal → Bool
drives_of b d = is_bit b d.0

first_bit : (b : ℕ) (signals : List Signal) → one_if (is_bit b (get_or signals 0 Zero)) + 0 ≤ count_of (is_bit b) signals
first_bit b [] = omega arith
first_bit b (s ∷ signals) = omega arith

-- the signal of an output pin
signal_counted : (b : ℕ) (d : CellDecl) (name : List ℕ) → IsOutput d name → one_if (is_bit b (signal_of (cell_of d) name)) + 0 ≤ count_of (drives_bit b) (cell_connections d)
signal_counted b d name is_output =
    let first = first_bit b (bits_of (cell_of d) name) in
    let same : count_of (is_bit b) (bits_of (cell_of d) name) ≡ count_of (is_bit b) (pin_bits d.pins name) = ap (count_of (is_bit b)) (same_bits d name) in
    let all = pin_counted b d name is_output d.pins in
    omega arith

-- a part of a pin and what comes after
part_counted : (b width port : ℕ) (bits : List Signal) →
    count_of (is_bit b) (slice_range bits (port * width) (port * width + width)) + count_of (is_bit b) (drop ((port + 1) * width) bits) ≡ count_of (is_bit b) (drop (port * width) bits)
part_counted b width port bits =
    let size : port * width + width - port * width ≡ width = omega arith in
    let next : port * width + width ≡ (port + 1) * width = omega arith in
    ap₂ (λ n rest. count_of (is_bit b) (take n (drop (port * width) bits)) + count_of (is_bit b) rest) size
    (ap (λ n. drop n bits) (sym next) ∙ sym (drop-drop width (port * width) bits))
    ∙ count_of-parts (is_bit b) width (drop (port * width) bits)

-- the parts of some read ports
ports_counted : (b : ℕ) (cell : Cell) (shape : MemShape) (port : ℕ) (reads : List ReadShape) →
    count_of (drives_of b) (flat_map (read_drives cell shape) (enumerate_from port reads)) ≤ count_of (is_bit b) (drop (port * shape.width) (bits_of cell (codes "RD_DATA")))
ports_counted b cell shape port [] = omega arith
ports_counted b cell shape port (read ∷ reads) =
    let parts = count_of-append (drives_of b) (read_drives cell shape (port, read)) (flat_map (read_drives cell shape) (enumerate_from (port + 1) reads)) in
    let here : count_of (drives_of b) (read_drives cell shape (port, read)) ≡ count_of (is_bit b) (port_part cell (codes "RD_DATA") shape.width port) =
    count_of-map (drives_of b) (λ (e : ℕ × Signal). let s : DrivenSignal = (e.1, read_driver cell shape read port e.0) in s) (enumerate_from 0 (port_part cell (codes "RD_DATA") shape.width port))
    ∙ count_of-enumerate (is_bit b) 0 (port_part cell (codes "RD_DATA") shape.width port) in
    let split = part_counted b shape.width port (bits_of cell (codes "RD_DATA")) in
    let rest = ports_counted b cell shape (port + 1) reads in
    omega arith

memory_counted : (b : ℕ) (d : CellDecl) (shape : MemShape) → IsOutput d (codes "RD_DATA") →
    count_of (drives_of b) (flat_map (read_drives (cell_of d) shape) (enumerate_from 0 shape.reads)) ≤ count_of (drives_bit b) (cell_connections d)
memory_counted b d shape is_output =
    let ports = ports_counted b (cell_of d) shape 0 shape.reads in
    let none : 0 * shape.width ≡ 0 = omega arith in
    let same = ap (λ n. count_of (is_bit b) (drop n (bits_of (cell_of d) (codes "RD_DATA")))) none ∙ ap (count_of (is_bit b)) (same_bits d (codes "RD_DATA")) in
    let all = pin_counted b d (codes "RD_DATA") is_output d.pins in
    omega arith

class_counted : (b : ℕ) (d : CellDecl) (k : Class) → class_at d ≡ k → count_of (drives_of b) (class_drives k (cell_of d) (shape_by k d)) ≤ count_of (drives_bit b) (cell_connections d)
class_counted b d (Gate kind) is = signal_counted b d (codes "Y") (λ i. ap (λ k. is_cell_output (role_of k d (codes "Y") i)) is)
class_counted b d (Register kind) is = signal_counted b d (codes "Q") (λ i. ap (λ k. is_cell_output (role_of k d (codes "Q") i)) is)
class_counted b d Memory is = memory_counted b d (memory_shape d) (λ i. ap (λ k. is_cell_output (role_of k d (codes "RD_DATA") i)) is)
class_counted b d Scope is = omega arith
class_counted b d Asynchronous is = omega arith
class_counted b d NotFine is = omega arith
class_counted b d Unknown is = omega arith

cells_counted : (b : ℕ) (ds : List CellDecl) → count_of (drives_of b) (flat_map cell_drives (zip (map cell_of ds) (map shape_of ds))) ≤ count_of (drives_bit b) (connections ds)
cells_counted b [] = omega arith
cells_counted b (d ∷ ds) =
    let left = count_of-append (drives_of b) (cell_drives (cell_of d, shape_of d)) (flat_map cell_drives (zip (map cell_of ds) (map shape_of ds))) in
    let right = count_of-append (drives_bit b) (cell_connections d) (connections ds) in
    let here : count_of (drives_of b) (cell_drives (cell_of d, shape_of d)) ≤ count_of (drives_bit b) (cell_connections d) = class_counted b d (class_at d) refl in
    let rest = cells_counted b ds in
    omega arith

-- ---- of a module

inputs_counted : (b : ℕ) (m : Module) → count_of (drives_of b) (map (λ (e : ℕ × Signal). let s : DrivenSignal = (e.1, input e.0) in s) (enumerate_from 0 (data_inputs (net_of m)))) ≤ count_of (is_bit b) (input_bits m)
unfolding net_of
inputs_counted b m =
    let inputs = data_inputs (net_of m) in
    let counted = count_of-map (drives_of b) (λ (e : ℕ × Signal). let s : DrivenSignal = (e.1, input e.0) in s) (enumerate_from 0 inputs) ∙ count_of-enumerate (is_bit b) 0 inputs in
    let fewer = count_of-filter (is_bit b) (λ s. not (is_clock (net_of m).clock s)) (flat_map (λ p. p.bits) (filter (λ p. is_input p.direction) (net_of m).ports)) in
    let same = ap (count_of (is_bit b)) (same_port_bits is_input m.ports) in
    omega arith

all_counted : (b : ℕ) (m : Module) → count_of (drives_of b) (drivers (net_of m)) ≤ count_of (is_bit b) (driven_signals m)
unfolding net_of
all_counted b m =
    let inputs = map (λ (e : ℕ × Signal). let s : DrivenSignal = (e.1, input e.0) in s) (enumerate_from 0 (data_inputs (net_of m))) in
    let left = count_of-append (drives_of b) inputs (flat_map cell_drives (zip (net_of m).cells (net_of m).shapes)) in
    let right = count_of-append (is_bit b) (input_bits m) (map (λ (c : Connection). c.signal) (filter (λ (c : Connection). is_cell_output c.role) (connections_of m))) in
    let outputs = outputs_counted b (connections_of m) in
    let by_ports = inputs_counted b m in
    let by_cells = cells_counted b (cells_of m) in
    omega arith

-- no number is there twice where the least of those is none
none_least : (numbers : List ℕ) → option_map TwoDrivers (least numbers) ≡ None → numbers ≡ []
none_least [] h = refl
none_least (n ∷ numbers) h = absurd (cc)

module_once : (m : Module) → early_refusal m ≡ None → (b : ℕ) → count_of (drives_of b) (drivers (net_of m)) ≤ 1
module_once m early b =
    let all = all_counted b m in
    let once = counted_once b (driven_signals m) (none_least (duplicates (filter_map number_in (driven_signals m))) (no_two_drivers m early)) in
    omega arith

-- ---- of a netlist

-- what stands at this place drives the bit
abbrev pub DrivesAt : Net → ℕ → ℕ → Type 0
DrivesAt net b i = option_map (λ (d : DrivenSignal). is_bit b d.0) (slice_get (drivers net) i) ≡ Some true

module _ (net : Net) (w : IsWellFormed net) where
  drives_once : (b : ℕ) → count_of (drives_of b) (drivers net) ≤ 1
  drives_once b = subst (λ (n : Net). count_of (drives_of b) (drivers n) ≤ 1) (sym w.is) (module_once w.«module» w.early b)

  -- a bit is driven at one place
  pub driven_once : (b i j : ℕ) (d e : DrivenSignal) → slice_get (drivers net) i ≡ Some d → slice_get (drivers net) j ≡ Some e →
      is_bit b d.0 ≡ true → is_bit b e.0 ≡ true → i ≡ j
  driven_once b i j d e at_i at_j first second = at_one_place (drives_of b) (drivers net) (drives_once b) i j d e at_i at_j first second

  -- the same of places alone
  pub driven_at_one_place : (b i j : ℕ) → DrivesAt net b i → DrivesAt net b j → i ≡ j
  driven_at_one_place b i j first second = by (slice_get (drivers net) i) (slice_get (drivers net) j) refl refl first second
    where
      by : (x y : Option DrivenSignal) → slice_get (drivers net) i ≡ x → slice_get (drivers net) j ≡ y → option_map (λ (d : DrivenSignal). is_bit b d.0) x ≡ Some true →
          option_map (λ (d : DrivenSignal). is_bit b d.0) y ≡ Some true → i ≡ j
      by None y at_i at_j h k = absurd (cc)
      by (Some d) None at_i at_j h k = absurd (cc)
      by (Some d) (Some e) at_i at_j h k =
          let holds : is_bit b d.0 ≡ true = cc in
          let holds_too : is_bit b e.0 ≡ true = cc in
          driven_once b i j d e at_i at_j holds holds_too
