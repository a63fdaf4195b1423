-- The elements of a netlist drive its bits: the fan-in of what drives a bit is what the first element
-- that drives it depends on.
use Rattle.std.proofs.Common.{◌≡◌, ℕ, ◌+◌, List, [], ◌∷◌, ◌++◌, map, Bool, true, false, cond, ◌||◌, Option, Some, None, refl, sym, ap, ap₂, ◌∙◌, codes}
use Rattle.std.specs.Prelude.{find, option_map, unwrap_or, if◌then◌else◌}
use Rattle.std.specs.Option.{option_or}
use Rattle.std.specs.List.{enumerate_from, flat_map, zip}
use Rattle.std.proofs.lemmas.List.Folds.{find-append}
use Rattle.cs_base.specs.declared.signal.Signal.{Signal}
use Rattle.cs_cells.specs.declared.memory.MemShape.{MemShape}
use Rattle.cs_cells.specs.declared.memory.ReadShape.{ReadShape}
use Rattle.cs_cells.specs.declared.class.Class.{Class}
use Rattle.cs_cells.specs.declared.class.Class.TheVariants.{Gate, Register, Memory, Scope, Asynchronous, NotFine, Unknown}
use Rattle.cs_net.specs.declared.elements.Element.{Element}
use Rattle.cs_net.specs.declared.netlist.Cell.{Cell}
use Rattle.cs_net.specs.Netlist.{Net}
use Rattle.cs_modules.specs.Signals.{holds_bit, is_bit}
use Rattle.cs_net.specs.Drivers.{Driver, DrivenSignal, undriven, input, driver_of, drivers, data_inputs, fanin, cell_drives, class_drives, memory_drives, read_driver, read_drives, read_element as read_register_element, read_word_bit, register, word_bit, port_part}
use Rattle.cs_net.specs.Elements.{cell_elements, class_elements, elements_of, memory_elements, read_element}

-- the first element that drives a bit
abbrev pub element_that_drives : ℕ → List Element → Option Element
element_that_drives b elements = find (λ e. holds_bit b e.outputs) elements

-- what the first element that drives a bit depends on, nothing where none does
abbrev pub inputs_for : ℕ → List Element → List Signal
inputs_for b elements = unwrap_or (option_map (λ e. e.inputs) (element_that_drives b elements)) []

-- the fan-in of the first driver of a bit
abbrev fanin_among : ℕ → List DrivenSignal → Option (List Signal)
fanin_among b ds = option_map (λ (d : DrivenSignal). fanin d.1) (find (λ (d : DrivenSignal). is_bit b d.0) ds)

-- the inputs of the first element of a bit
abbrev inputs_among : ℕ → List Element → Option (List Signal)
inputs_among b elements = option_map (λ e. e.inputs) (element_that_drives b elements)

option_map_or : {A B : Type 0} (f : A → B) (x y : Option A) →
    option_map f (option_or x y) ≡ option_or (option_map f x) (option_map f y)
option_map_or f None y = refl
option_map_or f (Some a) y = refl

fanin_joined : (b : ℕ) (xs ys : List DrivenSignal) →
    fanin_among b (xs ++ ys) ≡ option_or (fanin_among b xs) (fanin_among b ys)
fanin_joined b xs ys =
    ap (λ found. option_map (λ (d : DrivenSignal). fanin d.1) found)
    (find-append (λ (d : DrivenSignal). is_bit b d.0) xs ys)
    ∙ option_map_or (λ (d : DrivenSignal). fanin d.1) (find (λ (d : DrivenSignal). is_bit b d.0) xs)
    (find (λ (d : DrivenSignal). is_bit b d.0) ys)

inputs_joined : (b : ℕ) (xs ys : List Element) →
    inputs_among b (xs ++ ys) ≡ option_or (inputs_among b xs) (inputs_among b ys)
inputs_joined b xs ys =
    ap (λ found. option_map (λ (e : Element). e.inputs) found)
    (find-append (λ (e : Element). holds_bit b e.outputs) xs ys)
    ∙ option_map_or (λ (e : Element). e.inputs) (find (λ (e : Element). holds_bit b e.outputs) xs)
    (find (λ (e : Element). holds_bit b e.outputs) ys)

-- one after the other
both_joined : (b : ℕ) (ds ds' : List DrivenSignal) (es es' : List Element) →
    fanin_among b ds ≡ inputs_among b es → fanin_among b ds' ≡ inputs_among b es' →
    fanin_among b (ds ++ ds') ≡ inputs_among b (es ++ es')
both_joined b ds ds' es es' first rest =
    fanin_joined b ds ds' ∙ ap₂ (λ x y. option_or x y) first rest ∙ sym (inputs_joined b es es')

-- ---- signals that one element drives

-- signals by place, all of whose drivers have the same fan-in
row_drives : (b : ℕ) (by : ℕ → Driver) (inputs : List Signal) → ((i : ℕ) → fanin (by i) ≡ inputs) →
    (k : ℕ) (outputs : List Signal) →
    fanin_among b (map (λ e. (e.1, by e.0)) (enumerate_from k outputs))
    ≡ cond (holds_bit b outputs) (Some inputs) None
row_drives b by inputs same k [] = refl
row_drives b by inputs same k (s ∷ outputs) = here (is_bit b s) (row_drives b by inputs same (k + 1) outputs)
  where
    rest : Option (List Signal)
    rest = fanin_among b (map (λ e. (e.1, by e.0)) (enumerate_from (k + 1) outputs))

    here : (t : Bool) → rest ≡ cond (holds_bit b outputs) (Some inputs) None →
        option_map (λ (d : DrivenSignal). fanin d.1) (cond t (Some (s, by k))
        (find (λ (d : DrivenSignal). is_bit b d.0)
        (map (λ e. (e.1, by e.0)) (enumerate_from (k + 1) outputs))))
        ≡ cond (t || holds_bit b outputs) (Some inputs) None
    here true h = ap (λ is. Some is) (same k)
    here false h = h

-- one element alone
inputs_alone : (b : ℕ) (e : Element) →
    inputs_among b (e ∷ []) ≡ cond (holds_bit b e.outputs) (Some e.inputs) None
inputs_alone b e = here (holds_bit b e.outputs)
  where
    here : (t : Bool) → option_map (λ (e : Element). e.inputs) (cond t (Some e) None)
        ≡ cond t (Some e.inputs) None
    here true = refl
    here false = refl

-- a driver alone, of an element with one output
driver_alone : (b cell : ℕ) (s : Signal) (d : Driver) →
    fanin_among b ((s, d) ∷ [])
    ≡ inputs_among b (record { cell = cell; outputs = s ∷ []; inputs = fanin d } ∷ [])
driver_alone b cell s d = here (is_bit b s)
  where
    here : (t : Bool) →
        option_map (λ (d : DrivenSignal). fanin d.1) (cond t (Some (s, d)) None)
        ≡ option_map (λ (e : Element). e.inputs)
        (cond (t || false) (Some (record { cell = cell; outputs = s ∷ []; inputs = fanin d })) None)
    here true = refl
    here false = refl

-- ---- read ports

read_fanin : (cell : Cell) (shape : MemShape) (read : ReadShape) (port place : ℕ) →
    fanin (read_driver cell shape read port place)
    ≡ (if read.clocked then [] else port_part cell (codes "RD_ADDR") shape.abits port)
read_fanin cell shape read port place = here read.clocked
  where
    here : (t : Bool) →
        fanin (if t then register (read_register_element cell shape read port place)
        else word_bit (read_word_bit cell shape port place))
        ≡ (if t then [] else port_part cell (codes "RD_ADDR") shape.abits port)
    here true = refl
    here false = refl

read_port : (b i : ℕ) (cell : Cell) (shape : MemShape) (read : ℕ × ReadShape) →
    fanin_among b (read_drives cell shape read) ≡ inputs_among b (read_element i cell shape read ∷ [])
read_port b i cell shape read =
    row_drives b (read_driver cell shape read.1 read.0) (read_element i cell shape read).inputs
    (read_fanin cell shape read.1 read.0) 0 (port_part cell (codes "RD_DATA") shape.width read.0)
    ∙ sym (inputs_alone b (read_element i cell shape read))

read_ports : (b i : ℕ) (cell : Cell) (shape : MemShape) (reads : List (ℕ × ReadShape)) →
    fanin_among b (flat_map (read_drives cell shape) reads)
    ≡ inputs_among b (map (read_element i cell shape) reads)
read_ports b i cell shape [] = refl
read_ports b i cell shape (read ∷ reads) =
    both_joined b (read_drives cell shape read) (flat_map (read_drives cell shape) reads)
    (read_element i cell shape read ∷ []) (map (read_element i cell shape) reads)
    (read_port b i cell shape read) (read_ports b i cell shape reads)

memory_ports : (b i : ℕ) (cell : Cell) (shape : Option MemShape) →
    fanin_among b (memory_drives cell shape) ≡ inputs_among b (memory_elements i cell shape)
memory_ports b i cell None = refl
memory_ports b i cell (Some shape) = read_ports b i cell shape (enumerate_from 0 shape.reads)

-- ---- cells

class_fanin : (b : ℕ) (class : Class) (i : ℕ) (cell : Cell) (shape : Option MemShape) →
    fanin_among b (class_drives class cell shape) ≡ inputs_among b (class_elements class i cell shape)
class_fanin b (Gate kind) i cell shape = driver_alone b i _ _
class_fanin b (Register kind) i cell shape = driver_alone b i _ _
class_fanin b Memory i cell shape = memory_ports b i cell shape
class_fanin b Scope i cell shape = refl
class_fanin b Asynchronous i cell shape = refl
class_fanin b NotFine i cell shape = refl
class_fanin b Unknown i cell shape = refl

cells_fanin : (b i : ℕ) (cells : List (Cell × Option MemShape)) →
    fanin_among b (flat_map cell_drives cells)
    ≡ inputs_among b (flat_map cell_elements (enumerate_from i cells))
cells_fanin b i [] = refl
cells_fanin b i (c ∷ cells) =
    both_joined b (cell_drives c) (flat_map cell_drives cells)
    (cell_elements (i, c)) (flat_map cell_elements (enumerate_from (i + 1) cells))
    (class_fanin b c.0.class i c.0 c.1) (cells_fanin b (i + 1) cells)

-- ---- the netlist

net_fanin : (net : Net) (b : ℕ) → fanin_among b (drivers net) ≡ inputs_among b (elements_of net)
net_fanin net b =
    both_joined b (map (λ e. (e.1, input e.0)) (enumerate_from 0 (data_inputs net)))
    (flat_map cell_drives cells)
    (first ∷ []) (flat_map cell_elements (enumerate_from 0 cells))
    (row_drives b input [] (λ i. refl) 0 (data_inputs net) ∙ sym (inputs_alone b first))
    (cells_fanin b 0 cells)
  where
    cells : List (Cell × Option MemShape)
    cells = zip net.cells net.shapes

    first : Element
    first = record { cell = 0; outputs = data_inputs net; inputs = [] }

found_fanin : (found : Option DrivenSignal) →
    fanin (unwrap_or (option_map (λ (d : DrivenSignal). d.1) found) undriven)
    ≡ unwrap_or (option_map (λ (d : DrivenSignal). fanin d.1) found) []
found_fanin None = refl
found_fanin (Some d) = refl

-- the fan-in of what drives a bit is what the first element that drives it depends on
pub fanin_of_driver : (net : Net) (b : ℕ) → fanin (driver_of net b) ≡ inputs_for b (elements_of net)
unfolding driver_of
fanin_of_driver net b =
    found_fanin (find (λ (d : DrivenSignal). is_bit b d.0) (drivers net))
    ∙ ap (λ found. unwrap_or found []) (net_fanin net b)
