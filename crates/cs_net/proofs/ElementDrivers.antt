-- The outputs of an element are driven by its cell, with the element's inputs as their fan-in.
use Rattle.std.proofs.Common.{◌≡◌, ℕ, zero, suc, ◌+◌, List, [], ◌∷◌, map, Bool, true, false, ◌||◌, Option, Some, None, refl, sym, ap, subst, ◌∙◌, arith, inl, inr, codes}
use Rattle.std.specs.Prelude.{filter, if◌then◌else◌, option_map, slice_get, unwrap_or}
use Rattle.std.specs.List.{enumerate_from, zip}
use Rattle.std.proofs.lemmas.Bool.{cases_Bool}
use Rattle.cs_base.specs.declared.signal.Signal.{Signal}
use Rattle.cs_cells.specs.declared.class.Class.{Class}
use Rattle.cs_cells.specs.declared.class.Class.TheVariants.{Gate, Register, Memory, Scope, Asynchronous, NotFine, Unknown}
use Rattle.cs_cells.specs.declared.memory.MemShape.{MemShape}
use Rattle.cs_cells.specs.declared.memory.ReadShape.{ReadShape}
use Rattle.cs_json.specs.Readable.{AreInOrder}
use Rattle.cs_net.specs.declared.elements.Element.{Element}
use Rattle.cs_net.specs.declared.netlist.Cell.{Cell}
use Rattle.cs_net.specs.Accept.{combinational_outputs, is_combinational}
use Rattle.cs_modules.specs.Signals.{holds_bit, is_bit}
use Rattle.cs_net.specs.Drivers.{Driver, DrivenSignal, undriven, input, gate, register, word_bit, cell_drives, class_drives, fanin, memory_drives, port_part, read_driver, read_drives, read_element as read_register_element, read_word_bit}
use Rattle.cs_net.specs.Elements.{cell_elements, class_elements, elements_of, memory_elements, read_element}
use Rattle.cs_net.specs.Loops.{name_at}
use Rattle.cs_net.specs.Netlist.{Net}
use Rattle.cs_net.proofs.CellNames.{found_by_name}
use Rattle.cs_net.proofs.Members.{Has, has_in_chain, has_of_chain, has_of_map, numbered}

-- one of these drives the bit, with this fan-in
pub record HasDriver (ds : List DrivenSignal) (b : ℕ) (inputs : List Signal) : Type 0 where
  pub driven : DrivenSignal
  pub has : Has ds driven
  pub drives : is_bit b driven.0 ≡ true
  pub depends : fanin driven.1 ≡ inputs

-- the bit that an element with one output drives
one_output : (b : ℕ) (s : Signal) → holds_bit b (s ∷ []) ≡ true → is_bit b s ≡ true
one_output b s h = here (is_bit b s) h
  where
    here : (t : Bool) → (t || false) ≡ true → t ≡ true
    here true is = refl
    here false is = is

alone_driver : (b : ℕ) (s : Signal) (d : Driver) → holds_bit b (s ∷ []) ≡ true
    → HasDriver ((s, d) ∷ []) b (fanin d)
alone_driver b s d h =
    record { driven = (s, d); has = (zero, refl); drives = one_output b s h; depends = refl }

-- one of a row of signals, all of whose drivers have the same fan-in
row_driver : (b : ℕ) (by : ℕ → Driver) (inputs : List Signal) → ((i : ℕ) → fanin (by i) ≡ inputs)
    → (k : ℕ) (outputs : List Signal)
    → holds_bit b outputs ≡ true → HasDriver (map (λ e. (e.1, by e.0)) (enumerate_from k outputs)) b inputs
row_driver b by inputs same k [] h = cc
row_driver b by inputs same k (s ∷ outputs) h = elim (cases_Bool (is_bit b s)) [
  | inl here ↦ record { driven = (s, by k); has = (zero, refl); drives = here; depends = same k }
  | inr not_here ↦
      let later : holds_bit b outputs ≡ true = ap (λ t. t || holds_bit b outputs) (sym not_here) ∙ h in
      let rest = row_driver b by inputs same (k + 1) outputs later in
      record {
        driven = rest.driven;
        has = (suc rest.has.0, rest.has.1);
        drives = rest.drives;
        depends = rest.depends;
      }
]

port_fanin : (cell : Cell) (shape : MemShape) (read : ReadShape) (port place : ℕ)
    → fanin (read_driver cell shape read port place)
    ≡ (if read.clocked then [] else port_part cell (codes "RD_ADDR") shape.abits port)
port_fanin cell shape read port place = here read.clocked
  where
    here : (t : Bool)
        → fanin (if t then register (read_register_element cell shape read port place)
        else word_bit (read_word_bit cell shape port place))
        ≡ (if t then [] else port_part cell (codes "RD_ADDR") shape.abits port)
    here true = refl
    here false = refl

read_port_driver : (b i : ℕ) (cell : Cell) (shape : MemShape) (read : ℕ × ReadShape)
    → holds_bit b (read_element i cell shape read).outputs ≡ true
    → HasDriver (read_drives cell shape read) b (read_element i cell shape read).inputs
read_port_driver b i cell shape read h =
    row_driver b (read_driver cell shape read.1 read.0) (read_element i cell shape read).inputs
    (port_fanin cell shape read.1 read.0) 0 (port_part cell (codes "RD_DATA") shape.width read.0) h

-- an element of a cell, and what the cell drives
abbrev IsOfCell : List Element → ℕ → List DrivenSignal → Type 0
IsOfCell elements i ds =
    (e : Element) (a b : ℕ) → Has elements e → holds_bit a e.inputs ≡ true → holds_bit b e.outputs ≡ true
    → (e.cell ≡ i) × HasDriver ds b e.inputs

memory_of_cell : (i : ℕ) (cell : Cell) (shape : Option MemShape)
    → IsOfCell (memory_elements i cell shape) i (memory_drives cell shape)
memory_of_cell i cell None e a b (k, stands) reads drives = cc
memory_of_cell i cell (Some shape) e a b has reads drives =
    let port = has_of_map (read_element i cell shape) (enumerate_from 0 shape.reads) e has in
    let P : Element → Type 0 = λ e. (e.cell ≡ i) × HasDriver (memory_drives cell (Some shape)) b e.inputs in
    let drives' : holds_bit b (read_element i cell shape port.0).outputs ≡ true =
    ap (λ (e : Element). holds_bit b e.outputs) (sym port.2) ∙ drives in
    let found = read_port_driver b i cell shape port.0 drives' in
    let inputs = (read_element i cell shape port.0).inputs in
    let all : HasDriver (memory_drives cell (Some shape)) b inputs = record {
      driven = found.driven;
      has =
          has_in_chain (read_drives cell shape) (enumerate_from 0 shape.reads) port.0 found.driven port.1
          found.has;
      drives = found.drives;
      depends = found.depends;
    } in
    subst P (sym port.2) (refl, all)

class_of_cell : (class : Class) (i : ℕ) (cell : Cell) (shape : Option MemShape)
    → IsOfCell (class_elements class i cell shape) i (class_drives class cell shape)
class_of_cell (Gate kind) i cell shape e a b (zero, stands) reads drives =
    let P : Element → Type 0 =
    λ e. holds_bit b e.outputs ≡ true
    → (e.cell ≡ i) × HasDriver (class_drives (Gate kind) cell shape) b e.inputs in
    subst P (some_same stands) (λ drives'. (refl, alone_driver b _ _ drives')) drives
  where
    some_same : {x y : Element} → Some x ≡ Some y → x ≡ y
    some_same h = cc
class_of_cell (Gate kind) i cell shape e a b (suc k, stands) reads drives = cc
class_of_cell (Register kind) i cell shape e a b (zero, stands) reads drives =
    let none : [] ≡ e.inputs = inputs_same stands in
    let clash : false ≡ true = ap (holds_bit a) none ∙ reads in
    cc
  where
    inputs_same : {x y : Element} → Some x ≡ Some y → x.inputs ≡ y.inputs
    inputs_same {x = x} {y = y} h = let same : x ≡ y = cc in ap (λ (e : Element). e.inputs) same
class_of_cell (Register kind) i cell shape e a b (suc k, stands) reads drives = cc
class_of_cell Memory i cell shape e a b has reads drives = memory_of_cell i cell shape e a b has reads drives
class_of_cell Scope i cell shape e a b (k, stands) reads drives = cc
class_of_cell Asynchronous i cell shape e a b (k, stands) reads drives = cc
class_of_cell NotFine i cell shape e a b (k, stands) reads drives = cc
class_of_cell Unknown i cell shape e a b (k, stands) reads drives = cc

-- the cell of an element, with its shape
pub record HasCell (net : Net) (e : Element) (b : ℕ) : Type 0 where
  pub cell : Cell × Option MemShape
  pub stands : slice_get (zip net.cells net.shapes) e.cell ≡ Some cell
  pub driver : HasDriver (cell_drives cell) b e.inputs

pub cell_of_element : (net : Net) (e : Element) (a b : ℕ) → Has (elements_of net) e
    → holds_bit a e.inputs ≡ true
    → holds_bit b e.outputs ≡ true → HasCell net e b
cell_of_element net e a b (zero, stands) reads drives =
    let none : [] ≡ e.inputs = inputs_same stands in
    let clash : false ≡ true = ap (holds_bit a) none ∙ reads in
    cc
  where
    inputs_same : {x y : Element} → Some x ≡ Some y → x.inputs ≡ y.inputs
    inputs_same {x = x} {y = y} h = let same : x ≡ y = cc in ap (λ (e : Element). e.inputs) same
cell_of_element net e a b (suc k, stands) reads drives =
    let from = has_of_chain cell_elements (enumerate_from 0 (zip net.cells net.shapes)) e (k, stands) in
    let place = numbered 0 (zip net.cells net.shapes) from.0 from.1 in
    let of_it = class_of_cell from.0.1.0.class from.0.0 from.0.1.0 from.0.1.1 e a b from.2 reads drives in
    let same : e.cell ≡ place.0 = omega (arith, of_it.0, place.1) in
    record {
      cell = from.0.1;
      stands = ap (slice_get (zip net.cells net.shapes)) same ∙ place.2;
      driver = of_it.1;
    }

-- ---- by the name of the cell

has_kept : (test : DrivenSignal → Bool) (ds : List DrivenSignal) (d : DrivenSignal) → Has ds d → test d ≡ true
    → Has (filter test ds) d
has_kept test [] d (i, stands) passes = cc
has_kept test (c ∷ ds) d (zero, stands) passes =
    let same : c ≡ d = cc in
    let kept : test c ≡ true = ap test same ∙ passes in
    (zero, ap (λ t. slice_get (if t then c ∷ filter test ds else filter test ds) 0) kept ∙ stands)
has_kept test (c ∷ ds) d (suc i, stands) passes = here (test c) (has_kept test ds d (i, stands) passes)
  where
    here : (t : Bool) → Has (filter test ds) d → Has (if t then c ∷ filter test ds else filter test ds) d
    here true (k, h) = (suc k, h)
    here false h = h

-- what depends on something is combinational
depends_combinational : (d : Driver) (a : ℕ) → holds_bit a (fanin d) ≡ true → is_combinational d ≡ true
depends_combinational undriven a h = cc
depends_combinational (input i) a h = cc
depends_combinational (gate kind pins) a h = refl
depends_combinational (word_bit w) a h = refl
depends_combinational (register r) a h = cc

outputs_of : Option (Cell × Option MemShape) → List DrivenSignal
outputs_of found = filter (λ d. is_combinational d.1) (unwrap_or (option_map cell_drives found) [])

-- an element that depends on something: the cell of its name drives each of its outputs
pub driven_by_name : (net : Net) (e : Element) (a b : ℕ) → AreInOrder (λ (c : Cell). c.name) net.cells
    → Has (elements_of net) e
    → holds_bit a e.inputs ≡ true → holds_bit b e.outputs ≡ true
    → HasDriver (combinational_outputs net (name_at net.cells e.cell)) b e.inputs
unfolding outputs_of
driven_by_name net e a b order has reads drives =
    let cell = cell_of_element net e a b has reads drives in
    let d = cell.driver in
    let found = found_by_name net.cells net.shapes e.cell cell.cell order cell.stands in
    let combinational = depends_combinational d.driven.1 a (ap (holds_bit a) d.depends ∙ reads) in
    let kept = has_kept (λ d. is_combinational d.1) (cell_drives cell.cell) d.driven d.has combinational in
    let P : List DrivenSignal → Type 0 = λ ds. Has ds d.driven in
    record {
      driven = d.driven;
      has = subst P (sym (ap outputs_of found)) kept;
      drives = d.drives;
      depends = d.depends;
    }
