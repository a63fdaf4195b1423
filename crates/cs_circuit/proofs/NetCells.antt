-- What the cells of gates and registers are in a netlist, and what they drive there.
use Rattle.std.proofs.Common.{◌≡◌, ℕ, List, [], ◌∷◌, map, get_or, length, Bool, true, false, Option, None, if◌then◌else◌, refl, ap, ap₂, ◌∙◌, codes}
use Rattle.cs_base.specs.declared.signal.Signal.{Signal}
use Rattle.cs_base.specs.declared.signal.Signal.TheVariants.{Zero, Bit}
use Rattle.cs_json.specs.declared.document.CellDecl.{CellDecl}
use Rattle.cs_cells.specs.declared.gate.Kind.{Kind}
use Rattle.cs_cells.specs.declared.gate.Kind.TheVariants.{Buf, Not, And, Nand, Or, Nor, Xor, Xnor, AndNot, OrNot, Mux, Nmux, Aoi3, Oai3, Aoi4, Oai4, Mux4, Mux8, Mux16}
use Rattle.cs_cells.specs.declared.register.FfKind.{FfKind}
use Rattle.cs_cells.specs.declared.class.Class.TheVariants.{Gate, Register}
use Rattle.cs_cells.specs.Classes.{class_of}
use Rattle.cs_cells.specs.Gates.{row_of, pin_count, pin_name}
use Rattle.cs_modules.specs.declared.clocks.Clock.{Clock}
use Rattle.cs_modules.specs.Memories.{shape_of}
use Rattle.cs_modules.specs.Pins.{class_at, count_from}
use Rattle.cs_net.specs.Build.{cell_of}
use Rattle.cs_net.specs.Drivers.{DrivenSignal, StateElement, cell_drives, class_drives, from_signal, gate, register, signal_of}
use Rattle.cs_circuit.specs.declared.circuit.GatePart.{GatePart}
use Rattle.cs_circuit.specs.Cells.{gate_cell, is_rising, register_cell}
use Rattle.cs_circuit.proofs.NetLists.{each_by_place}

-- ---- gates

-- the name of a gate's type has the gate's class
pub class_of_gate : (kind : Kind) → class_of (row_of kind).name ≡ Gate kind
unfolding class_of
class_of_gate Buf = refl
class_of_gate Not = refl
class_of_gate And = refl
class_of_gate Nand = refl
class_of_gate Or = refl
class_of_gate Nor = refl
class_of_gate Xor = refl
class_of_gate Xnor = refl
class_of_gate AndNot = refl
class_of_gate OrNot = refl
class_of_gate Mux = refl
class_of_gate Nmux = refl
class_of_gate Aoi3 = refl
class_of_gate Oai3 = refl
class_of_gate Aoi4 = refl
class_of_gate Oai4 = refl
class_of_gate Mux4 = refl
class_of_gate Mux8 = refl
class_of_gate Mux16 = refl

-- a gate by its parts
abbrev gate_by : ℕ → List ℕ → List Signal → ℕ → Kind → GatePart
gate_by number origin pins output kind =
    record { number = number; origin = origin; kind = kind; pins = pins; output = output }

module _ (number : ℕ) (origin : List ℕ) (pins : List Signal) (output : ℕ) where
  -- the signals of its input pins, found by their names, and that of Y
  abbrev IsRead : Kind → Type 0
  IsRead kind =
      (map (λ i. signal_of (cell_of (gate_cell (gate_by number origin pins output kind))) (pin_name kind i))
      (count_from 0 (pin_count kind))
      ≡ map (λ i. get_or pins i Zero) (count_from 0 (pin_count kind)))
      × (signal_of (cell_of (gate_cell (gate_by number origin pins output kind))) (codes "Y") ≡ Bit output)

  pins_read : (kind : Kind) → IsRead kind
  pins_read Buf = (refl, refl)
  pins_read Not = (refl, refl)
  pins_read And = (refl, refl)
  pins_read Nand = (refl, refl)
  pins_read Or = (refl, refl)
  pins_read Nor = (refl, refl)
  pins_read Xor = (refl, refl)
  pins_read Xnor = (refl, refl)
  pins_read AndNot = (refl, refl)
  pins_read OrNot = (refl, refl)
  pins_read Mux = (refl, refl)
  pins_read Nmux = (refl, refl)
  pins_read Aoi3 = (refl, refl)
  pins_read Oai3 = (refl, refl)
  pins_read Aoi4 = (refl, refl)
  pins_read Oai4 = (refl, refl)
  pins_read Mux4 = (refl, refl)
  pins_read Mux8 = (refl, refl)
  pins_read Mux16 = (refl, refl)

pub class_of_gate_cell : (g : GatePart) → class_at (gate_cell g) ≡ Gate g.kind
class_of_gate_cell g = class_of_gate g.kind

-- a gate drives its output, by the signals of its pins
pub gate_cell_drives : (g : GatePart) → length g.pins ≡ pin_count g.kind
    → cell_drives (cell_of (gate_cell g), shape_of (gate_cell g)) ≡ (Bit g.output, gate g.kind g.pins) ∷ []
gate_cell_drives g full =
    let read = pins_read g.number g.origin g.pins g.output g.kind in
    ap (λ c. class_drives c (cell_of (gate_cell g)) (shape_of (gate_cell g))) (class_of_gate g.kind)
    ∙ ap₂ drives read.1 (read.0 ∙ each_by_place Zero g.pins (pin_count g.kind) full)
  where
    drives : Signal → List Signal → List DrivenSignal
    drives y pins = (y, gate g.kind pins) ∷ []

-- ---- registers

-- a register without reset and enable, of an edge
abbrev pub plain_kind : Bool → FfKind
plain_kind rising = record { rising = rising; reset = None; enable = None; enable_over_reset = false }

-- the state element of such a register
abbrev pub plain_element : Option Clock → Signal → StateElement
plain_element clock source =
    record { kind = plain_kind (is_rising clock); source = from_signal source; enable = Zero; reset = Zero }

class_of_register : (rising : Bool)
    → class_of (if rising then codes "$_DFF_P_" else codes "$_DFF_N_") ≡ Register (plain_kind rising)
unfolding class_of
class_of_register true = refl
class_of_register false = refl

module _ (clock : Option Clock) (name : List ℕ) (source : Signal) (q : ℕ) where
  abbrev cell : CellDecl
  cell = register_cell clock name source q

  pub class_of_register_cell : class_at cell ≡ Register (plain_kind (is_rising clock))
  class_of_register_cell = class_of_register (is_rising clock)

  -- a register drives Q
  pub register_cell_drives :
      cell_drives (cell_of cell, shape_of cell) ≡ (Bit q, register (plain_element clock source)) ∷ []
  register_cell_drives =
      ap (λ c. class_drives c (cell_of cell) (shape_of cell)) class_of_register_cell
