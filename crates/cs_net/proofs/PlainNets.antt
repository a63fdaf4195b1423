-- Netlists of gates and registers: what drives each bit.
use Rattle.std.proofs.Common.{◌≡◌, ℕ, ◌+◌, List, [], ◌∷◌, ◌++◌, map, length, Bool, true, false, cond, Option, Some, None, refl, ap, ap₂, ◌∙◌, codes, arith}
use Rattle.std.specs.Prelude.{find, option_map, unwrap_or}
use Rattle.std.specs.Option.{option_or}
use Rattle.std.specs.List.{AllByRecursion, enumerate_from, flat_map, position_from, zip}
use Rattle.std.proofs.lemmas.List.Folds.{find-append}
use Rattle.cs_base.specs.declared.signal.Signal.{Signal}
use Rattle.cs_base.specs.declared.signal.Signal.TheVariants.{Zero}
use Rattle.cs_cells.specs.declared.memory.MemShape.{MemShape}
use Rattle.cs_cells.specs.declared.class.Class.{Class}
use Rattle.cs_cells.specs.declared.class.Class.TheVariants.{Gate, Register, Memory, Scope, Asynchronous, NotFine, Unknown}
use Rattle.cs_cells.specs.Gates.{pin_count, pin_name}
use Rattle.cs_net.specs.declared.netlist.Cell.{Cell}
use Rattle.cs_net.specs.Netlist.{Net}
use Rattle.cs_modules.specs.Signals.{is_bit}
use Rattle.cs_net.specs.Drivers.{Driver, DrivenSignal, undriven, input, gate, register, driver_of, data_inputs, cell_drives, register_of, signal_of}
use Rattle.cs_modules.specs.Pins.{count_from}
use Rattle.cs_modules.specs.Places.{place_of}

-- a gate or a register
abbrev pub is_logic : Class → Bool
is_logic (Gate kind) = true
is_logic (Register kind) = true
is_logic Memory = false
is_logic Scope = false
is_logic Asynchronous = false
is_logic NotFine = false
is_logic Unknown = false

-- what a gate or a register drives
abbrev pub output_by : Class → Cell → Signal
output_by (Gate kind) cell = signal_of cell (codes "Y")
output_by (Register kind) cell = signal_of cell (codes "Q")
output_by _ cell = Zero

abbrev pub output_of : Cell → Signal
output_of cell = output_by cell.class cell

-- and what that is
abbrev pub drive_by : Class → Cell → Driver
drive_by (Gate kind) cell = gate kind (map (λ i. signal_of cell (pin_name kind i)) (count_from 0 (pin_count kind)))
drive_by (Register kind) cell = register (register_of cell kind)
drive_by _ cell = undriven

abbrev pub drive_of : Cell → Driver
drive_of cell = drive_by cell.class cell

abbrev driven_by : Cell → DrivenSignal
driven_by cell = (output_of cell, drive_of cell)

one_drives : (k : Class) (cell : Cell) (shape : Option MemShape) → cell.class ≡ k → is_logic k ≡ true → cell_drives (cell, shape) ≡ driven_by cell ∷ []
one_drives (Gate kind) cell shape is logic = rw is refl
one_drives (Register kind) cell shape is logic = rw is refl
one_drives Memory cell shape is logic = absurd (cc)
one_drives Scope cell shape is logic = absurd (cc)
one_drives Asynchronous cell shape is logic = absurd (cc)
one_drives NotFine cell shape is logic = absurd (cc)
one_drives Unknown cell shape is logic = absurd (cc)

abbrev pub AreLogic : List Cell → Type 0
AreLogic cells = AllByRecursion (λ cell. is_logic cell.class ≡ true) cells

cells_drive : (cells : List Cell) (shapes : List (Option MemShape)) → length shapes ≡ length cells → AreLogic cells →
    flat_map cell_drives (zip cells shapes) ≡ map driven_by cells
cells_drive [] shapes same logic = refl
cells_drive (cell ∷ cells) [] same logic = absurd (omega (arith, same))
cells_drive (cell ∷ cells) (shape ∷ shapes) same logic =
    ap₂ (λ first rest. first ++ rest) (one_drives cell.class cell shape refl logic.0) (cells_drive cells shapes (omega (arith, same)) logic.1)

-- the first cell that drives a bit
abbrev pub cell_that_drives : ℕ → List Cell → Option Cell
cell_that_drives b cells = find (λ cell. is_bit b (output_of cell)) cells

-- what a data input drives, or else a cell
abbrev pub driver_by : Option ℕ → Option Cell → Driver
driver_by place cell = unwrap_or (option_or (option_map input place) (option_map drive_of cell)) undriven

input_found : (b k : ℕ) (signals : List Signal) → option_map (λ (d : DrivenSignal). d.1) (find (λ (d : DrivenSignal). is_bit b d.0) (map (λ e. (e.1, input e.0)) (enumerate_from k signals))) ≡ option_map input (position_from (is_bit b) k signals)
input_found b k [] = refl
input_found b k (s ∷ signals) =
    elim (is_bit b s) as (λ t. option_map (λ (d : DrivenSignal). d.1) (cond t (Some (s, input k)) (find (λ (d : DrivenSignal). is_bit b d.0) (map (λ e. (e.1, input e.0)) (enumerate_from (k + 1) signals)))) ≡ option_map input (cond t (Some k) (position_from (is_bit b) (k + 1) signals))) [
      | true ↦ refl
      | false ↦ input_found b (k + 1) signals
    ]

cell_found : (b : ℕ) (cells : List Cell) → option_map (λ (d : DrivenSignal). d.1) (find (λ (d : DrivenSignal). is_bit b d.0) (map driven_by cells)) ≡ option_map drive_of (cell_that_drives b cells)
cell_found b [] = refl
cell_found b (cell ∷ cells) =
    elim (is_bit b (output_of cell)) as (λ t. option_map (λ (d : DrivenSignal). d.1) (cond t (Some (driven_by cell)) (find (λ (d : DrivenSignal). is_bit b d.0) (map driven_by cells))) ≡ option_map drive_of (cond t (Some cell) (cell_that_drives b cells))) [
      | true ↦ refl
      | false ↦ cell_found b cells
    ]

option_map-option_or : {A B : Type 0} (f : A → B) (x y : Option A) → option_map f (option_or x y) ≡ option_or (option_map f x) (option_map f y)
option_map-option_or f None y = refl
option_map-option_or f (Some a) y = refl

-- a netlist of gates and registers has an entry for a shape for each cell
pub record IsLogicNet (net : Net) : Type 0 where
  pub shapes : length net.shapes ≡ length net.cells
  pub logic : AreLogic net.cells

pub driver_of-logic : (net : Net) → IsLogicNet net → (b : ℕ) → driver_of net b ≡ driver_by (place_of b (data_inputs net)) (cell_that_drives b net.cells)
unfolding driver_of
driver_of-logic net p b =
    let inputs = map (λ e. let d : DrivenSignal = (e.1, input e.0) in d) (enumerate_from 0 (data_inputs net)) in
    let cells : flat_map cell_drives (zip net.cells net.shapes) ≡ map driven_by net.cells = cells_drive net.cells net.shapes p.shapes p.logic in
    ap (λ ds. unwrap_or (option_map (λ (d : DrivenSignal). d.1) (find (λ (d : DrivenSignal). is_bit b d.0) (inputs ++ ds))) undriven) cells
    ∙ ap (λ found. unwrap_or (option_map (λ (d : DrivenSignal). d.1) found) undriven) (find-append (λ (d : DrivenSignal). is_bit b d.0) inputs (map driven_by net.cells))
    ∙ ap (λ found. unwrap_or found undriven) (option_map-option_or (λ (d : DrivenSignal). d.1) (find (λ (d : DrivenSignal). is_bit b d.0) inputs) (find (λ (d : DrivenSignal). is_bit b d.0) (map driven_by net.cells)))
    ∙ ap₂ (λ x y. unwrap_or (option_or x y) undriven) (input_found b 0 (data_inputs net)) (cell_found b net.cells)
