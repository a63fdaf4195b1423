-- What drives each bit of the netlist of a circuit's module is what drives it in the circuit.
use Rattle.std.proofs.Common.{◌≡◌, ℕ, zero, suc, ◌+◌, ◌⊎◌, List, [], ◌∷◌, map, true, Option, Some, None, find, flat_map, option_map, unwrap_or, zip, slice_get, inl, inr, refl, sym, ap, ap₂, subst, ◌∙◌, arith, eqb-true, eq-eqb}
use Rattle.std.specs.List.{enumerate_from}
use Rattle.cs_base.specs.declared.signal.Signal.{Signal}
use Rattle.cs_base.specs.declared.signal.Signal.TheVariants.{Zero, One, Unknown, HighZ, Bit}
use Rattle.cs_json.specs.declared.document.CellDecl.{CellDecl}
use Rattle.cs_json.specs.declared.document.NetDecl.{NetDecl}
use Rattle.cs_cells.specs.declared.memory.MemShape.{MemShape}
use Rattle.cs_modules.specs.Memories.{shape_of}
use Rattle.cs_modules.specs.Modules.{clock_of}
use Rattle.cs_modules.specs.Signals.{is_bit}
use Rattle.cs_net.specs.declared.netlist.Cell.{Cell}
use Rattle.cs_net.specs.Build.{cell_of, net_of}
use Rattle.cs_net.specs.Drivers.{DrivenSignal, Driver, cell_drives, data_inputs, driver_of, drivers, gate, input, register, undriven}
use Rattle.cs_net.specs.Netlist.{Net}
use Rattle.cs_net.proofs.Members.{Has, has_either, has_in_chain, has_in_map, has_left, has_of_chain, has_of_map, has_right, numbered, of_all}
use Rattle.cs_circuit.specs.declared.circuit.Circuit.{Circuit}
use Rattle.cs_circuit.specs.declared.circuit.GatePart.{GatePart}
use Rattle.cs_circuit.specs.Cells.{gate_cell, register_bit, register_cell}
use Rattle.cs_circuit.specs.Documents.{circuit_cells, circuit_module}
use Rattle.cs_circuit.specs.MemoryCells.{memory_cell}
use Rattle.cs_circuit.specs.Order.{IsInNameOrder}
use Rattle.cs_circuit.specs.WellFormed.{IsCircuit, IsGatePart}
use Rattle.cs_circuit.proofs.NetCells.{gate_cell_drives, plain_element, register_cell_drives}
use Rattle.cs_circuit.proofs.NetDrivers.{IsDriver, by_input, by_gate, by_read, by_register, circuit_inputs, one_driver}
use Rattle.cs_circuit.proofs.NetLists.{found_image, found_stands, has_numbered}
use Rattle.cs_circuit.proofs.NetMemories.{memory_bit, read_driven}
use Rattle.cs_circuit.proofs.NetMemoryState.{memory_has_bit}
use Rattle.cs_circuit.proofs.NetModules.{IsCellOf, of_gate, of_memory, of_register, has_cell, has_gate_cell, has_memory_cell, has_register_cell, inputs_of_made, kind_of_made, memory_fits, parts_of_made}

pub bit_is : (b : ℕ) (s : Signal) → is_bit b s ≡ true → s ≡ Bit b
bit_is b Zero is = cc
bit_is b One is = cc
bit_is b Unknown is = cc
bit_is b HighZ is = cc
bit_is b (Bit a) is = ap Bit (eqb-true a b is)

bit_itself : (b : ℕ) → is_bit b (Bit b) ≡ true
bit_itself b = eq-eqb b b refl

only_one : {A : Type 0} (x y : A) → Has (x ∷ []) y → y ≡ x
only_one x y (zero, stands) = cc
only_one x y (suc i, stands) = cc

-- a cell with its shape
abbrev pub part_of : CellDecl → Cell × Option MemShape
part_of cell = (cell_of cell, shape_of cell)

module _ (k : Circuit) (is : IsCircuit k) (cells : List CellDecl) (nets : List NetDecl)
    (ordered : IsInNameOrder (λ (c : CellDecl). c.name) (circuit_cells k) cells)
    (clock : clock_of (circuit_module k cells nets) ≡ k.clock) where
  abbrev net : Net
  net = net_of (circuit_module k cells nets)

  gate_is_full : (p : ℕ) (g : GatePart) → slice_get k.gates p ≡ Some g → IsGatePart k.clock g
  gate_is_full p g stands = of_all (IsGatePart k.clock) k.gates p g is.gates stands

  -- ---- what the netlist's cells drive is of the circuit

  by_cell : (b : ℕ) (d : DrivenSignal) (cell : CellDecl) → IsCellOf k cell
      → Has (cell_drives (part_of cell)) d → d.0 ≡ Bit b
      → IsDriver k b d.1
  by_cell b d cell (of_gate p g stands same) has bit =
      let here = subst (λ (c : CellDecl). Has (cell_drives (part_of c)) d) same has in
      let drives = gate_cell_drives g (gate_is_full p g stands).pins in
      let only = only_one (Bit g.output, gate g.kind g.pins) d (subst (λ ds. Has ds d) drives here) in
      let signal : Bit g.output ≡ Bit b = sym (ap (λ (e : DrivenSignal). e.0) only) ∙ bit in
      let number : g.output ≡ b = cc in
      by_gate p g stands number (ap (λ (e : DrivenSignal). e.1) only)
  by_cell b d cell (of_memory i m stands same) has bit =
      let here = subst (λ (c : CellDecl). Has (cell_drives (part_of c)) d) same has in
      let read = memory_bit k.clock i m (memory_fits k is cells nets ordered i m stands) d here in
      let signal : Bit b ≡ Bit (read.read.first + read.place) =
      sym bit ∙ ap (λ (e : DrivenSignal). e.0) read.is in
      let number : b ≡ read.read.first + read.place = cc in
      by_read i read.port read.place (record {
        memory = m;
        read = read.read;
        memory_is = stands;
        read_is = read.stands;
        among = read.among;
        is = number;
      }) (ap (λ (e : DrivenSignal). e.1) read.is)
  by_cell b d cell (of_register n name source stands same) has bit =
      let here = subst (λ (c : CellDecl). Has (cell_drives (part_of c)) d) same has in
      let drives = register_cell_drives k.clock name source (register_bit k n) in
      let only = only_one (Bit (register_bit k n), register (plain_element k.clock source)) d
      (subst (λ ds. Has ds d) drives here) in
      let signal : Bit (register_bit k n) ≡ Bit b = sym (ap (λ (e : DrivenSignal). e.0) only) ∙ bit in
      let number : register_bit k n ≡ b = cc in
      by_register n source stands number (ap (λ (e : DrivenSignal). e.1) only)

  abbrev input_driver : ℕ × Signal → DrivenSignal
  input_driver e = (e.1, input e.0)

  abbrev by_inputs : List DrivenSignal
  by_inputs = map input_driver (enumerate_from 0 (data_inputs net))

  abbrev by_cells : List DrivenSignal
  by_cells = flat_map cell_drives (zip net.cells net.shapes)

  driver_in : (b : ℕ) (d : DrivenSignal) → Has (drivers net) d → is_bit b d.0 ≡ true → IsDriver k b d.1
  driver_in b d has passes = elim (has_either by_inputs by_cells d has) [
    | inl here ↦ of_input (has_of_map input_driver (enumerate_from 0 (data_inputs net)) d here)
    | inr here ↦ of_cell (has_of_chain cell_drives (zip net.cells net.shapes) d here)
  ]
    where
      bit : d.0 ≡ Bit b
      bit = bit_is b d.0 passes

      of_input : (e : ℕ × Signal) × Has (enumerate_from 0 (data_inputs net)) e × (d ≡ input_driver e)
          → IsDriver k b d.1
      of_input (e, has, same) =
          let at = numbered 0 (data_inputs net) e has in
          let place : e.0 ≡ at.0 = omega (arith, at.1) in
          let signal : e.1 ≡ Bit b = sym (ap (λ (d : DrivenSignal). d.0) same) ∙ bit in
          let there : slice_get (circuit_inputs k) at.0 ≡ Some (Bit b) =
          ap (λ signals. slice_get signals at.0) (sym (inputs_of_made k is cells nets ordered clock))
          ∙ at.2 ∙ ap (λ s. Some s) signal in
          by_input at.0 there (ap (λ (d : DrivenSignal). d.1) same ∙ ap input place)

      of_cell : (c : Cell × Option MemShape) × Has (zip net.cells net.shapes) c × Has (cell_drives c) d
          → IsDriver k b d.1
      of_cell (c, has, drives) =
          let there = subst (λ cs. Has cs c) (parts_of_made k is cells nets ordered) has in
          let cell = has_of_map part_of cells c there in
          by_cell b d cell.0 (kind_of_made k is cells nets ordered cell.0 cell.1)
          (subst (λ c. Has (cell_drives c) d) cell.2 drives) bit

  -- ---- what drives a bit of the circuit is in the netlist

  of_cell : (cell : CellDecl) (d : DrivenSignal) → Has (circuit_cells k) cell
      → Has (cell_drives (part_of cell)) d → Has (drivers net) d
  of_cell cell d has drives =
      let there = has_in_map part_of cells cell (has_cell k is cells nets ordered cell has) in
      let here = subst (λ cs. Has cs (part_of cell)) (sym (parts_of_made k is cells nets ordered)) there in
      has_right by_inputs by_cells d
      (has_in_chain cell_drives (zip net.cells net.shapes) (part_of cell) d here drives)

  has_driver : (b : ℕ) (d : Driver) → IsDriver k b d → Has (drivers net) (Bit b, d)
  has_driver b d (by_input i stands same) =
      let there : slice_get (data_inputs net) i ≡ Some (Bit b) =
      ap (λ signals. slice_get signals i) (inputs_of_made k is cells nets ordered clock) ∙ stands in
      let place : 0 + i ≡ i = omega arith in
      let here = has_in_map input_driver (enumerate_from 0 (data_inputs net)) (i, Bit b)
      (has_numbered 0 (data_inputs net) i i (Bit b) there place) in
      subst (λ e. Has (drivers net) (Bit b, e)) (sym same) (has_left by_inputs by_cells (Bit b, input i) here)
  has_driver b d (by_gate p g stands bit same) =
      let drives = gate_cell_drives g (gate_is_full p g stands).pins in
      let made : DrivenSignal = (Bit g.output, gate g.kind g.pins) in
      let here = subst (λ ds. Has ds made) (sym drives) (zero, refl) in
      let is_it : made ≡ (Bit b, d) = ap₂ (λ n e. (Bit n, e)) bit (sym same) in
      subst (λ e. Has (drivers net) e) is_it (of_cell (gate_cell g) made (has_gate_cell k p g stands) here)
  has_driver b d (by_read i j o bit same) =
      let fits = memory_fits k is cells nets ordered i bit.memory bit.memory_is in
      let made = read_driven i bit.read o in
      let here = memory_has_bit k.clock i bit.memory fits j o bit.read bit.read_is bit.among in
      let is_it : made ≡ (Bit b, d) = ap₂ (λ n e. (Bit n, e)) (sym bit.is) (sym same) in
      subst (λ e. Has (drivers net) e) is_it
      (of_cell (memory_cell k.clock i bit.memory) made (has_memory_cell k i bit.memory bit.memory_is) here)
  has_driver b d (by_register n source stands bit same) =
      let cell = has_register_cell k n source stands in
      let drives = register_cell_drives k.clock cell.name source (register_bit k n) in
      let made : DrivenSignal = (Bit (register_bit k n), register (plain_element k.clock source)) in
      let here = subst (λ ds. Has ds made) (sym drives) (zero, refl) in
      let is_it : made ≡ (Bit b, d) = ap₂ (λ n e. (Bit n, e)) bit (sym same) in
      subst (λ e. Has (drivers net) e) is_it
      (of_cell (register_cell k.clock cell.name source (register_bit k n)) made cell.has here)

  -- ---- the driver of a bit

  -- what drives a bit of the circuit drives it in the netlist
  pub driver_is : (b : ℕ) (d : Driver) → IsDriver k b d → driver_of net b ≡ d
  unfolding driver_of
  driver_is b d driver =
      ap (λ o. unwrap_or o undriven)
      (found_image (λ (e : DrivenSignal). e.1) (λ (e : DrivenSignal). is_bit b e.0) (drivers net) (Bit b, d)
      (has_driver b d driver) (bit_itself b)
      (λ e has passes. one_driver k is b e.1 d (driver_in b e has passes) driver))

  -- and nothing else does
  pub driver_kind : (b : ℕ) → (driver_of net b ≡ undriven) ⊎ IsDriver k b (driver_of net b)
  unfolding driver_of
  driver_kind b = by (find (λ (e : DrivenSignal). is_bit b e.0) (drivers net)) refl
    where
      by : (o : Option DrivenSignal) → find (λ (e : DrivenSignal). is_bit b e.0) (drivers net) ≡ o
          → (unwrap_or (option_map (λ (e : DrivenSignal). e.1) o) undriven ≡ undriven)
          ⊎ IsDriver k b (unwrap_or (option_map (λ (e : DrivenSignal). e.1) o) undriven)
      by None found = inl refl
      by (Some e) found =
          let there = found_stands (λ (e : DrivenSignal). is_bit b e.0) (drivers net) e found in
          inr (driver_in b e there.0 there.1)
