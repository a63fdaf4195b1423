-- The document of a circuit.
use Rattle.std.specs.Prelude.{List, [], ◌∷◌, ◌++◌, length, map, ◌≡◌, codes}
use Rattle.std.specs.List.{enumerate_from}
use Rattle.cs_json.specs.declared.document.Document.{Document}
use Rattle.cs_json.specs.declared.document.Module.{Module}
use Rattle.cs_json.specs.declared.document.CellDecl.{CellDecl}
use Rattle.cs_json.specs.declared.document.NetDecl.{NetDecl}
use Rattle.cs_json.specs.declared.document.Entry.{Entry}
use Rattle.cs_circuit.specs.declared.circuit.Circuit.{Circuit}
use Rattle.cs_circuit.specs.Cells.{clock_keeper, gate_cell, numbered_register, register_bit, register_net, text_entry}
use Rattle.cs_circuit.specs.MemoryCells.{memory_cell}
use Rattle.cs_circuit.specs.Order.{IsInNameOrder}

-- the cells: of the gates, of the memories, of the registers
abbrev pub circuit_cells : Circuit → List CellDecl
circuit_cells k =
    map gate_cell k.gates
    ++ map (λ e. memory_cell k.clock e.0 e.1) (enumerate_from 0 k.memories)
    ++ map (λ e. numbered_register k e.0 e.1) (enumerate_from 0 k.registers)
    ++ clock_keeper k (register_bit k (length k.registers))

-- the nets: one for each register
abbrev pub circuit_nets : Circuit → List NetDecl
circuit_nets k = map (λ e. register_net k e.0 e.1) (enumerate_from 0 k.registers)

-- the attribute that marks the top module: 31 digits 0 and a 1
abbrev pub top_mark : Entry
top_mark = text_entry (codes "top") (codes "00000000000000000000000000000001")

-- the module of a circuit, with these cells and nets
abbrev pub circuit_module : Circuit → List CellDecl → List NetDecl → Module
circuit_module k cells nets = record {
  name = k.name;
  attributes = top_mark ∷ [];
  ports = k.ports;
  cells = cells;
  nets = nets;
}

-- one module with the circuit's cells and nets in byte order of their names
pub record IsCircuitDocument (k : Circuit) (doc : Document) : Type 0 where
  pub cells : List CellDecl
  pub nets : List NetDecl
  pub of_cells : IsInNameOrder (λ (cell : CellDecl). cell.name) (circuit_cells k) cells
  pub of_nets : IsInNameOrder (λ (net : NetDecl). net.name) (circuit_nets k) nets
  pub is : doc ≡ record { modules = circuit_module k cells nets ∷ [] }
