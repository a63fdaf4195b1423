use Rattle.std.proofs.Common.{◌≡◌, ◌<◌, ◌^◌, map, take}
use Rattle.std.specs.Prelude.{All}
use Rattle.cs_circuit.specs.declared.circuit.GatePart.{GatePart}
use Rattle.cs_circuit.specs.Cells.{gate_cell}
use Rattle.cs_circuit.proofs.document.gate_cells.Given as goal

abbrev pub invariant-loop-gate : goal.invariant-loop-gate
invariant-loop-gate l = record {
  cells : l.cells.items ≡ map gate_cell (take l.gate-index l.circuit.gates);
  numbers : All (λ (gate : GatePart). gate.number < 2 ^ 64) (take l.gate-index l.circuit.gates);
}
