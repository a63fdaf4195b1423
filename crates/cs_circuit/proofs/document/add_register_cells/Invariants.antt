use Rattle.std.proofs.Common.{◌≡◌, ◌++◌, drop, map}
use Rattle.std.specs.List.{enumerate_from}
use Rattle.cs_circuit.specs.Cells.{numbered_register}
use Rattle.cs_circuit.proofs.document.add_register_cells.Given as goal

-- the registers that are left come after those whose cells are pushed
abbrev pub invariant-loop-n : goal.invariant-loop-n
invariant-loop-n l =
    l.cells.items ++ map (λ e. numbered_register l.circuit e.0 e.1) (enumerate_from l.n (drop l.n l.circuit.registers))
    ≡ l.fn.cells.items ++ map (λ e. numbered_register l.circuit e.0 e.1) (enumerate_from 0 l.circuit.registers)
