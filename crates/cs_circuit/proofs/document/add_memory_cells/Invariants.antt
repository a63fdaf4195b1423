use Rattle.std.proofs.Common.{◌≡◌, ◌++◌, drop, map}
use Rattle.std.specs.List.{enumerate_from}
use Rattle.cs_circuit.specs.MemoryCells.{memory_cell}
use Rattle.cs_circuit.proofs.document.add_memory_cells.Given as goal

-- the memories that are left come after those whose cells are pushed
abbrev pub invariant-loop-i : goal.invariant-loop-i
invariant-loop-i l =
    l.cells.items ++ map (λ e. memory_cell l.circuit.clock e.0 e.1) (enumerate_from l.i (drop l.i l.circuit.memories))
    ≡ l.fn.cells.items ++ map (λ e. memory_cell l.circuit.clock e.0 e.1) (enumerate_from 0 l.circuit.memories)
