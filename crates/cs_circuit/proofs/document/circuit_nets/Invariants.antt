use Rattle.std.proofs.Common.{◌≡◌, ◌++◌, drop, map}
use Rattle.std.specs.List.{enumerate_from}
use Rattle.cs_circuit.specs.Cells.{register_net}
use Rattle.cs_circuit.specs.Documents.{circuit_nets}
use Rattle.cs_circuit.proofs.document.circuit_nets.Given as goal

-- the registers that are left come after those whose nets are pushed
abbrev pub invariant-loop-n : goal.invariant-loop-n
invariant-loop-n l =
    l.nets.items ++ map (λ e. register_net l.circuit e.0 e.1) (enumerate_from l.n (drop l.n l.circuit.registers))
    ≡ circuit_nets l.circuit
