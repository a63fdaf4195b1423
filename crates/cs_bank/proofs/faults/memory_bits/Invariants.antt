-- What is counted and what is left make the whole.
use Rattle.std.proofs.Common.{◌*◌}
use Rattle.cs_graph.specs.declared.memory.Memory.{Memory}
use Rattle.cs_bank.proofs.Counted.{CountSoFar}
use Rattle.cs_bank.proofs.faults.memory_bits.Given as goal

abbrev pub invariant-loop-i : goal.invariant-loop-i
invariant-loop-i l =
    CountSoFar (λ (m : Memory). (l.contexts * m.words) * m.width) l.machine.memories l.i l.total 0
