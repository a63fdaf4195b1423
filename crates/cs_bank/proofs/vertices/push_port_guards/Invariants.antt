-- The guards of the ports so far, and those of the rest.
use Rattle.std.proofs.Common.{◌≡◌, ◌<◌, ◌++◌, Some, drop, length}
use Rattle.std.specs.Prelude.{slice_get}
use Rattle.cs_graph.specs.declared.memory.Memory.{Memory}
use Rattle.cs_bank.specs.Guards.{port_guards, write_ports}
use Rattle.cs_bank.specs.Wired.{wired}
use Rattle.cs_bank.proofs.vertices.push_port_guards.Given as goal

abbrev pub invariant-loop-v : goal.invariant-loop-v
invariant-loop-v l = record {
  some : 0 < length l.vertices.items;
  so_far : (m : Memory) → slice_get l.machine.memories l.fn.i ≡ Some m
      → l.vertices.items
      ++ port_guards (length l.vertices.items) m (drop l.v-index (write_ports l.fn.i (wired l.machine).vertices))
      ≡ l.initial.vertices.items
      ++ port_guards (length l.initial.vertices.items) m (write_ports l.fn.i (wired l.machine).vertices);
}
