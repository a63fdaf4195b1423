-- The guards of the memories so far, and those of the rest.
use Rattle.std.proofs.Common.{◌≡◌, ◌<◌, ◌++◌, drop, length}
use Rattle.cs_bank.specs.Guards.{guards}
use Rattle.cs_bank.specs.Wired.{wired}
use Rattle.cs_bank.proofs.vertices.push_guards.Given as goal

abbrev pub invariant-loop-i : goal.invariant-loop-i
invariant-loop-i l = record {
  some : 0 < length l.vertices.items;
  so_far : l.vertices.items
      ++ guards (length l.vertices.items) l.i (drop l.i l.machine.memories) (wired l.machine).vertices
      ≡ l.initial.vertices.items
      ++ guards (length l.initial.vertices.items) 0 l.machine.memories (wired l.machine).vertices;
}
