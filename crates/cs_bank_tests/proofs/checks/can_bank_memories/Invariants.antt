-- The memories so far can be banked.
use Rattle.std.proofs.Common.{◌≡◌, ℕ, ◌<◌, List, Some}
use Rattle.std.specs.Prelude.{slice_get, Option}
use Rattle.cs_graph.specs.declared.memory.Memory.{Memory}
use Rattle.cs_net.specs.Contexts.{Image}
use Rattle.cs_bank.specs.Bank.{FitsMemory, IsWhole}
use Rattle.cs_bank_tests.proofs.checks.can_bank_memories.Given as goal

abbrev pub invariant-loop-i : goal.invariant-loop-i
invariant-loop-i l = record {
  whole : (k : ℕ) (m : Memory) → k < l.i → slice_get l.machine.memories k ≡ Some m → IsWhole m;
  fit : (k : ℕ) (m : Memory) → k < l.i → slice_get l.machine.memories k ≡ Some m
      → (entry : Option (List Image)) → slice_get l.images.of k ≡ Some entry → FitsMemory l.contexts m entry;
}
