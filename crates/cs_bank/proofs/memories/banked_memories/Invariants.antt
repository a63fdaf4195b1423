-- The memories so far, and those of the rest.
use Rattle.std.proofs.Common.{◌≡◌, ◌++◌, drop}
use Rattle.cs_bank.specs.Bank.{banked_memory}
use Rattle.cs_bank.specs.Starts.{with_entries}
use Rattle.cs_bank.proofs.memories.banked_memories.Given as goal

abbrev pub invariant-loop-i : goal.invariant-loop-i
invariant-loop-i l =
    l.memories ++ with_entries (banked_memory l.contexts) (drop l.i l.machine.memories) (drop l.i l.images.of)
    ≡ with_entries (banked_memory l.contexts) l.machine.memories l.images.of
