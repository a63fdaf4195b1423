-- The starts of the contexts so far.
use Rattle.std.proofs.Common.{◌≡◌}
use Rattle.cs_bank.specs.Bank.{banked_start}
use Rattle.cs_bank.proofs.memories.banked_start.Given as goal

abbrev pub invariant-loop-k : goal.invariant-loop-k
invariant-loop-k l = l.start.items ≡ banked_start l.k l.memory l.entry
