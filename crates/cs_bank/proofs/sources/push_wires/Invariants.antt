-- The pins so far come after those that were there.
use Rattle.std.proofs.Common.{◌≡◌, ◌++◌, map}
use Rattle.std.specs.List.{range_with_len}
use Rattle.cs_bank.specs.ContextBits.{wire}
use Rattle.cs_bank.proofs.sources.push_wires.Given as goal

abbrev pub invariant-loop-place : goal.invariant-loop-place
invariant-loop-place l = l.pins.items ≡ l.initial.pins.items ++ map wire (range_with_len l.first l.place)
