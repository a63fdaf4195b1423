-- The Writes among the vertices so far.
use Rattle.std.proofs.Common.{◌≡◌, length, map, take}
use Rattle.std.specs.List.{range_with_len}
use Rattle.cs_bank.specs.WritePlaces.{writes_from}
use Rattle.cs_bank.proofs.writes.writes_of.Given as goal

abbrev pub invariant-loop-v : goal.invariant-loop-v
invariant-loop-v l =
    l.lists.items
    ≡ map (λ i. writes_from i 0 (take l.v l.machine.vertices)) (range_with_len 0 (length l.machine.memories))
