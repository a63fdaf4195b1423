-- What the lists so far hold.
use Rattle.std.proofs.Common.{◌≡◌, ◌-◌, ◌^◌, length, min, take}
use Rattle.std.specs.List.{sum_by}
use Rattle.cs_share.proofs.emission.register_count.Given as goal

abbrev pub invariant-loop-list : goal.invariant-loop-list
invariant-loop-list l = l.count ≡ min (sum_by length (take l.list-index l.list-items)) (2 ^ 64 - 1)
