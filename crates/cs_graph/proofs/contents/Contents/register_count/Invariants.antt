-- What the lists so far hold.
use Rattle.std.proofs.Common.{◌≡◌, ◌-◌, ◌^◌, length, min, take}
use Rattle.std.specs.List.{sum_by}
use Rattle.cs_graph.proofs.contents.Contents.register_count.Given as goal

abbrev pub invariant-loop-contents : goal.invariant-loop-contents
invariant-loop-contents l = l.count ≡ min (sum_by length (take l.contents-index l.contents-items)) (2 ^ 64 - 1)
