-- The contents so far, each several times.
use Rattle.std.proofs.Common.{◌≡◌, take}
use Rattle.cs_graph.specs.Slow.{repeated}
use Rattle.cs_slow.proofs.slowing.repeated.Given as goal

abbrev pub invariant-loop-content : goal.invariant-loop-content
invariant-loop-content l = l.copies.items ≡ repeated l.times (take l.content-index l.contents)
