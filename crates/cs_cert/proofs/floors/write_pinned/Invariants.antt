use Rattle.std.proofs.Common.{◌≡◌, take}
use Rattle.cs_cert.specs.Floors.{pinned_bounds}
use Rattle.cs_cert.proofs.floors.write_pinned.Given as goal

abbrev pub invariant-loop-v : goal.invariant-loop-v
invariant-loop-v l = take l.v l.least ≡ take l.v (pinned_bounds l.machine)
