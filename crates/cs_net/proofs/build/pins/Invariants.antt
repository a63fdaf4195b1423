use Rattle.std.proofs.Common.{◌≡◌, map, take}
use Rattle.cs_net.specs.Build.{pin_of}
use Rattle.cs_net.proofs.build.pins.Given as goal

abbrev pub invariant-loop-decl : goal.invariant-loop-decl
invariant-loop-decl l = l.made ≡ map pin_of (take l.decl-index l.pins)
