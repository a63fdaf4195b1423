use Rattle.std.proofs.Common.{◌≡◌, map, take}
use Rattle.cs_net.specs.Build.{port_of}
use Rattle.cs_net.proofs.build.ports.Given as goal

abbrev pub invariant-loop-decl : goal.invariant-loop-decl
invariant-loop-decl l = l.made ≡ map port_of (take l.decl-index l.ports)
