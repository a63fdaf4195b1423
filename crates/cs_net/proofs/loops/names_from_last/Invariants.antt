use Rattle.std.proofs.Common.{◌≡◌, map, take}
use Rattle.cs_net.specs.Loops.{name_at}
use Rattle.cs_net.proofs.loops.names_from_last.Given as goal

abbrev pub invariant-loop-place : goal.invariant-loop-place
invariant-loop-place l = l.names.items ≡ map (name_at l.cells) (take l.place-index l.places)
