use Rattle.std.proofs.Common.{◌≡◌, ◌++◌, drop}
use Rattle.cs_modules.specs.PinBits.{marked_places_from}
use Rattle.cs_modules.proofs.top.marked_places.Given as goal

abbrev pub invariant-loop-place : goal.invariant-loop-place
invariant-loop-place l = l.places.items ++ marked_places_from l.place (drop l.place l.modules) ≡ marked_places_from 0 l.modules
