use Rattle.std.proofs.Common.{◌≡◌, ℕ, drop, nat_eq}
use Rattle.std.specs.Option.{option_or}
use Rattle.std.specs.HashMap.{get}
use Rattle.cs_net.specs.Loops.{last_place, last_place_from}
use Rattle.cs_net.proofs.loops.last_places.Given as goal

-- what is left decides first
abbrev pub invariant-loop-place : goal.invariant-loop-place
invariant-loop-place l = (x : ℕ) →
    option_or (last_place_from x l.place (drop l.place l.walk)) (get nat_eq l.lasts x) ≡ last_place x l.walk
