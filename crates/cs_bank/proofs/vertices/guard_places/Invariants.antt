-- The places of the memories so far, and that of the next.
use Rattle.std.proofs.Common.{◌≡◌, map}
use Rattle.std.specs.List.{range_with_len}
use Rattle.cs_bank.specs.Guards.{guards_place}
use Rattle.cs_bank.specs.Wired.{wired}
use Rattle.cs_bank.proofs.vertices.guard_places.Given as goal

abbrev pub invariant-loop-i : goal.invariant-loop-i
invariant-loop-i l = record {
  places : l.places
      ≡ map (guards_place l.fn.first 0 l.machine.memories (wired l.machine).vertices) (range_with_len 0 l.i);
  place : l.place ≡ guards_place l.fn.first 0 l.machine.memories (wired l.machine).vertices l.i;
}
