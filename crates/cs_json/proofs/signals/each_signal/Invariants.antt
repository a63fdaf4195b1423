-- Reading a bit list.
use Rattle.std.proofs.Common.{◌≡◌, map, drop}
use Rattle.serde_json.specs.View.{view}
use Rattle.cs_json.specs.Shape.{signal}
use Rattle.cs_json.specs.Walk.{each_item}
use Rattle.cs_json.proofs.Loops.{with_front}
use Rattle.cs_json.proofs.signals.each_signal.Given as goal

abbrev pub invariant-loop-i : goal.invariant-loop-i
invariant-loop-i l =
    with_front l.found
    (each_item (signal l.only_bits) l.i (map view (drop l.i l.items))) ≡ each_item
    (signal l.only_bits) 0 (map view l.items)
