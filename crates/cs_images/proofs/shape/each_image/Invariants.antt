-- Reading the texts of a memory.
use Rattle.std.proofs.Common.{◌≡◌, map, drop}
use Rattle.serde_json.specs.View.{view}
use Rattle.cs_json.specs.Walk.{each_item}
use Rattle.cs_json.proofs.Loops.{with_front}
use Rattle.cs_images.specs.Shape.{image}
use Rattle.cs_images.proofs.shape.each_image.Given as goal

-- what was read so far, and then the items that are left
abbrev pub invariant-loop-i : goal.invariant-loop-i
invariant-loop-i l =
    with_front l.found (each_item image l.i (map view (drop l.i l.items))) ≡ each_item image 0 (map view l.items)
