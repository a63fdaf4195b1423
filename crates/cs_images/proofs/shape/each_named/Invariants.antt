-- Reading the images under all names.
use Rattle.std.proofs.Common.{◌≡◌}
use Rattle.serde_json.specs.View.{members_view}
use Rattle.cs_json.specs.Walk.{each_member, entries}
use Rattle.cs_json.proofs.Loops.{with_front}
use Rattle.cs_images.specs.Shape.{named}
use Rattle.cs_images.proofs.shape.each_named.Given as goal

-- what was read so far, and then the members that are left
abbrev pub invariant-loop-name : goal.invariant-loop-name
invariant-loop-name l =
    with_front l.found (each_member named (entries (members_view l.name-iterator)))
    ≡ each_member named (entries (members_view l.map.entries))
