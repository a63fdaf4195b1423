-- Reading a list.
use Rattle.std.proofs.Common.{◌≡◌, map, drop}
use Rattle.serde_json.specs.View.{view}
use Rattle.cs_json.specs.Walk.{each_item}
use Rattle.cs_json.proofs.Loops.{with_front}
use Rattle.cs_cert.proofs.lists.each.Given as goal

-- what was read so far, and then the items that are left
abbrev pub invariant-loop-i : goal.invariant-loop-i
invariant-loop-i g l =
    with_front l.found (each_item g.T.Readable.read_from l.i (map view (drop l.i l.items)))
    ≡ each_item g.T.Readable.read_from 0 (map view l.items)
