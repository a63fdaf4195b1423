-- What the pins of a cell are connected to.
use Rattle.std.proofs.Common.{◌≡◌, map, take}
use Rattle.serde_json.specs.View.{members_view}
use Rattle.cs_json.specs.Printed.{members_from, wire_member, wire_of}
use Rattle.cs_json.proofs.values.connections.Given as goal

-- the members of the pins so far
abbrev pub invariant-loop-pin : goal.invariant-loop-pin
invariant-loop-pin l =
    members_view l.map.entries ≡ members_from
    (map (λ p. wire_member (wire_of p)) (take l.pin-index l.pins))
