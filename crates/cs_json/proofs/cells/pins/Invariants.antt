-- The pins of a cell, one for each wire.
use Rattle.std.proofs.Common.{◌≡◌, map}
use Rattle.cs_json.specs.Gives.{members_at}
use Rattle.cs_json.specs.Shape.{pin_of}
use Rattle.cs_json.proofs.cells.pins.Given as goal

-- the pins of the wires so far
abbrev pub invariant-loop-name : goal.invariant-loop-name
invariant-loop-name l = l.found ≡ map (pin_of (members_at l.directions)) l.yielded
