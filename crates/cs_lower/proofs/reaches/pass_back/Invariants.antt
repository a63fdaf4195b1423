use Rattle.std.proofs.Common.{suc, ◌-◌, length}
use Rattle.cs_lower.specs.Lowered.{wiring_of}
use Rattle.cs_lower.specs.Walks.{IsPath}
use Rattle.cs_lower.specs.Wires.{parts_of}
use Rattle.cs_lower.proofs.reaches.pass_back.Given as goal

-- so far it is a path
abbrev pub invariant-loop-next : goal.invariant-loop-next
invariant-loop-next l = IsPath (wiring_of l.net) l.from l.path.items l.bit

-- a path has no more bits than there are wires
abbrev pub decreases-loop-next : goal.decreases-loop-next
decreases-loop-next l = suc (length (parts_of l.net).wires) - length l.path.items
