-- The buffers of the rings that are left come behind those so far.
use Rattle.std.proofs.Common.{◌≡◌, ◌++◌, drop, map}
use Rattle.cs_lower.specs.Lowered.{buffer}
use Rattle.cs_lower.proofs.lowering.push_buffers.Given as goal

abbrev pub invariant-loop-bit : goal.invariant-loop-bit
invariant-loop-bit l =
    l.pieces ++ map buffer (drop l.bit-index l.rings) ≡ l.fn.pieces ++ map buffer l.rings
