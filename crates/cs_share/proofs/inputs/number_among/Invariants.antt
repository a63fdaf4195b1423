use Rattle.std.proofs.Common.{◌≡◌, ◌+◌, drop}
use Rattle.cs_share.specs.Inputs.{number_among}
use Rattle.cs_share.proofs.inputs.number_among.Given as goal

abbrev pub invariant-loop-i : goal.invariant-loop-i
invariant-loop-i l = number_among l.bit (l.i + 2) (drop l.i l.inputs) ≡ number_among l.bit 2 l.inputs
