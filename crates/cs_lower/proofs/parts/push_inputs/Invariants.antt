use Rattle.std.proofs.Common.{◌≡◌, drop, length}
use Rattle.cs_lower.specs.Taps.{both, in_turn}
use Rattle.cs_lower.specs.Wires.{input_part}
use Rattle.cs_lower.proofs.parts.push_inputs.Given as goal

abbrev pub invariant-loop-signal : goal.invariant-loop-signal
invariant-loop-signal l =
    both l.parts (in_turn input_part (length l.parts.pieces) (drop l.signal-index l.inputs))
    ≡ both l.fn.parts (in_turn input_part (length l.fn.parts.pieces) l.inputs)
