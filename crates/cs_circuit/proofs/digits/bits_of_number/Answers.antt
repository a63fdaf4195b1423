use Rattle.std.proofs.Common.{ap, ◌∙◌, ◌/◌, ◌-◌, ◌+◌, ◌++◌}
use Rattle.cs_circuit.specs.MemoryCells.{bits_of_number}
use Rattle.cs_circuit.proofs.Loops.{all_bits, one_more_bit}
use Rattle.cs_circuit.proofs.digits.bits_of_number.Goals as goal

pub loop-place-preserved : goal.loop-place-preserved
loop-place-preserved c =
    let p = c.loop-place._place in
    ap (λ bits. bits ++ bits_of_number (32 - (p + 1)) (c.loop-place.rest / 2)) c.in_ok-push.ensures.items
    ∙ one_more_bit p c.loop-place.rest c.loop-place.bits.items (bits_of_number 32 c.args.number)
    c.loop-place-test.true c.loop-place.invariant

pub returns : goal.returns
returns c =
    all_bits c.loop-place._place c.loop-place.rest c.args.number c.loop-place.bits.items c.loop-place-test.false
    c.loop-place.invariant
