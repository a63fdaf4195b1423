use Rattle.cs_lower.proofs.StartLemmas.{bits_pushed}
use Rattle.cs_lower.proofs.starts.push_bits.Goals as goal

pub returns : goal.returns
returns c =
    bits_pushed c.args.starts.now c.loop-place.place c.args.bits.now c.loop-place.values.items c.args.values.now.items
    c.loop-place-test.false c.loop-place.invariant
