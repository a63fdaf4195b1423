use Rattle.cs_modules.proofs.Values.{too_great}
use Rattle.cs_modules.proofs.digits.value_of.Goals as goal

pub returns-then-value-ge2147483648 : goal.returns-then-value-ge2147483648
returns-then-value-ge2147483648 c =
    too_great c.args.digits.now c.loop-i.i c.loop-i.value c.loop-i-test.true c.loop-i.invariant.within c.loop-i.invariant.value c.if-value-ge2147483648.true
