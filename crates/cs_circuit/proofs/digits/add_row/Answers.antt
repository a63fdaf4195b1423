use Rattle.std.proofs.Common.{nat_lt, refl, rules}
use Rattle.cs_circuit.proofs.Loops.{one_more_behind}
use Rattle.cs_circuit.proofs.digits.add_row.Goals as goal

pub loop-j-preserved : goal.loop-j-preserved
loop-j-preserved c =
    one_more_behind (λ j. nat_lt j c.args.i) c.loop-j.j c.args.bits.now.items c.loop-j.bits.items c.push.new.self.items
    (nat_lt c.loop-j.j c.args.i) refl c.loop-j.invariant (search rules)
