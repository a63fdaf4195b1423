use Rattle.std.proofs.Common.{◌+◌, ◌-◌, ◌^◌, false, get_or, sym, ◌∙◌, arith}
use Rattle.cs_sim.proofs.Capped.{stored_all, stored_more}
use Rattle.cs_sim.proofs.slots.store_bits.Goals as goal

pub loop-p-preserved : goal.loop-p-preserved
loop-p-preserved c =
    stored_more c.args.bits.now c.loop-p.values c.store.new.values c.args.first c.args.from c.args.width c.loop-p.p
    c.saturating_add.result c.saturating_add-in-loop-p.result (2 ^ 64 - 1) c.value-bit.result (omega arith)
    c.saturating_add.ensures c.saturating_add-in-loop-p.ensures (omega arith) (omega arith)
    c.value-bit.ensures c.store.ensures
    ∙ c.loop-p.invariant

pub returns : goal.returns
returns c =
    sym (stored_all (λ p. get_or c.args.bits.now (c.args.from + p) false) c.loop-p.values (c.args.first + c.loop-p.p) c.loop-p.p
    (c.args.width - c.loop-p.p) (omega arith))
    ∙ c.loop-p.invariant
