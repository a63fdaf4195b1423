-- A memory more.
use Rattle.std.proofs.Common.{◌≡◌, ◌*◌, Some, subst, arith}
use Rattle.std.specs.Prelude.{slice_get}
use Rattle.cs_graph.specs.declared.memory.Memory.{Memory}
use Rattle.cs_bank.proofs.CodeLemmas.{banked_bits}
use Rattle.cs_bank.proofs.Counted.{count_ends, count_more}
use Rattle.cs_bank.proofs.faults.memory_bits.Goals as goal

pub loop-i-preserved : goal.loop-i-preserved
loop-i-preserved c =
    let memories = c.args.machine.now.memories in
    let found = subst (λ n. slice_get memories n ≡ Some c.memory.result.now) c.new.ensures c.memory.ensures in
    count_more (λ (m : Memory). (c.args.contexts * m.words) * m.width) memories c.loop-i.i c.loop-i.total 0
    c.memory.result.now c.bits_of.result c.saturating_add-total.result c.loop-i.invariant found c.bits_of.ensures
    c.saturating_add-total.ensures

pub returns : goal.returns
returns c entries count =
    let memories = c.args.machine.now.memories in
    let all = c.loop-i-test.false in
    let many = c.memory_count-i-end.ensures in
    let total = count_ends (λ (m : Memory). (c.args.contexts * m.words) * m.width) memories c.loop-i.i c.loop-i.total 0
    c.loop-i.invariant (omega (arith, all, many)) in
    let bits = banked_bits c.args.contexts memories entries count in
    omega (arith, total, bits)
