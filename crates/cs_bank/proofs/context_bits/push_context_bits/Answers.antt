-- A context bit more.
use Rattle.std.proofs.Common.{◌+◌, arith}
use Rattle.cs_bank.specs.ContextBits.{context_bit}
use Rattle.cs_bank.proofs.Pushed.{push_range}
use Rattle.cs_bank.proofs.context_bits.push_context_bits.Goals as goal

pub loop-j-preserved : goal.loop-j-preserved
loop-j-preserved c =
    push_range (λ j. context_bit c.args.contexts (c.args.first + j) j) 0 c.loop-j.j c.loop-j.j
    c.args.vertices.now.items c.loop-j.vertices.items c.push_context_bit.new.vertices.items (omega arith)
    c.loop-j.invariant c.in_ok-push_context_bit.ensures
