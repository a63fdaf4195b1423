-- A clock more.
use Rattle.std.proofs.Common.{◌-◌, [], ◌∷◌, ◌++◌, ◌∙◌, ap, arith}
use Rattle.cs_graph.specs.Past.{context_of}
use Rattle.cs_bank.specs.ContextBits.{digit}
use Rattle.cs_bank.proofs.CodeLemmas.{context_small}
use Rattle.cs_bank.proofs.Pushed.{push_range}
use Rattle.cs_bank.proofs.context_bits.counter_contents.Goals as goal

pub loop-clock-preserved : goal.loop-clock-preserved
loop-clock-preserved c =
    let contexts = c.args.contexts in
    let clock = c.loop-clock.clock in
    let many = c.get-count.ensures.value in
    let low = c.loop-clock-test.true in
    push_range (λ i. digit c.args.j (context_of contexts i)) 0 clock clock [] c.loop-clock.contents c.push.new.self
    (omega arith) c.loop-clock.invariant
    (c.in_ok-push.ensures.ok
    ∙ ap (λ d. c.loop-clock.contents ++ d ∷ [])
    (c.digit.ensures ∙ ap (λ n. digit c.args.j (n - 1 - clock)) many
    ∙ ap (digit c.args.j) (context_small contexts clock (omega (arith, low, many)))))
