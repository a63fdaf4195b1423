-- Other contents of the same edges: each content as many times as there are contexts.
use Rattle.std.proofs.Common.{◌≡◌, ap, subst, ◌∙◌, rules, None}
use Rattle.cs_graph.specs.Faults.{TellsLimit}
use Rattle.cs_graph.specs.OtherContents.{with_contents}
use Rattle.cs_graph.specs.Run.{RunsWith}
use Rattle.cs_graph.proofs.SlowLemmas.{slow_is}
use Rattle.cs_graph.proofs.Slowed.{context_alone}
use Rattle.cs_slow.specs.SlowFaults.{slow_fault}
use Rattle.cs_slow.proofs.SlowingLemmas.{no_weight_fault}
use Rattle.cs_slow.proofs.slowing.slow.Goals as goal

pub memory_alone-requires : goal.memory_alone-requires
memory_alone-requires c =
    let none : slow_fault c.args.contexts c.args.machine.now ≡ None = search rules in
    subst (λ fault. TellsLimit fault c.in-Err.error) (no_weight_fault c.args.contexts c.args.machine.now
    c.in_ok-contents.contents c.keeps.ensures.well_formed c.in_ok-contents.ensures.ok none) c.in-Err.ensures.cause

pub returns-in-Ok-clause-ok : goal.returns-in-Ok-clause-ok
returns-in-Ok-clause-ok c =
    let g = c.args.machine.now in
    c.in-Ok.ensures.ok
    ∙ ap (λ k. with_contents k g) c.in_ok-contents.ensures.ok
    ∙ slow_is c.args.contexts g c.keeps.ensures.well_formed

pub returns-in-Ok-clause-alone : goal.returns-in-Ok-clause-alone
returns-in-Ok-clause-alone c =
    let is = returns-in-Ok-clause-ok c in λ bounded k rows outputs none below r.
    context_alone bounded c.args.machine.now none c.args.contexts k below rows outputs
    (subst (λ s. RunsWith bounded s rows outputs) is r)
