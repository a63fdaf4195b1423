-- The slowed graph of a netlist can be banked, and banking is refused where slowing isn't.
use Rattle.std.proofs.Common.{◌≡◌, ◌∙◌, ap, subst, sym}
use Rattle.cs_bank.specs.Bank.{CanBank}
use Rattle.cs_graph.specs.declared.graph.Graph.{Graph}
use Rattle.cs_graph.specs.Slow.{slow}
use Rattle.cs_lower.specs.Lowered.{lowered}
use Rattle.cs_slow.specs.SlowFaults.{slow_fault}
use Rattle.cs_interleave.specs.InterleaveFaults.{TellsInterleaveFault, contexts_fault}
use Rattle.cs_interleave.proofs.Bankable.{can_bank}
use Rattle.cs_interleave.proofs.FaultLemmas.{bank_told}
use Rattle.cs_interleave.proofs.contexts.for_contexts.Goals as goal

pub bank-requires : goal.bank-requires
bank-requires c =
    subst (λ (g : Graph). CanBank c.args.contexts c.args.images.now.of g)
    (sym (c.in_ok-slowed.ensures.ok ∙ ap (slow c.args.contexts) c.requires.machine))
    (can_bank c.args.net.now c.keeps.ensures c.args.images.now c.args.contexts c.requires.images)

pub returns-clause-cause : goal.returns-clause-cause
returns-clause-cause c =
    subst (TellsInterleaveFault (contexts_fault c.args.contexts c.args.images.now.of (lowered c.args.net.now)))
    (sym c.from.ensures)
    (bank_told c.args.contexts c.args.images.now.of (lowered c.args.net.now) c.in_ok-slowed.slowed c.in-Err.error
    (sym (ap (slow_fault c.args.contexts) c.requires.machine) ∙ c.in_ok-slowed.ensures.within)
    (c.in_ok-slowed.ensures.ok ∙ ap (slow c.args.contexts) c.requires.machine)
    c.in-Err.ensures.cause)
