-- One constraint more, and the end of the pass.
use Rattle.std.proofs.Common.{◌≡◌, length, ◌∙◌, arith}
use Rattle.cs_diff.proofs.StepLemmas.{extended_taken, extended_more, below_kept, below_taken, below_end}
use Rattle.cs_diff.proofs.steps.step_pass.Goals as goal
use Rattle.cs_diff.proofs.steps.step_pass.Goals.{then-branch, else-branch}

pub loop-turn-preserved : goal.loop-turn-preserved
loop-turn-preserved c =
    let s = c.args.sys.now in
    let labels = c.args.labels.now in
    let i = c.loop-turn in
    let n = c.take_step.new in
    let took = c.in_ok-take_step.ensures in
    let len : length i.reached ≡ s.vertices = i.auto.reached ∙ c.requires.reached_len in
    let now = extended_taken s labels c.turn.result i.reached i.steps n.reached n.steps
    c.in_ok-take_step.field-0 len took in
    let extended = extended_more s labels c.args.reached.now i.reached n.reached c.args.steps.now
    i.steps n.steps i.invariant.extended now in
    elim c.if-branch.branch [
      | then-branch w ↦ record {
        extended = extended;
        below = rw w.stepped-is
            (below_taken s c.args.back labels c.args.reached.now i.reached n.reached i.steps n.steps
            i.turn c.turn.result i.stepped len i.invariant.below (rw w.if-branch.true at took));
      }
      | else-branch w ↦ record {
        extended = extended;
        below = rw w.stepped-is
            (below_kept s c.args.back labels c.args.reached.now i.reached n.reached i.steps n.steps
            i.turn i.stepped i.invariant.below (rw (w.if-branch.false, c.turn.ensures) at
            took));
      }
    ]

pub returns-clause-stepped : goal.returns-clause-stepped
returns-clause-stepped c =
    below_end c.args.sys.now c.args.back c.args.labels.now c.args.reached.now c.loop-turn.reached
    c.loop-turn.turn c.loop-turn.stepped (omega arith) c.loop-turn.invariant.below
