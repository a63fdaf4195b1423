-- One relaxation more, and the end of the pass.
use Rattle.std.proofs.Common.{◌≡◌, sym, subst, arith}
use Rattle.cs_diff.specs.Labels.{AreInRange}
use Rattle.cs_diff.proofs.LabelLemmas.{lowered_more}
use Rattle.cs_diff.proofs.PassLemmas.{passed_kept, passed_lowered, keep_all}
use Rattle.cs_diff.proofs.relax.pass.Goals as goal
use Rattle.cs_diff.proofs.relax.pass.Goals.{in-Kept, in-Lowered}

pub loop-turn-preserved : goal.loop-turn-preserved
loop-turn-preserved c =
    let d = c.args.reading in
    let cs = c.args.sys.now.constraints in
    let n = c.args.sys.now.vertices in
    let i = c.loop-turn.invariant in
    let before = c.loop-turn.labels in
    let after = c.relax.new.labels in
    let lowered = lowered_more d cs c.args.labels.now before after c.args.parents.now
    c.loop-turn.parents c.relax.new.parents i.lowered c.relax.ensures.lowered in
    elim c.match-relax.branch [
      | in-Kept w ↦
          let same : after ≡ before = w.in-Kept.ensures.outcome.0 in
          record {
            lowered = lowered;
            range = subst (AreInRange n) (sym same) i.range;
            passed = rw w.changed-is (passed_kept d cs c.args.back n c.args.labels.now before after
                c.loop-turn.turn c.loop-turn.changed i.passed same
                (rw (← c.turn.ensures) w.in-Kept.ensures.outcome.1));
          }
      | in-Lowered w ↦
          record {
            lowered = lowered;
            range = w.in-Lowered.ensures.outcome.0;
            passed = rw w.changed-is (passed_lowered d cs c.args.back n c.args.labels.now before
                after c.loop-turn.turn c.loop-turn.changed i.passed w.in-Lowered.ensures.outcome.1);
          }
    ]

pub returns-else-changed-clause-outcome : goal.returns-else-changed-clause-outcome
returns-else-changed-clause-outcome c =
    let d = c.args.reading in
    let cs = c.args.sys.now.constraints in
    let passed = rw c.if-changed.false at c.loop-turn.invariant.passed in
    (passed.0, keep_all d cs c.args.back c.args.labels.now c.loop-turn.turn (omega arith) passed.1)
