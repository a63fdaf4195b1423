-- Where all is kept the labels are settled; a loop of parents leaves no solution.
use Rattle.std.proofs.Common.{sym, subst}
use Rattle.cs_diff.specs.Labels.{KeepAll}
use Rattle.cs_diff.proofs.LabelLemmas.{lowered_more}
use Rattle.cs_diff.proofs.LoopLemmas.{parent_loop, too_low}
use Rattle.cs_diff.proofs.SettleLemmas.{forest_now, settled}
use Rattle.cs_diff.proofs.settle.settle_from.Goals as goal

pub returns-in-Kept-clause-ok : goal.returns-in-Kept-clause-ok
returns-in-Kept-clause-ok c =
    let d = c.args.reading in
    let s = c.args.sys.now in
    let lowered = lowered_more d s.constraints c.args.labels.now c.loop-vertex.labels
    c.pass.new.labels c.args.parents.now c.loop-vertex.parents c.pass.new.parents
    c.loop-vertex.invariant.lowered c.in-Kept.ensures.lowered in
    let kept = subst (KeepAll d s.constraints) (sym c.in-Kept.ensures.outcome.0)
    c.in-Kept.ensures.outcome.1 in
    settled d s.constraints s.vertices c.args.labels.now c.pass.new.labels c.args.parents.now
    c.pass.new.parents c.requires.starts c.requires.fresh lowered kept

pub loop_above-requires-clause-endless : goal.loop_above-requires-clause-endless
loop_above-requires-clause-endless c =
    let d = c.args.reading in
    let s = c.args.sys.now in
    let lowered = lowered_more d s.constraints c.args.labels.now c.loop-vertex.labels
    c.pass.new.labels c.args.parents.now c.loop-vertex.parents c.pass.new.parents
    c.loop-vertex.invariant.lowered c.in-TooLow.ensures.lowered in
    let forest = forest_now d s.constraints s.vertices c.args.labels.now c.pass.new.labels
    c.args.parents.now c.pass.new.parents c.requires.starts c.requires.fresh lowered in
    too_low d s.constraints c.pass.new.labels c.pass.new.parents s.vertices c.in-TooLow.vertex
    forest s.in_range c.in-TooLow.ensures.outcome.1

pub returns-in-TooLow-clause-err : goal.returns-in-TooLow-clause-err
returns-in-TooLow-clause-err c =
    let d = c.args.reading in
    let s = c.args.sys.now in
    let lowered = lowered_more d s.constraints c.args.labels.now c.loop-vertex.labels
    c.pass.new.labels c.args.parents.now c.loop-vertex.parents c.pass.new.parents
    c.loop-vertex.invariant.lowered c.in-TooLow.ensures.lowered in
    let forest = forest_now d s.constraints s.vertices c.args.labels.now c.pass.new.labels
    c.args.parents.now c.pass.new.parents c.requires.starts c.requires.fresh lowered in
    parent_loop d s.constraints c.pass.new.labels c.pass.new.parents _ forest
    c.in_ok-places-in-TooLow.ensures

pub returns-in-Some-clause-err : goal.returns-in-Some-clause-err
returns-in-Some-clause-err c =
    let d = c.args.reading in
    let s = c.args.sys.now in
    let lowered = lowered_more d s.constraints c.args.labels.now c.loop-vertex.labels
    c.pass.new.labels c.args.parents.now c.loop-vertex.parents c.pass.new.parents
    c.loop-vertex.invariant.lowered c.in-Lowered.ensures.lowered in
    let forest = forest_now d s.constraints s.vertices c.args.labels.now c.pass.new.labels
    c.args.parents.now c.pass.new.parents c.requires.starts c.requires.fresh lowered in
    let found = rw c.in-Some.is at c.in_ok-places.ensures in
    parent_loop d s.constraints c.pass.new.labels c.pass.new.parents _ forest found
