use Rattle.std.proofs.Common.{◌+◌, ◌∙◌, length, sym}
use Rattle.cs_prefix.specs.Layers.{progress}
use Rattle.cs_prefix.proofs.RunSteps.{TurnMade, run_below, turn_made, turns_end}
use Rattle.cs_prefix.proofs.planning.add_runs.Goals as goal

pub add_driver-requires-clause-edges : goal.add_driver-requires-clause-edges
add_driver-requires-clause-edges c =
    rw c.in_ok-edges.ensures
    (run_below (length c.args.contents.now) c.leading-count.result c.loop-done.done c.args.codes.now c.requires.edges)

pub loop-done-preserved : goal.loop-done-preserved
loop-done-preserved c =
    let l = c.loop-done in
    let turn : TurnMade c.args.contents.now c.args.codes.now l.done l.invariant.turns (progress l.layer l.ends)
    (l.done + c.leading-count.result) (progress c.add_driver.new.self c.add_driver.new.ends) =
    turn_made c.args.contents.now c.args.codes.now l.done l.invariant.turns c.leading-count.result c.driver_code_of.result
    c.driver_of.result c.in_ok-edges.edges (progress l.layer l.ends)
    (progress c.add_driver.new.self c.add_driver.new.ends)
    c.loop-done-test.true l.invariant.enough c.driver_code_of.ensures c.leading-count.ensures.count c.driver_of.ensures
    c.in_ok-edges.ensures c.in_ok-add_driver.ensures.made in
    record {
      within = turn.within;
      count = c.add_driver.ensures.ends ∙ l.invariant.count;
      turns = turn.left;
      enough = turn.enough;
      made = turn.made ∙ l.invariant.made;
    }

pub returns : goal.returns
returns c =
    let l = c.loop-done in
    record {
      made =
          turns_end c.args.contents.now l.invariant.turns l.done c.args.codes.now (progress l.layer l.ends) c.loop-done-test.false
          ∙ l.invariant.made;
      ends = l.invariant.count ∙ sym c.requires.count;
    }
