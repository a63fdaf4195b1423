-- A conflict that no decision caused gives the empty clause.
use Rattle.std.proofs.Common.{◌++◌, sym, subst, arith, ap}
use Rattle.std.specs.List.{Contains}
use Rattle.cs_base.proofs.ListLemmas.{at_contains}
use Rattle.cs_sat.specs.declared.trail.Step.{Step as Set}
use Rattle.cs_sat.proofs.Analyses.{same_step}
use Rattle.cs_sat.proofs.Learning.{latest_within, latest_read}
use Rattle.cs_sat.proofs.Searches.{conflict_empty, conflict_low}
use Rattle.cs_sat.proofs.search.learn_from.Goals as goal

pub returns-in_default-latest-clause-outcome : goal.returns-in_default-latest-clause-outcome
returns-in_default-latest-clause-outcome c =
    conflict_empty (c.args.base.now ++ c.args.lines.now) c.in-Some.clause.now c.args.number c.in-Some.ensures.some
    (λ lit has. c.in_default-latest.ensures lit (subst (λ xs. Contains xs lit) (sym c.as_slice-lits.ensures) has))

pub index-requires : goal.index-requires
index-requires c =
    let within = latest_within c.args.trail.now.steps.items c.as_slice-lits.result.now c.in-Some-latest.top c.in-Some-latest.ensures in
    omega arith

pub returns-then-index-eq0-clause-outcome : goal.returns-then-index-eq0-clause-outcome
returns-then-index-eq0-clause-outcome c =
    let steps = c.args.trail.now.steps.items in
    let found = latest_read steps c.as_slice-lits.result.now c.in-Some-latest.top c.index.result.now c.in-Some-latest.ensures
    c.index.ensures in
    conflict_low (c.args.base.now ++ c.args.lines.now) c.args.trail.now c.in-Some.clause.now c.args.number c.in-Some-latest.top
    c.index.result.now c.requires.over c.in-Some.ensures.some found c.if-index-eq0.true
    (λ lit has. c.in-Some-latest.ensures.1 lit (subst (λ xs. Contains xs lit) (sym c.as_slice-lits.ensures) has))

pub analyse-requires-clause-among : goal.analyse-requires-clause-among
analyse-requires-clause-among c = (
  c.in-Some.clause.now,
  at_contains (c.args.base.now ++ c.args.lines.now) c.args.number c.in-Some.clause.now c.in-Some.ensures.some,
  sym c.as_slice-lits.ensures,
)

pub analyse-requires-clause-decided : goal.analyse-requires-clause-decided
analyse-requires-clause-decided c s found =
    let steps = c.args.trail.now.steps.items in
    let read = latest_read steps c.as_slice-lits.result.now c.in-Some-latest.top c.index.result.now c.in-Some-latest.ensures
    c.index.ensures in
    let one = ap (λ (x : Set). x.level) (same_step steps c.in-Some-latest.top c.index.result.now s read found) in
    let some = c.if-index-eq0.false in
    omega arith
