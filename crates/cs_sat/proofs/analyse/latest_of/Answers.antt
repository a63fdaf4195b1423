-- The later one of two places.
use Rattle.std.proofs.Common.{inl, inr, subst, arith}
use Rattle.std.proofs.lemmas.Bool.{cases_lt}
use Rattle.cs_sat.specs.Analyses.{IsLatest}
use Rattle.cs_sat.proofs.Analyses.{false_step}
use Rattle.cs_sat.proofs.Learning.{latest_more, latest_first}
use Rattle.cs_sat.proofs.analyse.latest_of.Goals as goal

pub returns-in-Some-top : goal.returns-in-Some-top
returns-in-Some-top c lits is =
    let trail = c.args.trail.now in
    let step = false_step trail c.args.lit c.in-Some.setting c.requires.trail c.requires.falsified c.in-Some.ensures in
    latest_more trail.steps.items lits c.args.lit c.in-Some-top.place c.max.result c.in-Some.setting.place step
    (elim (cases_lt c.in-Some-top.place c.in-Some.setting.place) [
      | inl lt ↦ inr (omega arith, omega arith)
      | inr ge ↦ inl (omega arith, omega arith)
    ])
    (subst (IsLatest trail.steps.items lits) c.in-Some-top.is is)

pub returns-in-None : goal.returns-in-None
returns-in-None c lits is =
    let trail = c.args.trail.now in
    let step = false_step trail c.args.lit c.in-Some.setting c.requires.trail c.requires.falsified c.in-Some.ensures in
    latest_first trail.steps.items lits c.args.lit c.in-Some.setting.place step
    (subst (IsLatest trail.steps.items lits) c.in-None.is is)
