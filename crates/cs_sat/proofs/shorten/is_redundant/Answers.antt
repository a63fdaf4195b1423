-- All other literals of the reason are covered.
use Rattle.std.proofs.Common.{◌≡◌, ◌++◌, Some, length, refl, subst}
use Rattle.std.specs.List.{Contains, slice_get}
use Rattle.std.proofs.lemmas.Option.{slice_get_read}
use Rattle.cs_sat.specs.Analyses.{AreCovered}
use Rattle.cs_sat.proofs.Analyses.{reason_false}
use Rattle.cs_sat.proofs.shorten.is_redundant.Goals as goal

pub are_covered-requires-clause-falsified : goal.are_covered-requires-clause-falsified
are_covered-requires-clause-falsified c lit has differ =
    let trail = c.args.trail.now in
    let s = c.index-step.result.now in
    let found : slice_get trail.steps.items c.args.place ≡ Some s =
    slice_get_read trail.steps.items (length trail.steps.items) c.args.place s refl c.requires.within c.index-step.ensures in
    let clauses = c.args.base.now ++ c.args.lines.now in
    reason_false clauses trail c.args.place s c.in-Propagated.number c.in-Some.clause.now c.requires.over found c.in-Propagated.is
    c.in-Some.ensures.some lit (subst (λ xs. Contains xs lit) c.as_slice.ensures has) differ

pub returns : goal.returns
returns c is =
    let trail = c.args.trail.now in
    let s = c.index-step.result.now in
    let found : slice_get trail.steps.items c.args.place ≡ Some s =
    slice_get_read trail.steps.items (length trail.steps.items) c.args.place s refl c.requires.within c.index-step.ensures in
    let clauses = c.args.base.now ++ c.args.lines.now in
    record {
      step = s;
      found = found;
      number = c.in-Propagated.number;
      why = c.in-Propagated.is;
      clause = c.in-Some.clause.now;
      listed = c.in-Some.ensures.some;
      covered = subst (λ xs. AreCovered trail c.args.marks.now xs s.lit) c.as_slice.ensures (c.are_covered.ensures is);
    }
