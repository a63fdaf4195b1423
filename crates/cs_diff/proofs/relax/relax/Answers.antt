-- The head's label was violated, so it falls to what the constraint allows.
use Rattle.std.proofs.Common.{◌≡◌, true, rules, w64, FitsSigned}
use Rattle.std.proofs.lemmas.Int.{to_z-of_z}
use Rattle.cs_diff.specs.Labels.{tail}
use Rattle.cs_diff.proofs.LabelLemmas.{relaxed}
use Rattle.cs_diff.proofs.RangeLemmas.{range_relaxed}
use Rattle.cs_diff.proofs.relax.relax.Goals as goal

pub returns-then-is_too_low-clause-lowered : goal.returns-then-is_too_low-clause-lowered
returns-then-is_too_low-clause-lowered c =
    let fits : FitsSigned w64 c.in-Some.bound = search rules in
    relaxed c.args.reading c.args.sys.now.constraints c.args.labels.now c.args.parents.now
    c.args.place c.at-constraint.result c.head-head.result _ c.at-constraint.ensures.found
    c.head-head.ensures (search rules) (search rules)
    (rw (to_z-of_z w64 c.in-Some.bound fits) c.in-Some.ensures)
    c.if-not-is_violated.ensures.yes

pub returns-else-is_too_low-clause-lowered : goal.returns-else-is_too_low-clause-lowered
returns-else-is_too_low-clause-lowered c =
    let fits : FitsSigned w64 c.in-Some.bound = search rules in
    relaxed c.args.reading c.args.sys.now.constraints c.args.labels.now c.args.parents.now
    c.args.place c.at-constraint.result c.head-head.result _ c.at-constraint.ensures.found
    c.head-head.ensures (search rules) (search rules)
    (rw (to_z-of_z w64 c.in-Some.bound fits) c.in-Some.ensures)
    c.if-not-is_violated.ensures.yes

pub returns-else-is_too_low-clause-outcome : goal.returns-else-is_too_low-clause-outcome
returns-else-is_too_low-clause-outcome c =
    let fits : FitsSigned w64 c.in-Some.bound = search rules in
    let above = c.if-is_too_low.ensures.0 in
    range_relaxed c.args.sys.now.vertices c.args.labels.now c.head-head.result
    (tail c.args.reading c.at-constraint.result) _ c.at-constraint.result.most
    c.requires.labels_len c.requires.range (search rules)
    (λ less. let yes : c.is_too_low.result ≡ true = c.is_too_low.ensures.1 less in cc)
    (rw (to_z-of_z w64 c.in-Some.bound fits) c.in-Some.ensures)
    c.at-constraint.ensures.among.most
    c.if-not-is_violated.ensures.yes
