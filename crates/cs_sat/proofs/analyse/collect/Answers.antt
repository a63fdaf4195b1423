-- The first unique implication point's literal comes first, and then one place more.
use Rattle.std.proofs.Common.{◌≡◌, [], ◌∷◌, ◌++◌, Some, length, take, refl, subst, arith, rules, ◌∙◌, ap}
use Rattle.std.specs.List.{slice_get}
use Rattle.std.proofs.lemmas.Option.{slice_get_read}
use Rattle.cs_sat.specs.Analyses.{IsCollected}
use Rattle.cs_sat.proofs.Analyses.{marking_within, next_item}
use Rattle.cs_sat.proofs.Learning.{collected_first}
use Rattle.cs_sat.proofs.analyse.collect.Goals as goal

pub loop-place-init : goal.loop-place-init
loop-place-init c =
    let steps = c.args.trail.now.steps.items in
    let s = c.index.result.now in
    let within = marking_within c.args.trail.now c.args.level c.args.at c.args.at c.args.marks.now c.requires.marking c.requires.marking.low in
    let found : slice_get steps c.args.at ≡ Some s = slice_get_read steps (length steps) c.args.at s refl within c.index.ensures in
    let lits : c.push.new.self.items ≡ c.negated-first.result ∷ [] =
    c.in_ok-push.ensures.items ∙ ap (λ xs. xs ++ c.negated-first.result ∷ []) c.new-lits.ensures.items in
    collected_first c.args.trail.now c.args.marks.now c.args.level c.args.at s _ found c.negated-first.ensures lits refl
    c.requires.decided

pub loop-place-preserved : goal.loop-place-preserved
loop-place-preserved c =
    subst (λ xs. IsCollected c.args.trail.now c.args.marks.now c.args.level c.args.at xs c.take.new.self)
    (next_item c.args.marks.now.touched.items c.loop-place.place-index _ (omega arith) (search rules))
    (c.in_ok-take.ensures c.args.level (take c.loop-place.place-index c.args.marks.now.touched.items) c.requires.marking
    c.loop-place.invariant)
