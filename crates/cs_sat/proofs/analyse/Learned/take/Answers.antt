-- The place is passed, or its literal is taken in.
use Rattle.std.proofs.Common.{◌≡◌, ◌<◌, inl, inr, Some, length, refl, sym, arith, ◌∙◌, ap, ◌++◌, [], ◌∷◌}
use Rattle.std.specs.List.{slice_get}
use Rattle.std.proofs.lemmas.Option.{slice_get_read}
use Rattle.cs_base.specs.Derivations.{negated}
use Rattle.cs_sat.proofs.Analyses.{marked_within, not_both}
use Rattle.cs_sat.proofs.Learning.{collected_passed, collected_more}
use Rattle.cs_sat.proofs.analyse.Learned.take.Goals as goal
use Rattle.cs_sat.proofs.analyse.Learned.take.Goals.{then-place-at-via-then-place-at, then-place-at-via-else-place-at+then-place-len, then-place-at-via-else-place-at+else-place-len+then-not-is_marked}

pub returns-then-place-at : goal.returns-then-place-at
returns-then-place-at c level places marking so_far =
    elim c.then-place-at.branch [
      | then-place-at-via-then-place-at w ↦
          collected_passed c.args.trail.now c.args.marks.now level c.args.at places c.args.place c.args.self.now c.requires.trail
          (inl w.if-place-at.true) so_far
      | then-place-at-via-else-place-at+then-place-len w ↦
          collected_passed c.args.trail.now c.args.marks.now level c.args.at places c.args.place c.args.self.now c.requires.trail
          (inr (λ at. let within = marked_within c.args.trail.now level c.args.at c.args.at c.args.marks.now c.args.place marking at in
          absurd (omega arith))) so_far
      | then-place-at-via-else-place-at+else-place-len+then-not-is_marked w ↦
          collected_passed c.args.trail.now c.args.marks.now level c.args.at places c.args.place c.args.self.now c.requires.trail
          (inr (λ at. not_both _ (sym w.is_marked.ensures ∙ w.if-not-is_marked.true) at)) so_far
    ]

pub returns-then-self-step : goal.returns-then-self-step
returns-then-self-step c level places marking so_far =
    let s = c.index-step.result.now in
    let steps = c.args.trail.now.steps.items in
    let within : c.args.place < length steps = omega arith in
    let found : slice_get steps c.args.place ≡ Some s = slice_get_read steps (length steps) c.args.place s refl within c.index-step.ensures in
    let lits : c.push.new.self.items ≡ c.args.self.now.lits.items ++ negated s.lit ∷ [] =
    c.in_ok-push.ensures.items ∙ ap (λ l. c.args.self.now.lits.items ++ l ∷ []) c.negated.ensures in
    collected_more c.args.trail.now c.args.marks.now level c.args.at places c.args.place s c.args.self.now _ c.requires.trail
    marking found (sym c.is_marked.ensures ∙ c.if-not-is_marked.false) c.if-place-at.false lits refl
    (inl (c.if-self-step.true, refl)) so_far

pub returns-else-self-step : goal.returns-else-self-step
returns-else-self-step c level places marking so_far =
    let s = c.index-step.result.now in
    let steps = c.args.trail.now.steps.items in
    let within : c.args.place < length steps = omega arith in
    let found : slice_get steps c.args.place ≡ Some s = slice_get_read steps (length steps) c.args.place s refl within c.index-step.ensures in
    let lits : c.push.new.self.items ≡ c.args.self.now.lits.items ++ negated s.lit ∷ [] =
    c.in_ok-push.ensures.items ∙ ap (λ l. c.args.self.now.lits.items ++ l ∷ []) c.negated.ensures in
    collected_more c.args.trail.now c.args.marks.now level c.args.at places c.args.place s c.args.self.now _ c.requires.trail
    marking found (sym c.is_marked.ensures ∙ c.if-not-is_marked.false) c.if-place-at.false lits refl
    (inr (c.if-self-step.false, refl)) so_far
