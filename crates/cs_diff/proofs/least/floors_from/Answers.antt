-- Settled labels of the negated values are the floors, and the root's stays 0.
use Rattle.std.proofs.Common.{◌≡◌, Option, None, length, ap, ◌∙◌}
use Rattle.std.specs.Prelude.{ℤ, pos, Some}
use Rattle.std.proofs.lemmas.List.{length-set, length-replicate}
use Rattle.cs_diff.proofs.FloorLemmas.{root_label_is, are_floors}
use Rattle.cs_diff.proofs.least.floors_from.Goals as goal

pub steps_of-requires-clause-root : goal.steps_of-requires-clause-root
steps_of-requires-clause-root c =
    let s = c.args.sys.now in
    let settled = rw c.requires.fresh at c.in_ok-settle_lower.ensures.ok in
    root_label_is s c.args.root c.requires.within c.requires.solvable c.settle_lower.new.labels
    settled

pub returns-clause-floors : goal.returns-clause-floors
returns-clause-floors c =
    let s = c.args.sys.now in
    let settled = rw c.requires.fresh at c.in_ok-settle_lower.ensures.ok in
    let same = c.settle_lower.auto.labels in
    let len : length c.settle_lower.new.labels ≡ s.vertices =
    same ∙ length-set c.args.labels.now c.args.root (Some (pos 0)) ∙ ap length c.requires.fresh ∙
    length-replicate {A = Option ℤ} s.vertices None in
    are_floors s c.args.root c.requires.within c.requires.solvable c.settle_lower.new.labels settled
    len _ c.in_ok-least.ensures c.in_ok-steps.ensures
