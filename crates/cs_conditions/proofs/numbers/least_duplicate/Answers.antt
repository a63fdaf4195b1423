use Rattle.std.proofs.Common.{◌≡◌, ◌∙◌, get_or, arith, Bool, true, false, not, sym, ap, Some}
use Rattle.std.specs.Prelude.{min, unwrap_or}
use Rattle.std.proofs.lemmas.Grind.{common_steps}
use Rattle.cs_conditions.proofs.Duplicates.{least-duplicates-take}
use Rattle.cs_conditions.proofs.numbers.least_duplicate.Goals as goal
use Rattle.cs_conditions.proofs.numbers.least_duplicate.Goals.{then-not-branch, else-not-branch}

-- a number is new exactly where the set lacks it
was_there : (added seen has : Bool) → added ≡ not seen → seen ≡ has → added ≡ false → has ≡ true
was_there added true has e f g = sym f
was_there added false has e f g = absurd (cc)

was_new : (added seen has : Bool) → added ≡ not seen → seen ≡ has → added ≡ true → has ≡ false
was_new added true has e f g = absurd (cc)
was_new added false has e f g = sym f

pub loop-number-preserved : goal.loop-number-preserved
loop-number-preserved c =
    let i = c.loop-number.number-index in
    let xs = c.args.numbers.now in
    let n = get_or xs i 0 in
    let added = c.in_ok-insert.ensures.added in
    let seen = c.loop-number.invariant.seen n in
    record {
      seen = λ b. grind (arith, common_steps, c.loop-number.invariant.seen b);
      found = elim c.if-not-branch.branch [
        | then-not-branch w ↦
            w.least-is ∙ ap Some w.lesser.ensures
            ∙ ap (λ found. Some (min n (unwrap_or found n))) c.loop-number.invariant.found
            ∙ sym (least-duplicates-take xs i true c.loop-number-test.true (was_there _ _ _ added seen w.if-not-branch.true))
        | else-not-branch w ↦
            w.least-is ∙ c.loop-number.invariant.found
            ∙ sym (least-duplicates-take xs i false c.loop-number-test.true (was_new _ _ _ added seen w.if-not-branch.false))
      ];
    }
