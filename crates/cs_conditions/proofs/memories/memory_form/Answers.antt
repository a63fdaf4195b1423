use Rattle.std.proofs.Common.{◌≡◌, ◌∙◌, MatchOption, Some, false, subst, sym, true}
use Rattle.cs_conditions.specs.Conditions.{broken_rule, is_misformed}
use Rattle.cs_conditions.proofs.MemoryRules.{found_later, right_here, right_later}
use Rattle.cs_conditions.proofs.memories.memory_form.Goals as goal

pub misformed-requires-clause-right : goal.misformed-requires-clause-right
misformed-requires-clause-right c =
    right_here c.as_slice-cell-items.result.now c.loop-cell.cell-index c.cell-item.result c.loop-cell-test.true c.cell-item.is
    (sym c.is_scope.ensures ∙ c.if-is_scope.false) c.loop-cell.invariant.1

pub loop-cell-preserved : goal.loop-cell-preserved
loop-cell-preserved c =
    let cells = c.as_slice-cell-items.result.now in
    let i = c.loop-cell.cell-index in
    let cell = c.cell-item.result in
    let top = c.args.top.now in
    let kept = sym c.is_scope.ensures ∙ c.if-is_scope.false in
    let well = subst (λ found. MatchOption found (is_misformed top cell ≡ false)
    (λ error. (is_misformed top cell ≡ true) × (broken_rule top cell ≡ Some error))) c.in_default.is c.in_ok-error.ensures in (
      found_later cells i cell c.loop-cell-test.true c.cell-item.is kept (is_misformed top) well ∙ c.loop-cell.invariant.0,
      right_later cells i cell c.loop-cell-test.true c.cell-item.is kept c.loop-cell.invariant.1,
    )
