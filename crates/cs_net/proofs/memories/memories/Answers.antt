use Rattle.std.proofs.Common.{◌∙◌, ◌+◌, ◌++◌, ap, drop, filter_map, sym}
use Rattle.cs_net.specs.Build.{words_by}
use Rattle.cs_modules.specs.Modules.{cells_in}
use Rattle.cs_modules.specs.Pins.{class_at}
use Rattle.cs_modules.proofs.MadeLists.{next_kept, next_passed}
use Rattle.cs_conditions.proofs.MemoryRules.{cells_from, narrow_later, right_here, right_later}
use Rattle.cs_net.proofs.memories.memories.Goals as goal
use Rattle.cs_net.proofs.memories.memories.Goals.{in-Some+in_ok-push, in_default}

pub memory_words-requires-clause-right : goal.memory_words-requires-clause-right
memory_words-requires-clause-right c =
    right_here c.as_slice-cell-items.result.now c.loop-cell.cell-index c.cell-item.result c.loop-cell-test.true c.cell-item.is
    (sym c.is_scope.ensures ∙ c.if-is_scope.false) c.loop-cell.invariant.1

pub loop-cell-preserved : goal.loop-cell-preserved
loop-cell-preserved c =
    let cells = c.as_slice-cell-items.result.now in
    let i = c.loop-cell.cell-index in
    let cell = c.cell-item.result in
    let kept = sym c.is_scope.ensures ∙ c.if-is_scope.false in
    let first = cells_from cells i cell c.loop-cell-test.true c.cell-item.is kept in
    let xs = cells_in (drop i cells) in
    let ys = cells_in (drop (i + 1) cells) in
    let whole = filter_map (λ d. words_by (class_at d) d) (cells_in cells) in (
      elim c.match-branch-2.branch [
        | in-Some+in_ok-push w ↦
            next_kept (λ d. words_by (class_at d) d) cell w.in-Some.words xs ys c.loop-cell.memories c.match-branch-2.memories whole
            first c.loop-cell.invariant.0 (sym c.in_ok-words.ensures ∙ w.in-Some.is) (w.memories-is ∙ w.in_ok-push.ensures.ok)
        | in_default w ↦
            ap (λ made. made ++ filter_map (λ d. words_by (class_at d) d) ys) w.memories-is
            ∙ next_passed (λ d. words_by (class_at d) d) cell xs ys c.loop-cell.memories whole first c.loop-cell.invariant.0
            (sym c.in_ok-words.ensures ∙ w.in_default.is)
      ],
      right_later cells i cell c.loop-cell-test.true c.cell-item.is kept c.loop-cell.invariant.1,
      narrow_later cells i cell c.loop-cell-test.true c.cell-item.is kept c.loop-cell.invariant.2,
    )
