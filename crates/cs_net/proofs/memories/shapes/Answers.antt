use Rattle.std.proofs.Common.{◌∙◌, ap, sym}
use Rattle.cs_modules.specs.Memories.{shape_of}
use Rattle.cs_modules.specs.Modules.{cells_in}
use Rattle.std.proofs.Common.{map, drop, ◌+◌, ◌∷◌, ◌++◌, []}
use Rattle.cs_modules.proofs.MadeLists.{next_mapped}
use Rattle.cs_conditions.proofs.MemoryRules.{cells_from, right_here, right_later}
use Rattle.cs_net.proofs.memories.shapes.Goals as goal

pub shape-requires : goal.shape-requires
shape-requires c =
    right_here c.as_slice-cell-items.result.now c.loop-cell.cell-index c.cell-item.result c.loop-cell-test.true c.cell-item.is
    (sym c.is_scope.ensures ∙ c.if-is_scope.false) c.loop-cell.invariant.1

pub loop-cell-preserved : goal.loop-cell-preserved
loop-cell-preserved c =
    let cells = c.as_slice-cell-items.result.now in
    let i = c.loop-cell.cell-index in
    let cell = c.cell-item.result in
    let kept = sym c.is_scope.ensures ∙ c.if-is_scope.false in
    let first = cells_from cells i cell c.loop-cell-test.true c.cell-item.is kept in (
      next_mapped shape_of cell (cells_in (drop i cells)) (cells_in (drop (i + 1) cells)) c.loop-cell.shapes c.push.new.self
          (map shape_of (cells_in cells)) first c.loop-cell.invariant.0
          (c.in_ok-push.ensures.ok ∙ ap (λ s. c.loop-cell.shapes ++ s ∷ []) c.in_ok-shape.ensures),
      right_later cells i cell c.loop-cell-test.true c.cell-item.is kept c.loop-cell.invariant.1,
    )
