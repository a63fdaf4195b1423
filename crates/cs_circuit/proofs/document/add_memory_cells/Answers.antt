use Rattle.std.proofs.Common.{ap, get_or, rules, ◌∙◌}
use Rattle.cs_circuit.specs.MemoryCells.{memory_cell}
use Rattle.cs_circuit.proofs.Loops.{one_more_listed}
use Rattle.cs_circuit.proofs.document.add_memory_cells.Goals as goal

pub loop-i-preserved : goal.loop-i-preserved
loop-i-preserved c =
    one_more_listed (memory_cell c.args.circuit.now.clock) c.loop-i.i c.memory-item.result c.in_ok-memory_cell.field-0
    c.args.circuit.now.memories c.loop-i.cells.items c.push.new.self.items _ (search rules)
    (c.memory-item.is ∙ ap (λ memories. get_or memories c.loop-i.i c.memory-item.result) c.as_slice-memory-items.ensures)
    c.in_ok-memory_cell.ensures c.loop-i.invariant c.in_ok-push.ensures.items
