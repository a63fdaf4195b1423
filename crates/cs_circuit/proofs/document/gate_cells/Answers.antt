use Rattle.std.proofs.Common.{ap, arith, get_or, rules, subst, ◌∙◌, ◌<◌, ◌^◌}
use Rattle.std.proofs.lemmas.Grind.{common_steps}
use Rattle.std.proofs.lemmas.List.Elements.{All-more}
use Rattle.cs_circuit.specs.declared.circuit.GatePart.{GatePart}
use Rattle.cs_circuit.proofs.document.gate_cells.Goals as goal

pub loop-gate-preserved : goal.loop-gate-preserved
loop-gate-preserved c = record {
  cells = grind (arith, common_steps);
  numbers = All-more (λ (gate : GatePart). gate.number < 2 ^ 64) c.args.circuit.now.gates c.loop-gate.gate-index
      c.gate-item.result (search rules) c.loop-gate.invariant.numbers
      (subst (λ (gate : GatePart). gate.number < 2 ^ 64)
      (c.gate-item.is ∙ ap (λ gates. get_or gates c.loop-gate.gate-index c.gate-item.result) c.as_slice-gate-items.ensures)
      c.in_ok-gate_cell.ensures.fits);
}
