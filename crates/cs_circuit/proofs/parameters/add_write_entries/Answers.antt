use Rattle.std.proofs.Common.{ap, codes}
use Rattle.std.proofs.lemmas.Result.{on_ok_weaker}
use Rattle.cs_circuit.specs.Cells.{text_entry}
use Rattle.cs_circuit.proofs.Loops.{behind, behind_as}
use Rattle.cs_circuit.proofs.parameters.add_write_entries.Goals as goal

pub returns : goal.returns
returns c =
    on_ok_weaker c.add_zeros.result
    (λ last.
    behind_as _ _ _ _ _ _ (ap (text_entry (codes "WR_CLK_ENABLE")) c.in_ok-ones.ensures) c.in_ok-add_text.ensures
    (behind_as _ _ _ _ _ _ (ap (text_entry (codes "WR_CLK_POLARITY")) c.in_ok-edges.ensures) c.in_ok-add_text-2.ensures
    (behind _ _ _ _ _ c.in_ok-add_number.ensures
    (behind_as _ _ _ _ _ _ (ap (text_entry (codes "WR_PRIORITY_MASK")) c.in_ok-mask.ensures) c.in_ok-add_text-3.ensures last))))
    c.add_zeros.ensures
