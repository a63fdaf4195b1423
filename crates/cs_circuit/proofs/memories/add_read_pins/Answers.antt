use Rattle.std.proofs.Common.{ap, codes, false, true}
use Rattle.std.proofs.lemmas.Result.{on_ok_weaker}
use Rattle.cs_circuit.specs.Cells.{pin}
use Rattle.cs_circuit.proofs.Loops.{behind, behind_as}
use Rattle.cs_circuit.proofs.memories.add_read_pins.Goals as goal

pub returns : goal.returns
returns c =
    on_ok_weaker c.add_same-4.result
    (λ last.
    behind_as _ _ _ _ _ _ (ap (λ bits. pin (codes "RD_ADDR") bits false) c.in_ok-addresses.ensures) c.in_ok-add_pin.ensures
    (behind _ _ _ _ _ c.in_ok-add_same.ensures
    (behind _ _ _ _ _ c.in_ok-add_same-2.ensures
    (behind_as _ _ _ _ _ _ (ap (λ bits. pin (codes "RD_DATA") bits true) c.in_ok-data.ensures) c.in_ok-add_pin-2.ensures
    (behind _ _ _ _ _ c.in_ok-add_same-3.ensures last)))))
    c.add_same-4.ensures
