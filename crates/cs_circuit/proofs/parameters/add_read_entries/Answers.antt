use Rattle.std.proofs.lemmas.Result.{on_ok_weaker}
use Rattle.cs_circuit.proofs.Loops.{behind}
use Rattle.cs_circuit.proofs.parameters.add_read_entries.Goals as goal

pub returns : goal.returns
returns c =
    on_ok_weaker c.add_zeros-9.result
    (λ last.
    behind _ _ _ _ _ c.in_ok-add_zeros.ensures
    (behind _ _ _ _ _ c.in_ok-add_zeros-2.ensures
    (behind _ _ _ _ _ c.in_ok-add_zeros-3.ensures
    (behind _ _ _ _ _ c.in_ok-add_zeros-4.ensures
    (behind _ _ _ _ _ c.in_ok-add_zeros-5.ensures
    (behind _ _ _ _ _ c.in_ok-add_zeros-6.ensures
    (behind _ _ _ _ _ c.in_ok-add_number.ensures
    (behind _ _ _ _ _ c.in_ok-add_zeros-7.ensures
    (behind _ _ _ _ _ c.in_ok-add_zeros-8.ensures last))))))))) c.add_zeros-9.ensures
