use Rattle.std.proofs.Common.{◌≡◌, ◌⊎◌, inl, inr, length}
use Rattle.std.specs.List.{zip}
use Rattle.cs_lower.proofs.DrivenLemmas.{no_pairs}
use Rattle.cs_lower.proofs.StartLemmas.{all_pushed}
use Rattle.cs_lower.proofs.starts.start_list.Goals as goal

pub returns : goal.returns
returns c =
    let cells = c.loop-cell.cell-iterator.a.rest.now in
    let shapes = c.loop-cell.cell-iterator.b.rest.now in
    let ended : (length cells ≡ 0) ⊎ (length shapes ≡ 0) = elim c.in-None.ensures.steps [
      | inl e ↦ inl e.1.0
      | inr e ↦ inr e.1.0
    ] in
    all_pushed c.args.net.now (zip cells shapes) c.loop-cell.values.items (no_pairs cells shapes ended)
    c.loop-cell.invariant
