-- One vertex more.
use Rattle.std.proofs.Common.{◌≡◌, ◌∙◌, ◌++◌, [], ◌∷◌, List, Some, sym, ap, subst}
use Rattle.std.specs.Prelude.{filter_map, slice_get}
use Rattle.cs_circuit.specs.declared.circuit.GatePart.{GatePart}
use Rattle.cs_share.specs.Planned.{planned_gate}
use Rattle.cs_share.proofs.Numbered.{given_more}
use Rattle.cs_share.proofs.gates.gate_parts.Goals as goal

pub loop-v-preserved : goal.loop-v-preserved
loop-v-preserved c =
    let g = c.args.machine.now in
    let x = c.vertex.result.now in
    let tables = c.args.tables.now in
    let f = planned_gate tables.origins.now tables.numbers.now tables.signals.now in
    let found = subst (λ u. slice_get g.vertices u ≡ Some x) c.new.ensures c.vertex.ensures in
    c.in_ok-push_gate.ensures
    ∙ ap (λ (gates : List GatePart). gates ++ filter_map f ((c.loop-v.v, x) ∷ [])) c.loop-v.invariant
    ∙ sym (given_more f g.vertices c.loop-v.v x found)
