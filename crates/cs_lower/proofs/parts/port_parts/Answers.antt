use Rattle.std.proofs.Common.{[], ap, ◌∙◌, ◌∷◌}
use Rattle.cs_graph.specs.declared.vertex.VertexKind.TheVariants.{Host}
use Rattle.cs_lower.specs.Taps.{piece, with_pieces}
use Rattle.cs_lower.proofs.PushedPorts.{ports_are}
use Rattle.cs_lower.proofs.parts.port_parts.Goals as goal

pub returns : goal.returns
returns c =
    ports_are c.args.net.now c.as_slice.result.now c.as_slice-2.result.now c.new-parts.result c.push.new.self
    c.push_inputs.new.parts c.push_outputs.new.parts (c.as_slice.ensures.value ∙ c.in_ok-inputs.ensures)
    (c.as_slice-2.ensures.value ∙ c.in_ok-outputs.ensures) c.new-parts.ensures
    (c.in_ok-push.ensures.pushed ∙ ap (λ p. with_pieces c.new-parts.result (p ∷ [])) (c.new-2.ensures ∙ ap (piece Host) c.new.ensures))
    c.in_ok-push_inputs.ensures c.in_ok-push_outputs.ensures
