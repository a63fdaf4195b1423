use Rattle.std.proofs.Common.{◌≡◌, ◌∷◌, [], drop, map}
use Rattle.cs_graph.specs.declared.vertex.VertexKind.TheVariants.{Output}
use Rattle.cs_lower.specs.declared.taps.Tap.TheVariants.{Signal as of_signal}
use Rattle.cs_lower.specs.Taps.{piece, with_pieces}
use Rattle.cs_lower.proofs.parts.push_outputs.Given as goal

abbrev pub invariant-loop-signal : goal.invariant-loop-signal
invariant-loop-signal l =
    with_pieces l.parts (map (λ s. piece Output (of_signal s ∷ [])) (drop l.signal-index l.outputs))
    ≡ with_pieces l.fn.parts (map (λ s. piece Output (of_signal s ∷ [])) l.outputs)
