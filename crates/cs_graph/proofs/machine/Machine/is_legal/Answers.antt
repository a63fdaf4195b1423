-- Lags and weights together.
use Rattle.std.proofs.Common.{length, refl, sym, ap, ◌∙◌, subst, arith}
use Rattle.cs_graph.specs.declared.graph.Graph.{Graph}
use Rattle.cs_graph.proofs.LagLemmas.{LagsAre, WeightsAre, legal_both, legal_parts}
use Rattle.cs_graph.proofs.machine.Machine.is_legal.Goals as goal

pub are_legal_lags-requires : goal.are_legal_lags-requires
are_legal_lags-requires c =
    let few = c.self.invariant.0.limits.vertices in
    let same = ap length c.as_slice.ensures in
    omega (arith, few, same)

pub returns-then-are_legal_lags : goal.returns-then-are_legal_lags
returns-then-are_legal_lags c =
    let g = c.args.self.now in
    let mode = c.args.mode in
    let lags = c.args.lags.now in
    let vertices = c.as_slice.ensures ∙ ap (λ (g : Graph). g.vertices) c.self.view_is in
    let edges = c.as_slice-then-are_legal_lags.ensures ∙ ap (λ (g : Graph). g.edges) c.self.view_is in
    let each = subst (λ vs. LagsAre vs mode lags) vertices (c.if-are_legal_lags.ensures.0 refl) in (
      λ yes. legal_both g mode lags c.requires.count each (subst (λ es. WeightsAre es lags) edges
          (c.are_weights.ensures.0 yes)),
      λ legal. c.are_weights.ensures.1 (subst (λ es. WeightsAre es lags) (sym edges) (legal_parts g mode lags
          legal).1),
    )

pub returns-else-are_legal_lags : goal.returns-else-are_legal_lags
returns-else-are_legal_lags c =
    let g = c.args.self.now in
    let mode = c.args.mode in
    let lags = c.args.lags.now in
    let vertices = c.as_slice.ensures ∙ ap (λ (g : Graph). g.vertices) c.self.view_is in (
      λ yes. cc,
      λ legal. c.are_legal_lags.ensures.1 (subst (λ vs. LagsAre vs mode lags) (sym vertices)
          (legal_parts g mode lags legal).0),
    )
