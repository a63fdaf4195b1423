use Rattle.std.proofs.Common.{subst, sym, ap, ◌∙◌, arith}
use Rattle.cs_sim.specs.declared.layout.Layout.{Layout}
use Rattle.cs_sim.specs.Clock.{HeldValues}
use Rattle.cs_sim.specs.Start.{Fits, held_at_start, snapshot_of}
use Rattle.cs_sim.proofs.FitLemmas.{fits_at_start}
use Rattle.cs_sim.proofs.OwnStart.{starts}
use Rattle.cs_sim.proofs.simulator.Sim.new.Goals as goal

pub invariant_of-result : goal.invariant_of-result
invariant_of-result c =
    let net = c.args.net.now in (
      c.in_ok-layout.ensures,
      c.in_ok-outputs.ensures,
      subst (λ (h : HeldValues). Fits c.in_ok-layout.layout h) (sym c.in_ok-held.ensures)
          (subst (λ (l : Layout). Fits l (held_at_start net l)) (sym c.in_ok-layout.ensures) (fits_at_start net c.keeps.ensures)),
      omega (arith, c.in_ok-values.values.ok.0, c.in_ok-values.ensures.len),
    )

pub returns-clause-start : goal.returns-clause-start
returns-clause-start c =
    let net = c.args.net.now in
    ap (λ (h : HeldValues). snapshot_of net c.in_ok-layout.layout h) c.in_ok-held.ensures
    ∙ ap (λ (l : Layout). snapshot_of net l (held_at_start net l)) c.in_ok-layout.ensures
    ∙ starts net c.keeps.ensures
