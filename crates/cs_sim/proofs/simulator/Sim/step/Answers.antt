use Rattle.std.proofs.Common.{◌≡◌, length, drop, map, subst, sym, ap, ap₂, ◌∙◌, arith}
use Rattle.std.proofs.lemmas.List.{take_at}
use Rattle.cs_net.specs.Drivers.{data_inputs}
use Rattle.cs_net.specs.Trace.{IsStep}
use Rattle.cs_sim.specs.Clock.{HeldValues, next_held, settled}
use Rattle.cs_sim.specs.Simulation.{Simulation}
use Rattle.cs_sim.specs.Slots.{value_at}
use Rattle.cs_sim.specs.Start.{Fits, snapshot_of}
use Rattle.cs_sim.proofs.ClockLemmas.{clock_of_layout}
use Rattle.cs_sim.proofs.FitLemmas.{fits_next}
use Rattle.cs_sim.proofs.simulator.Sim.step.Goals as goal

pub invariant_of-self : goal.invariant_of-self
invariant_of-self c =
    let s = c.self.inside in
    let new = c.settle.new.values in
    let long : length new ≡ s.values.len = omega (arith, s.values.ok.0) in (
      c.self.invariant.0,
      c.self.invariant.1,
      subst (λ (h : HeldValues). Fits s.layout h) (sym c.advance.ensures) (fits_next s.layout c.as_slice-4.result.now s.held c.self.invariant.2),
      ap length (take_at new (drop (length new) s.values.items) s.values.len long) ∙ omega (arith, c.self.invariant.3, s.values.ok.0),
    )

pub returns-clause-step : goal.returns-clause-step
returns-clause-step c =
    let s = c.self.inside in
    let net = s.net.now in
    let row = c.args.input.now in
    let order = c.order.result.now in
    let values = c.as_mut_slice.result.now in
    let new = c.settle.new.values in
    let long : length new ≡ s.values.len = omega (arith, s.values.ok.0) in
    let kept = take_at new (drop (length new) s.values.items) s.values.len long in
    let settles = c.settle.ensures ∙ ap (λ ps. settled s.held row ps order values) c.as_slice.ensures in
    let shows = c.show.ensures ∙ ap₂ (λ vs ks. map (value_at vs) ks) (c.as_slice-2.ensures.value ∙ kept) c.as_slice-3.ensures in
    let goes = c.advance.ensures ∙ ap (λ vs. next_held s.layout vs s.held) (c.as_slice-4.ensures.value ∙ kept) in
    let row_fits = c.requires.inputs ∙ ap (λ (x : Simulation). length (data_inputs x.net)) (sym c.self.view_is) in
    subst (λ (x : Simulation). IsStep x.net x.state (snapshot_of net s.layout c.advance.new.self) row c.show.new.output) c.self.view_is
    (clock_of_layout net c.keeps.ensures order c.order.ensures row values new c.show.new.output s.outputs s.held c.advance.new.self s.layout
    row_fits c.self.invariant.1 c.self.invariant.0 c.self.invariant.2 (ap length c.as_mut_slice.ensures.value ∙ c.self.invariant.3)
    settles shows goes)
