use Rattle.std.proofs.Common.{◌∙◌, ap, Some, None, not}
use Rattle.cs_conditions.specs.declared.error.NetError.TheVariants.{MixedEdges}
use Rattle.cs_modules.specs.Signals.{same}
use Rattle.cs_conditions.proofs.FirstErrors.{first_pin_error}
use Rattle.cs_modules.proofs.Connections.{name_at}
use Rattle.cs_conditions.proofs.clocks.mixed_edges.Goals as goal

pub returns-in-None : goal.returns-in-None
returns-in-None c =
    first_pin_error (λ p. not (same p.rising c.args.clock.rising)) (λ p. MixedEdges p.cell) c.args.top.now.cells c.args.pins.now None c.requires c.in-None.ensures

pub returns-in_ok-name_at-in-Some : goal.returns-in_ok-name_at-in-Some
returns-in_ok-name_at-in-Some c =
    ap (λ name. Some (MixedEdges name)) c.in_ok-name_at-in-Some.ensures
    ∙ ap (λ cells. Some (MixedEdges (name_at cells c.in-Some.pin.cell))) c.as_slice.ensures
    ∙ first_pin_error (λ p. not (same p.rising c.args.clock.rising)) (λ p. MixedEdges p.cell) c.args.top.now.cells c.args.pins.now (Some c.in-Some.pin) c.requires c.in-Some.ensures
