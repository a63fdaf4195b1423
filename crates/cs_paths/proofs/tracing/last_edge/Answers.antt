-- Pin by pin.
use Rattle.std.proofs.Common.{◌≡◌, ◌≤◌, sym, ap, ◌∙◌, subst, inl, inr, arith}
use Rattle.std.proofs.lemmas.Bool.{cases_lt}
use Rattle.std.proofs.lemmas.Option.{slice_get_within, slice_get-get_or, get_or_from_slice_get}
use Rattle.std.specs.Prelude.{Some, slice_get}
use Rattle.cs_graph.specs.declared.vertex.Feed.TheVariants.{Edge as Along}
use Rattle.cs_paths.specs.Traces.{Attains}
use Rattle.cs_paths.proofs.TraceLemmas.{leads_to, named_by, same_edge}
use Rattle.cs_paths.proofs.tracing.last_edge.Goals as goal
use Rattle.cs_paths.proofs.tracing.last_edge.Goals.{in-Edge+else-attains, in_default}

pub returns-then-attains-clause-some : goal.returns-then-attains-clause-some
returns-then-attains-clause-some c =
    let pins = c.as_slice-pins.result.now in
    leads_to c.args.machine.now c.args.delays.now c.args.row.now c.args.v c.loop-pin.pin c.in-Edge.e c.args.at
    c.vertex.result.now pins c.keeps.ensures.well_formed.fed c.vertex.ensures c.as_slice-pins.ensures
    (slice_get-get_or pins c.loop-pin.pin _ c.loop-pin-test.true ∙ ap Some c.in-Edge.is)
    c.if-attains.ensures.yes

pub loop-pin-preserved : goal.loop-pin-preserved
loop-pin-preserved c i e low at has =
    let g = c.args.machine.now in
    let pins = c.as_slice-pins.result.now in
    let here : c.loop-pin.pin ≤ i → slice_get pins c.loop-pin.pin ≡ Some (Along e) =
    λ more. ap (slice_get pins) (omega (arith, low, more)) ∙ at in
    elim (cases_lt i c.loop-pin.pin) [
      | inl less ↦ c.loop-pin.invariant i e less at has
      | inr more ↦
          elim c.match-pins-pin.branch [
            | in-Edge+else-attains w ↦
                let which = same_edge w.in-Edge.e e
                (sym w.in-Edge.is ∙ get_or_from_slice_get pins c.loop-pin.pin (Along e) _ (here more)) in
                w.if-attains.ensures.no (subst (Attains g c.args.delays.now c.args.row.now c.args.at) (sym which) has)
            | in_default w ↦
                w.in_default.not-Edge e (get_or_from_slice_get pins c.loop-pin.pin (Along e) _ (here more))
          ]
    ]

pub returns-clause-none : goal.returns-clause-none
returns-clause-none c e last =
    let pins = c.as_slice-pins.result.now in
    let at = named_by c.args.machine.now c.args.delays.now c.args.row.now c.args.v e c.args.at c.vertex.result.now
    pins c.keeps.ensures.well_formed.fed c.vertex.ensures c.as_slice-pins.ensures last in
    let within = slice_get_within pins last.attains.edge.pin _ at in
    c.loop-pin.invariant last.attains.edge.pin e (omega (arith, within, c.loop-pin-test.false)) at last.attains
