-- An edge that leaves a vertex: it is light, its pin is there, and it is quick.
use Rattle.std.proofs.Common.{◌≡◌, ℕ, ◌<◌, ◌≤◌, List, length, ap, arith}
use Rattle.std.specs.Prelude.{Some, slice_get}
use Rattle.std.proofs.lemmas.List.Sums.{get_or-le-sum_by}
use Rattle.std.proofs.lemmas.Option.{slice_get_within, get_or_from_slice_get}
use Rattle.cs_base.proofs.ListLemmas.{at_contains}
use Rattle.cs_graph.specs.declared.delays.Delays.{Delays}
use Rattle.cs_graph.specs.declared.edge.Edge.{Edge}
use Rattle.cs_graph.specs.declared.graph.Graph.{Graph}
use Rattle.cs_graph.specs.Invariant.{IsMachine}
use Rattle.cs_graph.specs.Period.{pin_delay, AreDelaysOf}
use Rattle.cs_graph.proofs.ArrivalLemmas.{pin_delay_few}
use Rattle.cs_graph.proofs.LagLemmas.{got}
use Rattle.cs_paths.specs.declared.guide.Guide.{Guide}
use Rattle.cs_paths.specs.Guides.{leaving_of, IsGuide}

module _ (g : Graph) (delays : Delays) (machine : IsMachine g) (fits : AreDelaysOf g delays) (e : ℕ) (d : Edge)
    (found : slice_get g.edges e ≡ Some d) where
  -- an edge has no more registers than all edges together
  pub edge_light : d.weight ≤ 65536
  edge_light =
      let within = slice_get_within g.edges e d found in
      let here = ap (λ (x : Edge). x.weight) (get_or_from_slice_get g.edges e d d found) in
      let part = get_or-le-sum_by (λ (x : Edge). x.weight) g.edges e d within in
      let all = machine.limits.weight in
      omega (arith, here, part, all)

  pub edge_to : d.to < length g.vertices
  edge_to = machine.well_formed.to e d found

  pub edge_from : d.from < length g.vertices
  edge_from = machine.well_formed.from e d found

  pub edge_delays : d.to < length delays.per_pin
  edge_delays =
      let low = edge_to in
      let count = fits.vertices in
      let lists = delays.lists in
      omega (arith, low, count, lists)

  pub edge_pin : (ds : List ℕ) → slice_get delays.per_pin d.to ≡ Some ds → d.pin < length ds
  edge_pin ds there =
      let pin = machine.well_formed.fed.feeds e d found in
      let count = fits.pins d.to pin.0 ds pin.1 there in
      let within = slice_get_within pin.0.pins d.pin _ pin.2 in
      omega (arith, count, within)

  pub edge_quick : pin_delay delays d.to d.pin ≤ 1000000
  edge_quick =
      let ds = got delays.per_pin d.to edge_delays in
      let low = edge_to in
      let count = fits.vertices in
      let few = pin_delay_few delays d.to d.pin ds.0 (omega (arith, low, count)) ds.1 (edge_pin ds.0 ds.1) in
      let same = few.0 in
      let most = few.1 in
      omega (arith, same, most)

-- an edge of a vertex's list is there, and leaves it
pub edge_leaves : (g : Graph) (guide : Guide) (v turn e : ℕ) → IsGuide g guide
    → slice_get (leaving_of guide.leaving v) turn ≡ Some e
    → (d : Edge) × (slice_get g.edges e ≡ Some d) × (d.from ≡ v)
edge_leaves g guide v turn e guides at =
    guides.leaving.only v e (at_contains (leaving_of guide.leaving v) turn e at)
