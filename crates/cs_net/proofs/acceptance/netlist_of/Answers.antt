use Rattle.std.proofs.Common.{rules, ◌∙◌, List, ap, filter, flat_map, length, not, subst, sym}
use Rattle.cs_modules.specs.Signals.{is_input, is_output}
use Rattle.cs_net.specs.Drivers.{is_clock}
use Rattle.cs_net.specs.declared.netlist.Port.{Port}
use Rattle.cs_order.specs.Graphs.{IsOrder}
use Rattle.cs_net.specs.Build.{net_of, places_from}
use Rattle.cs_net.specs.Elements.{elements_of, graph_of}
use Rattle.cs_net.specs.Invariant.{AreMemoryPlaces}
use Rattle.cs_net.proofs.MemoryPlaces.{are_memory_places}
use Rattle.cs_net.specs.Netlist.{bit_at}
use Rattle.cs_net.proofs.AcceptLemmas.{is_well_formed, narrow_memories, net_by_parts}
use Rattle.cs_conditions.proofs.Refusals.{no_bad_pins}
use Rattle.cs_net.proofs.acceptance.netlist_of.Goals as goal

pub memories-requires-clause-pins : goal.memories-requires-clause-pins
memories-requires-clause-pins c = no_bad_pins c.args.top.now c.requires.early

pub memories-requires-clause-narrow : goal.memories-requires-clause-narrow
memories-requires-clause-narrow c = narrow_memories c.args.top.now c.requires.sound

pub invariant_of-result : goal.invariant_of-result
invariant_of-result c =
    let m = c.args.top.now in
    let is = net_by_parts m _ (search rules) (search rules) (search rules) (search rules) (search rules) (search rules) (search rules) in (
      is_well_formed m c.requires.readable c.requires.early c.requires.sound _ is,
      (λ b. c.in_ok-start_values.ensures b ∙ ap (λ starts. bit_at starts b) (search rules)),
      subst (λ n. AreMemoryPlaces n c.in_ok-memory_places.memory_places) (sym is)
          (subst (AreMemoryPlaces (net_of m)) (sym (c.in_ok-memory_places.ensures ∙ ap (places_from 0) (c.as_slice.ensures ∙ c.requires.draft.shapes)))
          (are_memory_places m c.requires.readable)),
      c.in_ok-input_count.ensures
          ∙ ap (λ (ports : List Port). length (filter (λ s. not (is_clock c.args.draft.clock s)) (flat_map (λ p. p.bits) (filter (λ p. is_input p.direction) ports)))) c.as_slice-2.ensures,
      c.in_ok-output_count.ensures
          ∙ ap (λ (ports : List Port). length (flat_map (λ p. p.bits) (filter (λ p. is_output p.direction) ports))) c.as_slice-3.ensures,
      subst (λ n. IsOrder (graph_of (elements_of n)) c.args.order) (sym is) c.requires.order,
    )

pub returns : goal.returns
returns c = net_by_parts c.args.top.now _ (search rules) (search rules) (search rules) (search rules) (search rules) (search rules) (search rules)
