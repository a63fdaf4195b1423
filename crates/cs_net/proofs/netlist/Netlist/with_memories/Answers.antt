use Rattle.std.proofs.Common.{rules, ◌≡◌, ◌∙◌, ap, length, subst, sym}
use Rattle.cs_order.specs.Graphs.{IsOrder}
use Rattle.cs_net.specs.Build.{places_from}
use Rattle.cs_net.specs.Drivers.{data_inputs, data_outputs}
use Rattle.cs_net.specs.Elements.{elements_of, graph_of}
use Rattle.cs_net.specs.Invariant.{AreMemoryPlaces, IsWellFormed}
use Rattle.cs_net.specs.Netlist.{Net, bit_at}
use Rattle.cs_net.proofs.MemoryFacts.{are_places}
use Rattle.cs_net.proofs.OtherWords.{net_by_parts, well_formed_with}
use Rattle.cs_net.proofs.netlist.Netlist.with_memories.Goals as goal

pub invariant_of-result : goal.invariant_of-result
invariant_of-result c =
    let net = c.args.self.now in
    let other : Net = record net { memories = c.args.memories } in
    let is = net_by_parts net c.args.memories _ (search rules) (search rules) (search rules) (search rules) (search rules) (search rules) (search rules) in
    let kept = subst IsWellFormed c.self.view_is c.self.invariant.0 in
    let well_formed = well_formed_with net c.args.memories kept c.requires in
    let order = subst (λ (n : Net). IsOrder (graph_of (elements_of n)) c.self.inside.order) c.self.view_is c.self.invariant.5 in (
      subst IsWellFormed (sym is) well_formed,
      (λ b. c.in_ok-start_values.ensures b ∙ ap (λ starts. bit_at starts b) (search rules)),
      subst (λ (n : Net). AreMemoryPlaces n c.in_ok-memory_places.memory_places) (sym is)
          (subst (AreMemoryPlaces other) (sym (c.in_ok-memory_places.ensures ∙ ap (places_from 0) (search rules)))
          (are_places other well_formed)),
      subst (λ (n : Net). c.self.inside.input_count ≡ length (data_inputs n)) (sym is)
          (subst (λ (n : Net). c.self.inside.input_count ≡ length (data_inputs n)) c.self.view_is c.self.invariant.3),
      subst (λ (n : Net). c.self.inside.output_count ≡ length (data_outputs n)) (sym is)
          (subst (λ (n : Net). c.self.inside.output_count ≡ length (data_outputs n)) c.self.view_is c.self.invariant.4),
      subst (λ (n : Net). IsOrder (graph_of (elements_of n)) c.in_ok-copied.field-0) (sym is)
          (subst (IsOrder (graph_of (elements_of net))) (search rules) order),
    )
