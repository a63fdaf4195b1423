-- A tied pin makes no edge and has no register.
use Rattle.std.proofs.Common.{◌∙◌, sym, subst, refl, arith}
use Rattle.cs_graph.specs.Draft.{Draft, IsOpen, driven, registers}
use Rattle.cs_graph.specs.declared.source.Source.TheVariants.{Tied as TiedTo}
use Rattle.cs_graph.proofs.DraftLemmas.{draft_with_source, total_with_source, tie_is}
use Rattle.cs_graph.proofs.builder.MachineBuilder.tie.Goals as goal

pub invariant_of-self : goal.invariant_of-self
invariant_of-self c =
    let xs = c.self.inside.vertices.items in
    let d : Draft = record { vertices = xs; memories = c.self.inside.memories } in
    let s = TiedTo c.args.value in
    let open_pin : IsOpen xs c.args.v c.args.pin = subst (λ (d : Draft). IsOpen d.vertices c.args.v
    c.args.pin) (sym c.self.view_is) c.requires in
    let is = c.self.invariant.0 in
    let edges = total_with_source driven xs c.args.v c.args.pin s refl open_pin in
    let few = total_with_source registers xs c.args.v c.args.pin s refl open_pin in
    let limits = is.limits in
    rw c.set_source.ensures (
      draft_with_source d c.args.v c.args.pin s is open_pin (tie_is d c.args.value)
          (omega (arith, limits.edges)) (omega (arith, limits.weight)),
      c.self.invariant.1 ∙ omega (arith, edges),
      c.self.invariant.2 ∙ omega (arith, few),
    )
