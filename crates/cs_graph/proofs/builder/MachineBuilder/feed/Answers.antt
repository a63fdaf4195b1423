-- One edge more, within the limits.
use Rattle.std.proofs.Common.{sym, subst, refl, arith}
use Rattle.cs_graph.specs.Draft.{Draft, IsOpen, open_kinds, driven, registers}
use Rattle.cs_graph.specs.Invariant.{HasOutput}
use Rattle.cs_graph.specs.declared.source.Driver.{Driver}
use Rattle.cs_graph.specs.declared.source.Source.TheVariants.{Driven}
use Rattle.cs_graph.proofs.DraftLemmas.{draft_with_source, total_with_source, source_is}
use Rattle.cs_graph.proofs.builder.MachineBuilder.feed.Goals as goal

pub invariant_of-self : goal.invariant_of-self
invariant_of-self c =
    let xs = c.self.inside.vertices.items in
    let d : Draft = record { vertices = xs; memories = c.self.inside.memories } in
    let k : Driver = record { from = c.args.from; output = c.args.output; contents = c.args.contents } in
    let s = Driven k in
    let open_pin : IsOpen xs c.args.v c.args.pin = subst (λ (d : Draft). IsOpen d.vertices c.args.v
    c.args.pin) (sym c.self.view_is) c.requires.pin in
    let output = subst (λ (d : Draft). HasOutput d.memories (open_kinds d.vertices) c.args.from
    c.args.output) (sym c.self.view_is) c.requires.output in
    let is = c.self.invariant.0 in
    let edges = total_with_source driven xs c.args.v c.args.pin s refl open_pin in
    let few = total_with_source registers xs c.args.v c.args.pin s refl open_pin in
    let limits = is.limits in
    rw c.set_source.ensures (
      draft_with_source d c.args.v c.args.pin s is open_pin (source_is d k output)
          (omega (arith, c.self.invariant.1, c.if-self-ge-MOST_EDGES.false))
          (omega (arith, c.self.invariant.2, c.from-2.ensures, c.len.ensures, c.if-registers-gt-MOST_WEIGHT.false)),
      omega (arith, c.self.invariant.1, edges),
      omega (
        arith,
        c.self.invariant.2,
        c.from-2.ensures,
        c.len.ensures,
        few,
      ),
    )
