-- One vertex more, within the limit.
use Rattle.std.proofs.Common.{◌+◌, ◌≤◌, ◌++◌, List, [], ◌∷◌, replicate, None, ◌∙◌, sym, ap, subst, refl, arith}
use Rattle.std.specs.List.{sum_by}
use Rattle.cs_graph.specs.declared.source.OpenVertex.{OpenVertex}
use Rattle.cs_graph.specs.declared.memory.Memory.{Memory}
use Rattle.cs_graph.specs.Draft.{Draft, open_kinds, driven, registers}
use Rattle.cs_graph.specs.Invariant.{HasMemory, IsNextPort}
use Rattle.cs_graph.specs.Kinds.{pin_count, read_width}
use Rattle.cs_graph.proofs.DraftLemmas.{draft_with_vertex, counts_with_vertex}
use Rattle.cs_graph.proofs.builder.MachineBuilder.add_vertex.Goals as goal

pub invariant_of-self-2 : goal.invariant_of-self-2
invariant_of-self-2 c =
    let xs = c.self.inside.vertices.items in
    let d : Draft = record { vertices = xs; memories = c.self.inside.memories } in
    let kind = c.args.kind in
    let there = subst (λ (d : Draft). HasMemory d.memories kind) (sym c.self.view_is) c.requires.memory in
    let port = subst (λ (d : Draft). IsNextPort (open_kinds d.vertices) kind) (sym c.self.view_is)
    c.requires.port in
    let reads = subst (λ (d : Draft). sum_by (read_width d.memories) (open_kinds d.vertices)
    + read_width d.memories kind ≤ 4194304) (sym c.self.view_is) c.requires.reads in
    let edges = counts_with_vertex d kind (pin_count d.memories kind) driven refl in
    let few = counts_with_vertex d kind (pin_count d.memories kind) registers refl in
    let pushed = c.in_ok-push_vertex.ensures.ok ∙ ap (λ (x : OpenVertex). xs ++ x ∷ [])
    (c.in_ok-vertex.ensures ∙ ap (λ (ms : List Memory). record {
      kind = kind;
      pins = replicate
          (pin_count ms kind) None;
    }) c.as_slice.ensures) in
    rw pushed (
      draft_with_vertex d kind c.self.invariant.0 c.requires.no_host there port reads
          (omega (arith, c.len-count.ensures, c.if-count-ge-MOST_VERTICES.false)),
      c.self.invariant.1 ∙ sym edges,
      c.self.invariant.2 ∙ sym few,
    )
