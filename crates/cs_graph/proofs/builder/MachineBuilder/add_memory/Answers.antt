-- One memory more.
use Rattle.std.proofs.Common.{◌+◌, ◌^◌, ◌<◌, length, sym, subst}
use Rattle.cs_graph.specs.Draft.{Draft}
use Rattle.cs_graph.proofs.DraftLemmas.{draft_with_memory}
use Rattle.cs_graph.proofs.builder.MachineBuilder.add_memory.Goals as goal

pub invariant_of-self-2 : goal.invariant_of-self-2
invariant_of-self-2 c =
    let before = c.self.inside in
    let few = subst (λ (d : Draft). length d.memories + 1 < 2 ^ 32) (sym c.self.view_is) c.requires.few in (
      rw c.in_ok-push.ensures.ok
          (draft_with_memory (record { vertices = before.vertices.items; memories = before.memories }) c.args.memory
          c.self.invariant.0 c.requires.sizes few),
      c.self.invariant.1,
      c.self.invariant.2,
    )
