use Rattle.std.proofs.Common.{◌≡◌, drop}
use Rattle.std.specs.List.{list_any}
use Rattle.cs_graph.specs.declared.vertex.Vertex.{Vertex}
use Rattle.cs_share.specs.Shared.{is_write}
use Rattle.cs_share.proofs.assembly.has_write.Given as goal

abbrev pub invariant-loop-v : goal.invariant-loop-v
invariant-loop-v l =
    list_any (λ (x : Vertex). is_write x.kind) (drop l.v l.machine.vertices)
    ≡ list_any (λ (x : Vertex). is_write x.kind) l.machine.vertices
