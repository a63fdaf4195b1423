-- The edges so far are as they should.
use Rattle.std.proofs.Common.{◌≡◌, ◌<◌, ℕ, [], Some}
use Rattle.std.specs.Prelude.{get_or, slice_get}
use Rattle.cs_graph.specs.declared.edge.Edge.{Edge}
use Rattle.cs_graph.specs.OtherContents.{IsWireKept}
use Rattle.cs_graph.proofs.contents.are_wires_kept.Given as goal

abbrev pub invariant-loop-e : goal.invariant-loop-e
invariant-loop-e l = (i : ℕ) (d : Edge) → i < l.e → slice_get l.edges i ≡ Some d → IsWireKept d (get_or l.lists i [])
