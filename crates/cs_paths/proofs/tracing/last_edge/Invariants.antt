-- None of the first pins' edges attains.
use Rattle.std.proofs.Common.{◌≡◌, ℕ, ◌<◌, Some}
use Rattle.std.specs.Prelude.{slice_get}
use Rattle.cs_graph.specs.declared.vertex.Feed.TheVariants.{Edge as Along}
use Rattle.cs_paths.specs.Traces.{Attains}
use Rattle.cs_paths.proofs.tracing.last_edge.Given as goal

abbrev pub invariant-loop-pin : goal.invariant-loop-pin
invariant-loop-pin l = (i e : ℕ) → i < l.pin → slice_get l.pins i ≡ Some (Along e)
    → Attains l.machine l.delays l.row l.at e → ⊥
