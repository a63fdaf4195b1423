-- Lower bounds of lags that chains of steps show.
use Rattle.std.specs.Prelude.{◌≡◌, ℕ, ℤ, pos, ◌+ℤ◌, ◌-ℤ◌, ◌≤ℤ◌, List, [], ◌∷◌, Option, Some, None, map, slice_get, slice_set, if◌then◌else◌}
use Rattle.cs_base.specs.declared.contexts.Mode.{Mode}
use Rattle.cs_graph.specs.declared.graph.Graph.{Graph}
use Rattle.cs_graph.specs.declared.delays.Delays.{Delays}
use Rattle.cs_graph.specs.Kinds.{is_pinned}
use Rattle.cs_cert.specs.declared.step.Step.{Step}
use Rattle.cs_cert.specs.Steps.{Goes, IsValid, cost}

-- a lower bound of the lag of each vertex, where one is known
abbrev pub LowerBounds : Type 0
LowerBounds = List (Option ℤ)

-- without a step: 0 for each vertex that no lag moves
abbrev pub pinned_bounds : Graph → LowerBounds
pinned_bounds g = map (λ x. if is_pinned x.kind then Some (pos 0) else None) g.vertices

-- a valid step from a vertex whose bound is known to one whose bound isn't: that becomes the other less the cost
pub record IsBoundBy (g : Graph) (delays : Delays) (mode : Mode) (bound : ℕ) (step : Step) (old new : LowerBounds) : Type 0 where
  pub from : ℕ
  pub to : ℕ
  pub known : ℤ
  pub goes : Goes g step from to
  pub valid : IsValid g delays mode bound step
  pub begins : slice_get old from ≡ Some (Some known)
  pub ends : slice_get old to ≡ Some None
  pub is : new ≡ slice_set old to (Some (known -ℤ cost g step))

-- such steps, one after the other
abbrev pub AreBoundBy : Graph → Delays → Mode → ℕ → List Step → LowerBounds → LowerBounds → Type 0
AreBoundBy g delays mode bound [] old new = new ≡ old
AreBoundBy g delays mode bound (step ∷ steps) old new =
    (next : LowerBounds) × IsBoundBy g delays mode bound step old next × AreBoundBy g delays mode bound steps next new

-- every known bound is at most so far from 0
pub record AreNear (far : ℕ) (least : LowerBounds) : Type 0 where
  pub low : (v : ℕ) (z : ℤ) → slice_get least v ≡ Some (Some z) → pos 0 ≤ℤ (z +ℤ pos far)
  pub high : (v : ℕ) (z : ℤ) → slice_get least v ≡ Some (Some z) → z ≤ℤ pos far
