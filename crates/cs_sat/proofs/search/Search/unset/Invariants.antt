-- The variables so far have values.
use Rattle.std.proofs.Common.{◌≡◌, ℕ, ◌≤◌, Some}
use Rattle.cs_sat.specs.declared.trail.Setting.{Setting}
use Rattle.cs_sat.specs.Trails.{setting_of}
use Rattle.cs_sat.proofs.search.Search.unset.Given as goal

abbrev pub invariant-loop-before : goal.invariant-loop-before
invariant-loop-before l = (var : ℕ) → 1 ≤ var → var ≤ l.before → (setting : Setting) × (setting_of l.self.trail var ≡ Some setting)
