-- The values of the variables so far.
use Rattle.std.proofs.Common.{◌≡◌, ℕ, ◌+◌, ◌<◌, true, false, length, get_or}
use Rattle.cs_sat.specs.Trails.{setting_of, has_sign}
use Rattle.cs_sat.proofs.search.Search.bits.Given as goal

abbrev pub invariant-loop-var : goal.invariant-loop-var
invariant-loop-var l = record {
  count : length l.bits ≡ l.var;
  each : (i : ℕ) → i < l.var → get_or l.bits i false ≡ has_sign (setting_of l.self.trail (i + 1)) true;
}
