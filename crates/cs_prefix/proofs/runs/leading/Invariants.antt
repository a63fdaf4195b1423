use Rattle.std.proofs.Common.{◌≡◌, ◌+◌, drop}
use Rattle.cs_prefix.specs.Runs.{leading}
use Rattle.cs_prefix.proofs.runs.leading.Given as goal

abbrev pub invariant-loop-code : goal.invariant-loop-code
invariant-loop-code l =
    (l.count ≡ l.code-index) × (l.count + leading l.driver (drop l.code-index l.codes) ≡ leading l.driver l.codes)
