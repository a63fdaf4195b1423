-- The lines so far are kept, and the rest is what is left to check.
use Rattle.std.proofs.Common.{◌↔◌, drop}
use Rattle.cs_base.specs.Derivations.{AreRup}
use Rattle.cs_rup.proofs.derivation.are_rup.Given as goal

abbrev pub invariant-loop-line : goal.invariant-loop-line
invariant-loop-line l = AreRup l.f.clauses l.lines ↔ AreRup l.checker (drop l.line-index l.lines)
