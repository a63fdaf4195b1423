-- One variable more has a value.
use Rattle.std.proofs.Common.{◌≡◌, ◌+◌, Some, inl, inr, sym, subst, arith}
use Rattle.std.proofs.lemmas.Bool.{cases_lt}
use Rattle.cs_sat.specs.declared.trail.Setting.{Setting}
use Rattle.cs_sat.specs.Trails.{setting_of}
use Rattle.cs_sat.proofs.search.Search.unset.Goals as goal

pub loop-before-preserved : goal.loop-before-preserved
loop-before-preserved c var low high = elim (cases_lt c.loop-before.before var) [
  | inl gt ↦
      let one : c.loop-before.before + 1 ≡ var = omega arith in
      subst (λ v. (setting : Setting) × (setting_of c.args.self.now.trail v ≡ Some setting)) one (_, sym c.in-Some.ensures)
  | inr le ↦ c.loop-before.invariant var low le
]
