use Rattle.cs_lower.proofs.ReachLemmas.{first_none, first_some}
use Rattle.cs_lower.proofs.trails.Trails.first_passed.Goals as goal

pub returns-else-reach-eq0-clause-none : goal.returns-else-reach-eq0-clause-none
returns-else-reach-eq0-clause-none c =
    first_none c.args.self.now c.args.tap.now c.bit_of_tap.result c.requires c.bit_of_tap.ensures

pub returns-else-reach-eq0-clause-some : goal.returns-else-reach-eq0-clause-some
returns-else-reach-eq0-clause-some c =
    first_some c.args.self.now c.args.tap.now c.bit_of_tap.result c.reach.result.registers c.bit_of_tap.ensures
    c.reach.ensures.registers c.if-reach-eq0.false
