use Rattle.cs_lower.proofs.TableLemmas.{noting_few, noting_step}
use Rattle.cs_lower.specs.Tables.{held}
use Rattle.cs_lower.proofs.reaches.note_path.Goals as goal

pub one_more-reach-requires : goal.one_more-reach-requires
one_more-reach-requires c =
    noting_few c.args.net.now (held c.loop-bit.table) c.args.from c.loop-bit.path.items c.loop-bit.reach
    c.loop-bit.invariant.noting c.keeps.ensures

pub loop-bit-preserved : goal.loop-bit-preserved
loop-bit-preserved c =
    noting_step c.args.net.now (held c.args.table.now) (held c.loop-bit.table) (held c.insert.new.self)
    c.args.from c.in-Some.bit c.loop-bit.path.items c.pop.new.self.items c.loop-bit.reach c.one_more-reach.result
    c.loop-bit.invariant c.in-Some.ensures.items c.one_more-reach.ensures c.in_ok-insert.ensures.ok
