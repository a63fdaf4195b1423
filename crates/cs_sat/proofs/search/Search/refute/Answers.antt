-- The empty clause is the last line.
use Rattle.cs_sat.proofs.Literals.{on_ok}
use Rattle.cs_sat.proofs.Searches.{derived}
use Rattle.cs_sat.proofs.search.Search.refute.Goals as goal

pub returns : goal.returns
returns c =
    on_ok c.add.result _ _
    (λ pushed. derived c.args.f.now c.args.self.now.store.lines c.add.new.self.lines _ c.requires.search.each c.requires.rup
    c.new-lits.ensures pushed)
    c.add.ensures.ok
