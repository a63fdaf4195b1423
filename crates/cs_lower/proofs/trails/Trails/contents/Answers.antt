-- The start of a register of its own.
use Rattle.cs_lower.proofs.PushedParts.{if_ok}
use Rattle.cs_lower.proofs.ReachLemmas.{held_contents}
use Rattle.cs_lower.proofs.trails.Trails.contents.Goals as goal

pub returns-in-Held : goal.returns-in-Held
returns-in-Held c =
    if_ok (λ contents is. held_contents c.args.self.now c.args.tap contents c.in-Held.vertex c.in-Held.start c.in-Held.is is)
    c.own_start.result c.own_start.ensures
