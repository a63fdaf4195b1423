use Rattle.std.proofs.Common.{sym, ap, ◌∙◌}
use Rattle.cs_lower.specs.Reaches.{short_reach}
use Rattle.cs_lower.specs.Wires.{parts_of, wire_in}
use Rattle.cs_lower.proofs.TableLemmas.{stop_right}
use Rattle.cs_lower.specs.Tables.{held}
use Rattle.cs_lower.proofs.reaches.stop_reach.Goals as goal

pub returns-in-None : goal.returns-in-None
returns-in-None c =
    c.short_reach.ensures ∙ ap short_reach c.wire.ensures
    ∙ ap (λ b. short_reach (wire_in (parts_of c.args.net.now).wires b)) c.new.ensures
    ∙ stop_right c.args.net.now (held c.args.table.now) c.args.stop c.requires.reaches
    (sym c.get.ensures ∙ c.in-None.is) (c.requires.stopped (sym c.get.ensures ∙ c.in-None.is))
