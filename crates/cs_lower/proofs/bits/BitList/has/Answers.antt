use Rattle.std.proofs.Common.{is_some, nat_eq, ap, ◌∙◌}
use Rattle.std.specs.List.{list_any}
use Rattle.cs_lower.proofs.PlaceLemmas.{stands}
use Rattle.cs_lower.proofs.bits.BitList.has.Goals as goal

pub returns : goal.returns
returns c =
    c.has.ensures ∙ ap is_some (c.self.invariant c.args.bit) ∙ stands c.args.bit c.self.inside.bits.items
    ∙ ap (list_any (nat_eq c.args.bit)) c.self.view_is
