use Rattle.std.proofs.Common.{◌≡◌, nat_eq, length, rules, ap, ◌∙◌}
use Rattle.std.specs.List.{list_any}
use Rattle.cs_lower.specs.Tables.{held}
use Rattle.cs_lower.proofs.PlaceLemmas.{placed}
use Rattle.cs_lower.proofs.bits.BitList.push.Goals as goal

pub invariant_of-self-in_default : goal.invariant_of-self-in_default
invariant_of-self-in_default c =
    let last : c.len-place.result ≡ length c.self.inside.bits.items = search rules in
    placed (held c.self.inside.places) (held c.insert.new.self) c.self.inside.bits.items c.push.new.self.items
    c.args.bit c.len-place.result c.self.invariant (ap (list_any (nat_eq c.args.bit)) c.self.view_is ∙ c.requires)
    last c.in_ok-push.ensures.items c.in_default.ensures.ok
