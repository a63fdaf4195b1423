use Rattle.std.proofs.Common.{◌≡◌, ◌<◌, ◌^◌, length, subst, sym, ap, ◌∙◌, Some, None}
use Rattle.cs_net.specs.Netlist.{Net}
use Rattle.cs_lower.specs.Reaches.{one_more, short_reach}
use Rattle.cs_lower.specs.Rings.{bit_behind}
use Rattle.cs_lower.specs.Wires.{parts_of, wire_in}
use Rattle.cs_lower.proofs.ReachLemmas.{bit_reach_few, register_long, register_short}
use Rattle.cs_lower.proofs.trails.Trails.register_reach.Goals as goal

pub one_more-requires : goal.one_more-requires
one_more-requires c =
    bit_reach_few c.args.self.now c.in-Some.behind c.bit_reach.result c.bit_reach.ensures
    (subst (λ (net : Net). length (parts_of net).wires < 2 ^ 63) c.self.view_is c.keeps.ensures)

pub returns-in-Some : goal.returns-in-Some
returns-in-Some c =
    register_long c.args.self.now c.args.bit c.in-Some.behind c.one_more.result
    (subst (λ (net : Net). bit_behind (wire_in (parts_of net).wires c.args.bit) ≡ Some c.in-Some.behind)
    c.self.view_is (sym c.behind.ensures ∙ c.in-Some.is))
    (c.one_more.ensures ∙ ap one_more c.bit_reach.ensures)

pub returns-in-None : goal.returns-in-None
returns-in-None c =
    register_short c.args.self.now c.args.bit c.short_reach.result
    (subst (λ (net : Net). bit_behind (wire_in (parts_of net).wires c.args.bit) ≡ None) c.self.view_is
    (sym c.behind.ensures ∙ c.in-None.is))
    (subst (λ (net : Net). c.short_reach.result ≡ short_reach (wire_in (parts_of net).wires c.args.bit))
    c.self.view_is (c.short_reach.ensures ∙ ap short_reach c.wire.ensures))
