use Rattle.std.proofs.Common.{◌∙◌, ap}
use Rattle.cs_lower.specs.Reaches.{one_more}
use Rattle.cs_lower.proofs.ReachLemmas.{bit_tap, held_reach, vertex_tap}
use Rattle.cs_lower.proofs.trails.Trails.tap_reach.Goals as goal

pub returns-in-Vertex : goal.returns-in-Vertex
returns-in-Vertex c =
    vertex_tap c.args.self.now c.args.tap c.at_once.result c.in-Vertex.vertex c.in-Vertex.output c.in-Vertex.is
    c.at_once.ensures

pub returns-in-Constant : goal.returns-in-Constant
returns-in-Constant c =
    bit_tap c.args.self.now c.args.tap c.at_once-in-Constant.result c.in-Constant.bit c.in-Constant.is
    c.at_once-in-Constant.ensures

pub returns-in-Held : goal.returns-in-Held
returns-in-Held c =
    held_reach c.args.self.now c.args.tap c.one_more.result c.in-Held.vertex c.in-Held.start c.in-Held.is
    (c.one_more.ensures ∙ ap one_more c.at_once-in-Held.ensures)
