use Rattle.std.proofs.Common.{◌≡◌, ap, ◌∙◌}
use Rattle.cs_net.specs.Netlist.{Net}
use Rattle.cs_lower.specs.Followed.{past}
use Rattle.cs_lower.specs.Lowered.{trail_of}
use Rattle.cs_lower.specs.Reaches.{taken_by}
use Rattle.cs_lower.specs.Wires.{parts_of, wire_in}
use Rattle.cs_lower.proofs.ReachLemmas.{collected_all, collected_next, fewer_registers, passes_on, taken_unheld}
use Rattle.cs_lower.proofs.trails.Trails.passed.Goals as goal

passed : (c : goal.After-taken_by-at)
    → trail_of c.args.self.now c.loop-bit.at ≡ past c.start.result (trail_of c.args.self.now c.taken_by-at.result)
passed c =
    passes_on c.args.self.now (trail_of c.args.self.now c.loop-bit.at) c.in-Some.bit c.start.result c.wire.result
    c.taken_by-at.result c.in-Some.ensures.some c.start.ensures
    (c.wire.ensures ∙ ap (λ (net : Net). wire_in (parts_of net).wires c.in-Some.bit) c.self.view_is)
    c.taken_by-at.ensures

pub loop-bit-smaller : goal.loop-bit-smaller
loop-bit-smaller c =
    fewer_registers (trail_of c.args.self.now c.loop-bit.at) (trail_of c.args.self.now c.taken_by-at.result)
    c.start.result (passed c)

pub loop-bit-preserved : goal.loop-bit-preserved
loop-bit-preserved c = (
  collected_next (trail_of c.args.self.now c.args.tap).contents (trail_of c.args.self.now c.loop-bit.at)
      (trail_of c.args.self.now c.taken_by-at.result) c.start.result c.loop-bit.starts.items c.push.new.self.items
      c.loop-bit.invariant.0 (passed c) c.in_ok-push.ensures.items,
  taken_unheld c.args.self.now c.in-Some.bit c.taken_by-at.result
      (c.taken_by-at.ensures ∙ ap taken_by (c.wire.ensures ∙ ap (λ (net : Net). wire_in (parts_of net).wires c.in-Some.bit) c.self.view_is)),
)

pub returns : goal.returns
returns c =
    c.from_vec.ensures ∙ c.reverse.ensures.items
    ∙ collected_all (trail_of c.args.self.now c.args.tap).contents (trail_of c.args.self.now c.loop-bit.at).contents
    c.loop-bit.starts.items c.loop-bit.invariant.0 c.in_default.ensures.none
