use Rattle.std.proofs.Common.{◌≡◌, false, nat_eq, Some}
use Rattle.std.specs.List.{list_any}
use Rattle.cs_lower.specs.Rings.{bit_behind}
use Rattle.cs_lower.specs.Wires.{wire_in}
use Rattle.cs_lower.proofs.SearchLemmas.{IsWalking, fewer_left, walking_on}
use Rattle.cs_lower.proofs.rings.walk.Goals as goal

kept : (c : goal.After-get-bit)
    → IsWalking c.args.wires.now c.args.passed.now c.args.from c.push.new.self c.get-bit.result
kept c =
    let at = c.new.ensures in
    let test = c.loop-next-test.true in
    let told = c.has.ensures in
    let back = c.behind.ensures in
    let is = c.in-Some.is in
    let got = c.get-bit.ensures in
    let lacks : list_any (nat_eq c.loop-next.bit) c.loop-next.passed ≡ false = cc in
    let behind : bit_behind (wire_in c.args.wires.now c.loop-next.bit) ≡ Some c.get-bit.result = cc in
    walking_on c.args.wires.now c.args.passed.now c.loop-next.passed c.push.new.self c.args.from c.loop-next.bit
    c.get-bit.result c.loop-next.invariant c.in_ok-push.ensures lacks behind

pub loop-next-smaller : goal.loop-next-smaller
loop-next-smaller c =
    fewer_left c.args.wires.now c.loop-next.passed c.push.new.self c.loop-next.bit c.in_ok-push.ensures (kept c).down

pub loop-next-preserved : goal.loop-next-preserved
loop-next-preserved c = kept c
