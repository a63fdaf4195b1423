use Rattle.std.proofs.Common.{◌≡◌, ◌++◌, ◌∷◌, [], false, is_some, subst, suc, ◌-◌, ◌<◌, length, Some, refl, sym}
use Rattle.cs_lower.specs.Lowered.{wiring_of}
use Rattle.cs_lower.specs.Rings.{bit_behind}
use Rattle.cs_lower.specs.Walks.{IsPath}
use Rattle.cs_lower.specs.Wires.{parts_of, wire_in}
use Rattle.cs_lower.proofs.PathLemmas.{path_fewer, path_push}
use Rattle.cs_lower.proofs.TableLemmas.{is_none}
use Rattle.cs_lower.specs.Tables.{held}
use Rattle.cs_lower.proofs.reaches.pass_back.Goals as goal

longer : (c : goal.After-get-bit)
    → IsPath (wiring_of c.args.net.now) c.args.from (c.loop-next.path.items ++ c.loop-next.bit ∷ []) c.get-bit.result
longer c =
    let test = c.loop-next-test.true in
    let told = c.has.ensures in
    let at = c.new.ensures in
    let back = c.behind.ensures in
    let is = c.in-Some.is in
    let got = c.get-bit.ensures in
    let lacks : is_some (held c.args.table.now c.loop-next.bit) ≡ false = cc in
    let behind : bit_behind (wire_in (parts_of c.args.net.now).wires c.loop-next.bit) ≡ Some c.get-bit.result = cc in
    path_push (wiring_of c.args.net.now) c.args.from c.loop-next.bit c.get-bit.result c.loop-next.path.items
    c.loop-next.invariant
    (c.requires.rings c.loop-next.bit (is_none (held c.args.table.now c.loop-next.bit) lacks)) behind

pub loop-next-smaller : goal.loop-next-smaller
loop-next-smaller c =
    let fewer = path_fewer (wiring_of c.args.net.now) c.args.from c.loop-next.bit c.get-bit.result
    c.loop-next.path.items refl (longer c) in
    subst (λ bits. suc (length (parts_of c.args.net.now).wires) - length bits
    < suc (length (parts_of c.args.net.now).wires) - length c.loop-next.path.items) (sym c.in_ok-push.ensures.items) fewer

pub loop-next-preserved : goal.loop-next-preserved
loop-next-preserved c =
    subst (λ bits. IsPath (wiring_of c.args.net.now) c.args.from bits c.get-bit.result) (sym c.in_ok-push.ensures.items)
    (longer c)
