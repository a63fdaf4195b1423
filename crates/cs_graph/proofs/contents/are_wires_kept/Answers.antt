-- Edge by edge.
use Rattle.std.proofs.Common.{[], length, refl, sym, subst, arith}
use Rattle.std.specs.Prelude.{get_or}
use Rattle.std.proofs.lemmas.Option.{slice_get_read, get_or_from_slice_get}
use Rattle.cs_graph.specs.OtherContents.{IsWireKept}
use Rattle.cs_graph.proofs.Lists.{each_next, each_all}
use Rattle.cs_graph.proofs.contents.are_wires_kept.Goals as goal

pub returns-then-not-is_wire_kept : goal.returns-then-not-is_wire_kept
returns-then-not-is_wire_kept c =
    let ds = c.args.edges.now in
    let ks = c.args.lists.now in
    let d = c.index-edges-e.result in
    let k = c.index-lists-e.result in
    let found = slice_get_read ds (length ds) c.loop-e.e d refl c.loop-e-test.true c.index-edges-e.is in
    let low = c.loop-e-test.true in
    let same = get_or_from_slice_get ks c.loop-e.e k []
    (slice_get_read ks (length ks) c.loop-e.e k refl (omega (arith, low, c.requires)) c.index-lists-e.is) in (
      λ no. cc,
      λ all. c.if-not-is_wire_kept.ensures.1 (subst (IsWireKept d) same (all c.loop-e.e d found)),
    )

pub loop-e-preserved : goal.loop-e-preserved
loop-e-preserved c =
    let ds = c.args.edges.now in
    let ks = c.args.lists.now in
    let d = c.index-edges-e.result in
    let k = c.index-lists-e.result in
    let found = slice_get_read ds (length ds) c.loop-e.e d refl c.loop-e-test.true c.index-edges-e.is in
    let low = c.loop-e-test.true in
    let same = get_or_from_slice_get ks c.loop-e.e k []
    (slice_get_read ks (length ks) c.loop-e.e k refl (omega (arith, low, c.requires)) c.index-lists-e.is) in
    each_next ds (λ e x. IsWireKept x (get_or ks e [])) c.loop-e.e d c.loop-e.invariant found
    (subst (IsWireKept d) (sym same) (c.if-not-is_wire_kept.ensures.0 refl))

pub returns : goal.returns
returns c = (
  λ yes. each_all c.args.edges.now (λ e x. IsWireKept x (get_or c.args.lists.now e [])) c.loop-e.e
      c.loop-e-test.false c.loop-e.invariant,
  λ all. refl,
)
