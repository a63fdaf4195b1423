-- One end more.
use Rattle.std.proofs.Common.{◌≡◌, ◌∙◌, ◌++◌, [], ◌∷◌, List, None, Some, map, sym, ap, ap₂, subst, arith}
use Rattle.std.specs.Prelude.{get_or, slice_get}
use Rattle.std.specs.List.{zip}
use Rattle.cs_base.specs.declared.signal.Signal.{Signal}
use Rattle.cs_share.specs.Planned.{end_signal}
use Rattle.cs_share.proofs.Numbered.{got_at, length-zipped, taken_all, taken_more, zipped_at}
use Rattle.cs_share.proofs.signals.end_signals.Goals as goal

pub signal_after-requires : goal.signal_after-requires
signal_after-requires c =
    let g = c.args.machine.now in
    let ends = c.args.ends.now in
    let d = c.edge-edge.result.now in
    let e = c.loop-e.e in
    let found = subst (λ n. slice_get g.edges n ≡ Some d) c.new.ensures c.edge-edge.ensures in
    let low = c.loop-e-test.true in
    let count = c.edge_count-e-end.ensures in
    let same = c.requires.count in
    c.requires.each e (get_or ends e None, d)
    (zipped_at ends g.edges e (get_or ends e None) d (got_at ends e None (omega (arith, low, count, same))) found)

pub loop-e-preserved : goal.loop-e-preserved
loop-e-preserved c =
    let g = c.args.machine.now in
    let ends = c.args.ends.now in
    let d = c.edge-edge.result.now in
    let e = c.loop-e.e in
    let found = subst (λ n. slice_get g.edges n ≡ Some d) c.new.ensures c.edge-edge.ensures in
    let low = c.loop-e-test.true in
    let count = c.edge_count-e-end.ensures in
    let same = c.requires.count in
    let f = end_signal g.vertices c.args.numbers.now.vertices c.args.numbers.now.first_register in
    c.in_ok-push.ensures.ok
    ∙ ap₂ (λ (ys : List Signal) (s : Signal). ys ++ s ∷ []) c.loop-e.invariant c.signal_after.ensures
    ∙ sym (taken_more f (zip ends g.edges) e (get_or ends e None, d)
    (zipped_at ends g.edges e (get_or ends e None) d (got_at ends e None (omega (arith, low, count, same))) found))

pub returns : goal.returns
returns c =
    let g = c.args.machine.now in
    let ends = c.args.ends.now in
    let f = end_signal g.vertices c.args.numbers.now.vertices c.args.numbers.now.first_register in
    let all = c.loop-e-test.false in
    let count = c.edge_count-e-end.ensures in
    let many = length-zipped ends g.edges c.requires.count in
    c.loop-e.invariant ∙ ap (map f) (taken_all (zip ends g.edges) c.loop-e.e (omega (arith, all, count, many)))
