-- One edge more, from the end back.
use Rattle.std.proofs.Common.{sym, subst}
use Rattle.std.proofs.lemmas.Option.{slice_get_within}
use Rattle.cs_paths.proofs.TraceLemmas.{IsTail, tail_goes_on, tail_short, tail_ends, fewer_left}
use Rattle.cs_paths.proofs.tracing.edges_back.Goals as goal

pub edge-requires : goal.edge-requires
edge-requires c =
    let tail = c.loop-e.invariant in
    let last = c.in-Some.ensures.some tail.reached.0 tail.reached.1 in
    slice_get_within c.args.machine.now.edges c.in-Some.e last.attains.edge last.attains.found

pub loop-e-smaller : goal.loop-e-smaller
loop-e-smaller c =
    let g = c.args.machine.now in
    let short = tail_short g c.args.delays.now c.keeps.ensures.well_formed c.args.u c.args.row.now c.requires.row
    c.args.v c.loop-e.at c.loop-e.edges.items c.requires.from c.requires.to c.loop-e.invariant in
    fewer_left _ c.loop-e.edges.items c.push.new.self.items c.in-Some.e short c.in_ok-push.ensures.items

pub loop-e-preserved : goal.loop-e-preserved
loop-e-preserved c =
    let g = c.args.machine.now in
    subst (IsTail g c.args.delays.now c.args.row.now c.args.v c.edge.result.now.from) (sym c.in_ok-push.ensures.items)
    (tail_goes_on g c.args.delays.now c.keeps.ensures.well_formed c.args.u c.args.row.now c.requires.row c.args.v
    c.loop-e.at c.in-Some.e c.edge.result.now c.loop-e.edges.items c.loop-e.invariant c.in-Some.ensures.some
    c.edge.ensures)

pub returns : goal.returns
returns c =
    tail_ends c.args.machine.now c.args.delays.now c.keeps.ensures.well_formed c.args.u c.args.row.now c.requires.row
    c.args.v c.loop-e.at c.loop-e.edges.items c.requires.from c.requires.to c.in_default.ensures.none
    c.loop-e.invariant
