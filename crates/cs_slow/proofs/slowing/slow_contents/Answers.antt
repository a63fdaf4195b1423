-- The contents of an edge more.
use Rattle.std.proofs.Common.{◌≡◌, ◌+◌, ◌∙◌, ap, List, [], ◌∷◌, ◌++◌, map, take, sym, subst, rules, Some}
use Rattle.std.specs.Prelude.{slice_get}
use Rattle.std.proofs.lemmas.List.{take_all}
use Rattle.cs_graph.specs.declared.edge.Edge.{Edge}
use Rattle.cs_graph.specs.OtherContents.{FitsEdges}
use Rattle.cs_graph.specs.Slow.{repeated}
use Rattle.cs_graph.proofs.SlowLemmas.{slow_fits}
use Rattle.cs_slow.proofs.SlowingLemmas.{map_on}
use Rattle.cs_slow.proofs.slowing.slow_contents.Goals as goal

pub loop-e-preserved : goal.loop-e-preserved
loop-e-preserved c =
    let edges = c.args.machine.now.edges in
    let d = c.edge.result.now in
    let found = subst (λ n. slice_get edges n ≡ Some d) c.new.ensures c.edge.ensures in
    let made = map_on (λ (x : Edge). repeated c.args.contexts x.contents) edges c.loop-e.e c.loop-e.lists d
    (search rules) found c.loop-e.invariant in
    let so_many = subst (λ n. c.loop-e.lists ++ repeated n d.contents ∷ [] ≡ map (λ (x : Edge). repeated
    c.args.contexts x.contents) (take (c.loop-e.e + 1) edges)) (sym c.get-times.ensures.value) made in
    search rules

pub returns-clause-ok : goal.returns-clause-ok
returns-clause-ok c =
    let edges = c.args.machine.now.edges in
    let all = take_all c.loop-e.e edges (search rules) in
    ap (λ ks. record { of = ks }) c.loop-e.invariant
    ∙ ap (λ (es : List Edge). record { of = map (λ (x : Edge). repeated c.args.contexts x.contents) es }) all

pub returns-clause-fits : goal.returns-clause-fits
returns-clause-fits c =
    let g = c.args.machine.now in
    subst (FitsEdges g) (sym (returns-clause-ok c)) (slow_fits c.args.contexts g c.get-times.ensures.some
    c.keeps.ensures.well_formed)
