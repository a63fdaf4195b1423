-- The contents of an edge more.
use Rattle.std.proofs.Common.{◌≡◌, ◌∙◌, ap, subst, rules, map, List, Some}
use Rattle.std.specs.Prelude.{slice_get}
use Rattle.std.proofs.lemmas.List.{take_all}
use Rattle.cs_graph.specs.declared.edge.Edge.{Edge}
use Rattle.cs_slow.proofs.SlowingLemmas.{map_on}
use Rattle.cs_isolate.proofs.unmoved.own_contents.Goals as goal

pub loop-e-preserved : goal.loop-e-preserved
loop-e-preserved c =
    let edges = c.args.machine.now.edges in
    let d = c.edge.result.now in
    let found = subst (λ n. slice_get edges n ≡ Some d) c.new.ensures c.edge.ensures in
    let made = map_on (λ (x : Edge). x.contents) edges c.loop-e.e c.loop-e.lists d (search rules) found c.loop-e.invariant in
    search rules
