-- An edge more.
use Rattle.std.proofs.Common.{◌≡◌, subst, rules, Some}
use Rattle.std.specs.Prelude.{slice_get}
use Rattle.cs_graph.specs.declared.edge.Edge.{Edge}
use Rattle.cs_slow.proofs.SlowingLemmas.{sum_on}
use Rattle.cs_slow.proofs.slowing.register_count.Goals as goal

pub loop-e-preserved : goal.loop-e-preserved
loop-e-preserved c =
    let edges = c.args.machine.now.edges in
    let d = c.edge.result.now in
    let found = subst (λ n. slice_get edges n ≡ Some d) c.new.ensures c.edge.ensures in record {
      counted = sum_on (λ (x : Edge). x.weight) edges c.loop-e.e c.loop-e.count d (search rules) found
          c.loop-e.invariant.counted;
      few = search rules;
    }
