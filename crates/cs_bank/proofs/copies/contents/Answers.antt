-- An edge more.
use Rattle.std.proofs.Common.{◌≡◌, [], ◌∷◌, ◌++◌, ◌∙◌, Some, ap₂, subst, rules}
use Rattle.std.specs.Prelude.{slice_get}
use Rattle.cs_graph.specs.declared.edge.Edge.{Edge}
use Rattle.cs_bank.proofs.Pushed.{map_more}
use Rattle.cs_bank.proofs.copies.contents.Goals as goal

pub loop-e-preserved : goal.loop-e-preserved
loop-e-preserved c =
    let edges = c.args.machine.now.edges in
    let d = c.edge.result.now in
    let found = subst (λ n. slice_get edges n ≡ Some d) c.new.ensures c.edge.ensures in
    c.in_ok-push.ensures.ok
    ∙ ap₂ (λ ys h. ys ++ h ∷ []) c.loop-e.invariant
    (c.from_vec.ensures ∙ c.in_ok-from_slice.ensures.items ∙ c.as_slice-held.ensures)
    ∙ map_more (λ (x : Edge). x.contents) edges c.loop-e.e d (search rules) found
