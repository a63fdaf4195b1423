-- One edge more.
use Rattle.std.proofs.Common.{◌≡◌, ◌+◌, ◌++◌, ◌∷◌, [], List, ℕ, set, sym, ap, ap₂, ◌∙◌, subst, arith}
use Rattle.std.specs.Prelude.{Some, slice_get}
use Rattle.cs_paths.specs.Guides.{leaving_of}
use Rattle.cs_paths.proofs.GuideLemmas.{AreLeavingSoFar, leaving_goes_on, leaving_read}
use Rattle.cs_paths.proofs.guide.leaving_edges.Goals as goal

pub loop-number-preserved : goal.loop-number-preserved
loop-number-preserved c =
    let g = c.args.machine.now in
    let n = c.loop-number.number in
    let d = c.edge.result.now in
    let leaving = c.loop-number.leaving.items in
    let found : slice_get g.edges n ≡ Some d =
    ap (slice_get g.edges) (sym c.new-e.ensures) ∙ c.edge.ensures in
    let among = c.keeps.ensures.well_formed.from n d found in
    let same : c.push.new.self ≡ leaving_of leaving d.from ++ n ∷ [] =
    c.in_ok-push.ensures.ok
    ∙ ap₂ (λ (es : List ℕ) (e : ℕ). es ++ e ∷ [])
    (sym (leaving_read leaving c.index_mut.result.now c.get.result d.from c.get.ensures
    (omega (arith, among, c.loop-number.invariant.count)) c.index_mut.ensures.value))
    c.new-e.ensures in
    subst (AreLeavingSoFar g (n + 1)) (sym (ap₂ (set leaving) c.get.ensures same))
    (leaving_goes_on g n leaving d c.loop-number.invariant found among)
