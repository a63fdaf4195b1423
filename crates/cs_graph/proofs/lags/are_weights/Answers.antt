-- Edge by edge.
use Rattle.std.proofs.Common.{◌≡◌, length, refl, arith, rules, SFits, w64, to_z, of_z, false}
use lib.Signed.{lt_z}
use Rattle.std.specs.Prelude.{ℤ, pos, ◌≤ℤ◌}
use Rattle.std.proofs.lemmas.Int.{ints}
use Rattle.std.proofs.lemmas.Option.{slice_get_read}
use Rattle.cs_graph.specs.Lags.{weight_under}
use Rattle.cs_graph.proofs.Lists.{each_next, each_all}
use Rattle.cs_graph.proofs.lags.are_weights.Goals as goal

not_less : (z w : ℤ) → z ≡ w → SFits w64 z → lt_z (to_z w64 (of_z w64 z)) (pos 0) ≡ false → pos 0 ≤ℤ w
not_less z w is fits above = omega (arith, ints)

pub returns-then-weight_of-lt0 : goal.returns-then-weight_of-lt0
returns-then-weight_of-lt0 c =
    let xs = c.args.edges.now in
    let x = c.edge-item.result in
    let found = slice_get_read xs (length xs) c.loop-edge.edge-index x refl c.loop-edge-test.true
    c.edge-item.is in
    let is = c.weight_of.ensures in
    let fits : SFits w64 c.weight_of.result = search rules in
    (λ no. cc, λ all. let not_below = all c.loop-edge.edge-index x found in absurd (omega (arith, ints)))

pub loop-edge-preserved : goal.loop-edge-preserved
loop-edge-preserved c =
    let xs = c.args.edges.now in
    let x = c.edge-item.result in
    let found = slice_get_read xs (length xs) c.loop-edge.edge-index x refl c.loop-edge-test.true
    c.edge-item.is in
    let is = c.weight_of.ensures in
    let fits : SFits w64 c.weight_of.result = search rules in
    each_next xs (λ e d. pos 0 ≤ℤ (weight_under c.args.lags.now d)) c.loop-edge.edge-index x
    c.loop-edge.invariant found
    (not_less c.weight_of.result (weight_under c.args.lags.now x) is fits c.if-weight_of-lt0.false)

pub returns : goal.returns
returns c = (
  λ yes. each_all c.args.edges.now (λ e d. pos 0 ≤ℤ (weight_under c.args.lags.now d))
      c.loop-edge.edge-index
      c.loop-edge-test.false c.loop-edge.invariant,
  λ all. refl,
)
