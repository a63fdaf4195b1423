-- Vertex by vertex.
use Rattle.std.proofs.Common.{length, refl, sym, subst}
use Rattle.std.proofs.lemmas.Option.{slice_get_read}
use Rattle.cs_graph.specs.Lags.{lag_at, IsLegalLag}
use Rattle.cs_graph.proofs.Lists.{each_next, each_all}
use Rattle.cs_graph.proofs.lags.are_legal_lags.Goals as goal

pub returns-then-not-is_legal_lag : goal.returns-then-not-is_legal_lag
returns-then-not-is_legal_lag c =
    let xs = c.args.vertices.now in
    let x = c.index-vertices-v.result in
    let found = slice_get_read xs (length xs) c.loop-v.v x refl c.loop-v-test.true c.index-vertices-v.is in (
      λ no. cc,
      λ all. c.if-not-is_legal_lag.ensures.1
          (subst (λ n. IsLegalLag c.args.mode x.kind (lag_at c.args.lags.now n)) (sym c.new.ensures) (all
          c.loop-v.v x found)),
    )

pub loop-v-preserved : goal.loop-v-preserved
loop-v-preserved c =
    let xs = c.args.vertices.now in
    let x = c.index-vertices-v.result in
    let found = slice_get_read xs (length xs) c.loop-v.v x refl c.loop-v-test.true c.index-vertices-v.is in
    each_next xs (λ u y. IsLegalLag c.args.mode y.kind (lag_at c.args.lags.now u)) c.loop-v.v x
    c.loop-v.invariant found
    (subst (λ n. IsLegalLag c.args.mode x.kind (lag_at c.args.lags.now n)) c.new.ensures
    (c.if-not-is_legal_lag.ensures.0 refl))

pub returns : goal.returns
returns c = (
  λ yes. each_all c.args.vertices.now (λ u y. IsLegalLag c.args.mode y.kind (lag_at c.args.lags.now u))
      c.loop-v.v
      c.loop-v-test.false c.loop-v.invariant,
  λ all. refl,
)
