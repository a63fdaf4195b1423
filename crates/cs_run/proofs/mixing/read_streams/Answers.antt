use Rattle.std.proofs.Common.{◌≡◌, [], drop, subst, sym}
use Rattle.std.proofs.lemmas.List.{append-nil, drop_all}
use Rattle.cs_run.specs.Inputs.{all_bytes}
use Rattle.cs_run.specs.Rows.{AreRowsOfStreams}
use Rattle.cs_run.proofs.mixing.read_streams.Goals as goal

pub returns-clause-ok : goal.returns-clause-ok
returns-clause-ok c =
    let streams = c.args.streams.now in
    let none : drop c.loop-stream.stream-index streams ≡ [] = drop_all c.loop-stream.stream-index streams c.loop-stream-test.false in
    subst (λ rows. AreRowsOfStreams c.args.width (all_bytes streams) rows) (append-nil c.loop-stream.rows)
    (c.loop-stream.invariant.later [] (subst (λ rest. AreRowsOfStreams c.args.width (all_bytes rest) []) (sym none) tt))
