use Rattle.std.proofs.Common.{◌<◌, ◌∙◌, length, sym}
use Rattle.std.proofs.lemmas.List.{length-map}
use Rattle.cs_stream.specs.Mixing.{counts_of}
use Rattle.cs_stream.proofs.MixLemmas.{get_or-counts_of, uneven_from_on, uneven_from_here}
use Rattle.cs_stream.proofs.mixing.uneven.Goals as goal

pub returns-then-stream-total : goal.returns-then-stream-total
returns-then-stream-total c =
    let streams = c.args.streams.now in
    let k = c.loop-k.k in
    let own = get_or-counts_of streams k c.index-streams-k.result c.loop-k-test.true c.index-streams-k.is in
    let within : k < length (counts_of streams) = simp length-map c.loop-k-test.true in
    sym (uneven_from_here c.args.total (length streams) k (counts_of streams) within
    (λ even. c.if-stream-total.true (sym own ∙ even)))
    ∙ c.loop-k.invariant

pub loop-k-preserved : goal.loop-k-preserved
loop-k-preserved c =
    let streams = c.args.streams.now in
    let k = c.loop-k.k in
    let own = get_or-counts_of streams k c.index-streams-k.result c.loop-k-test.true c.index-streams-k.is in
    let within : k < length (counts_of streams) = simp length-map c.loop-k-test.true in
    sym (uneven_from_on c.args.total (length streams) k (counts_of streams) within (own
    ∙ c.if-stream-total.false))
    ∙ c.loop-k.invariant
