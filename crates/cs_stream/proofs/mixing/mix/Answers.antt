use Rattle.std.proofs.Common.{◌∙◌, length, get_or, ap, sym}
use Rattle.cs_base.specs.Parts.{part}
use Rattle.cs_stream.specs.Rows.{rows_within}
use Rattle.cs_stream.proofs.MixLemmas.{part_of_mixed}
use Rattle.cs_stream.proofs.mixing.mix.Goals as goal

pub returns-clause-parts : goal.returns-clause-parts
returns-clause-parts c =
    let streams = c.args.streams.now in
    let total = c.total_count-total.result in
    let first = get_or streams 0 c.index-streams-0.result in
    let even = sym c.uneven.ensures ∙ c.in_default.is in
    λ k within.
    ap (λ bits. part k (length streams) (rows_within total first.width bits)) c.from_vec.ensures
    ∙ ap (part k (length streams)) c.in_ok-bits.ensures.rows
    ∙ part_of_mixed streams k even within
