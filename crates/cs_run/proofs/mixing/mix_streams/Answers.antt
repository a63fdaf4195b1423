use Rattle.std.proofs.Common.{arith}
use Rattle.cs_run.specs.Inputs.{all_bytes}
use Rattle.cs_run.specs.Mix.{first_width}
use Rattle.cs_run.proofs.InputLemmas.{length-all_bytes}
use Rattle.cs_run.proofs.RowLemmas.{here, if_error, if_mix, length-rows, one_width, short}
use Rattle.cs_run.proofs.mixing.mix_streams.Goals as goal

pub mix-requires-clause-some : goal.mix-requires-clause-some
mix-requires-clause-some c =
    let streams = all_bytes c.args.streams.now in
    let are = here streams c.first_width.result c.in_ok-rows.rows c.as_slice.result.now c.first_width.ensures c.as_slice.ensures c.in_ok-rows.ensures.ok in
    omega (arith, length-rows (first_width streams) streams c.as_slice.result.now are, length-all_bytes c.args.streams.now, c.requires.some)

pub mix-requires-clause-few : goal.mix-requires-clause-few
mix-requires-clause-few c =
    let streams = all_bytes c.args.streams.now in
    let are = here streams c.first_width.result c.in_ok-rows.rows c.as_slice.result.now c.first_width.ensures c.as_slice.ensures c.in_ok-rows.ensures.ok in
    omega (arith, length-rows (first_width streams) streams c.as_slice.result.now are, length-all_bytes c.args.streams.now, c.requires.most)

pub mix-requires-clause-widths : goal.mix-requires-clause-widths
mix-requires-clause-widths c =
    let streams = all_bytes c.args.streams.now in
    one_width (first_width streams) streams c.as_slice.result.now
    (here streams c.first_width.result c.in_ok-rows.rows c.as_slice.result.now c.first_width.ensures c.as_slice.ensures c.in_ok-rows.ensures.ok)

pub mix-requires-clause-short : goal.mix-requires-clause-short
mix-requires-clause-short c =
    let streams = all_bytes c.args.streams.now in
    short (first_width streams) streams c.as_slice.result.now
    (here streams c.first_width.result c.in_ok-rows.rows c.as_slice.result.now c.first_width.ensures c.as_slice.ensures c.in_ok-rows.ensures.ok)
    c.requires.few

pub returns-clause-ok : goal.returns-clause-ok
returns-clause-ok c =
    let streams = all_bytes c.args.streams.now in
    if_mix streams c.as_slice.result.now c.mix.result
    (here streams c.first_width.result c.in_ok-rows.rows c.as_slice.result.now c.first_width.ensures c.as_slice.ensures c.in_ok-rows.ensures.ok)
    c.mix.ensures.rows c.mix.ensures.parts c.mix.ensures.even

pub returns-clause-err : goal.returns-clause-err
returns-clause-err c =
    let streams = all_bytes c.args.streams.now in
    if_error streams c.as_slice.result.now c.mix.result
    (here streams c.first_width.result c.in_ok-rows.rows c.as_slice.result.now c.first_width.ensures c.as_slice.ensures c.in_ok-rows.ensures.ok)
    c.mix.ensures.err
