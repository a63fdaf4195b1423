use Rattle.std.proofs.Common.{◌≡◌, ◌++◌, ◌∷◌, [], ◌∙◌, length, map, ap, sym, arith}
use Rattle.std.specs.List.{range_with_len}
use Rattle.std.proofs.lemmas.List.FromFn.{map-range_with_len_more}
use Rattle.cs_stream.specs.Rows.{rows_of, rows_within}
use Rattle.cs_stream.specs.Mixing.{mixed_row}
use Rattle.cs_stream.proofs.RowLemmas.{rows_more, length_more}
use Rattle.cs_stream.proofs.MixLemmas.{total_of, length-mixed_row}
use Rattle.cs_stream.proofs.mixing.mixed_bits.Goals as goal

pub loop-place-preserved : goal.loop-place-preserved
loop-place-preserved c =
    let streams = c.args.streams.now in
    let lists = map rows_of streams in
    let place = c.loop-place.place in
    let width = c.args.width in
    let row = c.row_in_turn.result.now in
    let own : row ≡ mixed_row lists place = c.row_in_turn.ensures in
    let wide : length row ≡ width =
    ap length own
    ∙ length-mixed_row streams place width c.requires.even c.requires.some
    (omega arith) c.requires.widths in
    let bits = c.loop-place.bits.items in
    let bits' = c.extend_from_slice.new.self.items in
    let more : bits' ≡ bits ++ row = c.in_ok-extend_from_slice.ensures.items in
    let so_far = map (mixed_row lists) (range_with_len 0 place) in
    record {
      rows = rows_more place width bits bits' row c.loop-place.invariant.whole wide more so_far
          c.loop-place.invariant.rows
          ∙ ap (λ last. so_far ++ last ∷ []) own
          ∙ sym (map-range_with_len_more (mixed_row lists) 0 place place (omega arith));
      whole = length_more place width bits bits' row c.loop-place.invariant.whole wide more;
    }

pub returns-clause-rows : goal.returns-clause-rows
returns-clause-rows c =
    let lists = map rows_of c.args.streams.now in
    let end : c.loop-place.place ≡ c.args.total = omega arith in
    ap (λ n. rows_within n c.args.width c.loop-place.bits.items) (sym end)
    ∙ c.loop-place.invariant.rows
    ∙ ap (λ n. map (mixed_row lists) (range_with_len 0 n)) (end ∙ c.requires.total
    ∙ sym (total_of c.args.streams.now))
