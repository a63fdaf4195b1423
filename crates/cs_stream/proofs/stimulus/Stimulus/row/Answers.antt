use Rattle.std.proofs.Common.{◌≡◌, ◌*◌, ◌+◌, ◌-◌, [], take, drop, ap, sym, ◌∙◌, arith}
use Rattle.cs_stream.proofs.RowLemmas.{get_or-rows_within}
use Rattle.cs_stream.proofs.stimulus.Stimulus.row.Goals as goal

pub returns : goal.returns
returns c =
    let s = c.args.self.now in
    let wide : c.args.place * s.width + s.width - c.args.place * s.width ≡ s.width = omega arith in
    ap (λ n. take n (drop (c.args.place * s.width) c.as_slice-bits.result.now)) wide
    ∙ ap (λ bits. take s.width (drop (c.args.place * s.width) bits)) c.as_slice-bits.ensures
    ∙ sym (get_or-rows_within s.count s.width c.args.place s.bits [] c.requires)
