use Rattle.std.proofs.Common.{◌≡◌, ◌<◌, ◌∙◌, [], length, length-append, ap, sym, arith}
use Rattle.std.proofs.lemmas.List.{length-drop, length-take}
use Rattle.cs_net.specs.Drivers.{data_inputs}
use Rattle.cs_net.specs.Netlist.{Net}
use Rattle.cs_stream.specs.Rows.{rows_of}
use Rattle.cs_stream.proofs.RowLemmas.{length-rows_within, length_row}
use Rattle.cs_sim.proofs.RunLemmas.{all_answered, answered_more}
use Rattle.cs_sim.proofs.response.answer_rows.Goals as goal

pub answer_row-requires-clause-inputs : goal.answer_row-requires-clause-inputs
answer_row-requires-clause-inputs c =
    let s = c.args.stimulus.now in
    ap length c.row.ensures ∙ length_row s.count s.width c.loop-place.place s.bits [] s.whole c.loop-place-test.true
    ∙ c.requires.inputs ∙ ap (λ (n : Net). length (data_inputs n)) (sym c.loop-place.invariant.0.same)

pub loop-place-preserved : goal.loop-place-preserved
loop-place-preserved c =
    let s = c.args.stimulus.now in
    let wide : length c.answer_row.new.output ≡ c.args.width
    = omega (arith, c.as_mut_slice.ensures.len, c.loop-place.invariant.1) in
    let below : c.loop-place.place < length (rows_of s)
    = omega (arith, length-rows_within s.count s.width s.bits, c.loop-place-test.true) in (
      answered_more c.args.sim.now.net (rows_of s) c.args.width c.loop-place.place c.loop-place.bits.items c.answer_row.new.bits.items
          c.answer_row.new.output c.row.result.now c.loop-place.sim c.answer_row.new.sim c.loop-place.invariant.0 below c.row.ensures wide
          c.in_ok-answer_row.ensures.bits c.in_ok-answer_row.ensures.net c.in_ok-answer_row.ensures.step,
      simp (length-take, length-append, length-drop) (omega (arith, wide, c.loop-place.invariant.1)),
    )

pub returns-clause-answers : goal.returns-clause-answers
returns-clause-answers c =
    let s = c.args.stimulus.now in
    all_answered c.args.sim.now.net (rows_of s) c.args.width c.loop-place.place s.count c.loop-place.bits.items c.from_vec.result c.loop-place.sim
    c.loop-place.invariant.0 (length-rows_within s.count s.width s.bits) (omega arith) c.from_vec.ensures
