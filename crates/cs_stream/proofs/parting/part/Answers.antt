use Rattle.std.proofs.Common.{◌≡◌, ◌*◌, ◌%◌, ◌<◌, ◌≤◌, ◌++◌, ◌∙◌, [], ◌∷◌, length, take, ap, sym, arith}
use Rattle.std.proofs.lemmas.Bool.{false≢true}
use Rattle.std.proofs.lemmas.List.{take_all}
use Rattle.cs_base.specs.Parts.{part}
use Rattle.cs_stream.specs.Rows.{rows_of, rows_within}
use Rattle.cs_stream.proofs.RowLemmas.{length-rows_within, length_row, rows_more, length_more}
use Rattle.cs_stream.proofs.PartLemmas.{part-nil, part_taken, part_passed}
use Rattle.cs_stream.proofs.parting.part.Goals as goal
use Rattle.cs_stream.proofs.parting.part.Goals.{then-is_own+in_ok-extend_from_slice, else-is_own}

pub loop-place-init : goal.loop-place-init
loop-place-init c = record {
  rows = sym (part-nil c.args.k c.args.c);
  whole = ap length c.in_ok-bits.ensures.items ∙ omega arith;
  few = omega arith;
}

pub loop-place-preserved : goal.loop-place-preserved
loop-place-preserved c =
    let s = c.args.rows.now in
    let place = c.loop-place.place in
    let within : place < length (rows_of s) = omega (arith, length-rows_within s.count s.width s.bits) in
    let k = c.args.k in
    let contexts = c.args.c in
    let bits = c.loop-place.bits.items in
    let bits' = c.if-is_own.bits.items in
    let before = part k contexts (take place (rows_of s)) in
    elim c.if-is_own.branch [
      | then-is_own+in_ok-extend_from_slice w ↦
          let row = w.row.result.now in
          let wide : length row ≡ s.width =
          ap length w.row.ensures
          ∙ length_row s.count s.width place s.bits [] s.whole c.loop-place-test.true in
          let more : bits' ≡ bits ++ row =
          ap (λ v. v.items) w.bits-is ∙ w.in_ok-extend_from_slice.ensures.items in
          let own : place % contexts ≡ k = c.is_own.ensures.0 w.if-is_own.true in
          record {
            rows = ap (λ n. rows_within n s.width bits') w.count-is
                ∙ rows_more c.loop-place.count s.width bits bits' row c.loop-place.invariant.whole wide
                more before
                c.loop-place.invariant.rows
                ∙ ap (λ last. before ++ last ∷ []) w.row.ensures
                ∙ sym (part_taken (rows_of s) [] k contexts place within own);
            whole = length_more c.loop-place.count s.width bits bits' row c.loop-place.invariant.whole
                wide more
                ∙ ap (λ n. n * s.width) (sym w.count-is);
            few = omega (arith, c.loop-place.invariant.few, w.count-is);
          }
      | else-is_own w ↦
          let same : bits' ≡ bits = ap (λ v. v.items) w.bits-is in
          let other : place % contexts ≡ k → ⊥ =
          λ own. false≢true (sym w.if-is_own.false ∙ c.is_own.ensures.1 own) in
          record {
            rows = ap (λ n. rows_within n s.width bits') w.count-is
                ∙ ap (rows_within c.loop-place.count s.width) same
                ∙ c.loop-place.invariant.rows
                ∙ sym (part_passed (rows_of s) [] k contexts place within other);
            whole = ap length same ∙ c.loop-place.invariant.whole ∙ ap (λ n. n * s.width) (sym w.count-is);
            few = omega (arith, c.loop-place.invariant.few, w.count-is);
          }
    ]

pub returns-clause-rows : goal.returns-clause-rows
returns-clause-rows c =
    let s = c.args.rows.now in
    let all : length (rows_of s) ≤ c.loop-place.place =
    omega (arith, length-rows_within s.count s.width s.bits) in
    ap (rows_within c.loop-place.count s.width) c.from_vec.ensures
    ∙ c.loop-place.invariant.rows
    ∙ ap (part c.args.k c.args.c) (take_all c.loop-place.place (rows_of s) all)
