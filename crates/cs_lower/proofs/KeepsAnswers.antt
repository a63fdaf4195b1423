-- The graph of a netlist answers as the netlist does.
use Rattle.std.proofs.Common.{◌≡◌, ℕ, ◌<◌, true, List, [], length, refl, sym, subst, ◌∙◌, arith}
use Rattle.std.proofs.lemmas.List.{ext_get_or}
use Rattle.std.proofs.lemmas.Simd.{map-map}
use Rattle.cs_cells.specs.Memories.{Words}
use Rattle.cs_graph.specs.Invariant.{IsWellFormed as IsWellFormedGraph}
use Rattle.cs_graph.specs.Run.{Outs, Row, RunsFor, RunsWith, Shows, outputs_at, row_of, seen}
use Rattle.cs_graph.proofs.Runs.{one_run}
use Rattle.cs_net.specs.Drivers.{data_outputs, own_start}
use Rattle.cs_net.specs.Invariant.{IsWellFormed}
use Rattle.cs_net.specs.Netlist.{Net, state_of}
use Rattle.cs_net.specs.Trace.{Answers, output_row, output_rows}
use Rattle.cs_net.proofs.Answering.{get_or-output_rows, length-output_rows, same_answer}
use Rattle.cs_lower.specs.Alike.{AnswersAlike}
use Rattle.cs_lower.specs.Lowered.{lowered}
use Rattle.cs_lower.specs.declared.taps.Tap.TheVariants.{Signal as of_signal}
use Rattle.cs_lower.proofs.HeldStates.{state_of_run, trace_of_run}
use Rattle.cs_lower.proofs.SeenLemmas.{shows}
use Rattle.cs_lower.proofs.SeenMemories.{taps_of_signals}
use Rattle.cs_lower.proofs.SeenSinks.{outputs_show}
use Rattle.cs_lower.proofs.ShownTaps.{shown_bits, shown_signal}

-- ---- a run

module _ (net : Net) (w : IsWellFormed net) (rows : List Row) (value : ℕ → Outs) (words : ℕ → ℕ → Words)
    (run : RunsFor true (lowered net) (length rows) (row_of rows) value words)
  where
    -- in each clock the outputs are the netlist's
    same_row : (n : ℕ) → n < length rows
        → outputs_at (lowered net) (seen (lowered net) value n) ≡ output_row net (shown_bits net value n)
    same_row n h =
        outputs_show net true (length rows) (row_of rows) value words run n h
        ∙ sym (map-map (shows net value n) of_signal (data_outputs net))
        ∙ taps_of_signals (shows net value n) (shown_bits net value n) (data_outputs net) (shown_signal net value n)

    -- what the netlist answers, the run shows
    run_shows : Shows (lowered net) (length rows) value (output_rows net (length rows) (shown_bits net value))
    run_shows = record {
      count = length-output_rows net (length rows) (shown_bits net value);
      each = λ n h. get_or-output_rows net (length rows) (shown_bits net value) n [] h ∙ sym (same_row n h);
    }

    -- and the other way round
    shown_rows : (answer : List Row) → Shows (lowered net) (length rows) value answer
        → answer ≡ output_rows net (length rows) (shown_bits net value)
    shown_rows answer shown =
        ext_get_or [] answer (output_rows net (length rows) (shown_bits net value))
        (shown.count ∙ sym (length-output_rows net (length rows) (shown_bits net value)))
        (λ n below.
        let h : n < length rows = omega (arith, below, shown.count) in
        shown.each n h ∙ same_row n h ∙ sym (get_or-output_rows net (length rows) (shown_bits net value) n [] h))

    answers_shown : (answer : List Row) → answer ≡ output_rows net (length rows) (shown_bits net value)
        → Answers net (state_of (own_start net)) rows answer
    answers_shown answer is = record {
      bits = shown_bits net value;
      state = state_of_run net value;
      trace = trace_of_run net w rows value words run;
      shows = is;
    }

-- ---- both directions

module _ (net : Net) (w : IsWellFormed net) where
  -- what the bounded run of the graph answers, the netlist does
  pub run_answers : (rows answer : List Row) → RunsWith true (lowered net) rows answer
      → Answers net (state_of (own_start net)) rows answer
  run_answers rows answer r =
      answers_shown net w rows r.value r.words r.run answer
      (shown_rows net w rows r.value r.words r.run answer r.shows)

  -- what the netlist answers, the bounded run does
  pub answers_run : IsWellFormedGraph (lowered net) → (rows answer : List Row)
      → Answers net (state_of (own_start net)) rows answer → RunsWith true (lowered net) rows answer
  answers_run whole rows answer a =
      let one = one_run (lowered net) whole true (length rows) (row_of rows) in
      let other : List Row = output_rows net (length rows) (shown_bits net one.value) in
      let runs : RunsWith true (lowered net) rows other = record {
        value = one.value;
        words = one.words;
        run = one.run;
        shows = run_shows net w rows one.value one.words one.run;
      } in
      let same : other ≡ answer =
      same_answer net w.order.place w.order.order rows (state_of (own_start net)) other answer
      (answers_shown net w rows one.value one.words one.run other refl) a in
      subst (RunsWith true (lowered net) rows) same runs

  -- lowering keeps answers
  pub keeps_answers : IsWellFormedGraph (lowered net) → AnswersAlike net (lowered net)
  keeps_answers whole = λ rows answer. (answers_run whole rows answer, run_answers rows answer)
