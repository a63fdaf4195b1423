-- The trace of a netlist that a run of its graph is: in each clock the state is what the run holds.
use Rattle.std.specs.Prelude.{get_or, option_map, slice_get}
use Rattle.std.proofs.Common.{◌≡◌, ℕ, zero, suc, ◌<◌, ◌≤◌, true, List, length, fold, Some, refl, sym, ap, subst, ◌∙◌, arith}
use Rattle.std.proofs.lemmas.Option.{same_Some}
use Rattle.cs_cells.specs.Memories.{Words}
use Rattle.cs_graph.specs.Run.{Outs, Row, RunsFor, memory_after, row_of, seen, start_words, taken_in, writes_at as writes_in, writes_by}
use Rattle.cs_net.specs.declared.state.MemoryWords.{MemoryWords}
use Rattle.cs_net.specs.Build.{places_from}
use Rattle.cs_net.specs.Drivers.{StateElement, driver_of, own_start, register}
use Rattle.cs_net.specs.Invariant.{IsWellFormed}
use Rattle.cs_net.specs.Netlist.{Net, NetState, state_of, words_at}
use Rattle.cs_net.specs.Trace.{IsTrace, Settles, next_state, writes_at}
use Rattle.cs_net.proofs.MemoryFacts.{are_places}
use Rattle.cs_net.proofs.MemoryWidths.{memory_wide}
use Rattle.cs_lower.specs.Lowered.{lowered, memory_of}
use Rattle.cs_lower.specs.declared.taps.Tap.TheVariants.{Register as of_register}
use Rattle.cs_lower.proofs.MemoryCells.{IsMemory, given_by_name, memory_there}
use Rattle.cs_lower.proofs.NextLemmas.{next_taken}
use Rattle.cs_lower.proofs.PaddedWords.{IsPadded, starts_padded, stays_padded}
use Rattle.cs_lower.proofs.RegisterTrails.{register_first, register_next}
use Rattle.cs_lower.proofs.SeenLemmas.{shows}
use Rattle.cs_lower.proofs.SeenSinks.{made_of_seen}
use Rattle.cs_lower.proofs.SettledBits.{IsHeld, bits_settle, gates_show, reads_show, register_taken}
use Rattle.cs_lower.proofs.ShownTaps.{shown_bit, shown_bits, shown_signal}

-- the netlist's state in each clock from its own start, where its bits are what they show in a run of the graph
abbrev pub state_of_run : Net → (ℕ → Outs) → ℕ → NetState
state_of_run net value zero = state_of (own_start net)
state_of_run net value (suc n) = next_state net (state_of_run net value n) (shown_bits net value n)

-- a memory's own words are those that the netlist starts the memory of its name with
own_words : (net : Net) → IsWellFormed net → (m : ℕ) (own : MemoryWords) → slice_get net.memories m ≡ Some own
    → IsMemory net m own → own.words ≡ words_at net.memories own.name
own_words net w m own at is =
    let place : ℕ = get_or (places_from 0 net.shapes) is.i 0 in
    let there : slice_get net.memories place ≡ Some own = ap (slice_get net.memories) is.place ∙ at in
    let named : Some own.words ≡ Some (words_at net.memories is.cell.name) =
    sym (ap (option_map (λ (m : MemoryWords). m.words)) there)
    ∙ are_places net w is.i is.cell is.shape is.cell_at is.shape_at in
    same_Some own.words (words_at net.memories is.cell.name) named ∙ ap (words_at net.memories) (sym is.name)

module _ (net : Net) (w : IsWellFormed net) (clocks : ℕ) (row : ℕ → Row) (value : ℕ → Outs) (words : ℕ → ℕ
    → Words) (run : RunsFor true (lowered net) clocks row value words)
  where
    -- ---- the start

    starts_held : IsHeld net value (words 0) 0 (state_of (own_start net))
    starts_held = record {
      bits = λ b r is.
          let taken = register_taken net w b r is in sym (register_first net value b taken.0 taken.1);
      memories = λ m own at is. memory_starts m own at is;
    }
      where
        memory_starts : (m : ℕ) (own : MemoryWords) → slice_get net.memories m ≡ Some own → (is : IsMemory net m own)
            → IsPadded (memory_of (own, is.shape)) (words 0 m) (words_at net.memories own.name)
        memory_starts m own at is =
            let first : start_words (Some (memory_of (own, is.shape))) ≡ words 0 m =
            sym (run.begins m ∙ ap start_words (memory_there net w m own at is)) in
            subst (IsPadded (memory_of (own, is.shape)) (words 0 m)) (own_words net w m own at is)
            (subst (λ held. IsPadded (memory_of (own, is.shape)) held own.words) first
            (starts_padded own is.shape (memory_wide net w m is.shape own is.shape_there at)))

    -- ---- the next state

    module _ (n : ℕ) (h : n < clocks) (now : NetState) (held : IsHeld net value (words n) n now) where
      -- a memory of the graph is given what the netlist's is
      memory_given : (m : ℕ) (own : MemoryWords) → slice_get net.memories m ≡ Some own → (is : IsMemory net m own)
          → writes_in (lowered net) m (memory_of (own, is.shape)) (seen (lowered net) value n)
          ≡ writes_at net own.name (shown_bits net value n)
      memory_given m own at is =
          made_of_seen net true clocks row value words run (writes_by m (memory_of (own, is.shape))) n h
          ∙ given_by_name net w (shows net value n) (shown_bits net value n) (shown_signal net value n) m own
          (memory_of (own, is.shape)) at (memory_there net w m own at is)

      memory_goes_on : (m : ℕ) (own : MemoryWords) → slice_get net.memories m ≡ Some own → (is : IsMemory net m own)
          → words (suc n) m
          ≡ fold (taken_in true (memory_of (own, is.shape))) (words n m) (writes_at net own.name (shown_bits net value n))
      memory_goes_on m own at is =
          run.goes_on n h m
          ∙ ap (λ o. memory_after true (lowered net) m o (seen (lowered net) value n) (words n m))
          (memory_there net w m own at is)
          ∙ ap (fold (taken_in true (memory_of (own, is.shape))) (words n m)) (memory_given m own at is)

      register_goes_on : (b : ℕ) (r : StateElement) → driver_of net b ≡ register r
          → (next_state net now (shown_bits net value n)).bit b ≡ shows net value (suc n) (of_register b)
      register_goes_on b r is =
          let taken = register_taken net w b r is in
          sym (register_next net value b taken.0 n taken.1
          ∙ next_taken net (row n) now (shown_bits net value n)
          (bits_settle net w clocks row value words run n h now held) (shows net value n) (shown_bit net value n)
          (shown_signal net value n) (gates_show net w clocks row value words run n h)
          (reads_show net w clocks row value words run n h now held) b taken.2 r taken.0 is taken.3)

      stays_held : IsHeld net value (words (suc n)) (suc n) (next_state net now (shown_bits net value n))
      stays_held = record {
        bits = register_goes_on;
        memories = λ m own at is.
            subst (λ ws. IsPadded (memory_of (own, is.shape)) ws
            ((next_state net now (shown_bits net value n)).words own.name)) (sym (memory_goes_on m own at is))
            (stays_padded (memory_of (own, is.shape)) (words n m) (now.words own.name)
            (writes_at net own.name (shown_bits net value n)) (held.memories m own at is));
      }

    -- ---- all clocks

    all_held : (n : ℕ) → n ≤ clocks → IsHeld net value (words n) n (state_of_run net value n)
    all_held zero within = starts_held
    all_held (suc n) within =
        stays_held n (omega (arith, within)) (state_of_run net value n) (all_held n (omega (arith, within)))

    all_settle : (n : ℕ) (h : n < clocks) → Settles net (row n) (state_of_run net value n) (shown_bits net value n)
    all_settle n h =
        bits_settle net w clocks row value words run n h (state_of_run net value n) (all_held n (omega (arith, h)))

-- the run is a trace of the netlist from its own start
pub trace_of_run : (net : Net) (w : IsWellFormed net) (rows : List Row) (value : ℕ → Outs) (words : ℕ → ℕ → Words)
    → (run : RunsFor true (lowered net) (length rows) (row_of rows) value words)
    → IsTrace net (state_of (own_start net)) rows (shown_bits net value) (state_of_run net value)
trace_of_run net w rows value words run = record {
  begins = refl;
  settles = all_settle net w (length rows) (row_of rows) value words run;
  goes_on = λ n h. refl;
}
