-- What a netlist answers, a row at a time.
use Rattle.std.proofs.Common.{◌≡◌, ℕ, zero, suc, ◌<◌, List, [], ◌∷◌, length, get_or, map, None, refl, sym, ap, ap₂, subst, ◌∙◌, arith, false}
use Rattle.cs_net.specs.Netlist.{Net, NetState, state_of}
use Rattle.cs_net.specs.Drivers.{IsBitOrder, own_start}
use Rattle.cs_net.specs.Trace.{Row, Valuation, next_state, Settles, IsTrace, output_row, output_rows, Answers, AreSteps}
use Rattle.cs_net.specs.Contexts.{with_images, no_images, start_of}
use Rattle.cs_net.specs.Isolates.{Isolates}
use Rattle.cs_net.specs.declared.state.MemoryWords.{MemoryWords}
use Rattle.cs_net.specs.declared.state.Snapshot.{Snapshot}
use Rattle.cs_base.proofs.PartLemmas.{part_whole}
use Rattle.cs_net.proofs.Traces.{settled, settled_settles, traces_agree}

-- ---- rows of outputs

pub length-output_rows : (net : Net) (count : ℕ) (bits : ℕ → Valuation) → length (output_rows net count bits) ≡ count
length-output_rows net zero bits = refl
length-output_rows net (suc count) bits = ap suc (length-output_rows net count (λ n. bits (suc n)))

pub get_or-output_rows : (net : Net) (count : ℕ) (bits : ℕ → Valuation) (i : ℕ) (none : Row) → i < count
    → get_or (output_rows net count bits) i none ≡ output_row net (bits i)
get_or-output_rows net zero bits i none below = absurd (omega (arith, below))
get_or-output_rows net (suc count) bits zero none below = refl
get_or-output_rows net (suc count) bits (suc i) none below =
    get_or-output_rows net count (λ n. bits (suc n)) i none (omega (arith, below))

-- ---- the first clock and the rest

abbrev front {ℓ} : {A : Type ℓ} → A → (ℕ → A) → ℕ → A
front a f zero = a
front a f (suc n) = f n

module _ (net : Net) where
  pub answers_none : (from : NetState) → Answers net from [] []
  answers_none from = record {
    bits = λ n b. false;
    state = λ n. from;
    trace = record { begins = refl; settles = λ n h. absurd (omega arith); goes_on = λ n h. absurd (omega arith) };
    shows = refl;
  }

  begins_before : (from : NetState) (row : Row) (rows : List Row) (v : Valuation) (bits : ℕ → Valuation) (state : ℕ → NetState) → Settles net row from v → IsTrace net (next_state net from v) rows bits state → IsTrace net from (row ∷ rows) (front v bits) (front from state)
  begins_before from row rows v bits state settles t = record {
    begins = refl;
    settles = elim [ zero ↦ λ h. settles | suc n ↦ λ h. t.settles n (omega arith) ];
    goes_on = elim [ zero ↦ λ h. t.begins | suc n ↦ λ h. t.goes_on n (omega arith) ];
  }

  -- a clock, and what is answered from the state after it
  pub answers_more : (from : NetState) (row : Row) (rows answer : List Row) (v : Valuation) → Settles net row from v → Answers net (next_state net from v) rows answer → Answers net from (row ∷ rows) (output_row net v ∷ answer)
  answers_more from row rows answer v settles a = record {
    bits = front v a.bits;
    state = front from a.state;
    trace = begins_before from row rows v a.bits a.state settles a.trace;
    shows = ap (λ rest. output_row net v ∷ rest) a.shows;
  }

  goes_after : (from : NetState) (row : Row) (rows : List Row) (bits : ℕ → Valuation) (state : ℕ → NetState) → IsTrace net from (row ∷ rows) bits state → IsTrace net (next_state net from (bits 0)) rows (λ n. bits (suc n)) (λ n. state (suc n))
  goes_after from row rows bits state t = record {
    begins = t.goes_on 0 (omega arith) ∙ ap (λ now. next_state net now (bits 0)) t.begins;
    settles = λ n h. t.settles (suc n) (omega arith);
    goes_on = λ n h. t.goes_on (suc n) (omega arith);
  }

  -- ---- one answer

  output_rows_same : (count : ℕ) (f g : ℕ → Valuation) → ((n : ℕ) → n < count → f n ≡ g n) → output_rows net count f ≡ output_rows net count g
  output_rows_same zero f g h = refl
  output_rows_same (suc count) f g h =
      let first = h 0 (omega arith) in
      let rest = output_rows_same count (λ n. f (suc n)) (λ n. g (suc n)) (λ n below. h (suc n) (omega arith)) in
      ap₂ (λ v answer. output_row net v ∷ answer) first rest

  module _ (place : ℕ → ℕ) (order : IsBitOrder net place) where
    pub same_answer : (rows : List Row) (from : NetState) (one other : List Row) → Answers net from rows one → Answers net from rows other → one ≡ other
    same_answer rows from one other a b =
        let same = traces_agree net place order from rows a.bits b.bits a.state b.state a.trace b.trace in
        a.shows ∙ output_rows_same (length rows) a.bits b.bits same.same_bits ∙ sym b.shows

    pub answer_exists : (rows : List Row) (from : NetState) → (answer : List Row) × Answers net from rows answer
    answer_exists [] from = ([], answers_none from)
    answer_exists (row ∷ rows) from =
        let v : Valuation = settled net row from place order in
        let rest = answer_exists rows (next_state net from v) in
        (output_row net v ∷ rest.0, answers_more from row rows rest.0 v (settled_settles net row from place order) rest.1)

-- clock after clock of what is held is an answer
pub answers_of_steps : (net : Net) (now : Snapshot) (rows answers : List Row) (last : Snapshot) → AreSteps net now rows answers last → Answers net (state_of now) rows answers
answers_of_steps net now [] [] last h = answers_none net (state_of now)
answers_of_steps net now [] (answer ∷ answers) last h = absurd h
answers_of_steps net now (row ∷ rows) [] last h = absurd h
answers_of_steps net now (row ∷ rows) (answer ∷ answers) last h =
    let step = h.1 in
    let rest : Answers net (next_state net (state_of now) step.bits) rows answers = subst (λ s. Answers net s rows answers) step.after (answers_of_steps net h.0 rows answers last h.2) in
    subst (λ a. Answers net (state_of now) (row ∷ rows) (a ∷ answers)) (sym step.shows) (answers_more net (state_of now) row rows answers step.bits step.settles rest)

-- ---- one context

-- images that name no memory change no memory
no_change : (k : ℕ) (memories : List MemoryWords) → with_images k memories (map (λ m. None) memories) ≡ memories
no_change k [] = refl
no_change k (memory ∷ memories) = ap (λ rest. memory ∷ rest) (no_change k memories)

-- without images each context starts as the netlist does
pub start_without_images : (net : Net) (k : ℕ) → start_of net (no_images net) k ≡ state_of (own_start net)
start_without_images net k = ap (λ memories. state_of (record { bits = (own_start net).bits; memories = memories })) (no_change k net.memories)

-- a netlist without loops isolates itself
pub isolates_itself : (net : Net) (place : ℕ → ℕ) → IsBitOrder net place → Isolates net net (no_images net) 1
isolates_itself net place order = record {
  ports = refl;
  each = λ rows widths.
      let found = answer_exists net place order rows (state_of (own_start net)) in (
        found.0,
        record {
          answers = found.1;
          only = λ other a. same_answer net place order rows (state_of (own_start net)) other found.0 a found.1;
          parts = λ k below.
              let first : k ≡ 0 = omega arith in
              rw (first, part_whole rows, part_whole found.0) (subst (λ from. Answers net from rows found.0) (sym (start_without_images net 0)) found.1);
        },
      );
}
