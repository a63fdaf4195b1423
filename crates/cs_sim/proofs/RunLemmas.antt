-- Clocks one after another, each row and answer behind those before.
use Rattle.std.proofs.Common.{◌≡◌, ℕ, suc, ◌+◌, ◌*◌, ◌<◌, List, [], ◌∷◌, ◌++◌, length, get_or, take, Bool, refl, sym, ap, subst, ◌∙◌, arith}
use Rattle.std.specs.Prelude.{IfOk, Result, Ok, Err}
use Rattle.std.specs.declared.alloc.AllocError.{AllocError}
use Rattle.std.proofs.lemmas.List.{take_all, take_more}
use Rattle.cs_net.specs.declared.state.Snapshot.{Snapshot}
use Rattle.cs_net.specs.Drivers.{own_start}
use Rattle.cs_net.specs.Invariant.{IsWellFormed}
use Rattle.cs_net.specs.Netlist.{Net, state_of}
use Rattle.cs_net.specs.Trace.{Answers, AreSteps, IsStep, Row}
use Rattle.cs_net.proofs.Answering.{answers_of_steps, same_answer}
use Rattle.cs_stream.specs.declared.stimulus.Stimulus.{Stimulus}
use Rattle.cs_stream.specs.Rows.{rows_of, rows_within}
use Rattle.cs_stream.proofs.RowLemmas.{length_more, rows_within-push}
use Rattle.cs_sim.specs.Simulation.{Simulation}

steps_more : (net : Net) (now mid next : Snapshot) (rows answers : List Row) (row answer : Row)
    → AreSteps net now rows answers mid → IsStep net mid next row answer
    → AreSteps net now (rows ++ row ∷ []) (answers ++ answer ∷ []) next
steps_more net now mid next [] [] row answer here step =
    (next, subst (λ (s : Snapshot). IsStep net s next row answer) here step, refl)
steps_more net now mid next [] (a ∷ answers) row answer here step = absurd here
steps_more net now mid next (r ∷ rows) [] row answer here step = absurd here
steps_more net now mid next (r ∷ rows) (a ∷ answers) row answer here step =
    (here.0, here.1, steps_more net here.0 mid next rows answers row answer here.2 step)

-- a simulator has gone through the first `count` of these rows, and its netlist answered so many rows of bits
pub record HasAnswered (net : Net) (rows : List Row) (width count : ℕ) (bits : List Bool) (sim : Simulation) : Type 0 where
  pub same : sim.net ≡ net
  pub whole : length bits ≡ count * width
  pub steps : AreSteps net (own_start net) (take count rows) (rows_within count width bits) sim.state

-- a step more
pub answered_more : (net : Net) (rows : List Row) (width count : ℕ) (bits bits' output row : List Bool) (sim sim' : Simulation)
    → HasAnswered net rows width count bits sim → count < length rows → row ≡ get_or rows count []
    → length output ≡ width → bits' ≡ bits ++ output → sim'.net ≡ sim.net
    → IsStep sim.net sim.state sim'.state row output → HasAnswered net rows width (count + 1) bits' sim'
answered_more net rows width count bits bits' output row sim sim' so_far below row_is wide more same step =
    let taken : take (count + 1) rows ≡ take count rows ++ row ∷ []
    = take_more rows count [] below ∙ ap (λ r. take count rows ++ r ∷ []) (sym row_is) in
    let next : count + 1 ≡ suc count = omega arith in
    let answered : rows_within (count + 1) width bits' ≡ rows_within count width bits ++ output ∷ []
    = ap (rows_within (count + 1) width) more ∙ rows_within-push count width bits output so_far.whole wide in
    let step' = subst (λ (n : Net). IsStep n sim.state sim'.state row output) so_far.same step in
    let all = steps_more net (own_start net) sim.state sim'.state (take count rows) (rows_within count width bits) row output so_far.steps step' in
    record {
      same = same ∙ so_far.same;
      whole = length_more count width bits bits' output so_far.whole wide more;
      steps = subst (λ (rs : List Row). AreSteps net (own_start net) rs (rows_within (count + 1) width bits') sim'.state) (sym taken)
          (subst (λ (answers : List Row). AreSteps net (own_start net) (take count rows ++ row ∷ []) answers sim'.state) (sym answered) all);
    }

-- ---- the whole

all_taken : {A : Type 0} (xs : List A) (n : ℕ) → length xs ≡ n → take n xs ≡ xs
all_taken xs n count = ap (λ k. take k xs) (sym count) ∙ take_all (length xs) xs (omega arith)

-- once all rows are gone through, they are answered
pub all_answered : (net : Net) (rows : List Row) (width count whole : ℕ) (bits made : List Bool) (sim : Simulation)
    → HasAnswered net rows width count bits sim → length rows ≡ whole → count ≡ whole → made ≡ bits
    → Answers net (state_of (own_start net)) rows (rows_within whole width made)
all_answered net rows width count whole bits made sim answered long all are =
    let steps = subst (λ (rs : List Row). AreSteps net (own_start net) rs (rows_within count width bits) sim.state)
    (all_taken rows count (long ∙ sym all)) answered.steps in
    subst (λ (b : List Bool). Answers net (state_of (own_start net)) rows (rows_within whole width b)) (sym are)
    (subst (λ n. Answers net (state_of (own_start net)) rows (rows_within n width bits)) all
    (answers_of_steps net (own_start net) rows (rows_within count width bits) sim.state steps))

-- there is no other answer
pub only_answer : (net : Net) → IsWellFormed net → (rows one other : List Row) → Answers net (state_of (own_start net)) rows one
    → Answers net (state_of (own_start net)) rows other → other ≡ one
only_answer net w rows one other a b = same_answer net w.order.place w.order.order rows (state_of (own_start net)) other one b a

pub only_response : (net : Net) → IsWellFormed net → (rows : List Row) (response : Result Stimulus AllocError)
    → IfOk response (λ r. Answers net (state_of (own_start net)) rows (rows_of r))
    → IfOk response (λ r. (other : List Row) → Answers net (state_of (own_start net)) rows other → other ≡ rows_of r)
only_response net w rows (Ok r) answers = λ other also. only_answer net w rows (rows_of r) other answers also
only_response net w rows (Err e) answers = tt
