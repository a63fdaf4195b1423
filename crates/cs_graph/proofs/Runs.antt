-- A machine whose vertices have an order has exactly one run.
use Rattle.std.proofs.Common.{◌≡◌, ℕ, zero, suc, ◌+◌, ◌*◌, ◌<◌, ◌≤◌, Bool, false, [], refl, sym, ap, ◌∙◌, arith}
use Rattle.std.specs.Prelude.{pos, ◌-ℤ◌, slice_get, Some}
use Rattle.std.proofs.lemmas.Int.{ints}
use Rattle.cs_cells.specs.Memories.{Words}
use Rattle.cs_graph.specs.declared.vertex.Feed.TheVariants.{Tied, Edge as Along}
use Rattle.cs_graph.specs.declared.vertex.Vertex.{Vertex}
use Rattle.cs_graph.specs.declared.edge.Edge.{Edge}
use Rattle.cs_graph.specs.declared.graph.Graph.{Graph}
use Rattle.cs_graph.specs.Run.{Row, Outs, seen_edge, seen, value_at, words_after, first_words, Settles, RunsFor, AgreeFor, HasOneRun, HasOneRunOn}
use Rattle.cs_graph.specs.Invariant.{IsWellFormed}
use Rattle.cs_graph.proofs.Sees.{SameSight, value_same, words_same, carried_same, edge_same}

-- ---- one number for each clock and vertex, above those of all that it takes

pub sooner : (m w n s p q : ℕ) → m + w ≡ n → p < s → (w ≡ 0 → p < q) → m * s + p < n * s + q
sooner m zero n s p q is small low = let same : m ≡ n = omega arith in let less = low refl in rw same
    (omega arith)
sooner m (suc w) n s p q is small low = let same : n ≡ m + suc w = omega arith in rw same (omega arith)

later : (m n s : ℕ) → m < n → m * s + s ≤ n * s
later m n s h = grind arith

-- a run over rows is one over others that are the same for so long
pub same_rows : (bounded : Bool) (g : Graph) (clocks : ℕ) (row row' : ℕ → Row) (value : ℕ → Outs) (words : ℕ → ℕ
    → Words) → ((n : ℕ) → n < clocks → row n ≡ row' n) → RunsFor bounded g clocks row value words
    → RunsFor bounded g clocks row' value words
same_rows bounded g clocks row row' value words same r = record {
  begins = r.begins;
  settles = λ n h v o. r.settles n h v o ∙ ap (λ x. value_at g x (words n) (seen g value n) v o) (same n h);
  goes_on = r.goes_on;
}

module _ (g : Graph) (whole : IsWellFormed g) where
  pub stride : ℕ
  stride = suc whole.order.span

  pub rank : ℕ → ℕ → ℕ
  rank n v = n * stride + suc (whole.order.place v)

  -- what an edge takes from has a smaller number
  pub takes_sooner : (n v e m : ℕ) (d : Edge) → slice_get g.edges e ≡ Some d → d.to ≡ v
      → pos n -ℤ pos d.weight ≡ pos m → (m ≤ n) × (rank m d.from < rank n v)
  unfolding rank stride
  takes_sooner n v e m d is to at =
      let sum : m + d.weight ≡ n = omega (arith, ints) in
      let inside = whole.order.within d.from in (
        omega arith,
        sooner m d.weight n (suc whole.order.span) (suc (whole.order.place d.from)) (suc
            (whole.order.place v)) sum (omega arith) (λ none. let low = whole.order.below e d is none in let
            there = ap whole.order.place to in omega arith),
      )

  below_next : (n v : ℕ) → rank n v < suc n * stride
  unfolding rank stride
  below_next n v = let inside = whole.order.within v in omega arith

  next_words : (n : ℕ) → n * stride < suc n * stride
  unfolding stride
  next_words n = omega arith

  first_below : (n v : ℕ) → n * stride < rank n v
  unfolding rank stride
  first_below n v = omega arith

  -- the pins of vertex v see the same where the values below its number are the same
  sight_same : (a b : ℕ → Outs) (n v : ℕ) (x : Vertex) → slice_get g.vertices v ≡ Some x → ((m u o : ℕ)
      → m ≤ n → rank m u < rank n v → a m u o ≡ b m u o) → SameSight x (seen g a n) (seen g b n)
  sight_same a b n v x is h = record {
    at = λ i. elim [
      | Tied bit ↦ λ at. refl
      | Along e ↦ λ at. edge_same (slice_get g.edges e) (slice_get g.edges e) a b n n (λ none. none) (λ d
          found.
          carried_same d a b (pos n -ℤ pos d.weight) (λ m there.
          let before = takes_sooner n v e m d found (whole.fed.to v i e x d is at found) there in
          h m d.from d.output before.0 before.1) ∙ ap (λ o. seen_edge o b n) (sym found))
    ];
  }

  module _ (bounded : Bool) (clocks : ℕ) (row : ℕ → Row) where
    -- ---- one run at most

    module _ (a b : ℕ → Outs) (words words' : ℕ → ℕ
        → Words) (ra : RunsFor bounded g clocks row a words) (rb : RunsFor bounded g clocks row b words')
      where
        mutual
          values_below : (k n v o : ℕ) → n < clocks → rank n v < k → a n v o ≡ b n v o
          values_below zero n v o h low = absurd (omega arith)
          values_below (suc k) n v o h low =
              let first = first_below n v in
              ra.settles n h v o
              ∙ value_same g (row n) (words n) (words' n) (seen g a n) (seen g b n) v o
              (λ i. words_below k n i (omega arith) (omega arith))
              (λ x is. sight_same a b n v x is (λ m u p soon less. values_below k m u p (omega arith) (omega
              arith)))
              ∙ sym (rb.settles n h v o)

          words_below : (k n i : ℕ) → n ≤ clocks → n * stride < k → words n i ≡ words' n i
          words_below k zero i h low = ra.begins i ∙ sym (rb.begins i)
          words_below zero (suc n) i h low = absurd (omega arith)
          words_below (suc k) (suc n) i h low =
              let step = next_words n in
              ra.goes_on n (omega arith) i
              ∙ words_same bounded g (seen g a n) (seen g b n) (words n) (words' n) i
              (words_below k n i (omega arith) (omega arith))
              (λ v x is pinned. let next = below_next n v in sight_same a b n v x is (λ m u p soon less.
              values_below k m u p (omega arith) (omega arith)))
              ∙ sym (rb.goes_on n (omega arith) i)

        pub runs_agree : AgreeFor clocks a b words words'
        runs_agree = record {
          same_values = λ n h v o. values_below (suc (rank n v)) n v o h (omega arith);
          same_words = λ n h i. words_below (suc (n * stride)) n i h (omega arith);
        }

    -- ---- and there is one: computed, for a value that takes others no more than fuel deep

    mutual
      value_within : ℕ → ℕ → Outs
      value_within zero n v o = false
      value_within (suc fuel) n v o = value_at g (row n) (words_within fuel n) (seen g (value_within fuel)
          n) v o

      words_within : ℕ → ℕ → ℕ → Words
      words_within fuel zero i = first_words g i
      words_within zero (suc n) i = []
      words_within (suc fuel) (suc n) i = words_after bounded g (seen g (value_within fuel) n)
          (words_within fuel n) i

    mutual
      unfolding value_within words_within

      value_enough : (j k n v o : ℕ) → rank n v < j → rank n v < k
          → value_within j n v o ≡ value_within k n v o
      value_enough zero k n v o h l = absurd (omega arith)
      value_enough (suc j) zero n v o h l = absurd (omega arith)
      value_enough (suc j) (suc k) n v o h l =
          let first = first_below n v in
          value_same g (row n) (words_within j n) (words_within k n) (seen g (value_within j) n) (seen g
          (value_within k) n) v o
          (λ i. words_enough j k n i (omega arith) (omega arith))
          (λ x is. sight_same (value_within j) (value_within k) n v x is (λ m u p soon less. value_enough j
          k m u p (omega arith) (omega arith)))

      words_enough : (j k n i : ℕ) → n * stride < j → n * stride < k → words_within j n i ≡ words_within k n i
      words_enough j k zero i h l = refl
      words_enough zero k (suc n) i h l = absurd (omega arith)
      words_enough (suc j) zero (suc n) i h l = absurd (omega arith)
      words_enough (suc j) (suc k) (suc n) i h l =
          let step = next_words n in
          words_same bounded g (seen g (value_within j) n) (seen g (value_within k) n) (words_within j n)
          (words_within k n) i
          (words_enough j k n i (omega arith) (omega arith))
          (λ v x is pinned. let next = below_next n v in sight_same (value_within j) (value_within k) n v x
          is (λ m u p soon less. value_enough j k m u p (omega arith) (omega arith)))

    pub value_of : ℕ → Outs
    value_of n v o = value_within (suc (rank n v)) n v o

    pub words_of : ℕ → ℕ → Words
    words_of n i = words_within (suc (n * stride)) n i

    settles_of : (n : ℕ) → Settles g (row n) (words_of n) value_of n
    unfolding value_of words_of value_within
    settles_of n v o =
        let first = first_below n v in
        value_same g (row n) (words_within (rank n v) n) (words_of n) (seen g (value_within (rank n v)) n)
        (seen g value_of n) v o
        (λ i. words_enough (rank n v) (suc (n * stride)) n i first (omega arith))
        (λ x is. sight_same (value_within (rank n v)) value_of n v x is (λ m u p soon less. value_enough
        (rank n v) (suc (rank m u)) m u p less (omega arith)))

    goes_of : (n i : ℕ) → words_of (suc n) i ≡ words_after bounded g (seen g value_of n) (words_of n) i
    unfolding value_of words_of words_within
    goes_of n i =
        let step = next_words n in
        words_same bounded g (seen g (value_within (suc n * stride)) n) (seen g value_of n) (words_within
        (suc n * stride) n) (words_of n) i
        (words_enough (suc n * stride) (suc (n * stride)) n i step (omega arith))
        (λ v x is pinned. let next = below_next n v in sight_same (value_within (suc n * stride)) value_of
        n v x is (λ m u p soon less. value_enough (suc n * stride) (suc (rank m u)) m u p (omega arith)
        (omega arith)))

    -- it goes on at every clock
    pub run_of : (n : ℕ) → RunsFor bounded g n row value_of words_of
    unfolding words_of words_within
    run_of clocks' = record { begins = λ i. refl; settles = λ n h. settles_of n; goes_on = λ n h. goes_of n }

    pub one_run : HasOneRun bounded g clocks row
    one_run = record {
      value = value_of;
      words = words_of;
      run = run_of clocks;
      only = λ value' words' r.
          runs_agree value_of value' words_of words' (run_of clocks) r;
    }

  pub one_run_on : (bounded : Bool) (row : ℕ → Row) → HasOneRunOn bounded g row
  one_run_on bounded row = record {
    value = value_of bounded 0 row;
    words = words_of bounded 0 row;
    run = run_of bounded 0 row;
    begins = λ clocks row' value' words' same r.
        runs_agree bounded clocks row (value_of bounded 0 row) value' (words_of bounded 0 row) words' (run_of
        bounded 0 row clocks) (same_rows bounded g clocks row' row value' words' same r);
  }
