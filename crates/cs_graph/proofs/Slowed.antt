-- Each context of a machine without memories whose registers are several is the machine alone.
use Rattle.std.proofs.Common.{◌≡◌, ℕ, zero, suc, ◌+◌, ◌-◌, ◌*◌, ◌/◌, ◌<◌, ◌≤◌, Bool, false, List, [], ◌∷◌, ◌++◌, length, get_or, replicate, refl, sym, ap, ◌∙◌, arith, inl, inr}
use Rattle.std.specs.Prelude.{pos, negsuc, ◌-ℤ◌, slice_get, option_map, Option, Some, None}
use Rattle.std.proofs.lemmas.Int.{ints}
use Rattle.std.proofs.lemmas.Bool.{cases_lt}
use Rattle.std.proofs.lemmas.Option.{slice_get-map}
use Rattle.cs_cells.specs.Memories.{Words}
use Rattle.cs_graph.specs.declared.vertex.Feed.{Feed}
use Rattle.cs_graph.specs.declared.vertex.Feed.TheVariants.{Tied, Edge as Along}
use Rattle.cs_graph.specs.declared.memory.Memory.{Memory}
use Rattle.cs_graph.specs.declared.edge.Edge.{Edge}
use Rattle.cs_graph.specs.declared.graph.Graph.{Graph}
use Rattle.cs_graph.specs.Run.{Row, Outs, carried, seen_edge, seen, value_at, memory_after, words_after, first_words, row_of, RunsFor, RunsWith}
use Rattle.cs_graph.specs.Slow.{repeated, slow_edge, slow}
use Rattle.cs_base.specs.Parts.{part}
use Rattle.cs_graph.proofs.Sees.{value_same, outputs_same}
use Rattle.cs_base.proofs.PartLemmas.{get_or-part, part_in, length-part}

-- ---- contents

past_replicate : (c : ℕ) (b : Bool) (xs : List Bool) (j : ℕ)
    → get_or (replicate c b ++ xs) (c + j) false ≡ get_or xs j false
past_replicate zero b xs j = let place : 0 + j ≡ j = omega arith in ap (λ n. get_or xs n false) place
past_replicate (suc c) b xs j = let place : suc c + j ≡ suc (c + j) = omega arith in ap (λ n. get_or
    (replicate (suc c) b ++ xs) n false) place ∙ past_replicate c b xs j

in_replicate : (c : ℕ) (b : Bool) (xs : List Bool) (r : ℕ) → r < c → get_or (replicate c b ++ xs) r false ≡ b
in_replicate zero b xs r h = absurd (omega arith)
in_replicate (suc c) b xs zero h = refl
in_replicate (suc c) b xs (suc r) h = in_replicate c b xs r (omega arith)

-- content q * c + r of the many is content q
pub get_or-repeated : (xs : List Bool) (c q r : ℕ) → r < c
    → get_or (repeated c xs) (q * c + r) false ≡ get_or xs q false
get_or-repeated [] c q r h = refl
get_or-repeated (x ∷ xs) c zero r h = let place : 0 * c + r ≡ r = omega arith in ap (λ n. get_or (repeated
    c (x ∷ xs)) n false) place ∙ in_replicate c x (repeated c xs) r h
get_or-repeated (x ∷ xs) c (suc q) r h = let place : suc q * c + r ≡ c + (q * c + r) = omega arith in ap (λ
    n. get_or (repeated c (x ∷ xs)) n false) place ∙ past_replicate c x (repeated c xs) (q * c + r) ∙
    get_or-repeated xs c q r h

-- ---- edges

at_now : (n w m : ℕ) → m + w ≡ n → pos n -ℤ pos w ≡ pos m
at_now n w m h = omega (arith, ints)

at_past : (n w j : ℕ) → n + suc j ≡ w → pos n -ℤ pos w ≡ negsuc j
at_past n w j h = omega (arith, ints)

pub slow_past : (n j c k : ℕ) → k < c → (n * c + k) + suc (j * c + (c - suc k)) ≡ (n + suc j) * c
slow_past n j c k h = omega arith

pub slow_now : (m w c k : ℕ) → (m * c + k) + w * c ≡ (m + w) * c + k
slow_now m w c k = omega arith

module _ (c k : ℕ) (below : k < c) (value : ℕ → Outs) where
  -- the values of context k
  context : ℕ → Outs
  context n = value (n * c + k)

  carried_slow : (d : Edge) (n : ℕ) → carried (slow_edge c d) value (pos (n * c + k) -ℤ pos (d.weight * c))
      ≡ carried d context (pos n -ℤ pos d.weight)
  unfolding context
  carried_slow d n = elim (cases_lt n d.weight) [
    | inl before ↦
        let j = d.weight - n - 1 in
        let few : n + suc j ≡ d.weight = omega arith in
        let sum : (n * c + k) + suc (j * c + (c - suc k)) ≡ d.weight * c = slow_past n j c k below ∙ ap (λ
        w. w * c) few in
        ap (carried (slow_edge c d) value) (at_past (n * c + k) (d.weight * c) (j * c + (c - suc k)) sum)
        ∙ get_or-repeated d.contents c j (c - suc k) (omega arith)
        ∙ sym (ap (carried d context) (at_past n d.weight j few))
    | inr after ↦
        let m = n - d.weight in
        let few : m + d.weight ≡ n = omega arith in
        ap (carried (slow_edge c d) value) (at_now (n * c + k) (d.weight * c) (m * c + k) (slow_now m
        d.weight c k ∙ ap (λ t. t * c + k) few))
        ∙ sym (ap (carried d context) (at_now n d.weight m few))
  ]

  edge_slow : (o : Option Edge) (n : ℕ) → seen_edge (option_map (slow_edge c) o) value (n * c + k) ≡
      seen_edge o context n
  edge_slow None n = refl
  edge_slow (Some d) n = carried_slow d n

  seen_slow : (g : Graph) (n : ℕ) (f : Feed) → seen (slow c g) value (n * c + k) f ≡ seen g context n f
  seen_slow g n (Tied b) = refl
  seen_slow g n (Along e) = ap (λ o. seen_edge o value (n * c + k)) (slice_get-map (slow_edge c) g.edges e)
      ∙ edge_slow (slice_get g.edges e) n

-- ---- no memory, no words

none_after : (bounded : Bool) (g : Graph) (sees : Feed → Bool) (now : ℕ → Words) (i : ℕ) → g.memories ≡ []
    → words_after bounded g sees now i ≡ now i
none_after bounded g sees now i none = ap (λ (ms : List Memory). memory_after bounded g i (slice_get ms i)
    sees (now i)) none

words_stay : (bounded : Bool) (g : Graph) (clocks : ℕ) (row : ℕ → Row) (value : ℕ → Outs) (words : ℕ → ℕ
    → Words) → g.memories ≡ [] → RunsFor bounded g clocks row value words → (n i : ℕ) → n ≤ clocks
    → words n i ≡ first_words g i
words_stay bounded g clocks row value words none r zero i h = r.begins i
words_stay bounded g clocks row value words none r (suc n) i h = r.goes_on n (omega arith) i ∙ none_after
    bounded g (seen g value n) (words n) i none ∙ words_stay bounded g clocks row value words none r n i
    (omega arith)

-- ---- runs

module _ (bounded : Bool) (g : Graph) (none : g.memories ≡ []) (c k : ℕ) (below : k < c) (rows outputs :
    List Row) (r : RunsWith bounded (slow c g) rows outputs) where
  context_run : RunsFor bounded g (length (part k c rows)) (row_of (part k c rows)) (context c k below
      r.value) (λ n i. first_words g i)
  unfolding context
  context_run = record {
    begins = λ i. refl;
    settles = λ n h v o.
        let there = (part_in rows k c n below).0 h in
        r.run.settles (n * c + k) there v o
        ∙ ap (λ row. value_at g row (r.words (n * c + k)) (seen (slow c g) r.value (n * c + k)) v o) (sym
        (get_or-part rows k c n [] below))
        ∙ value_same g (row_of (part k c rows) n) (r.words (n * c + k)) (first_words g) (seen (slow c g)
        r.value (n * c + k)) (seen g (context c k below r.value) n) v o
        (λ i. words_stay bounded (slow c g) (length rows) (row_of rows) r.value r.words none r.run (n * c +
        k) i (omega arith))
        (λ x is. record { at = λ i f at. seen_slow c k below r.value g n f });
    goes_on = λ n h i. sym (none_after bounded g (seen g (context c k below r.value) n) (first_words g) i
        none);
  }

  pub context_alone : RunsWith bounded g (part k c rows) (part k c outputs)
  context_alone = record {
    value = context c k below r.value;
    words = λ n i. first_words g i;
    run = context_run;
    shows = record {
      count = length-part outputs k c below ∙ ap (λ n. (n + c - 1 - k) / c) r.shows.count ∙ sym
          (length-part rows k c below);
      each = λ n h.
          get_or-part outputs k c n [] below
          ∙ r.shows.each (n * c + k) ((part_in rows k c n below).0 h)
          ∙ outputs_same g (seen (slow c g) r.value (n * c + k)) (seen g (context c k below r.value) n) (λ
          v x is pinned. record { at = λ i f at. seen_slow c k below r.value g n f });
    };
  }
