-- The run of one context of a banked graph.
use Rattle.std.proofs.Common.{◌≡◌, ℕ, zero, suc, ◌+◌, ◌*◌, ◌%◌, ◌^◌, ◌<◌, ◌≤◌, true, false, List, [], ◌∷◌, ◌++◌, length, map, fold, refl, sym, ap, ap₂, ◌∙◌, arith, inl, inr}
use Rattle.std.specs.Prelude.{slice_get, option_map, Option, Some, None, if◌then◌else◌}
use Rattle.std.proofs.lemmas.Bool.{cases_lt}
use Rattle.std.proofs.lemmas.List.{length-map, map-append}
use Rattle.std.proofs.lemmas.List.Folds.{flat_map-map}
use Rattle.std.proofs.lemmas.Nat.{mod-mul-add, mod_below}
use Rattle.std.proofs.lemmas.Option.{slice_get-map, slice_get_past}
use Rattle.cs_cells.specs.Gates.{gate_value}
use Rattle.cs_cells.specs.Memories.{Words, Write, after_write, read_bit}
use Rattle.cs_graph.specs.declared.memory.Memory.{Memory}
use Rattle.cs_graph.specs.declared.source.Driver.{Driver}
use Rattle.cs_graph.specs.declared.source.OpenVertex.{OpenVertex}
use Rattle.cs_graph.specs.declared.source.Source.{Source}
use Rattle.cs_graph.specs.declared.source.Source.TheVariants.{Driven}
use Rattle.cs_graph.specs.declared.vertex.VertexKind.{VertexKind}
use Rattle.cs_graph.specs.declared.vertex.VertexKind.TheVariants.{Constant, Gate, Host, Input, Output, Read, Write as WritePort}
use Rattle.cs_graph.specs.Draft.{Draft}
use Rattle.cs_graph.specs.Kinds.{address_bits, is_input}
use Rattle.cs_graph.specs.Run.{Outs, Row, output_of, shown_by, start_words, taken_in, writes_by}
use Rattle.cs_net.specs.Contexts.{Image}
use Rattle.cs_bank.specs.Bank.{FitsMemory, IsWhole, banked, banked_memory, banked_pins, first_guard, new_vertices}
use Rattle.cs_bank.specs.ContextBits.{context_bits, context_pins, digits}
use Rattle.cs_bank.specs.Starts.{memory_in, with_entries}
use Rattle.cs_bank.proofs.BankedPlaces.{HasPorts, banked_of, bit_vertex, of_old, old_vertex}
use Rattle.cs_bank.proofs.BankedWrites.{all_writes}
use Rattle.cs_bank.proofs.BankWords.{AllBanked, at_turn, bank_words, next_turn, read_same, words_alone}
use Rattle.cs_bank.proofs.Counters.{enough_bits, see_context}
use Rattle.cs_bank.proofs.DraftRuns.{DraftRuns, open_inputs_before, open_memory, open_output, open_outputs, open_value, open_writes, sees}
use Rattle.cs_graph.proofs.Lists.{flat_map_same}
use Rattle.cs_bank.proofs.SizeTests.{number_of-digits}
use Rattle.cs_bank.proofs.SlowDrafts.{context, context_in, context_out, pins_slow, ports_slow, slow_draft, slow_open, slow_pin}
use Rattle.cs_bank.proofs.StartLemmas.{bank_none, bank_start, entry_at, get_with_entry, get_without}

-- what a draft needs to be slowed and banked
pub record CanBankDraft (c : ℕ) (entries : List (Option (List Image))) (d : Draft) : Type 0 where
  pub ports : HasPorts d
  pub whole : (i : ℕ) (m : Memory) → slice_get d.memories i ≡ Some m → IsWhole m
  pub long : (i : ℕ) (m : Memory) → slice_get d.memories i ≡ Some m → length m.start ≡ m.words * m.width
  pub count : length entries ≡ length d.memories
  pub images : (i : ℕ) (m : Memory) → slice_get d.memories i ≡ Some m → FitsMemory c m (entry_at entries i)
  pub within : (v i : ℕ) (x : OpenVertex) (k : Driver) → slice_get d.vertices v ≡ Some x
      → slice_get x.pins i ≡ Some (Some (Driven k)) → k.from < length d.vertices

-- the draft whose memories start as those of context k
abbrev pub draft_of_context : ℕ → List (Option (List Image)) → Draft → Draft
draft_of_context k entries d = record d { memories = with_entries (memory_in k) d.memories entries }

inputs_in : (f g : OpenVertex → OpenVertex) → ((x : OpenVertex) → (f (g x)).kind ≡ x.kind)
    → (xs ys : List OpenVertex) (v : ℕ)
    → v < length xs → open_inputs_before (map f (map g xs) ++ ys) v ≡ open_inputs_before xs v
inputs_in f g keeps [] ys v h = absurd (omega (arith, h))
inputs_in f g keeps (x ∷ xs) ys zero h = refl
inputs_in f g keeps (x ∷ xs) ys (suc v) h =
    ap₂ (λ kind n. (if is_input kind then 1 else 0) + n) (keeps x) (inputs_in f g keeps xs ys v (omega (arith, h)))

module _ (c : ℕ) (entries : List (Option (List Image))) (w : Draft) (can : CanBankDraft c entries w) (k : ℕ)
    (below : k < c)
    (clocks : ℕ) (row : ℕ → Row) (value : ℕ → Outs) (words : ℕ → ℕ → Words)
    (run : DraftRuns false (banked c entries (slow_draft c w)) clocks row value words) where
  abbrev slowed : Draft
  slowed = slow_draft c w

  abbrev own : Draft
  own = draft_of_context k entries w

  pub alone : ℕ → Outs
  alone = context c k below value (length w.vertices)

  pub words_of : ℕ → ℕ → Words
  words_of n i = words_alone c (2 ^ address_bits (slice_get w.memories i)) (λ t. words t i) k n

  see_digits : (t : ℕ) → t < clocks → map (sees value t) (context_pins c (length slowed.vertices)) ≡ digits
      (context_bits c) (t % c)
  see_digits t h = see_context false (banked c entries slowed) c (length slowed.vertices) clocks row value words
      (omega (arith, below)) run (bit_vertex c entries slowed) t h

  -- ---- one memory

  module _ (i : ℕ) (m : Memory) (is : slice_get w.memories i ≡ Some m) where
    abbrev entry : Option (List Image)
    entry = entry_at entries i

    memory_of_all : slice_get (banked c entries slowed).memories i ≡ Some (banked_memory c m entry)
    memory_of_all = get_with_entry (banked_memory c) w.memories entries i m can.count is

    own_memory : slice_get own.memories i ≡ Some (memory_in k m entry)
    own_memory = get_with_entry (memory_in k) w.memories entries i m can.count is

    writes : ℕ → List Write
    writes t = open_writes slowed i m (sees value t)

    writes' : ℕ → List Write
    writes' t = open_writes (banked c entries slowed) i (banked_memory c m entry) (sees value t)

    goes : (t : ℕ) → t < clocks → words (suc t) i ≡ fold after_write (words t i) (writes' t)
    unfolding writes'
    goes t h = run.goes_on t h i ∙ ap (λ o. open_memory false (banked c entries slowed) i o (sees value t) (words t i))
        memory_of_all

    banked_at : (t : ℕ) → t < clocks → AllBanked (2 ^ m.abits) m.size (t % c) (writes t) (writes' t)
    unfolding writes writes'
    banked_at t h =
        let turn = mod_below t c (omega (arith, below)) in
        let bits = enough_bits c in
        let whole = can.whole i m is in
        all_writes false c entries slowed clocks row value words run (ports_slow c w can.ports) t h (t % c)
        (omega (arith, turn, bits)) (see_digits t h) i m entry is whole.some

    own_turn : (n : ℕ) → n * c + k < clocks → bank_words (2 ^ m.abits) k (words (n * c + k) i) ≡ words_of n i
    unfolding words_of
    own_turn n h =
        at_turn c (2 ^ m.abits) m (λ t. words t i) writes writes' clocks goes banked_at n k below h
        ∙ sym (ap (λ o. words_alone c (2 ^ address_bits o) (λ t. words t i) k n) is)

    same_writes : (n : ℕ) → n * c + k < clocks → writes (n * c + k) ≡ open_writes w i m (sees alone n)
    unfolding writes alone
    same_writes n h =
        flat_map-map (λ (x : OpenVertex). writes_by i m x.kind (map (sees value (n * c + k)) x.pins))
        (slow_open c) w.vertices
        ∙ flat_map_same (λ x. writes_by i m x.kind (map (sees value (n * c + k)) (map (slow_pin c) x.pins)))
        (λ x. writes_by i m x.kind (map (sees alone n) x.pins)) w.vertices
        (λ v x found. ap (writes_by i m x.kind)
        (pins_slow c k below value (length w.vertices) n x.pins (λ j s at. can.within v j x s found at)))

    own_next : (n : ℕ) → n * c + k < clocks
        → words_of (suc n) i ≡ fold (taken_in true m) (words_of n i) (open_writes w i m (sees alone n))
    unfolding words_of
    own_next n h =
        ap (λ o. words_alone c (2 ^ address_bits o) (λ t. words t i) k (suc n)) is
        ∙ next_turn c (2 ^ m.abits) m (λ t. words t i) writes writes' clocks goes banked_at n k below h
        ∙ ap₂ (λ now ws. fold (taken_in true m) now ws)
        (sym (ap (λ o. words_alone c (2 ^ address_bits o) (λ t. words t i) k n) is)) (same_writes n h)

    own_start : words_of 0 i ≡ start_words (slice_get own.memories i)
    unfolding words_of words_alone
    own_start =
        let whole = can.whole i m is in
        ap (λ o. bank_words (2 ^ address_bits o) k (words 0 i)) is
        ∙ ap (bank_words (2 ^ m.abits) k) (run.begins i ∙ ap start_words memory_of_all)
        ∙ sym (ap (λ n. bank_words n k (start_words (Some (banked_memory c m entry)))) whole.words)
        ∙ bank_start c k m entry whole (can.long i m is) (can.images i m is) below
        ∙ sym (ap start_words own_memory)

    own_goes : (n : ℕ) → n * c + k < clocks
        → words_of (suc n) i ≡ open_memory true own i (slice_get own.memories i) (sees alone n) (words_of n i)
    own_goes n h = own_next n h ∙ sym (ap (λ o. open_memory true own i o (sees alone n) (words_of n i)) own_memory)

  -- ---- a memory that isn't there

  module _ (i : ℕ) (is : slice_get w.memories i ≡ None) where
    no_memory : slice_get (banked c entries slowed).memories i ≡ None
    no_memory = get_without (banked_memory c) w.memories entries i is

    no_own : slice_get own.memories i ≡ None
    no_own = get_without (memory_in k) w.memories entries i is

    no_words : (t : ℕ) → t ≤ clocks → words t i ≡ []
    no_words zero h = run.begins i ∙ ap start_words no_memory
    no_words (suc t) h =
        run.goes_on t (omega (arith, h)) i
        ∙ ap (λ o. open_memory false (banked c entries slowed) i o (sees value t) (words t i)) no_memory
        ∙ no_words t (omega (arith, h))

    none_of : (n : ℕ) → n * c + k < clocks → words_of (suc n) i ≡ []
    unfolding words_of words_alone
    none_of n h =
        ap (bank_words (2 ^ address_bits (slice_get w.memories i)) k) (no_words (suc (n * c + k)) (omega (arith, h)))
        ∙ bank_none (2 ^ address_bits (slice_get w.memories i)) k

    none_first : words_of 0 i ≡ []
    unfolding words_of words_alone
    none_first =
        ap (bank_words (2 ^ address_bits (slice_get w.memories i)) k) (no_words 0 (omega arith))
        ∙ bank_none (2 ^ address_bits (slice_get w.memories i)) k

    none_goes : (n : ℕ) → n * c + k < clocks
        → words_of (suc n) i ≡ open_memory true own i (slice_get own.memories i) (sees alone n) (words_of n i)
    none_goes zero h =
        none_of 0 h ∙ sym none_first ∙ sym (ap (λ o. open_memory true own i o (sees alone 0) (words_of 0 i)) no_own)
    none_goes (suc n) h =
        none_of (suc n) h ∙ sym (none_of n (omega (arith, h)))
        ∙ sym (ap (λ o. open_memory true own i o (sees alone (suc n)) (words_of (suc n) i)) no_own)

  -- ---- the run

  begins_at : (i : ℕ) (o : Option Memory) → slice_get w.memories i ≡ o
      → words_of 0 i ≡ start_words (slice_get own.memories i)
  begins_at i None is = none_first i is ∙ sym (ap start_words (no_own i is))
  begins_at i (Some m) is = own_start i m is

  goes_at : (n i : ℕ) → n * c + k < clocks → (o : Option Memory) → slice_get w.memories i ≡ o
      → words_of (suc n) i ≡ open_memory true own i (slice_get own.memories i) (sees alone n) (words_of n i)
  goes_at n i h None is = none_goes i is n h
  goes_at n i h (Some m) is = own_goes i m is n h

  module _ (n : ℕ) (h : n * c + k < clocks) (v : ℕ) (x : OpenVertex) (is : slice_get w.vertices v ≡ Some x) where
    plain_pins : map (sees value (n * c + k)) (map (slow_pin c) x.pins) ≡ map (sees alone n) x.pins
    unfolding alone
    plain_pins = pins_slow c k below value (length w.vertices) n x.pins (λ j s at. can.within v j x s is at)

    abbrev pins_of_all : VertexKind → List (Option Source)
    pins_of_all kind = banked_pins (context_pins c (length slowed.vertices)) (first_guard c slowed) slowed kind
        (map (slow_pin c) x.pins)

    output_same : (kind : VertexKind) → x.kind ≡ kind → (i o : ℕ)
        → output_of kind i (row (n * c + k)) (words (n * c + k)) (map (sees value (n * c + k)) (pins_of_all kind)) o
        ≡ output_of kind i (row (n * c + k)) (words_of n) (map (sees alone n) x.pins) o
    output_same Host kind i o = refl
    output_same Input kind i o = refl
    output_same Output kind i o = refl
    output_same (Constant bit) kind i o = refl
    output_same (Gate gate) kind i o = ap (gate_value gate) plain_pins
    output_same (Read memory p) kind i o =
        let port = can.ports.reads v memory p x is kind in
        let t = n * c + k in
        let turn : t % c ≡ k = mod-mul-add n c k below in
        let bits = see_digits t h ∙ ap (digits (context_bits c)) turn in
        let long : length (map (sees alone n) x.pins) ≡ port.0.abits = length-map x.pins (sees alone n) ∙ port.2 in
        let enough = enough_bits c in
        ap (λ pins. read_bit (words t memory) pins o)
        (map-append (sees value t) (map (slow_pin c) x.pins) (context_pins c (length slowed.vertices))
        ∙ ap₂ (λ y z. y ++ z) plain_pins bits)
        ∙ read_same (words t memory) (2 ^ port.0.abits) k (map (sees alone n) x.pins) (digits (context_bits c) k) o
        (ap (λ a. 2 ^ a) (sym long)) (number_of-digits (context_bits c) k (omega (arith, below, enough)))
        ∙ ap (λ ws. read_bit ws (map (sees alone n) x.pins) o) (own_turn memory port.0 port.1 n h)
    output_same (WritePort memory p) kind i o = refl

    shown_same : (kind : VertexKind)
        → shown_by kind (map (sees value (n * c + k)) (pins_of_all kind)) ≡ shown_by kind (map (sees alone n) x.pins)
    shown_same Host = refl
    shown_same Input = refl
    shown_same Output = plain_pins
    shown_same (Constant bit) = refl
    shown_same (Gate gate) = refl
    shown_same (Read memory p) = refl
    shown_same (WritePort memory p) = refl

  module _ (v : ℕ) (in_range : v < length w.vertices) where
    in_slowed : v < length slowed.vertices
    in_slowed = let count = length-map w.vertices (slow_open c) in omega (arith, count, in_range)

    vertex_of_all : slice_get (banked c entries slowed).vertices v
        ≡ option_map (banked_of c entries slowed) (option_map (slow_open c) (slice_get w.vertices v))
    vertex_of_all = old_vertex c entries slowed v in_slowed
        ∙ ap (option_map (banked_of c entries slowed)) (slice_get-map (slow_open c) w.vertices v)

    inputs_of_all : open_inputs_before (banked c entries slowed).vertices v ≡ open_inputs_before w.vertices v
    inputs_of_all = inputs_in (banked_of c entries slowed) (slow_open c) (λ x. refl) w.vertices (new_vertices c slowed)
        v in_range

  settles_at : (n v o : ℕ) → n * c + k < clocks → alone n v o ≡ open_value own (row (n * c + k)) (words_of n)
      (sees alone n) v o
  unfolding alone
  settles_at n v o h = elim (cases_lt v (length w.vertices)) [
    | inl in_range ↦
        context_in c k below value (length w.vertices) n v o in_range
        ∙ run.settles (n * c + k) h v o
        ∙ ap₂ (λ x i. open_output x i (row (n * c + k)) (words (n * c + k)) (sees value (n * c + k)) o)
        (vertex_of_all v in_range) (inputs_of_all v in_range)
        ∙ by n v o h (slice_get w.vertices v) refl
    | inr out ↦
        context_out c k below value (length w.vertices) n v o out
        ∙ sym (ap (λ x. open_output x (open_inputs_before w.vertices v) (row (n * c + k)) (words_of n) (sees alone n) o)
        (slice_get_past w.vertices v out))
  ]
    where
      by : (n v o : ℕ) → n * c + k < clocks → (x : Option OpenVertex) → slice_get w.vertices v ≡ x
          → open_output (option_map (banked_of c entries slowed) (option_map (slow_open c) x))
          (open_inputs_before w.vertices v) (row (n * c + k)) (words (n * c + k)) (sees value (n * c + k)) o
          ≡ open_output x (open_inputs_before w.vertices v) (row (n * c + k)) (words_of n) (sees alone n) o
      by n v o h None is = refl
      by n v o h (Some x) is = output_same n h v x is x.kind refl (open_inputs_before w.vertices v) o

  -- the rows of the context, as far as they go
  pub context_run : (clocks' : ℕ) (row' : ℕ → Row) → ((n : ℕ) → n < clocks' → n * c + k < clocks)
      → ((n : ℕ) → n < clocks' → row (n * c + k) ≡ row' n) → DraftRuns true own clocks' row' alone words_of
  context_run clocks' row' inside same = record {
    begins = λ i. begins_at i (slice_get w.memories i) refl;
    settles = λ n h v o. settles_at n v o (inside n h)
        ∙ ap (λ r. open_value own r (words_of n) (sees alone n) v o) (same n h);
    goes_on = λ n h i. goes_at n i (inside n h) (slice_get w.memories i) refl;
  }

  -- and its outputs
  pub context_shows : (n : ℕ) → n * c + k < clocks
      → open_outputs (banked c entries slowed) (sees value (n * c + k)) ≡ open_outputs own (sees alone n)
  context_shows n h =
      of_old (λ x. shown_by x.kind (map (sees value (n * c + k)) x.pins)) (λ kind pins. refl) c entries slowed
      ∙ flat_map-map (λ x. shown_by x.kind (map (sees value (n * c + k)) (banked_of c entries slowed x).pins))
      (slow_open c) w.vertices
      ∙ flat_map_same
      (λ x. shown_by x.kind (map (sees value (n * c + k)) (banked_of c entries slowed (slow_open c x)).pins))
      (λ x. shown_by x.kind (map (sees alone n) x.pins)) w.vertices (λ v x is. shown_same n h v x is x.kind)
