-- What a banked graph answers to a context, the graph answers alone.
use Rattle.std.proofs.Common.{◌≡◌, ℕ, zero, suc, ◌+◌, ◌-◌, ◌*◌, ◌/◌, ◌<◌, ◌≤◌, Bool, true, false, List, [], ◌∷◌, length, map, take, refl, sym, ap, subst, ◌∙◌, arith}
use Rattle.std.specs.Prelude.{slice_get, option_map, Option, Some, None}
use Rattle.std.specs.List.{count_by}
use Rattle.std.proofs.lemmas.List.{length-map}
use Rattle.std.proofs.lemmas.Option.{none-some, same_Some, slice_get-map, slice_get_within}
use Rattle.cs_base.specs.Parts.{part}
use Rattle.cs_base.proofs.PartLemmas.{get_or-part, length-part, part_in}
use Rattle.cs_cells.specs.Memories.{Words}
use Rattle.cs_graph.specs.declared.edge.Edge.{Edge}
use Rattle.cs_graph.specs.declared.graph.Graph.{Graph}
use Rattle.cs_graph.specs.declared.memory.Memory.{Memory}
use Rattle.cs_graph.specs.declared.source.Driver.{Driver}
use Rattle.cs_graph.specs.declared.source.OpenVertex.{OpenVertex}
use Rattle.cs_graph.specs.declared.source.Source.{Source}
use Rattle.cs_graph.specs.declared.source.Source.TheVariants.{Driven, Tied as TiedTo}
use Rattle.cs_graph.specs.declared.vertex.Feed.{Feed}
use Rattle.cs_graph.specs.declared.vertex.Feed.TheVariants.{Edge as Along, Tied}
use Rattle.cs_graph.specs.declared.vertex.Vertex.{Vertex}
use Rattle.cs_graph.specs.declared.vertex.VertexKind.TheVariants.{Read, Write}
use Rattle.cs_graph.specs.Draft.{Draft, built, open_kinds}
use Rattle.cs_graph.specs.Invariant.{HasMemories, HasMemory, IsMachine, IsNextPort, IsWellFormed, kinds}
use Rattle.cs_graph.specs.Kinds.{address_bits, is_write_of, pin_count, word_bits}
use Rattle.cs_graph.specs.Run.{Outs, Row, RunsFor, RunsWith, memory_after, row_of, seen}
use Rattle.cs_graph.specs.Slow.{slow}
use Rattle.cs_graph.proofs.Slowed.{context_alone}
use Rattle.cs_net.specs.Contexts.{Image}
use Rattle.cs_bank.specs.Alone.{AnswersEachAlone}
use Rattle.cs_bank.specs.Bank.{CanBank, bank, bank_by, banked}
use Rattle.cs_bank.specs.Starts.{memory_in, of_context, with_entries}
use Rattle.cs_bank.specs.Wired.{edge_source, feed_source, wired, wired_vertex}
use Rattle.cs_bank.proofs.BankedPlaces.{HasPorts}
use Rattle.cs_bank.proofs.ContextRuns.{CanBankDraft, alone, context_run, context_shows, draft_of_context, words_of}
use Rattle.cs_bank.proofs.DraftRuns.{DraftRuns, SeeAlike, built_alike, from_draft, outputs_alike, sees, to_draft, wired_alike}
use Rattle.cs_bank.proofs.Lists.{there, was_in}
use Rattle.cs_bank.proofs.SlowDrafts.{slow_draft, wired_slow}
use Rattle.cs_bank.proofs.StartLemmas.{entry_at, get_entry}

-- ---- what is banked

-- a well-formed graph whose vertices have the pins of their kinds, and the memories that they name: as a machine, but
-- without limits
pub record FitsTogether (g : Graph) : Type 0 where
  pub well_formed : IsWellFormed g
  pub pins : (v : ℕ) (x : Vertex) → slice_get g.vertices v ≡ Some x → length x.pins ≡ pin_count g.memories x.kind
  pub memories : HasMemories g.memories (kinds g.vertices)

pub of_machine : (g : Graph) → IsMachine g → FitsTogether g
of_machine g is = record { well_formed = is.well_formed; pins = is.pins; memories = is.memories }

-- ---- its wired form can be banked

pub kinds_wired : (edges : List Edge) (xs : List Vertex) → open_kinds (map (wired_vertex edges) xs) ≡ kinds xs
kinds_wired edges [] = refl
kinds_wired edges (x ∷ xs) = ap (λ ks. x.kind ∷ ks) (kinds_wired edges xs)

pub get_kind : (xs : List Vertex) (v : ℕ) (x : Vertex) → slice_get xs v ≡ Some x → slice_get (kinds xs) v ≡ Some x.kind
get_kind xs v x found = slice_get-map (λ (y : Vertex). y.kind) xs v ∙ ap (option_map (λ (y : Vertex). y.kind)) found

-- one more than the vertex that a pin reads, 0 where it reads none
above : Option Source → ℕ
above None = 0
above (Some (TiedTo b)) = 0
above (Some (Driven k)) = suc k.from

module _ (g : Graph) (is : FitsTogether g) where
  module _ (v : ℕ) (x : Vertex) (found : slice_get g.vertices v ≡ Some x) where
    read_pins : (memory port : ℕ) → x.kind ≡ Read memory port
        → (m : Memory) × (slice_get g.memories memory ≡ Some m) × (length x.pins ≡ m.abits)
    read_pins memory port kind =
        let has = subst (HasMemory g.memories) kind (is.memories.there v x.kind (get_kind g.vertices v x found)) in
        let own = there g.memories memory has in
        (own.0, own.1, is.pins v x found ∙ ap (pin_count g.memories) kind ∙ ap address_bits own.1)

    write_pins_of : (memory port : ℕ) → x.kind ≡ Write memory port
        → (m : Memory) × (slice_get g.memories memory ≡ Some m) × (length x.pins ≡ m.abits + 2 * m.width)
    write_pins_of memory port kind =
        let has = subst (HasMemory g.memories) kind (is.memories.there v x.kind (get_kind g.vertices v x found)) in
        let own = there g.memories memory has in (
          own.0,
          own.1,
          is.pins v x found ∙ ap (pin_count g.memories) kind
              ∙ ap (λ o. address_bits o + 2 * word_bits o) own.1,
        )

    next_port : (memory port : ℕ) → x.kind ≡ Write memory port
        → port ≡ count_by (is_write_of memory) (take v (open_kinds (wired g).vertices))
    next_port memory port kind =
        subst (IsNextPort (take v (kinds g.vertices))) kind (is.memories.ports v x.kind (get_kind g.vertices v x found))
        ∙ ap (λ ks. count_by (is_write_of memory) (take v ks)) (sym (kinds_wired g.edges g.vertices))

  pub ports_of : HasPorts (wired g)
  ports_of = record {
    reads = λ v memory port y found kind.
        let old = was_in (wired_vertex g.edges) g.vertices v y found in
        let own = read_pins v old.0 old.1 memory port (ap (λ (z : OpenVertex). z.kind) old.2 ∙ kind) in (
          own.0,
          own.1,
          sym (ap (λ (z : OpenVertex). length z.pins) old.2) ∙ length-map old.0.pins (feed_source g.edges)
              ∙ own.2,
        );
    writes = λ v memory port y found kind.
        let old = was_in (wired_vertex g.edges) g.vertices v y found in
        let same = ap (λ (z : OpenVertex). z.kind) old.2 ∙ kind in
        let own = write_pins_of v old.0 old.1 memory port same in (
          own.0,
          own.1,
          sym (ap (λ (z : OpenVertex). length z.pins) old.2) ∙ length-map old.0.pins (feed_source g.edges) ∙ own.2,
          next_port v old.0 old.1 memory port same,
        );
  }

  edge_above : (e : ℕ) (o : Option Edge) → slice_get g.edges e ≡ o → above (edge_source o) ≤ length g.vertices
  unfolding above
  edge_above e None found = omega arith
  edge_above e (Some d) found = is.well_formed.from e d found

  feed_above : (f : Feed) → above (feed_source g.edges f) ≤ length g.vertices
  unfolding above
  feed_above (Tied b) = omega arith
  feed_above (Along e) = edge_above e (slice_get g.edges e) refl

  pins_above : (fs : List Feed) (i : ℕ) (k : Driver)
      → slice_get (map (feed_source g.edges) fs) i ≡ Some (Some (Driven k))
      → k.from < length g.vertices
  unfolding above
  pins_above [] i k at = absurd (none-some (Some (Driven k)) at)
  pins_above (f ∷ fs) zero k at =
      let low = feed_above f in
      let same = ap above (same_Some (feed_source g.edges f) (Some (Driven k)) at) in
      omega (arith, low, same)
  pins_above (f ∷ fs) (suc i) k at = pins_above fs i k at

  can_of : (c : ℕ) (entries : List (Option (List Image))) → CanBank c entries (slow c g)
      → CanBankDraft c entries (wired g)
  can_of c entries can = record {
    ports = ports_of;
    whole = can.whole;
    long = λ i m at. (is.memories.each i m at).start;
    count = can.count;
    images = λ i m at.
        let within = slice_get_within g.memories i m at in
        let count = can.count in
        can.images i m (entry_at entries i) at (get_entry entries i (omega (arith, within, count)));
    within = λ v i y k found at.
        let old = was_in (wired_vertex g.edges) g.vertices v y found in
        let low = pins_above old.0.pins i k (ap (λ (z : OpenVertex). slice_get z.pins i) old.2 ∙ at) in
        let count = length-map g.vertices (wired_vertex g.edges) in
        omega (arith, low, count);
  }

-- ---- without memories

module _ (g : Graph) (none : g.memories ≡ []) where
  memory_either : (sees : Feed → Bool) (i : ℕ) (now : Words) (ms : List Memory) → ms ≡ []
      → memory_after false g i (slice_get ms i) sees now ≡ memory_after true g i (slice_get ms i) sees now
  memory_either sees i now ms empty =
      ap (λ (xs : List Memory). memory_after false g i (slice_get xs i) sees now) empty
      ∙ sym (ap (λ (xs : List Memory). memory_after true g i (slice_get xs i) sees now) empty)

  run_either : (clocks : ℕ) (row : ℕ → Row) (value : ℕ → Outs) (words : ℕ → ℕ → Words)
      → RunsFor false g clocks row value words → RunsFor true g clocks row value words
  run_either clocks row value words r = record {
    begins = r.begins;
    settles = r.settles;
    goes_on = λ n h i. r.goes_on n h i ∙ memory_either (seen g value n) i (words n i) g.memories none;
  }

  answers_either : (rows outputs : List Row) → RunsWith false g rows outputs → RunsWith true g rows outputs
  answers_either rows outputs r = record {
    value = r.value;
    words = r.words;
    run = run_either (length rows) (row_of rows) r.value r.words r.run;
    shows = r.shows;
  }

  own_is : (k : ℕ) (entries : List (Option (List Image))) → of_context k entries g ≡ g
  own_is k entries =
      ap (λ (ms : List Memory). record g { memories = with_entries (memory_in k) ms entries }) none
      ∙ ap (λ (ms : List Memory). record g { memories = ms }) (sym none)

-- ---- with memories

module _ (g : Graph) (is : FitsTogether g) (c : ℕ) (entries : List (Option (List Image)))
    (can : CanBankDraft c entries (wired g)) (k : ℕ)
    (below : k < c) (rows outputs : List Row)
    (r : RunsWith false (built (banked c entries (slow_draft c (wired g)))) rows outputs) where
  abbrev draft : Draft
  draft = banked c entries (slow_draft c (wired g))

  abbrev own : Graph
  own = of_context k entries g

  drafted : DraftRuns false draft (length rows) (row_of rows) r.value r.words
  drafted = to_draft (built draft) draft refl r.value (built_alike draft r.value) false (length rows)
      (row_of rows) r.words r.run

  alone_value : ℕ → Outs
  alone_value = alone c entries (wired g) can k below (length rows) (row_of rows) r.value r.words drafted

  alone_words : ℕ → ℕ → Words
  alone_words = words_of c entries (wired g) can k below (length rows) (row_of rows) r.value r.words drafted

  own_alike : (n : ℕ) → SeeAlike own (draft_of_context k entries (wired g)) alone_value n
  own_alike n = wired_alike own is.well_formed.held alone_value n

  own_run : RunsFor true own (length (part k c rows)) (row_of (part k c rows)) alone_value alone_words
  unfolding alone_value alone_words
  own_run =
      from_draft own (draft_of_context k entries (wired g)) refl alone_value own_alike true (length (part k c rows))
      (row_of (part k c rows)) alone_words
      (context_run c entries (wired g) can k below (length rows) (row_of rows) r.value r.words drafted
      (length (part k c rows)) (row_of (part k c rows))
      (λ n h. (part_in rows k c n below).0 h) (λ n h. sym (get_or-part rows k c n [] below)))

  own_answers : RunsWith true own (part k c rows) (part k c outputs)
  unfolding alone_value
  own_answers = record {
    value = alone_value;
    words = alone_words;
    run = own_run;
    shows = record {
      count = length-part outputs k c below ∙ ap (λ n. (n + c - 1 - k) / c) r.shows.count
          ∙ sym (length-part rows k c below);
      each = λ n h.
          let inside = (part_in rows k c n below).0 h in
          get_or-part outputs k c n [] below
          ∙ r.shows.each (n * c + k) inside
          ∙ outputs_alike (built draft) draft refl r.value (built_alike draft r.value) (n * c + k)
          ∙ context_shows c entries (wired g) can k below (length rows) (row_of rows) r.value r.words drafted n inside
          ∙ sym (outputs_alike own (draft_of_context k entries (wired g)) refl alone_value own_alike n);
    };
  }

-- ---- all

answers_by : (g : Graph) → FitsTogether g → (c : ℕ) (entries : List (Option (List Image)))
    → CanBank c entries (slow c g) → (ms : List Memory) → g.memories ≡ ms → AnswersEachAlone c entries g (bank_by ms c entries (slow c g))
answers_by g is c entries can [] none k rows outputs below r =
    let all = answers_either (slow c g) none rows outputs r in
    subst (λ own. RunsWith true own (part k c rows) (part k c outputs)) (sym (own_is g none k entries))
    (context_alone true g none c k below rows outputs all)
answers_by g is c entries can (m ∷ ms) some k rows outputs below r =
    own_answers g is c entries (can_of g is c entries can) k below rows outputs
    (subst (λ d. RunsWith false (built (banked c entries d)) rows outputs) (wired_slow c g) r)

-- a graph that is slowed and banked answers each context as the graph alone does
pub answers_alone : (g : Graph) → FitsTogether g → (c : ℕ) (entries : List (Option (List Image)))
    → CanBank c entries (slow c g) → AnswersEachAlone c entries g (bank c entries (slow c g))
answers_alone g is c entries can = answers_by g is c entries can g.memories refl

-- and so does each machine
pub answers_each_alone : (g : Graph) → IsMachine g → (c : ℕ) (entries : List (Option (List Image)))
    → CanBank c entries (slow c g) → AnswersEachAlone c entries g (bank c entries (slow c g))
answers_each_alone g is = answers_alone g (of_machine g is)
