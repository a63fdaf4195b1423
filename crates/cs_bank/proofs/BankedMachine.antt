-- Every pin of a banked machine is fed, and no loop lacks a register.
use Rattle.std.proofs.Common.{◌≡◌, ℕ, zero, suc, ◌+◌, ◌<◌, ◌≤◌, false, List, [], ◌∷◌, length, map, refl, sym, ap, ◌∙◌, inl, inr, arith, subst}
use Rattle.std.specs.Prelude.{slice_get, option_map, Option, Some, None}
use Rattle.std.proofs.lemmas.List.{length-map}
use Rattle.std.proofs.lemmas.List.FromFn.{length-map-range_with_len}
use Rattle.std.proofs.lemmas.Option.{none-some, same_Some, slice_get-map, slice_get_within}
use Rattle.cs_graph.specs.declared.edge.Edge.{Edge}
use Rattle.cs_graph.specs.declared.graph.Graph.{Graph}
use Rattle.cs_graph.specs.declared.memory.Memory.{Memory}
use Rattle.cs_graph.specs.declared.source.Driver.{Driver}
use Rattle.cs_graph.specs.declared.source.OpenVertex.{OpenVertex}
use Rattle.cs_graph.specs.declared.source.Source.{Source}
use Rattle.cs_graph.specs.declared.source.Source.TheVariants.{Driven, Tied as TiedTo}
use Rattle.cs_graph.specs.declared.vertex.Feed.{Feed}
use Rattle.cs_graph.specs.declared.vertex.Feed.TheVariants.{Edge as Along, Tied}
use Rattle.cs_graph.specs.declared.vertex.VertexKind.{VertexKind}
use Rattle.cs_graph.specs.declared.vertex.VertexKind.TheVariants.{Constant, Gate, Host, Input, Output, Read, Write}
use Rattle.cs_graph.specs.Draft.{AreFed, Draft, IsDraft, built, open_kinds}
use Rattle.cs_graph.specs.Invariant.{HasHost, HasMemories, HasOrder, HasOutput, IsMachine, kinds}
use Rattle.cs_graph.specs.Kinds.{is_write_of, output_count, pin_count}
use Rattle.cs_graph.proofs.BuiltLemmas.{built_machine}
use Rattle.cs_net.specs.Contexts.{Image}
use Rattle.cs_bank.specs.Bank.{CanBank, FitsMemory, IsWhole, bank, bank_by, banked, banked_pins, banked_vertex, first_guard, guard_place, new_vertices}
use Rattle.cs_bank.specs.BankFaults.{bank_fault, bank_fault_by, draft_fault}
use Rattle.cs_bank.specs.ContextBits.{context_bit, context_bits, context_pins, context_vertices, wire}
use Rattle.cs_bank.specs.Guards.{guards}
use Rattle.cs_bank.specs.Wired.{edge_source, feed_source, wired, wired_vertex}
use Rattle.cs_bank.proofs.Answered.{get_kind, kinds_wired, of_machine, ports_of}
use Rattle.cs_bank.proofs.BankedDrafts.{are_few, banked_host, banked_memories, banked_pin_counts}
use Rattle.cs_bank.proofs.BankedOrder.{HasDraftOrder, IsRead, banked_order, is_writer, order_built, same_driver}
use Rattle.cs_bank.proofs.BankedOutputs.{banked_outputs}
use Rattle.cs_bank.proofs.BankedPins.{AllRead, back_guards, both_read, get_both, wires_read, write_read}
use Rattle.cs_bank.proofs.BankedPlaces.{HasPorts, in_filter, write_pins_are}
use Rattle.cs_bank.proofs.Counters.{get_context_bit}
use Rattle.cs_bank.proofs.GuardLemmas.{place_after}
use Rattle.cs_bank.proofs.Lists.{there, was_in}
use Rattle.cs_bank.proofs.StartLemmas.{entry_at, get_entry}

-- ---- every pin is fed

IsGiven : Option Source → Type 0
IsGiven s = s ≡ None → ⊥

none_given : {s : Source} → Some s ≡ None → ⊥
none_given {s} same = none-some s (sym same)

module _ (c : ℕ) (entries : List (Option (List Image))) (d : Draft) (ports : HasPorts d)
    (some : (i : ℕ) (m : Memory) → slice_get d.memories i ≡ Some m → 0 < m.size) (fed : AreFed d.vertices) where
  abbrev n : ℕ
  n = length d.vertices

  abbrev first : ℕ
  first = first_guard c d

  wire_given : (u : ℕ) → n ≤ u → IsGiven (wire u)
  unfolding IsGiven
  wire_given u low same = none_given same

  old_given : (v : ℕ) (x : OpenVertex) → slice_get d.vertices v ≡ Some x → AllRead 0 IsGiven x.pins
  unfolding IsGiven
  old_given v x found i s at none = fed v i (x, found, at ∙ ap Some none)

  pins_given : (v : ℕ) (x : OpenVertex) → slice_get d.vertices v ≡ Some x → (kind : VertexKind)
      → AllRead 0 IsGiven (banked_pins (context_pins c n) first d kind x.pins)
  pins_given v x found Host = old_given v x found
  pins_given v x found Input = old_given v x found
  pins_given v x found Output = old_given v x found
  pins_given v x found (Constant b) = old_given v x found
  pins_given v x found (Gate kind) = old_given v x found
  pins_given v x found (Read memory port) =
      both_read 0 IsGiven x.pins (context_pins c n) (old_given v x found)
      (wires_read 0 IsGiven n wire_given n (context_bits c) (omega arith))
  pins_given v x found (Write memory port) =
      let low = place_after first 0 d.memories d.vertices memory in
      write_read 0 IsGiven n wire_given c (guard_place first d memory port) (slice_get d.memories memory) x.pins
      (omega (arith, low)) (old_given v x found)

  bit_given : (e i : ℕ) (x : OpenVertex) → slice_get (context_vertices c n) e ≡ Some x → slice_get x.pins i ≡ Some None
      → ⊥
  bit_given e i x found at =
      let within = slice_get_within (context_vertices c n) e x found in
      let count = length-map-range_with_len (λ j. context_bit c (n + j) j) 0 (context_bits c) in
      let is = same_Some (context_bit c (n + e) e) x (sym (get_context_bit c n e (omega (arith, within, count)))
      ∙ found) in
      by i (ap (λ (z : OpenVertex). slice_get z.pins i) is ∙ at)
    where
      by : (i : ℕ) → slice_get (context_bit c (n + e) e).pins i ≡ Some None → ⊥
      by zero at = none_given (same_Some _ None at)
      by (suc i) at = none-some None at

  guard_given : (e i : ℕ) (x : OpenVertex) → slice_get (guards first 0 d.memories d.vertices) e ≡ Some x
      → slice_get x.pins i ≡ Some None → ⊥
  unfolding IsGiven
  guard_given e i x found at =
      let back = back_guards first IsGiven first 0 d.memories d.vertices (omega arith) some (write_pins_are d ports)
      (λ j p y on. let was = in_filter (λ (z : OpenVertex). is_write_of j z.kind) d.vertices p y on in old_given was.0 y
      was.1) in
      elim (back e i x None found at) [
        | inl earlier ↦ none_given (sym earlier.is)
        | inr given ↦ given refl
      ]

  pub banked_fed : AreFed (banked c entries d).vertices
  unfolding IsGiven
  banked_fed v i (x, found, at) =
      let mine = banked_vertex (context_pins c n) first d in
      elim (get_both (map mine d.vertices) (new_vertices c d) v x found) [
        | inl old ↦
            let was = was_in mine d.vertices v x old in
            pins_given v was.0 was.1 was.0.kind i None (ap (λ (z : OpenVertex). slice_get z.pins i) was.2 ∙ at) refl
        | inr (e, is, new) ↦ elim (get_both (context_vertices c n) (guards first 0 d.memories d.vertices) e x new) [
          | inl bit ↦ bit_given e i x bit at
          | inr (e', is', guard) ↦ guard_given e' i x guard at
        ]
      ]

-- ---- a machine's wired form

source_number : Option Source → ℕ
source_number None = 0
source_number (Some (TiedTo b)) = 1
source_number (Some (Driven k)) = 2

-- the edge that feeds a pin which reads a vertex
record IsFedBy (g : Graph) (fs : List Feed) (i : ℕ) (k : Driver) : Type 0 where
  e : ℕ
  edge : Edge
  at : slice_get fs i ≡ Some (Along e)
  found : slice_get g.edges e ≡ Some edge
  is : record { from = edge.from; output = edge.output; contents = edge.contents } ≡ k

fed_by : (g : Graph) (fs : List Feed) (i : ℕ) (k : Driver)
    → slice_get (map (feed_source g.edges) fs) i ≡ Some (Some (Driven k))
    → IsFedBy g fs i k
unfolding source_number
fed_by g [] i k at = absurd (none-some (Some (Driven k)) at)
fed_by g (Tied b ∷ fs) zero k at =
    let no : ◌≡◌ {A = ℕ} 1 2 = ap source_number (same_Some (Some (TiedTo b)) (Some (Driven k)) at) in absurd
    (omega (arith, no))
fed_by g (Along e ∷ fs) zero k at = by (slice_get g.edges e) refl
    (same_Some (feed_source g.edges (Along e)) (Some (Driven k)) at)
  where
    by : (o : Option Edge) → slice_get g.edges e ≡ o → edge_source (slice_get g.edges e) ≡ Some (Driven k)
        → IsFedBy g (Along e ∷ fs) 0 k
    by None none same =
        let no : ◌≡◌ {A = ℕ} 1 2 = ap source_number (sym (ap edge_source none) ∙ same) in absurd (omega (arith, no))
    by (Some d) found same = record {
      e = e;
      edge = d;
      at = refl;
      found = found;
      is = same_driver (record { from = d.from; output = d.output; contents = d.contents }) k
          (sym (ap edge_source found) ∙ same);
    }
fed_by g (f ∷ fs) (suc i) k at =
    let rest = fed_by g fs i k at in record {
      e = rest.e;
      edge = rest.edge;
      at = rest.at;
      found = rest.found;
      is =
          rest.is;
    }

no_outputs : (ms : List Memory) (kind : VertexKind) (output : ℕ) → output < output_count ms kind
    → is_writer kind ≡ false
no_outputs ms Host output low = refl
no_outputs ms Input output low = refl
no_outputs ms Output output low = refl
no_outputs ms (Constant b) output low = refl
no_outputs ms (Gate kind) output low = refl
no_outputs ms (Read memory port) output low = refl
no_outputs ms (Write memory port) output low = absurd (omega (arith, low))

module _ (g : Graph) (is : IsMachine g) where
  wired_order : HasDraftOrder (wired g)
  wired_order = record {
    place = is.well_formed.order.place;
    span = is.well_formed.order.span;
    within = is.well_formed.order.within;
    below = λ v i y k found at none.
        let old = was_in (wired_vertex g.edges) g.vertices v y found in
        let by = fed_by g old.0.pins i k (ap (λ (z : OpenVertex). slice_get z.pins i) old.2 ∙ at) in
        let held = is.well_formed.held by.e by.edge by.found in
        let empty = ap (λ (d : Driver). length d.contents) by.is in
        let low = is.well_formed.order.below by.e by.edge by.found (omega (arith, held, empty, none)) in
        let from = ap (λ (d : Driver). is.well_formed.order.place d.from) by.is in
        let to = ap is.well_formed.order.place (is.well_formed.fed.to v i by.e old.0 by.edge old.1 by.at by.found) in
        omega (arith, low, from, to);
  }

  wired_reads : (v i : ℕ) (y : OpenVertex) (k : Driver) → slice_get (wired g).vertices v ≡ Some y
      → slice_get y.pins i ≡ Some (Some (Driven k)) → IsRead (wired g) k
  wired_reads v i y k found at =
      let old = was_in (wired_vertex g.edges) g.vertices v y found in
      let by = fed_by g old.0.pins i k (ap (λ (z : OpenVertex). slice_get z.pins i) old.2 ∙ at) in
      let has = is.outputs by.e by.edge by.found in
      let x = there g.vertices by.edge.from (is.well_formed.from by.e by.edge by.found) in
      let kind = same_Some has.kind x.0.kind (sym has.found ∙ get_kind g.vertices by.edge.from x.0 x.1) in
      let from = ap (λ (d : Driver). d.from) by.is in (
        wired_vertex g.edges x.0,
        ap (slice_get (wired g).vertices) (sym from)
            ∙ slice_get-map (wired_vertex g.edges) g.vertices by.edge.from
            ∙ ap (option_map (wired_vertex g.edges)) x.1,
        ap is_writer (sym kind) ∙ no_outputs g.memories has.kind by.edge.output has.among,
      )

  source_given : (f : Feed) → feed_source g.edges f ≡ None → ⊥
  source_given (Tied b) same = none_given same
  source_given (Along e) same = by (slice_get g.edges e) same
    where
      by : (o : Option Edge) → edge_source o ≡ None → ⊥
      by None same = none_given same
      by (Some d) same = none_given same

  wired_fed : AreFed (wired g).vertices
  wired_fed v i (y, found, at) =
      let old = was_in (wired_vertex g.edges) g.vertices v y found in
      by old.0.pins i (ap (λ (z : OpenVertex). slice_get z.pins i) old.2 ∙ at)
    where
      by : (fs : List Feed) (i : ℕ) → slice_get (map (feed_source g.edges) fs) i ≡ Some None → ⊥
      by [] i at = none-some None at
      by (f ∷ fs) zero at = source_given f (same_Some (feed_source g.edges f) None at)
      by (f ∷ fs) (suc i) at = by fs i at

  module _ (c : ℕ) (entries : List (Option (List Image))) (whole : (i : ℕ) (m : Memory)
      → slice_get g.memories i ≡ Some m → IsWhole m) where
    some_words : (i : ℕ) (m : Memory) → slice_get g.memories i ≡ Some m → 0 < m.size
    some_words i m at = (whole i m at).some

    -- a banked machine has all its pins fed
    pub all_fed : AreFed (banked c entries (wired g)).vertices
    all_fed = banked_fed c entries (wired g) (ports_of g (of_machine g is)) some_words wired_fed

    -- and an order
    pub has_order : 0 < c → HasOrder (built (banked c entries (wired g)))
    has_order several = order_built (banked c entries (wired g))
        (banked_order c entries (wired g) wired_order (ports_of g (of_machine g is)) several some_words wired_reads)

    wired_host : HasHost (open_kinds (wired g).vertices)
    wired_host = subst HasHost (sym (kinds_wired g.edges g.vertices)) is.host

    wired_pins : (v : ℕ) (y : OpenVertex) → slice_get (wired g).vertices v ≡ Some y
        → length y.pins ≡ pin_count g.memories y.kind
    wired_pins v y found =
        let old = was_in (wired_vertex g.edges) g.vertices v y found in
        sym (ap (λ (z : OpenVertex). length z.pins) old.2)
        ∙ length-map old.0.pins (feed_source g.edges)
        ∙ is.pins v old.0 old.1
        ∙ ap (λ (z : OpenVertex). pin_count g.memories z.kind) old.2

    wired_outputs : (v i : ℕ) (y : OpenVertex) (k : Driver) → slice_get (wired g).vertices v ≡ Some y
        → slice_get y.pins i ≡ Some (Some (Driven k))
        → HasOutput g.memories (open_kinds (wired g).vertices) k.from k.output
    wired_outputs v i y k found at =
        let old = was_in (wired_vertex g.edges) g.vertices v y found in
        let by = fed_by g old.0.pins i k (ap (λ (z : OpenVertex). slice_get z.pins i) old.2 ∙ at) in
        subst (λ ks. HasOutput g.memories ks k.from k.output) (sym (kinds_wired g.edges g.vertices))
        (subst (λ (d : Driver). HasOutput g.memories (kinds g.vertices) d.from d.output) by.is
        (is.outputs by.e by.edge by.found))

    wired_memories : HasMemories g.memories (open_kinds (wired g).vertices)
    wired_memories = subst (HasMemories g.memories) (sym (kinds_wired g.edges g.vertices)) is.memories

    module _ (several : 0 < c) (few : c ≤ 16) (count : length entries ≡ length g.memories)
        (fits : (i : ℕ) (m : Memory) → slice_get g.memories i ≡ Some m → FitsMemory c m (entry_at entries i))
        (none : draft_fault (banked c entries (wired g)) ≡ None) where
      -- it is what a builder keeps
      pub banked_draft : IsDraft (banked c entries (wired g))
      banked_draft =
          let within = are_few (banked c entries (wired g)) none in
          record {
            host = banked_host c entries (wired g) count wired_host;
            pins = banked_pin_counts c entries (wired g) count (ports_of g (of_machine g is)) wired_pins;
            outputs = banked_outputs c entries (wired g) count (ports_of g (of_machine g is)) some_words wired_outputs;
            memories = banked_memories c entries (wired g) count several few whole fits within.memories wired_memories;
            limits = record { vertices = within.vertices; edges = within.edges; weight = within.weight };
          }

      banked_machine : IsMachine (built (banked c entries (wired g)))
      banked_machine = built_machine (banked c entries (wired g)) banked_draft (has_order several)

-- ---- all

machine_by : (g : Graph) → IsMachine g → (c : ℕ) (entries : List (Option (List Image))) → 0 < c → c ≤ 16
    → CanBank c entries g
    → (ms : List Memory) → g.memories ≡ ms → bank_fault_by ms c entries g ≡ None → IsMachine (bank_by ms c entries g)
machine_by g is c entries several few can [] same none = is
machine_by g is c entries several few can (m ∷ ms) same none =
    let fits = λ (i : ℕ) (y : Memory) (at : slice_get g.memories i ≡ Some y).
    (let within = slice_get_within g.memories i y at in
    let count = can.count in
    can.images i y (entry_at entries i) at (get_entry entries i (omega (arith, within, count)))) in
    banked_machine g is c entries can.whole several few can.count fits none

-- a machine that can be banked is a machine when it is, where nothing of it is too many
pub bank_machine : (g : Graph) → IsMachine g → (c : ℕ) (entries : List (Option (List Image))) → 0 < c → c ≤ 16
    → CanBank c entries g → bank_fault c entries g ≡ None → IsMachine (bank c entries g)
bank_machine g is c entries several few can none = machine_by g is c entries several few can g.memories refl none
