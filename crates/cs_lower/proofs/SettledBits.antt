-- In a run of the graph of a netlist what the bits show settles in each clock, where the state is what the run holds.
use Rattle.std.specs.Prelude.{option_map, slice_get}
use Rattle.std.proofs.Common.{◌≡◌, ℕ, ◌<◌, Bool, true, false, List, map, Option, Some, None, refl, sym, ap, subst, ◌∙◌, arith}
use Rattle.std.proofs.lemmas.Option.{none-some, same_Some}
use Rattle.cs_base.specs.declared.signal.Signal.{Signal}
use Rattle.cs_base.specs.declared.signal.Signal.TheVariants.{Bit}
use Rattle.cs_cells.specs.declared.gate.Kind.{Kind}
use Rattle.cs_cells.specs.Gates.{gate_value}
use Rattle.cs_cells.specs.Memories.{Words, read_bit}
use Rattle.cs_graph.specs.declared.vertex.VertexKind.{VertexKind}
use Rattle.cs_graph.specs.declared.vertex.VertexKind.TheVariants.{Gate, Read}
use Rattle.cs_graph.specs.Run.{Outs, Row, RunsFor}
use Rattle.cs_net.specs.declared.state.MemoryWords.{MemoryWords}
use Rattle.cs_net.specs.Drivers.{Driver, StateElement, driver_of, gate, input, register, undriven as driven_by_none, word_bit}
use Rattle.cs_net.specs.Invariant.{IsWellFormed}
use Rattle.cs_net.specs.Netlist.{Net, NetState}
use Rattle.cs_net.specs.Trace.{Settles, signal_value, value_by}
use Rattle.cs_lower.specs.Lowered.{buffer, lowered, memory_of, pieces_of, wiring_of}
use Rattle.cs_lower.specs.Matching.{IsVertex, Matches, ReadsWord, TakesFrom}
use Rattle.cs_lower.specs.declared.taps.Tap.{Tap}
use Rattle.cs_lower.specs.declared.taps.Tap.TheVariants.{Register as of_register, Signal as of_signal}
use Rattle.cs_lower.specs.declared.taps.Wire.{Wire}
use Rattle.cs_lower.specs.declared.taps.Wire.TheVariants.{Register as from_register, Vertex as from_vertex, Undriven as undriven}
use Rattle.cs_lower.specs.Wires.{parts_of, wire_in}
use Rattle.cs_lower.proofs.InputPlaces.{input_place}
use Rattle.cs_lower.proofs.MatchLemmas.{matches, well_named}
use Rattle.cs_lower.proofs.MemoryCells.{IsMemory, cell_of_memory}
use Rattle.cs_lower.proofs.NextLemmas.{ShowsReads}
use Rattle.cs_lower.proofs.PaddedWords.{IsPadded, reads_padded}
use Rattle.cs_lower.proofs.PieceValues.{gate_gives, input_gives, read_gives}
use Rattle.cs_graph.proofs.Lists.{get_left}
use Rattle.cs_lower.proofs.RegisterTrails.{free_undriven, free_vertex}
use Rattle.cs_lower.proofs.SeenLemmas.{shows}
use Rattle.cs_lower.proofs.SeenMemories.{taps_of_signals}
use Rattle.cs_lower.proofs.ShownTaps.{no_ring, shown_bits, shown_register, shown_signal, shown_vertex}
use Rattle.cs_lower.proofs.TakenLemmas.{ShowsGates}

-- a state is what a run holds at clock n: registers' bits are what the registers show, and memories have its words
pub record IsHeld (net : Net) (value : ℕ → Outs) (words : ℕ → Words) (n : ℕ) (now : NetState) : Type 0 where
  pub bits : (b : ℕ) (r : StateElement) → driver_of net b ≡ register r → now.bit b ≡ shows net value n (of_register b)
  pub memories : (m : ℕ) (own : MemoryWords) → slice_get net.memories m ≡ Some own → (is : IsMemory net m own)
      → IsPadded (memory_of (own, is.shape)) (words m) (now.words own.name)

-- ---- memories by their names

named_memory : (found : Option MemoryWords) (name : List ℕ) → option_map (λ m. m.name) found ≡ Some name
    → (own : MemoryWords) × (found ≡ Some own) × (own.name ≡ name)
named_memory None name is = absurd (none-some name is)
named_memory (Some own) name is = (own, refl, same_Some own.name name is)

-- ---- registers

-- the register of a bit takes what it does in the netlist
pub register_taken : (net : Net) → IsWellFormed net → (b : ℕ) (r : StateElement) → driver_of net b ≡ register r
    → (d : Tap) × (wire_in (wiring_of net).wires b ≡ from_register d) × (start : Bool) × TakesFrom net (Bit b, start) r d
register_taken net w b r is =
    by (wire_in (wiring_of net).wires b) refl
    (subst (λ driver. Matches net (Bit b) driver (wire_in (parts_of net).wires b)) is (matches net (well_named net w) b))
  where
    by : (wire : Wire) → wire_in (wiring_of net).wires b ≡ wire → Matches net (Bit b) (register r) wire
        → (d : Tap) × (wire_in (wiring_of net).wires b ≡ from_register d) × (start : Bool) × TakesFrom net (Bit b, start) r d
    by undriven wired matched = absurd matched
    by (from_vertex v o) wired matched = absurd matched
    by (from_register d) wired matched = (d, wired, matched.0, matched.1)

-- ---- a run

module _ (net : Net) (w : IsWellFormed net) (clocks : ℕ) (row : ℕ → Row) (value : ℕ → Outs) (words : ℕ → ℕ
    → Words) (run : RunsFor true (lowered net) clocks row value words) (n : ℕ) (h : n < clocks)
  where
    vertex_stands : (v : ℕ) (kind : VertexKind) (pins : List Tap) → (x : IsVertex net v kind pins)
        → slice_get (pieces_of net) v ≡ Some x.vertex
    vertex_stands v kind pins x = get_left (parts_of net).pieces (map buffer (wiring_of net).rings) v x.vertex x.stands

    gate_shows : (v : ℕ) (kind : Kind) (pins : List Tap) → IsVertex net v (Gate kind) pins
        → value n v 0 ≡ gate_value kind (map (shows net value n) pins)
    gate_shows v kind pins x =
        gate_gives net true clocks row value words run n h v 0 x.vertex kind (vertex_stands v (Gate kind) pins x) x.kind_is
        ∙ ap (λ ts. gate_value kind (map (shows net value n) ts)) x.pins_are

    -- the gates show what their pins give
    pub gates_show : ShowsGates net (shows net value n)
    gates_show v kind pins x = shown_vertex net value n v 0 ∙ gate_shows v kind pins x

    signals_shown : (signals : List Signal)
        → map (shows net value n) (map of_signal signals) ≡ map (signal_value (shown_bits net value n)) signals
    signals_shown signals =
        taps_of_signals (shows net value n) (shown_bits net value n) signals (shown_signal net value n)

    -- a bit that an output of a vertex drives shows it
    by_vertex : (b v o : ℕ) → wire_in (wiring_of net).wires b ≡ from_vertex v o → shown_bits net value n b ≡ value n v o
    by_vertex b v o wired =
        free_vertex net value b v o n (no_ring (wiring_of net).wires b (λ d is. other d (sym wired ∙ is))) wired
      where
        other : (d : Tap) → from_vertex v o ≡ from_register d → ⊥
        other d is = cc

    by_none : (b : ℕ) → wire_in (wiring_of net).wires b ≡ undriven → shown_bits net value n b ≡ false
    by_none b wired =
        free_undriven net value b n (no_ring (wiring_of net).wires b (λ d is. other d (sym wired ∙ is))) wired
      where
        other : (d : Tap) → undriven ≡ from_register d → ⊥
        other d is = cc

    module _ (now : NetState) (held : IsHeld net value (words n) n now) where
      word_shows : (name : List ℕ) (address : List Signal) (v : ℕ) → ReadsWord net name address v → (o : ℕ)
          → value n v o ≡ read_bit (now.words name) (map (signal_value (shown_bits net value n)) address) o
      word_shows name address v reads o =
          let own = named_memory (slice_get net.memories reads.memory) name reads.named in
          let is = cell_of_memory net w reads.memory own.0 own.1 in
          let x = reads.vertex in
          let bits : List Bool = map (signal_value (shown_bits net value n)) address in
          read_gives net true clocks row value words run n h v o x.vertex reads.memory reads.port
          (vertex_stands v (Read reads.memory reads.port) (map of_signal address) x) x.kind_is
          ∙ ap (λ ts. read_bit (words n reads.memory) (map (shows net value n) ts) o) x.pins_are
          ∙ ap (λ bits. read_bit (words n reads.memory) bits o) (signals_shown address)
          ∙ reads_padded (memory_of (own.0, is.shape)) (words n reads.memory) (now.words own.0.name)
          (held.memories reads.memory own.0 own.1 is) bits o
          ∙ ap (λ name. read_bit (now.words name) bits o) own.2

      -- the reads show the bits of their words
      pub reads_show : ShowsReads net (shows net value n) now.words (shown_bits net value n)
      reads_show name address v reads o = shown_vertex net value n v o ∙ word_shows name address v reads o

      settled_by : (b : ℕ) (driver : Driver) → driver_of net b ≡ driver → (wire : Wire)
          → wire_in (wiring_of net).wires b ≡ wire → Matches net (Bit b) driver wire
          → shown_bits net value n b ≡ value_by driver b (row n) now (shown_bits net value n)
      settled_by b driven_by_none is undriven wired matched = by_none b wired
      settled_by b (input i) is (from_vertex v o) wired (number, first, vertex) =
          by_vertex b v o wired ∙ ap (value n v) first
          ∙ input_gives net true clocks row value words run n h v i (omega (arith, number)) (input_place net b i is)
      settled_by b (gate kind pins) is (from_vertex v o) wired (vertex, first) =
          by_vertex b v o wired ∙ ap (value n v) first ∙ gate_shows v kind (map of_signal pins) vertex
          ∙ ap (gate_value kind) (signals_shown pins)
      settled_by b (word_bit d) is (from_vertex v o) wired (reads, place) =
          by_vertex b v o wired ∙ ap (value n v) place ∙ word_shows d.memory d.address v reads d.place
      settled_by b (register r) is (from_register d) wired matched =
          shown_register net true clocks row value words run n h b ∙ sym (held.bits b r is)
      settled_by b driven_by_none is (from_vertex v o) wired matched = absurd matched
      settled_by b driven_by_none is (from_register d) wired matched = absurd matched
      settled_by b (input i) is undriven wired matched = absurd matched
      settled_by b (input i) is (from_register d) wired matched = absurd matched
      settled_by b (gate kind pins) is undriven wired matched = absurd matched
      settled_by b (gate kind pins) is (from_register d) wired matched = absurd matched
      settled_by b (word_bit d) is undriven wired matched = absurd matched
      settled_by b (word_bit d) is (from_register t) wired matched = absurd matched
      settled_by b (register r) is undriven wired matched = absurd matched
      settled_by b (register r) is (from_vertex v o) wired matched = absurd matched

      -- each bit shows the value that its driver gives it
      pub bits_settle : Settles net (row n) now (shown_bits net value n)
      bits_settle b =
          settled_by b (driver_of net b) refl (wire_in (wiring_of net).wires b) refl (matches net (well_named net w) b)
