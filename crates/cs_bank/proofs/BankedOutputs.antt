-- What the pins of a banked draft read are outputs that are there; so a banked machine is a machine.
use Rattle.std.proofs.Common.{◌≡◌, ℕ, zero, suc, ◌+◌, ◌<◌, ◌≤◌, Bool, true, false, List, [], ◌++◌, length, map, take, drop, refl, sym, ap, subst, ◌∙◌, inl, inr, arith, length-append}
use Rattle.std.specs.Prelude.{slice_get, option_map, Option, Some, if◌then◌else◌}
use Rattle.std.specs.List.{range_with_len}
use Rattle.std.proofs.lemmas.List.{length-map}
use Rattle.std.proofs.lemmas.List.FromFn.{length-map-range_with_len}
use Rattle.std.proofs.lemmas.Option.{none-some, same_Some, slice_get-map, slice_get_within}
use Rattle.cs_graph.specs.declared.memory.Memory.{Memory}
use Rattle.cs_graph.specs.declared.source.Driver.{Driver}
use Rattle.cs_graph.specs.declared.source.OpenVertex.{OpenVertex}
use Rattle.cs_graph.specs.declared.source.Source.{Source}
use Rattle.cs_graph.specs.declared.source.Source.TheVariants.{Driven}
use Rattle.cs_graph.specs.declared.vertex.VertexKind.{VertexKind}
use Rattle.cs_graph.specs.declared.vertex.VertexKind.TheVariants.{Constant, Gate, Host, Input, Output, Read, Write}
use Rattle.cs_graph.specs.Draft.{Draft, open_kinds}
use Rattle.cs_graph.specs.Invariant.{HasOutput}
use Rattle.cs_graph.specs.Kinds.{is_write_of}
use Rattle.cs_net.specs.Contexts.{Image}
use Rattle.cs_bank.specs.Bank.{banked, banked_pins, banked_vertex, first_guard, guard_place, new_vertices, write_pins}
use Rattle.cs_bank.specs.ContextBits.{context_bit, context_bits, context_pins, context_vertices, counter_contents, wire}
use Rattle.cs_bank.specs.Guards.{enable_pins, guard, guard_count, guards, is_guarded, memory_tests}
use Rattle.cs_bank.proofs.BankedDrafts.{old_kind, output_count_of_all}
use Rattle.cs_bank.proofs.BankedOrder.{same_driver}
use Rattle.cs_bank.proofs.BankedPins.{AllRead, back_guards, both_read, get_both, part_read, rest_read}
use Rattle.cs_bank.proofs.BankedPlaces.{HasPorts, guard_stands, in_filter, write_pins_are}
use Rattle.cs_bank.proofs.Counters.{get_context_bit}
use Rattle.cs_bank.proofs.GuardLemmas.{AreWritePins, length-guard, place_after}
use Rattle.cs_bank.proofs.Lists.{there, was_in}
use Rattle.cs_bank.proofs.NewGates.{new_gates}

module _ (c : ℕ) (entries : List (Option (List Image))) (d : Draft) (count : length entries ≡ length d.memories)
    (ports : HasPorts d)
    (some : (i : ℕ) (m : Memory) → slice_get d.memories i ≡ Some m → 0 < m.size)
    (outputs : (v i : ℕ) (x : OpenVertex) (k : Driver) → slice_get d.vertices v ≡ Some x
    → slice_get x.pins i ≡ Some (Some (Driven k)) → HasOutput d.memories (open_kinds d.vertices) k.from k.output) where
  abbrev all : Draft
  all = banked c entries d

  abbrev n : ℕ
  n = length d.vertices

  abbrev first : ℕ
  first = first_guard c d

  abbrev total : ℕ
  total = length all.vertices

  HasOne : ℕ → ℕ → Type 0
  HasOne u o = HasOutput all.memories (open_kinds all.vertices) u o

  -- outputs that were there, and those of new gates
  old_output : (u o : ℕ) → HasOutput d.memories (open_kinds d.vertices) u o → HasOne u o
  unfolding HasOne
  old_output u o has = record {
    kind = has.kind;
    found = old_kind c entries d count u has.kind has.found;
    among = let same = output_count_of_all c entries d count has.kind in let low = has.among in omega
        (arith, same, low);
  }

  new_output : (u : ℕ) → n ≤ u → u < total → HasOne u 0
  unfolding HasOne
  new_output u low high =
      let x = there all.vertices u high in
      let mine = banked_vertex (context_pins c n) first d in
      elim (get_both (map mine d.vertices) (new_vertices c d) u x.0 x.1) [
        | inl old ↦
            let within = slice_get_within (map mine d.vertices) u x.0 old in
            let long = length-map d.vertices mine in
            absurd (omega (arith, within, long, low))
        | inr (k, is, new) ↦
            let gate = new_gates c d k x.0 new in
            record {
              kind = Gate gate.gate;
              found = slice_get-map (λ (y : OpenVertex). y.kind) all.vertices u
                  ∙ ap (option_map (λ (y : OpenVertex). y.kind)) x.1 ∙ ap Some gate.kind;
              among = omega arith;
            }
      ]

  -- what a pin reads is an output that is there
  ReadsOne : Option Source → Type 0
  ReadsOne s = (k : Driver) → s ≡ Some (Driven k) → HasOne k.from k.output

  wire_reads : (u : ℕ) → n ≤ u → u < total → ReadsOne (wire u)
  unfolding ReadsOne
  wire_reads u low high k same =
      subst (λ (e : Driver). HasOne e.from e.output)
      (same_driver (record { from = u; output = 0; contents = [] }) k same) (new_output u low high)

  wires_read_one : (a many : ℕ) → n ≤ a → ((j : ℕ) → j < many → a + j < total)
      → AllRead 0 ReadsOne (map wire (range_with_len a many))
  wires_read_one a zero low high i s at = absurd (none-some s at)
  wires_read_one a (suc many) low high zero s at =
      let here = high 0 (omega arith) in
      subst ReadsOne (same_Some (wire a) s at) (wire_reads a low (omega (arith, here)))
  wires_read_one a (suc many) low high (suc i) s at =
      wires_read_one (a + 1) many (omega (arith, low))
      (λ j less. let next = high (suc j) (omega (arith, less)) in omega (arith, next)) i s at

  old_reads_one : (v : ℕ) (x : OpenVertex) → slice_get d.vertices v ≡ Some x → AllRead 0 ReadsOne x.pins
  unfolding ReadsOne
  old_reads_one v x found i s at k is = old_output k.from k.output (outputs v i x k found (at ∙ ap Some is))

  context_reads : AllRead 0 ReadsOne (context_pins c n)
  context_reads =
      let mine = banked_vertex (context_pins c n) first d in
      let long = length-append (map mine d.vertices) (new_vertices c d) in
      let old = length-map d.vertices mine in
      let new = length-append (context_vertices c n) (guards first 0 d.memories d.vertices) in
      let bits = length-map-range_with_len (λ j. context_bit c (n + j) j) 0 (context_bits c) in
      wires_read_one n (context_bits c) (omega arith) (λ j low. omega (arith, long, old, new, bits, low))

  -- ---- the enable bits of a Write

  module _ (v i p : ℕ) (x : OpenVertex) (m : Memory) (found : slice_get d.vertices v ≡ Some x)
      (kind : x.kind ≡ Write i p)
      (at : slice_get d.memories i ≡ Some m) (are : AreWritePins m x.pins) where
    abbrev place : ℕ
    place = guard_place first d i p

    guard_within : (j : ℕ) → j < guard_count m → place + j < total
    guard_within j low =
        let long = length-guard place m x.pins are in
        let one = there (guard place m x.pins) j (omega (arith, long, low)) in
        let stands = guard_stands c entries d ports v i p x m found kind at j (omega (arith, long, low)) in
        slice_get_within all.vertices (place + j) one.0 (stands ∙ one.1)

    enables_read_one : n ≤ place → (es : List (Option Source)) → AllRead 0 ReadsOne es
        → AllRead 0 ReadsOne (enable_pins place m es)
    enables_read_one low es own = by (is_guarded m) refl
      where
        by : (b : Bool) → is_guarded m ≡ b
            → AllRead 0 ReadsOne (if is_guarded m then map wire (range_with_len (place + memory_tests m) m.width) else
            es)
        by true on =
            let many : guard_count m ≡ memory_tests m + m.width = ap (λ b. if b then memory_tests m + m.width else 0)
            on in
            subst (λ b. AllRead 0 ReadsOne
            (if b then map wire (range_with_len (place + memory_tests m) m.width) else es)) (sym on)
            (wires_read_one (place + memory_tests m) m.width (omega (arith, low)) (λ j less.
            let within = guard_within (memory_tests m + j) (omega (arith, less, many)) in omega (arith, within)))
        by false off = subst
            (λ b. AllRead 0 ReadsOne (if b then map wire (range_with_len (place + memory_tests m) m.width) else es))
            (sym off) own

    write_reads_one : n ≤ place
        → AllRead 0 ReadsOne (write_pins (context_pins c n) place (slice_get d.memories i) x.pins)
    write_reads_one low =
        let context = context_pins c n in
        let own = old_reads_one v x found in
        let address = take m.abits x.pins in
        let word = take m.width (drop m.abits x.pins) in
        let enables = drop m.width (drop m.abits x.pins) in
        let rest = rest_read 0 ReadsOne m.abits x.pins own in
        subst (λ o. AllRead 0 ReadsOne (write_pins context place o x.pins)) (sym at)
        (both_read 0 ReadsOne (address ++ context ++ word) (enable_pins place m enables)
        (both_read 0 ReadsOne (address ++ context) word
        (both_read 0 ReadsOne address context (part_read 0 ReadsOne m.abits x.pins own) context_reads)
        (part_read 0 ReadsOne m.width (drop m.abits x.pins) rest))
        (enables_read_one low enables (rest_read 0 ReadsOne m.width (drop m.abits x.pins) rest)))

  -- ---- all vertices

  pins_read_one : (v : ℕ) (x : OpenVertex) → slice_get d.vertices v ≡ Some x → (kind : VertexKind) → x.kind ≡ kind
      → AllRead 0 ReadsOne (banked_pins (context_pins c n) first d kind x.pins)
  pins_read_one v x found Host kind = old_reads_one v x found
  pins_read_one v x found Input kind = old_reads_one v x found
  pins_read_one v x found Output kind = old_reads_one v x found
  pins_read_one v x found (Constant b) kind = old_reads_one v x found
  pins_read_one v x found (Gate gate) kind = old_reads_one v x found
  pins_read_one v x found (Read memory port) kind =
      both_read 0 ReadsOne x.pins (context_pins c n) (old_reads_one v x found) context_reads
  pins_read_one v x found (Write memory port) kind =
      let own = ports.writes v memory port x found kind in
      let low = place_after first 0 d.memories d.vertices memory in
      write_reads_one v memory port x own.0 found kind own.1 own.2 (omega (arith, low))

  bit_reads_one : (e i v : ℕ) (x : OpenVertex) (k : Driver) → slice_get (context_vertices c n) e ≡ Some x → v ≡ n + e
      → v < total
      → slice_get x.pins i ≡ Some (Some (Driven k)) → HasOne k.from k.output
  bit_reads_one e i v x k found place inside at =
      let within = slice_get_within (context_vertices c n) e x found in
      let long = length-map-range_with_len (λ j. context_bit c (n + j) j) 0 (context_bits c) in
      let is = same_Some (context_bit c (n + e) e) x (sym (get_context_bit c n e (omega (arith, within, long)))
      ∙ found) in
      by i (ap (λ (z : OpenVertex). slice_get z.pins i) is ∙ at)
    where
      by : (i : ℕ) → slice_get (context_bit c (n + e) e).pins i ≡ Some (Some (Driven k)) → HasOne k.from k.output
      by zero at =
          let driver : Driver = record { from = n + e; output = 0; contents = counter_contents c e } in
          subst (λ (z : Driver). HasOne z.from z.output)
          (same_driver driver k (same_Some (Some (Driven driver)) (Some (Driven k)) at))
          (new_output (n + e) (omega arith) (omega (arith, place, inside)))
      by (suc i) at = absurd (none-some (Some (Driven k)) at)

  guard_reads_one : (e i v : ℕ) (x : OpenVertex) (k : Driver)
      → slice_get (guards first 0 d.memories d.vertices) e ≡ Some x
      → v ≡ first + e → v < total → slice_get x.pins i ≡ Some (Some (Driven k)) → HasOne k.from k.output
  unfolding ReadsOne
  guard_reads_one e i v x k found place inside at =
      let back = back_guards first ReadsOne first 0 d.memories d.vertices (omega arith) some (write_pins_are d ports)
      (λ j p y on. let was = in_filter (λ (z : OpenVertex). is_write_of j z.kind) d.vertices p y on in old_reads_one
      was.0 y was.1) in
      elim (back e i x (Some (Driven k)) found at) [
        | inl earlier ↦
            let low = earlier.low in
            let high = earlier.high in
            wire_reads earlier.u (omega (arith, low)) (omega (arith, high, place, inside)) k (sym earlier.is)
        | inr read ↦ read k refl
      ]

  pub banked_outputs : (v i : ℕ) (x : OpenVertex) (k : Driver) → slice_get all.vertices v ≡ Some x
      → slice_get x.pins i ≡ Some (Some (Driven k)) → HasOutput all.memories (open_kinds all.vertices) k.from k.output
  unfolding HasOne ReadsOne
  banked_outputs v i x k found at =
      let mine = banked_vertex (context_pins c n) first d in
      let long = length-map d.vertices mine in
      let bits = length-map-range_with_len (λ j. context_bit c (n + j) j) 0 (context_bits c) in
      let inside = slice_get_within all.vertices v x found in
      elim (get_both (map mine d.vertices) (new_vertices c d) v x found) [
        | inl old ↦
            let was = was_in mine d.vertices v x old in
            pins_read_one v was.0 was.1 was.0.kind refl i (Some (Driven k))
            (ap (λ (z : OpenVertex). slice_get z.pins i) was.2 ∙ at) k refl
        | inr (e, is, new) ↦ elim (get_both (context_vertices c n) (guards first 0 d.memories d.vertices) e x new) [
          | inl bit ↦ bit_reads_one e i v x k bit (omega (arith, is, long)) inside at
          | inr (e', is', guard) ↦ guard_reads_one e' i v x k guard (omega (arith, is, is', long, bits)) inside at
        ]
      ]
