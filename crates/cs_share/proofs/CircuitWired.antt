-- The parts of a machine's circuit have as many pins as they are to have, and each reads data.
use Rattle.std.proofs.Common.{◌≡◌, ◌∙◌, ℕ, zero, suc, ◌+◌, ◌*◌, ◌^◌, ◌<◌, ◌≤◌, List, [], ◌∷◌, length, take, drop, Some, ap, arith, subst, sym}
use Rattle.std.specs.Prelude.{slice_get}
use Rattle.std.specs.List.{AllByRecursion}
use Rattle.std.proofs.lemmas.List.{length-drop, length-map, length-take-le}
use Rattle.cs_base.specs.declared.signal.Signal.{Signal}
use Rattle.cs_circuit.specs.declared.circuit.GatePart.{GatePart}
use Rattle.cs_circuit.specs.declared.circuit.ReadPart.{ReadPart}
use Rattle.cs_circuit.specs.declared.circuit.WritePart.{WritePart}
use Rattle.cs_circuit.specs.WellFormed.{IsData, IsGatePart, IsMemoryPart, IsReadPart, IsWritePart}
use Rattle.cs_graph.specs.declared.graph.Graph.{Graph}
use Rattle.cs_graph.specs.declared.memory.Memory.{Memory}
use Rattle.cs_graph.specs.declared.vertex.Vertex.{Vertex}
use Rattle.cs_graph.specs.declared.vertex.VertexKind.TheVariants.{Gate}
use Rattle.cs_graph.specs.Invariant.{IsMachine}
use Rattle.cs_graph.specs.Kinds.{address_bits, pin_count, word_bits}
use Rattle.cs_prefix.specs.Prefixes.{RegisterKey}
use Rattle.cs_share.specs.declared.types.Names.{Names}
use Rattle.cs_share.specs.Ports.{written_clock}
use Rattle.cs_share.specs.Registers.{AreRegisters}
use Rattle.cs_share.specs.Shared.{circuit_with, gate_part, memory_part, pin_signal, pin_signals, read_part, write_of_pins, write_part}
use Rattle.cs_share.proofs.CircuitDataPorts.{all_dropped}
use Rattle.cs_share.proofs.CircuitKept.{kept, kept_few}
use Rattle.cs_share.proofs.CircuitParts.{gate_origin, memory_origin, read_origin, write_origin}
use Rattle.cs_share.proofs.CircuitShown.{all_places, pins_are_data}
use Rattle.cs_share.proofs.CircuitSignals.{AreCircuitNames}

all_taken : {A : Type 0} (P : A → Type 0) (n : ℕ) (xs : List A) → AllByRecursion P xs
    → AllByRecursion P (take n xs)
all_taken P zero xs h = tt
all_taken P (suc n) [] h = tt
all_taken P (suc n) (x ∷ xs) h = (h.0, all_taken P n xs h.1)

factor_few : (a b most : ℕ) → 0 < b → a * b ≤ most → a ≤ most
factor_few a zero most some few = absurd (omega (arith, some))
factor_few a (suc n) most some few = let sum : a * suc n ≡ a + a * n = omega arith in omega (arith, sum, few)

other_factor_few : (a b most : ℕ) → 0 < a → a * b ≤ most → b ≤ most
other_factor_few zero b most some few = absurd (omega (arith, some))
other_factor_few (suc n) b most some few = let sum : suc n * b
    ≡ b + n * b = omega arith in omega (arith, sum, few)

small : (n : ℕ) → n ≤ 4194304 → n < 2 ^ 32
small n few = omega (arith, few)

module _ (g : Graph) (machine : IsMachine g) (keys : List RegisterKey) (are : AreRegisters g keys) (names : Names)
    (fit : AreCircuitNames g keys names) where
  pins_count : (v : ℕ) (x : Vertex) → slice_get g.vertices v ≡ Some x
      → length (pin_signals g names keys x) ≡ pin_count g.memories x.kind
  pins_count v x at = length-map x.pins (pin_signal g names keys) ∙ machine.pins v x at

  -- ---- gates

  gate_fits : (p : ℕ) (part : GatePart) → slice_get (kept (gate_part g names keys) g.vertices) p ≡ Some part
      → IsGatePart (written_clock names) part
  gate_fits p part found =
      let origin = gate_origin g names keys p part found in
      let was = origin.was_kept in record {
        pins =
            ap length origin.pins ∙ pins_count was.place was.thing was.at ∙ ap (pin_count g.memories) origin.kind
            ∙ ap (λ k. pin_count g.memories (Gate k)) (sym origin.kind_is);
        read =
            subst (AllByRecursion (IsData (written_clock names))) (sym origin.pins)
            (pins_are_data g machine keys are names fit was.place was.thing was.at);
      }

  pub gates_fit : AllByRecursion (IsGatePart (written_clock names)) (kept (gate_part g names keys) g.vertices)
  gates_fit = all_places (IsGatePart (written_clock names)) (kept (gate_part g names keys) g.vertices) gate_fits

  -- ---- memories

  read_fits : (i j : ℕ) (m : Memory) (part : ReadPart) → slice_get g.memories i ≡ Some m
      → slice_get (kept (read_part g names keys i) g.vertices) j ≡ Some part
      → IsReadPart (written_clock names) m.abits part
  read_fits i j m part there found =
      let origin = read_origin g names keys i j part found in
      let was = origin.was_kept in record {
        address =
            ap length origin.address ∙ pins_count was.place was.thing was.at
            ∙ ap (pin_count g.memories) origin.kind
            ∙ ap address_bits there;
        read =
            subst (AllByRecursion (IsData (written_clock names))) (sym origin.address)
            (pins_are_data g machine keys are names fit was.place was.thing was.at);
      }

  write_of_fits : (m : Memory) (pins : List Signal) → length pins ≡ m.abits + 2 * m.width
      → AllByRecursion (IsData (written_clock names)) pins
      → IsWritePart (written_clock names) m.abits m.width (write_of_pins m pins)
  write_of_fits m pins count all =
      let rest = length-drop m.abits pins in
      let last = length-drop m.width (drop m.abits pins) in
      let after = all_dropped (IsData (written_clock names)) m.abits pins all in record {
        address = length-take-le m.abits pins (omega (arith, count));
        «data» = length-take-le m.width (drop m.abits pins) (omega (arith, count, rest));
        enable = omega (arith, count, rest, last);
        read_address = all_taken (IsData (written_clock names)) m.abits pins all;
        read_data = all_taken (IsData (written_clock names)) m.width (drop m.abits pins) after;
        read_enable = all_dropped (IsData (written_clock names)) m.width (drop m.abits pins) after;
      }

  write_fits : (i j : ℕ) (m : Memory) (part : WritePart) → slice_get g.memories i ≡ Some m
      → slice_get (kept (write_part g names keys i m) g.vertices) j ≡ Some part
      → IsWritePart (written_clock names) m.abits m.width part
  write_fits i j m part there found =
      let origin = write_origin g names keys i j m part found in
      let was = origin.was_kept in
      subst (IsWritePart (written_clock names) m.abits m.width) (sym origin.is)
      (write_of_fits m (pin_signals g names keys was.thing)
      (pins_count was.place was.thing was.at ∙ ap (pin_count g.memories) origin.kind
      ∙ ap (λ o. address_bits o + 2 * word_bits o) there)
      (pins_are_data g machine keys are names fit was.place was.thing was.at))

  memory_is_fit : (i : ℕ) (m : Memory) → slice_get g.memories i ≡ Some m
      → IsMemoryPart (written_clock names) (memory_part g names keys (i, m))
  memory_is_fit i m there =
      let is = machine.memories.each i m there in
      let bits = is.address_bits in
      let most = machine.limits.vertices in
      let reads = kept_few (read_part g names keys i) g.vertices in
      let writes = kept_few (write_part g names keys i m) g.vertices in record {
        few_words = small m.words (factor_few m.words m.width 4194304 is.some_bits is.size);
        few_address_bits = small m.abits (omega (arith, bits));
        few_bits = small m.width (other_factor_few m.words m.width 4194304 is.some_words is.size);
        some_words = is.some_words;
        some_bits = is.some_bits;
        reached = is.reached;
        start = is.start;
        few_reads = small (length (kept (read_part g names keys i) g.vertices)) (omega (arith, reads, most));
        few_writes = small (length (kept (write_part g names keys i m) g.vertices)) (omega (arith, writes, most));
        reads =
            all_places (IsReadPart (written_clock names) m.abits) (kept (read_part g names keys i) g.vertices)
            (λ j part found. read_fits i j m part there found);
        writes =
            all_places (IsWritePart (written_clock names) m.abits m.width)
            (kept (write_part g names keys i m) g.vertices)
            (λ j part found. write_fits i j m part there found);
      }

  pub memories_fit : AllByRecursion (IsMemoryPart (written_clock names)) (circuit_with g keys names).memories
  memories_fit =
      all_places (IsMemoryPart (written_clock names)) (circuit_with g keys names).memories
      (λ i part found. let origin = memory_origin g names keys i part found in
      subst (IsMemoryPart (written_clock names)) (sym origin.is) (memory_is_fit i origin.memory origin.at))
