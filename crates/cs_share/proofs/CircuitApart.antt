-- Gates and reads of a machine's circuit drive bits of their own, between those of inputs and those of registers.
use Rattle.std.proofs.Common.{◌≡◌, ◌∙◌, ℕ, ◌+◌, ◌<◌, ◌≤◌, List, length, take, Some, ap, arith, subst, sym}
use Rattle.std.specs.Prelude.{slice_get}
use Rattle.std.proofs.lemmas.List.{length-map}
use Rattle.std.proofs.lemmas.Option.{same_Some}
use Rattle.cs_base.specs.declared.signal.Signal.TheVariants.{Bit}
use Rattle.cs_circuit.specs.declared.circuit.GatePart.{GatePart}
use Rattle.cs_circuit.specs.WellFormed.{AreApart, IsReadBit, input_count}
use Rattle.cs_graph.specs.declared.graph.Graph.{Graph}
use Rattle.cs_graph.specs.declared.vertex.Vertex.{Vertex}
use Rattle.cs_graph.specs.declared.vertex.VertexKind.TheVariants.{Read}
use Rattle.cs_graph.specs.Invariant.{IsMachine}
use Rattle.cs_modules.specs.Pins.{count_from}
use Rattle.cs_prefix.specs.Prefixes.{RegisterKey}
use Rattle.cs_share.specs.declared.types.Names.{Names}
use Rattle.cs_share.specs.Ports.{input_signals}
use Rattle.cs_share.specs.Registers.{AreRegisters}
use Rattle.cs_share.specs.Shared.{circuit_with, first_register, gate_part, logic_bit, logic_bits, read_part, register_part}
use Rattle.cs_share.proofs.CircuitBlocks.{one_part, part_within}
use Rattle.cs_share.proofs.CircuitKept.{kept, kept_in_order, one_kept}
use Rattle.cs_share.proofs.CircuitParts.{GateOrigin, ReadBitOrigin, gate_origin, read_bit_origin}
use Rattle.cs_share.proofs.CircuitPorts.{input_numbers, length_count}
use Rattle.cs_share.proofs.CircuitSignals.{AreCircuitNames, all_small}

-- as many input bits as the names have
pub input_count_is : (g : Graph) (keys : List RegisterKey) (names : Names)
    → input_count (circuit_with g keys names) ≡ length (input_signals names.ports)
input_count_is g keys names =
    ap length (input_numbers 2 _ names.ports)
    ∙ length-map (count_from 2 (length (input_signals names.ports))) Bit
    ∙ length_count 2 (length (input_signals names.ports))

read_memory : (i i' port port' : ℕ) → Read i port ≡ Read i' port' → i ≡ i'
read_memory i i' port port' h = cc

module _ (g : Graph) (machine : IsMachine g) (keys : List RegisterKey) (are : AreRegisters g keys) (names : Names)
    (fit : AreCircuitNames g keys names) where
  -- a bit that a vertex drives is none of another one
  same_vertex : (v w a b : ℕ) (x y : Vertex) → slice_get g.vertices v ≡ Some x → slice_get g.vertices w ≡ Some y
      → a < logic_bits g.memories x.kind → b < logic_bits g.memories y.kind
      → logic_bit g names v + a ≡ logic_bit g names w + b
      → (v ≡ w) × (x ≡ y) × (a ≡ b)
  same_vertex v w a b x y at there low below same =
      let one = one_part (λ (z : Vertex). logic_bits g.memories z.kind) g.vertices v w a b x y at there
      low below (omega (arith, same)) in
      let first = ap (logic_bit g names) one in
      (one, same_Some x y (sym at ∙ ap (slice_get g.vertices) one ∙ there), omega (arith, same, first))

  -- between the bits of inputs and those of registers
  abbrev IsAmong : ℕ → Type 0
  IsAmong b = (2 + input_count (circuit_with g keys names) ≤ b) × (b < first_register g names)

  among : (v a : ℕ) (x : Vertex) → slice_get g.vertices v ≡ Some x → a < logic_bits g.memories x.kind
      → IsAmong (logic_bit g names v + a)
  among v a x at low =
      let within = part_within (λ (z : Vertex). logic_bits g.memories z.kind) g.vertices v x at in
      let inputs = input_count_is g keys names in
      (omega (arith, inputs), omega (arith, within, low))

  one_bit : (p : ℕ) (part : GatePart) (origin : GateOrigin g names keys p part)
      → (0 < logic_bits g.memories origin.was_kept.thing.kind)
      × (part.output ≡ logic_bit g names origin.was_kept.place + 0)
  one_bit p part origin =
      let bits = ap (logic_bits g.memories) origin.kind in
      let output = origin.output in
      (omega (arith, bits), omega (arith, output))

  same_gates : (p q : ℕ) (one other : GatePart) → slice_get (circuit_with g keys names).gates p ≡ Some one
      → slice_get (circuit_with g keys names).gates q ≡ Some other → one.output ≡ other.output → p ≡ q
  same_gates p q one other found there same =
      let here = gate_origin g names keys p one found in
      let second = gate_origin g names keys q other there in
      let bit = one_bit p one here in
      let second_bit = one_bit q other second in
      let vertex = same_vertex here.was_kept.place second.was_kept.place 0 0 here.was_kept.thing
      second.was_kept.thing here.was_kept.at
      second.was_kept.at bit.0 second_bit.0 (sym bit.1 ∙ same ∙ second_bit.1) in
      one_kept (gate_part g names keys) g.vertices p q one other here.was_kept second.was_kept vertex.0

  no_gate_reads : (p i j o : ℕ) (part : GatePart) → slice_get (circuit_with g keys names).gates p ≡ Some part
      → IsReadBit (circuit_with g keys names) i j o part.output → ⊥
  no_gate_reads p i j o part found bit =
      let here = gate_origin g names keys p part found in
      let second = read_bit_origin g names keys i j o part.output bit in
      let first = one_bit p part here in
      let vertex = same_vertex here.was_kept.place second.origin.was_kept.place 0 o here.was_kept.thing
      second.origin.was_kept.thing here.was_kept.at
      second.origin.was_kept.at first.0 second.among (sym first.1 ∙ second.is) in
      let never = sym here.kind ∙ ap (λ (x : Vertex). x.kind) vertex.1 ∙ second.origin.kind in absurd (cc)

  same_reads : (i j o i' j' o' b : ℕ) → IsReadBit (circuit_with g keys names) i j o b
      → IsReadBit (circuit_with g keys names) i' j' o' b
      → (i ≡ i') × (j ≡ j') × (o ≡ o')
  same_reads i j o i' j' o' b bit other =
      by (read_bit_origin g names keys i j o b bit) (read_bit_origin g names keys i' j' o' b other)
    where
      by : ReadBitOrigin g names keys i j o b bit.read.address
          → ReadBitOrigin g names keys i' j' o' b other.read.address
          → (i ≡ i') × (j ≡ j') × (o ≡ o')
      by here second =
          let one = here.origin.was_kept in
          let two = second.origin.was_kept in
          let vertex = same_vertex one.place two.place o o' one.thing two.thing one.at two.at
          here.among second.among (sym here.is ∙ second.is) in
          let memory = read_memory i i' here.origin.port second.origin.port
          (sym here.origin.kind ∙ ap (λ (x : Vertex). x.kind) vertex.1 ∙ second.origin.kind) in (
            memory,
            sym one.before ∙ ap (λ n. length (kept (read_part g names keys n) (take one.place g.vertices))) memory
                ∙ ap (λ v. length (kept (read_part g names keys i') (take v g.vertices))) vertex.0 ∙ two.before,
            vertex.2,
          )

  pub are_apart : AreApart (circuit_with g keys names)
  are_apart =
      let small = all_small g machine keys are names fit in
      let registers = length-map keys (register_part g names keys) in
      let inputs = input_count_is g keys names in record {
        numbers = λ p q one other less found there.
            let here = gate_origin g names keys p one found in
            let second = gate_origin g names keys q other there in
            let first = here.number in
            let last = second.number in
            let order = kept_in_order (gate_part g names keys) g.vertices p q one other
            here.was_kept second.was_kept less in
            omega (arith, first, last, order);
        gates = same_gates;
        gates_among = λ p part found.
            let here = gate_origin g names keys p part found in
            let bit = one_bit p part here in
            subst IsAmong (sym bit.1)
            (among here.was_kept.place 0 here.was_kept.thing here.was_kept.at bit.0);
        gates_reads = no_gate_reads;
        reads = same_reads;
        reads_among = λ i j o b bit.
            let here = read_bit_origin g names keys i j o b bit in
            subst IsAmong (sym here.is)
            (among here.origin.was_kept.place o here.origin.was_kept.thing here.origin.was_kept.at here.among);
        above = omega (arith, inputs);
        small = omega (arith, small, registers);
      }
