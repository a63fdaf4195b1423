-- The parts of a machine's circuit, and the vertex that each came from.
use Rattle.std.proofs.Common.{◌≡◌, ◌∙◌, ℕ, ◌+◌, ◌<◌, List, Bool, true, false, cond, Some, None, ap, arith, eqb-true, map, refl, sym}
use Rattle.std.specs.Prelude.{◌==◌, slice_get}
use Rattle.std.specs.List.{enumerate_from}
use Rattle.std.proofs.lemmas.Option.{none-some, same_Some}
use Rattle.cs_base.specs.declared.signal.Signal.{Signal}
use Rattle.cs_cells.specs.declared.gate.Kind.{Kind}
use Rattle.cs_circuit.specs.declared.circuit.GatePart.{GatePart}
use Rattle.cs_circuit.specs.declared.circuit.MemoryPart.{MemoryPart}
use Rattle.cs_circuit.specs.declared.circuit.ReadPart.{ReadPart}
use Rattle.cs_circuit.specs.declared.circuit.WritePart.{WritePart}
use Rattle.cs_circuit.specs.WellFormed.{IsReadBit}
use Rattle.cs_graph.specs.declared.graph.Graph.{Graph}
use Rattle.cs_graph.specs.declared.memory.Memory.{Memory}
use Rattle.cs_graph.specs.declared.vertex.VertexKind.{VertexKind}
use Rattle.cs_graph.specs.declared.vertex.VertexKind.TheVariants.{Host, Input, Output, Constant, Gate, Read, Write as WritePort}
use Rattle.cs_graph.specs.Kinds.{word_bits}
use Rattle.cs_net.proofs.MemoryPlaces.{map_at}
use Rattle.cs_prefix.specs.Prefixes.{RegisterKey}
use Rattle.cs_share.specs.declared.types.Names.{Names}
use Rattle.cs_share.specs.Shared.{circuit_with, gate_by, gate_part, logic_bit, logic_bits, memory_part, pin_signals, read_by, read_part, write_by, write_of_pins, write_part}
use Rattle.cs_share.proofs.CircuitKept.{IsKept, is_kept, kept, numbered}

-- ---- gates

-- gate p is this vertex
pub record GateOrigin (g : Graph) (names : Names) (keys : List RegisterKey) (p : ℕ)
    (part : GatePart) : Type 0 where
  pub was_kept : IsKept (gate_part g names keys) g.vertices p part
  pub gate : Kind
  pub kind : was_kept.thing.kind ≡ Gate gate
  pub number : part.number ≡ was_kept.place
  pub kind_is : part.kind ≡ gate
  pub pins : part.pins ≡ pin_signals g names keys was_kept.thing
  pub output : part.output ≡ logic_bit g names was_kept.place

-- read port j of memory i is this vertex
pub record ReadOrigin (g : Graph) (names : Names) (keys : List RegisterKey) (i j : ℕ)
    (part : ReadPart) : Type 0 where
  pub was_kept : IsKept (read_part g names keys i) g.vertices j part
  pub port : ℕ
  pub kind : was_kept.thing.kind ≡ Read i port
  pub address : part.address ≡ pin_signals g names keys was_kept.thing
  pub first : part.first ≡ logic_bit g names was_kept.place

-- write port j of memory i, whose sizes these are, is this vertex
pub record WriteOrigin (g : Graph) (names : Names) (keys : List RegisterKey) (i j : ℕ) (m : Memory)
    (part : WritePart)
    : Type 0 where
  pub was_kept : IsKept (write_part g names keys i m) g.vertices j part
  pub port : ℕ
  pub kind : was_kept.thing.kind ≡ WritePort i port
  pub is : part ≡ write_of_pins m (pin_signals g names keys was_kept.thing)

-- a memory of the circuit is one of the machine
pub record MemoryOrigin (g : Graph) (names : Names) (keys : List RegisterKey) (i : ℕ)
    (part : MemoryPart) : Type 0 where
  pub memory : Memory
  pub at : slice_get g.memories i ≡ Some memory
  pub is : part ≡ memory_part g names keys (i, memory)

-- what drives a bit of read port j of memory i
pub record ReadBitOrigin (g : Graph) (names : Names) (keys : List RegisterKey) (i j o b : ℕ)
    (address : List Signal)
    : Type 0 where
  pub part : ReadPart
  pub origin : ReadOrigin g names keys i j part
  pub among : o < logic_bits g.memories origin.was_kept.thing.kind
  pub is : b ≡ logic_bit g names origin.was_kept.place + o
  pub address_is : address ≡ pin_signals g names keys origin.was_kept.thing

same_option : {A : Type 0} (x y : A) → Some x ≡ Some y → x ≡ y
same_option x y h = same_Some x y h

module _ (g : Graph) (names : Names) (keys : List RegisterKey) where
  -- ---- gates

  pub gate_origin : (p : ℕ) (part : GatePart) → slice_get (kept (gate_part g names keys) g.vertices) p ≡ Some part
      → GateOrigin g names keys p part
  gate_origin p part found =
      let was = is_kept (gate_part g names keys) g.vertices p part found in by was was.thing.kind refl was.is
    where
      by : (was : IsKept (gate_part g names keys) g.vertices p part) (kind : VertexKind) → was.thing.kind ≡ kind
          → gate_by g names keys was.place was.thing kind ≡ Some part → GateOrigin g names keys p part
      by was Host is h = absurd (none-some part h)
      by was Input is h = absurd (none-some part h)
      by was Output is h = absurd (none-some part h)
      by was (Constant b) is h = absurd (none-some part h)
      by was (Gate gate) is h =
          let same = sym (same_Some _ part h) in record {
            was_kept = was;
            gate = gate;
            kind = is;
            number = ap (λ (x : GatePart). x.number) same;
            kind_is = ap (λ (x : GatePart). x.kind) same;
            pins = ap (λ (x : GatePart). x.pins) same;
            output = ap (λ (x : GatePart). x.output) same;
          }
      by was (Read memory port) is h = absurd (none-some part h)
      by was (WritePort memory port) is h = absurd (none-some part h)

  -- ---- read ports

  pub read_origin : (i j : ℕ) (part : ReadPart)
      → slice_get (kept (read_part g names keys i) g.vertices) j ≡ Some part
      → ReadOrigin g names keys i j part
  read_origin i j part found =
      let was = is_kept (read_part g names keys i) g.vertices j part found in by was was.thing.kind refl was.is
    where
      made : IsKept (read_part g names keys i) g.vertices j part → ReadPart
      made was = record { address = pin_signals g names keys was.thing; first = logic_bit g names was.place }

      this : (was : IsKept (read_part g names keys i) g.vertices j part) (memory port : ℕ)
          → was.thing.kind ≡ Read memory port
          → (t : Bool) → (memory == i) ≡ t
          → cond t (Some (made was)) None ≡ Some part
          → ReadOrigin g names keys i j part
      this was memory port is true test h =
          let same = sym (same_Some _ part h) in record {
            was_kept = was;
            port = port;
            kind = is ∙ ap (λ m. Read m port) (eqb-true memory i test);
            address = ap (λ (x : ReadPart). x.address) same;
            first = ap (λ (x : ReadPart). x.first) same;
          }
      this was memory port is false test h = absurd (none-some part h)

      by : (was : IsKept (read_part g names keys i) g.vertices j part) (kind : VertexKind) → was.thing.kind ≡ kind
          → read_by g names keys i was.place was.thing kind ≡ Some part → ReadOrigin g names keys i j part
      by was Host is h = absurd (none-some part h)
      by was Input is h = absurd (none-some part h)
      by was Output is h = absurd (none-some part h)
      by was (Constant b) is h = absurd (none-some part h)
      by was (Gate gate) is h = absurd (none-some part h)
      by was (Read memory port) is h = this was memory port is (memory == i) refl h
      by was (WritePort memory port) is h = absurd (none-some part h)

  -- ---- write ports

  pub write_origin : (i j : ℕ) (m : Memory) (part : WritePart)
      → slice_get (kept (write_part g names keys i m) g.vertices) j ≡ Some part
      → WriteOrigin g names keys i j m part
  write_origin i j m part found =
      let was = is_kept (write_part g names keys i m) g.vertices j part found in by was was.thing.kind refl was.is
    where
      this : (was : IsKept (write_part g names keys i m) g.vertices j part) (memory port : ℕ)
          → was.thing.kind ≡ WritePort memory port → (t : Bool) → (memory == i) ≡ t
          → cond t (Some (write_of_pins m (pin_signals g names keys was.thing))) None ≡ Some part
          → WriteOrigin g names keys i j m part
      this was memory port is true test h = record {
        was_kept = was;
        port = port;
        kind = is ∙ ap (λ n. WritePort n port) (eqb-true memory i test);
        is = sym (same_Some (write_of_pins m (pin_signals g names keys was.thing)) part h);
      }
      this was memory port is false test h = absurd (none-some part h)

      by : (was : IsKept (write_part g names keys i m) g.vertices j part) (kind : VertexKind) → was.thing.kind
          ≡ kind
          → write_by g names keys i m was.thing kind ≡ Some part → WriteOrigin g names keys i j m part
      by was Host is h = absurd (none-some part h)
      by was Input is h = absurd (none-some part h)
      by was Output is h = absurd (none-some part h)
      by was (Constant b) is h = absurd (none-some part h)
      by was (Gate gate) is h = absurd (none-some part h)
      by was (Read memory port) is h = absurd (none-some part h)
      by was (WritePort memory port) is h = this was memory port is (memory == i) refl h

  -- ---- memories

  pub memory_origin : (i : ℕ) (part : MemoryPart)
      → slice_get (map (memory_part g names keys) (enumerate_from 0 g.memories)) i ≡ Some part
      → MemoryOrigin g names keys i part
  memory_origin i part found =
      let made = map_at (memory_part g names keys) (enumerate_from 0 g.memories) i part found in
      let entry = numbered g.memories i made.0 made.1 in
      record { memory = entry.0; at = entry.1; is = sym (ap (memory_part g names keys) entry.2 ∙ made.2) }

  pub read_bit_origin : (i j o b : ℕ) (bit : IsReadBit (circuit_with g keys names) i j o b)
      → ReadBitOrigin g names keys i j o b bit.read.address
  read_bit_origin i j o b bit =
      let whole = memory_origin i bit.memory bit.memory_is in
      let origin = read_origin i j bit.read (sym (ap (λ (m : MemoryPart). slice_get m.reads j) whole.is)
      ∙ bit.read_is) in
      let width : logic_bits g.memories origin.was_kept.thing.kind ≡ whole.memory.width =
      ap (logic_bits g.memories) origin.kind ∙ ap word_bits whole.at in
      let width_is = ap (λ (m : MemoryPart). m.width) whole.is in
      let among = bit.among in record {
        part = bit.read;
        origin = origin;
        among = omega (arith, among, width, width_is);
        is = bit.is ∙ ap (λ n. n + o) origin.first;
        address_is = origin.address;
      }
