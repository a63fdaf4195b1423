-- The bits of a written netlist that gates and read ports drive are just those of the machine's gates and Reads.
use Rattle.std.proofs.Common.{◌≡◌, ◌∙◌, ℕ, ◌+◌, ◌<◌, ◌⊎◌, List, [], get_or, true, false, cond, Some, None, inl, inr, refl, sym, ap, subst, arith}
use Rattle.std.specs.Prelude.{slice_get}
use Rattle.std.specs.List.{enumerate_from}
use Rattle.std.proofs.lemmas.Bool.{eq-eqb}
use Rattle.std.proofs.lemmas.Option.{none-some}
use Rattle.cs_base.specs.declared.signal.Signal.{Signal}
use Rattle.cs_cells.specs.declared.gate.Kind.{Kind}
use Rattle.cs_circuit.specs.declared.circuit.Circuit.{Circuit}
use Rattle.cs_circuit.specs.declared.circuit.GatePart.{GatePart}
use Rattle.cs_circuit.specs.declared.circuit.ReadPart.{ReadPart}
use Rattle.cs_circuit.specs.MemoryCells.{memory_name}
use Rattle.cs_circuit.specs.WellFormed.{IsReadBit}
use Rattle.cs_circuit.proofs.NetDrivers.{IsDriver, by_gate, by_input, by_read, by_register}
use Rattle.cs_graph.specs.declared.graph.Graph.{Graph}
use Rattle.cs_graph.specs.declared.vertex.Vertex.{Vertex}
use Rattle.cs_graph.specs.declared.vertex.VertexKind.{VertexKind}
use Rattle.cs_graph.specs.declared.vertex.VertexKind.TheVariants.{Host, Input, Output, Constant, Gate, Read, Write as WritePort}
use Rattle.cs_graph.specs.Invariant.{IsMachine, kinds}
use Rattle.cs_graph.specs.Kinds.{word_bits}
use Rattle.cs_net.specs.Accept.{is_combinational}
use Rattle.cs_net.specs.Drivers.{Driver, driver_of, fanin, gate, input, register, undriven, word_bit}
use Rattle.cs_net.specs.Netlist.{Net}
use Rattle.cs_net.proofs.Members.{Has, within_has}
use Rattle.cs_net.proofs.MemoryPlaces.{at_map}
use Rattle.cs_prefix.specs.Prefixes.{RegisterKey}
use Rattle.cs_share.specs.declared.types.Names.{Names}
use Rattle.cs_share.specs.Shared.{circuit_with, gate_by, gate_part, logic_bit, logic_bits, memory_part, pin_signals, read_by, read_part}
use Rattle.cs_share.proofs.CircuitKept.{kept}
use Rattle.cs_share.proofs.CircuitParts.{gate_origin, read_bit_origin}
use Rattle.cs_share.proofs.RunLists.{chosen, numbered_at}

-- the bits of a netlist are driven as those of a circuit, and no others are driven
pub record HasDriversOf (k : Circuit) (net : Net) : Type 0 where
  pub each : (b : ℕ) (d : Driver) → IsDriver k b d → driver_of net b ≡ d
  pub only : (b : ℕ) → (driver_of net b ≡ undriven) ⊎ IsDriver k b (driver_of net b)

-- what drives output o of a vertex of a kind whose pins read these signals
abbrev pub driver_by : VertexKind → List Signal → ℕ → Driver
driver_by Host pins o = undriven
driver_by Input pins o = undriven
driver_by Output pins o = undriven
driver_by (Constant b) pins o = undriven
driver_by (Gate kind) pins o = gate kind pins
driver_by (Read memory port) pins o =
    word_bit (record { memory = memory_name memory; address = pins; place = o })
driver_by (WritePort memory port) pins o = undriven

-- a bit of a gate or a Read
pub record IsBitOf (g : Graph) (names : Names) (b : ℕ) : Type 0 where
  pub place : ℕ
  pub vertex : Vertex
  pub at : slice_get g.vertices place ≡ Some vertex
  pub output : ℕ
  pub among : output < logic_bits g.memories vertex.kind
  pub is : b ≡ logic_bit g names place + output

module _ (g : Graph) (machine : IsMachine g) (keys : List RegisterKey) (names : Names) (net : Net)
    (drivers : HasDriversOf (circuit_with g keys names) net)
  where
    -- ---- from vertices to drivers

    gate_drives : (u : ℕ) (x : Vertex) (kind : Kind) → slice_get g.vertices u ≡ Some x → x.kind ≡ Gate kind
        → driver_of net (logic_bit g names u) ≡ gate kind (pin_signals g names keys x)
    gate_drives u x kind at is =
        let part : GatePart = record {
          number = u;
          origin = get_or names.origins u [];
          kind = kind;
          pins = pin_signals g names keys x;
          output = logic_bit g names u;
        } in
        let has : Has (kept (gate_part g names keys) g.vertices) part =
        chosen (gate_part g names keys) (enumerate_from 0 g.vertices) u (u, x) part
        (numbered_at 0 g.vertices u u x at (omega arith))
        (ap (gate_by g names keys u x) is) in
        drivers.each (logic_bit g names u) (gate kind (pin_signals g names keys x))
        (by_gate has.0 part has.1 refl refl)

    read_drives : (u o memory port : ℕ) (x : Vertex) → slice_get g.vertices u ≡ Some x
        → x.kind ≡ Read memory port → o < word_bits (slice_get g.memories memory)
        → driver_of net (logic_bit g names u + o)
        ≡ word_bit (record { memory = memory_name memory; address = pin_signals g names keys x; place = o })
    read_drives u o memory port x at is low =
        let kinds_at : slice_get (kinds g.vertices) u ≡ Some (Read memory port) =
        at_map (λ (y : Vertex). y.kind) g.vertices u x at ∙ ap (λ kind. Some kind) is in
        let found = within_has g.memories memory (machine.memories.there u (Read memory port) kinds_at) in
        let part : ReadPart = record { address = pin_signals g names keys x; first = logic_bit g names u } in
        let chosen_as : read_part g names keys memory (u, x) ≡ Some part =
        ap (read_by g names keys memory u x) is
        ∙ ap (λ t. cond t (Some part) None) (eq-eqb memory memory refl) in
        let has : Has (kept (read_part g names keys memory) g.vertices) part =
        chosen (read_part g names keys memory) (enumerate_from 0 g.vertices) u (u, x) part
        (numbered_at 0 g.vertices u u x at (omega arith))
        chosen_as in
        let bit : IsReadBit (circuit_with g keys names) memory has.0 o (logic_bit g names u + o) = record {
          memory = memory_part g names keys (memory, found.0);
          read = part;
          memory_is =
              at_map (memory_part g names keys) (enumerate_from 0 g.memories) memory (memory, found.0)
              (numbered_at 0 g.memories memory memory found.0 found.1 (omega arith));
          read_is = has.1;
          among = subst (λ p. o < word_bits p) found.1 low;
          is = refl;
        } in
        drivers.each (logic_bit g names u + o)
        (word_bit (record { memory = memory_name memory; address = pin_signals g names keys x; place = o }))
        (by_read memory has.0 o bit refl)

    kind_drives : (u o : ℕ) (x : Vertex) (kind : VertexKind) → slice_get g.vertices u ≡ Some x → x.kind ≡ kind
        → o < logic_bits g.memories kind
        → driver_of net (logic_bit g names u + o) ≡ driver_by kind (pin_signals g names keys x) o
    kind_drives u o x Host at is low = absurd (omega (arith, low))
    kind_drives u o x Input at is low = absurd (omega (arith, low))
    kind_drives u o x Output at is low = absurd (omega (arith, low))
    kind_drives u o x (Constant b) at is low = absurd (omega (arith, low))
    kind_drives u o x (Gate kind) at is low =
        let none : logic_bit g names u + o ≡ logic_bit g names u = omega (arith, low) in
        ap (driver_of net) none ∙ gate_drives u x kind at is
    kind_drives u o x (Read memory port) at is low = read_drives u o memory port x at is low
    kind_drives u o x (WritePort memory port) at is low = absurd (omega (arith, low))

    -- each bit of a gate or a Read is driven by it
    pub vertex_drives : (u o : ℕ) (x : Vertex) → slice_get g.vertices u ≡ Some x
        → o < logic_bits g.memories x.kind
        → driver_of net (logic_bit g names u + o) ≡ driver_by x.kind (pin_signals g names keys x) o
    vertex_drives u o x at low = kind_drives u o x x.kind at refl low

    -- ---- and back

    never : (d : Driver) → is_combinational d ≡ true → is_combinational d ≡ false → ⊥
    never d is isnt = let clash = sym is ∙ isnt in cc

    by_part : (b : ℕ) (d : Driver) → IsDriver (circuit_with g keys names) b d → is_combinational d ≡ true
        → IsBitOf g names b
    by_part b d (by_input i stands same) logic = absurd (never d logic (ap is_combinational same))
    by_part b d (by_gate p part stands bit same) logic =
        let origin = gate_origin g names keys p part stands in
        let bits = ap (logic_bits g.memories) origin.kind in
        let output = origin.output in record {
          place = origin.was_kept.place;
          vertex = origin.was_kept.thing;
          at = origin.was_kept.at;
          output = 0;
          among = omega (arith, bits);
          is = omega (arith, bit, output);
        }
    by_part b d (by_read i j o bit same) logic =
        let here = read_bit_origin g names keys i j o b bit in record {
          place = here.origin.was_kept.place;
          vertex = here.origin.was_kept.thing;
          at = here.origin.was_kept.at;
          output = o;
          among = here.among;
          is = here.is;
        }
    by_part b d (by_register n source stands bit same) logic =
        absurd (never d logic (ap is_combinational same))

    -- a bit that a gate or a read port drives is one of theirs
    pub bit_of : (b : ℕ) → is_combinational (driver_of net b) ≡ true → IsBitOf g names b
    bit_of b logic = elim (drivers.only b) [
      | inl none ↦ absurd (never (driver_of net b) logic (ap is_combinational none))
      | inr drives ↦ by_part b (driver_of net b) drives logic
    ]

    reads_some : (d : Driver) (i : ℕ) (s : Signal) → slice_get (fanin d) i ≡ Some s → is_combinational d ≡ true
    reads_some undriven i s found = absurd (none-some s found)
    reads_some (input n) i s found = absurd (none-some s found)
    reads_some (gate kind pins) i s found = refl
    reads_some (word_bit w) i s found = refl
    reads_some (register r) i s found = absurd (none-some s found)

    -- so is a bit that depends on something
    pub bit_of_reader : (b i : ℕ) (s : Signal) → slice_get (fanin (driver_of net b)) i ≡ Some s
        → IsBitOf g names b
    bit_of_reader b i s found = bit_of b (reads_some (driver_of net b) i s found)
