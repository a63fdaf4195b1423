-- In a trace of the written netlist each driver's signal has the value that its vertex gives by what its pins
-- see.
use Rattle.std.proofs.Common.{◌≡◌, ◌∙◌, ℕ, ◌+◌, ◌<◌, List, [], length, get_or, map, Bool, true, false, cond, Option, Some, None, refl, sym, ap, subst, arith}
use Rattle.std.specs.Prelude.{filter_map, option_map, slice_get, unwrap_or}
use Rattle.std.specs.List.{count_by, enumerate_from}
use Rattle.std.proofs.lemmas.Bool.{eq-eqb}
use Rattle.std.proofs.lemmas.Option.{slice_get-get_or}
use Rattle.std.proofs.lemmas.Simd.{map-map}
use Rattle.cs_base.specs.declared.signal.Signal.TheVariants.{Zero, Bit}
use Rattle.cs_cells.specs.Gates.{gate_value}
use Rattle.cs_cells.specs.Memories.{Words, read_bit}
use Rattle.cs_cells.specs.declared.gate.Kind.{Kind}
use Rattle.cs_circuit.specs.declared.circuit.GatePart.{GatePart}
use Rattle.cs_circuit.specs.declared.circuit.ReadPart.{ReadPart}
use Rattle.cs_circuit.specs.MemoryCells.{memory_name}
use Rattle.cs_circuit.specs.ReadBack.{IsNetOfCircuit, start_of}
use Rattle.cs_circuit.specs.WellFormed.{IsReadBit}
use Rattle.cs_graph.specs.declared.graph.Graph.{Graph}
use Rattle.cs_graph.specs.declared.memory.Memory.{Memory}
use Rattle.cs_graph.specs.declared.vertex.Feed.{Feed}
use Rattle.cs_graph.specs.declared.vertex.Vertex.{Vertex}
use Rattle.cs_graph.specs.declared.vertex.VertexKind.{VertexKind}
use Rattle.cs_graph.specs.declared.vertex.VertexKind.TheVariants.{Host, Input, Output, Constant, Gate, Read, Write as WritePort}
use Rattle.cs_graph.specs.Invariant.{HasOutput, IsMachine, kinds}
use Rattle.cs_graph.specs.Kinds.{is_input, output_count, word_bits}
use Rattle.cs_graph.specs.Run.{Outs, inputs_before, output_of, row_of, value_at, vertex_output}
use Rattle.cs_net.specs.Drivers.{Driver, data_inputs, driver_of, gate, input, word_bit}
use Rattle.cs_net.specs.Netlist.{Net, NetState}
use Rattle.cs_net.specs.Trace.{IsTrace, Row, Valuation, signal_value, value_by}
use Rattle.cs_net.proofs.Members.{Has, within_has}
use Rattle.cs_net.proofs.MemoryPlaces.{at_map, map_at}
use Rattle.cs_prefix.specs.Prefixes.{RegisterKey}
use Rattle.cs_share.specs.declared.types.Names.{Names}
use Rattle.cs_share.specs.Ports.{data_numbers}
use Rattle.cs_share.specs.Shared.{circuit_with, constant, driver_signal, gate_by, gate_part, logic_bit, memory_part, output_signal, pin_signal, pin_signals, read_by, read_part}
use Rattle.cs_share.proofs.CircuitBlocks.{input_among}
use Rattle.cs_share.proofs.RunLists.{chosen, numbered_at}

-- the netlist of a machine's circuit, with the machine's data inputs
pub record IsWritten (g : Graph) (keys : List RegisterKey) (names : Names) (net : Net) : Type 0 where
  pub machine : IsMachine g
  pub is : IsNetOfCircuit (circuit_with g keys names) net
  pub inputs : data_inputs net ≡ map Bit (data_numbers names)
  pub count : length (data_numbers names) ≡ count_by (λ (x : Vertex). is_input x.kind) g.vertices

-- what pins see in a clock: the values of their signals
abbrev pub sees_by : Graph → List RegisterKey → Names → Valuation → Feed → Bool
sees_by g keys names v f = signal_value v (pin_signal g names keys f)

-- the words of a memory, if it is there
abbrev pub words_in : NetState → ℕ → Option Memory → Words
words_in s i None = []
words_in s i (Some m) = s.words (memory_name i)

-- the words of memory i
abbrev pub words_by : Graph → NetState → ℕ → Words
words_by g s i = words_in s i (slice_get g.memories i)

-- what the vertices give by these values and this state
abbrev pub value_in : Graph → List RegisterKey → Names → Row → NetState → Valuation → Outs
value_in g keys names row s v = value_at g row (words_by g s) (sees_by g keys names v)

pub constant_value : (v : Valuation) (b : Bool) → signal_value v (constant b) ≡ b
constant_value v true = refl
constant_value v false = refl

module _ (g : Graph) (keys : List RegisterKey) (names : Names) (net : Net) (w : IsWritten g keys names net)
    (rows : List Row) (bits : ℕ → Valuation) (state : ℕ → NetState)
    (t : IsTrace net (start_of net) rows bits state)
  where
    -- a bit has the value that its driver gives it
    by_driver : (n b : ℕ) (d : Driver) → n < length rows → driver_of net b ≡ d
        → bits n b ≡ value_by d b (get_or rows n []) (state n) (bits n)
    by_driver n b d below drives = t.settles n below b
        ∙ ap (λ e. value_by e b (get_or rows n []) (state n) (bits n)) drives

    pins_see : (n : ℕ) (x : Vertex)
        → map (signal_value (bits n)) (pin_signals g names keys x)
        ≡ map (sees_by g keys names (bits n)) x.pins
    pins_see n x = map-map (signal_value (bits n)) (pin_signal g names keys) x.pins

    input_drives : (n u : ℕ) (x : Vertex) → n < length rows → slice_get g.vertices u ≡ Some x
        → is_input x.kind ≡ true
        → bits n (get_or (data_numbers names) (inputs_before g.vertices u) 0)
        ≡ get_or (get_or rows n []) (inputs_before g.vertices u) false
    input_drives n u x below at is =
        let among = input_among g.vertices u x at is in
        let count = w.count in
        let number = get_or (data_numbers names) (inputs_before g.vertices u) 0 in
        let found = slice_get-get_or (data_numbers names) (inputs_before g.vertices u) 0
        (omega (arith, among, count)) in
        let there : slice_get (data_inputs net) (inputs_before g.vertices u) ≡ Some (Bit number) =
        ap (λ ss. slice_get ss (inputs_before g.vertices u)) w.inputs
        ∙ at_map Bit (data_numbers names) (inputs_before g.vertices u) number found in
        by_driver n number (input (inputs_before g.vertices u)) below
        (w.is.inputs (inputs_before g.vertices u) number there)

    gate_drives : (n u : ℕ) (x : Vertex) (kind : Kind) → n < length rows → slice_get g.vertices u ≡ Some x
        → x.kind ≡ Gate kind
        → bits n (logic_bit g names u) ≡ gate_value kind (map (sees_by g keys names (bits n)) x.pins)
    gate_drives n u x kind below at is =
        let part : GatePart = record {
          number = u;
          origin = get_or names.origins u [];
          kind = kind;
          pins = pin_signals g names keys x;
          output = logic_bit g names u;
        } in
        let has : Has (filter_map (gate_part g names keys) (enumerate_from 0 g.vertices)) part =
        chosen (gate_part g names keys) (enumerate_from 0 g.vertices) u (u, x) part
        (numbered_at 0 g.vertices u u x at (omega arith))
        (ap (gate_by g names keys u x) is) in
        by_driver n (logic_bit g names u) (gate kind (pin_signals g names keys x)) below
        (w.is.gates has.0 part has.1)
        ∙ ap (gate_value kind) (pins_see n x)

    read_drives : (n u o memory port : ℕ) (x : Vertex) → n < length rows → slice_get g.vertices u ≡ Some x
        → x.kind ≡ Read memory port → o < word_bits (slice_get g.memories memory)
        → bits n (logic_bit g names u + o)
        ≡ read_bit (words_by g (state n) memory) (map (sees_by g keys names (bits n)) x.pins) o
    read_drives n u o memory port x below at is low =
        let kinds_at : slice_get (kinds g.vertices) u ≡ Some (Read memory port) =
        at_map (λ (y : Vertex). y.kind) g.vertices u x at ∙ ap (λ kind. Some kind) is in
        let there : memory < length g.memories = w.machine.memories.there u (Read memory port) kinds_at in
        let found = within_has g.memories memory there in
        let m = found.0 in
        let part : ReadPart = record { address = pin_signals g names keys x; first = logic_bit g names u } in
        let chosen_as : read_part g names keys memory (u, x) ≡ Some part =
        ap (read_by g names keys memory u x) is
        ∙ ap (λ t. cond t (Some part) None) (eq-eqb memory memory refl) in
        let has : Has (filter_map (read_part g names keys memory) (enumerate_from 0 g.vertices)) part =
        chosen (read_part g names keys memory) (enumerate_from 0 g.vertices) u (u, x) part
        (numbered_at 0 g.vertices u u x at (omega arith))
        chosen_as in
        let bit : IsReadBit (circuit_with g keys names) memory has.0 o (logic_bit g names u + o) = record {
          memory = memory_part g names keys (memory, m);
          read = part;
          memory_is =
              at_map (memory_part g names keys) (enumerate_from 0 g.memories) memory (memory, m)
              (numbered_at 0 g.memories memory memory m found.1 (omega arith));
          read_is = has.1;
          among = subst (λ p. o < word_bits p) found.1 low;
          is = refl;
        } in
        by_driver n (logic_bit g names u + o)
        (word_bit (record { memory = memory_name memory; address = pin_signals g names keys x; place = o }))
        below
        (w.is.reads memory has.0 o (logic_bit g names u + o) bit)
        ∙ ap (λ pins. read_bit ((state n).words (memory_name memory)) pins o) (pins_see n x)
        ∙ ap (λ p. read_bit (words_in (state n) memory p) (map (sees_by g keys names (bits n)) x.pins) o)
        (sym found.1)

    kind_drives : (n u o : ℕ) (x : Vertex) (kind : VertexKind) → n < length rows
        → slice_get g.vertices u ≡ Some x → x.kind ≡ kind
        → o < output_count g.memories kind
        → signal_value (bits n) (output_signal g names kind u o)
        ≡ output_of kind (inputs_before g.vertices u) (get_or rows n []) (words_by g (state n))
        (map (sees_by g keys names (bits n)) x.pins) o
    kind_drives n u o x Host below at is low = absurd (omega (arith, low))
    kind_drives n u o x Input below at is low = input_drives n u x below at (ap is_input is)
    kind_drives n u o x Output below at is low = absurd (omega (arith, low))
    kind_drives n u o x (Constant b) below at is low = constant_value (bits n) b
    kind_drives n u o x (Gate kind) below at is low =
        let none : logic_bit g names u + o ≡ logic_bit g names u = omega (arith, low) in
        ap (bits n) none ∙ gate_drives n u x kind below at is
    kind_drives n u o x (Read memory port) below at is low = read_drives n u o memory port x below at is low
    kind_drives n u o x (WritePort memory port) below at is low = absurd (omega (arith, low))

    -- a driver's signal has what its vertex gives
    pub driver_has : (n u o : ℕ) → n < length rows → HasOutput g.memories (kinds g.vertices) u o
        → signal_value (bits n) (driver_signal g names u o)
        ≡ value_in g keys names (row_of rows n) (state n) (bits n) u o
    driver_has n u o below has =
        let at = map_at (λ (x : Vertex). x.kind) g.vertices u has.kind has.found in
        let x = at.0 in
        let low : o < output_count g.memories x.kind = subst (λ kind. o < output_count g.memories kind)
        (sym at.2) has.among in
        ap (λ p. signal_value (bits n)
        (unwrap_or (option_map (λ (x : Vertex). output_signal g names x.kind u o) p) Zero)) at.1
        ∙ kind_drives n u o x x.kind below at.1 refl low
        ∙ ap (λ p. vertex_output p (inputs_before g.vertices u) (get_or rows n []) (words_by g (state n))
        (sees_by g keys names (bits n)) o) (sym at.1)
