-- The circuit of a machine whose edges of one driver share registers.
use Rattle.std.specs.Prelude.{ℕ, ◌+◌, ◌==◌, List, [], ◌∷◌, map, filter_map, flat_map, take, drop, get_or, slice_get, Bool, true, false, not, ◌&&◌, Option, Some, None, is_some, option_map, unwrap_or, if◌then◌else◌}
use Rattle.std.specs.List.{enumerate_from, list_any, sum_by}
use Rattle.cs_base.specs.declared.signal.Signal.{Signal}
use Rattle.cs_base.specs.declared.signal.Signal.TheVariants.{Zero, One, Bit}
use Rattle.cs_circuit.specs.declared.circuit.Circuit.{Circuit}
use Rattle.cs_circuit.specs.declared.circuit.GatePart.{GatePart}
use Rattle.cs_circuit.specs.declared.circuit.MemoryPart.{MemoryPart}
use Rattle.cs_circuit.specs.declared.circuit.ReadPart.{ReadPart}
use Rattle.cs_circuit.specs.declared.circuit.RegisterPart.{RegisterPart}
use Rattle.cs_circuit.specs.declared.circuit.WritePart.{WritePart}
use Rattle.cs_graph.specs.declared.edge.Edge.{Edge}
use Rattle.cs_graph.specs.declared.graph.Graph.{Graph}
use Rattle.cs_graph.specs.declared.memory.Memory.{Memory}
use Rattle.cs_graph.specs.declared.vertex.Feed.{Feed}
use Rattle.cs_graph.specs.declared.vertex.Feed.TheVariants.{Tied, Edge as Along}
use Rattle.cs_graph.specs.declared.vertex.Vertex.{Vertex}
use Rattle.cs_graph.specs.declared.vertex.VertexKind.{VertexKind}
use Rattle.cs_graph.specs.declared.vertex.VertexKind.TheVariants.{Host, Input, Output, Constant, Gate, Read, Write as WritePort}
use Rattle.cs_graph.specs.Kinds.{word_bits}
use Rattle.cs_graph.specs.Run.{inputs_before}
use Rattle.cs_share.specs.declared.types.Names.{Names}
use Rattle.cs_share.specs.Ports.{data_numbers, first_number, written_clock, written_ports}
use Rattle.cs_prefix.specs.Prefixes.{RegisterKey, key_before, key_start, place_of_key}

-- ---- drivers

-- how many bits a vertex drives that are numbered with it: a gate one, a Read its word's
abbrev pub logic_bits : List Memory → VertexKind → ℕ
logic_bits memories Host = 0
logic_bits memories Input = 0
logic_bits memories Output = 0
logic_bits memories (Constant b) = 0
logic_bits memories (Gate kind) = 1
logic_bits memories (Read memory port) = word_bits (slice_get memories memory)
logic_bits memories (WritePort memory port) = 0

-- how many such bits some vertices have
abbrev pub all_logic_bits : List Memory → List Vertex → ℕ
all_logic_bits memories vertices = sum_by (λ (x : Vertex). logic_bits memories x.kind) vertices

-- the number of the first bit of vertex v
abbrev pub logic_bit : Graph → Names → ℕ → ℕ
logic_bit g names v = first_number names + all_logic_bits g.memories (take v g.vertices)

-- the number of the first register's bit
abbrev pub first_register : Graph → Names → ℕ
first_register g names = first_number names + all_logic_bits g.memories g.vertices

-- the constant of a bit
abbrev pub constant : Bool → Signal
constant b = if b then One else Zero

-- what an output of a vertex is, by its kind
abbrev pub output_signal : Graph → Names → VertexKind → ℕ → ℕ → Signal
output_signal g names Host v o = Zero
output_signal g names Input v o = Bit (get_or (data_numbers names) (inputs_before g.vertices v) 0)
output_signal g names Output v o = Zero
output_signal g names (Constant b) v o = constant b
output_signal g names (Gate kind) v o = Bit (logic_bit g names v + o)
output_signal g names (Read memory port) v o = Bit (logic_bit g names v + o)
output_signal g names (WritePort memory port) v o = Zero

-- the signal of a driver, 0 where there is no such vertex
abbrev pub driver_signal : Graph → Names → ℕ → ℕ → Signal
driver_signal g names v o = unwrap_or (option_map (λ (x : Vertex). output_signal g names x.kind v o) (slice_get g.vertices v)) Zero

-- ---- pins

-- the signal behind the registers of a key: the driver where there are none, else the last of them
abbrev pub signal_behind : Graph → Names → List RegisterKey → List Bool → RegisterKey → Signal
signal_behind g names keys [] key = driver_signal g names key.vertex key.output
signal_behind g names keys (b ∷ bs) key = Bit (first_register g names + unwrap_or (place_of_key keys key) 0)

abbrev pub key_signal : Graph → Names → List RegisterKey → RegisterKey → Signal
key_signal g names keys key = signal_behind g names keys key.starts key

-- what the end of an edge reads
abbrev pub edge_signal : Graph → Names → List RegisterKey → Edge → Signal
edge_signal g names keys e =
    key_signal g names keys (record { vertex = e.from; output = e.output; starts = e.contents })

-- what a pin reads
abbrev pub pin_signal : Graph → Names → List RegisterKey → Feed → Signal
pin_signal g names keys (Tied b) = constant b
pin_signal g names keys (Along e) = unwrap_or (option_map (edge_signal g names keys) (slice_get g.edges e)) Zero

-- what the pins of a vertex read
abbrev pub pin_signals : Graph → Names → List RegisterKey → Vertex → List Signal
pin_signals g names keys x = map (pin_signal g names keys) x.pins

-- ---- parts

-- the gate that a vertex is
abbrev pub gate_by : Graph → Names → List RegisterKey → ℕ → Vertex → VertexKind → Option GatePart
gate_by g names keys v x (Gate kind) = Some (record {
  number = v;
  origin = get_or names.origins v [];
  kind = kind;
  pins = pin_signals g names keys x;
  output = logic_bit g names v;
})
gate_by g names keys v x _ = None

abbrev pub gate_part : Graph → Names → List RegisterKey → ℕ × Vertex → Option GatePart
gate_part g names keys e = gate_by g names keys e.0 e.1 e.1.kind

-- the read port of memory i that a vertex is
abbrev pub read_by : Graph → Names → List RegisterKey → ℕ → ℕ → Vertex → VertexKind → Option ReadPart
read_by g names keys i v x (Read memory port) =
    if memory == i then Some (record { address = pin_signals g names keys x; first = logic_bit g names v }) else None
read_by g names keys i v x _ = None

abbrev pub read_part : Graph → Names → List RegisterKey → ℕ → ℕ × Vertex → Option ReadPart
read_part g names keys i e = read_by g names keys i e.0 e.1 e.1.kind

-- a write port's pins are address, data and enable bits
abbrev pub write_of_pins : Memory → List Signal → WritePart
write_of_pins m pins = record {
  address = take m.abits pins;
  «data» = take m.width (drop m.abits pins);
  enable = drop m.width (drop m.abits pins);
}

-- the write port of memory i that a vertex is
abbrev pub write_by : Graph → Names → List RegisterKey → ℕ → Memory → Vertex → VertexKind → Option WritePart
write_by g names keys i m x (WritePort memory port) =
    if memory == i then Some (write_of_pins m (pin_signals g names keys x)) else None
write_by g names keys i m x _ = None

abbrev pub write_part : Graph → Names → List RegisterKey → ℕ → Memory → ℕ × Vertex → Option WritePart
write_part g names keys i m e = write_by g names keys i m e.1 e.1.kind

-- memory i with its ports, which are numbered in order of their vertices
abbrev pub memory_part : Graph → Names → List RegisterKey → ℕ × Memory → MemoryPart
memory_part g names keys e = record {
  words = e.1.words;
  abits = e.1.abits;
  width = e.1.width;
  start = e.1.start;
  reads = filter_map (read_part g names keys e.0) (enumerate_from 0 g.vertices);
  writes = filter_map (write_part g names keys e.0 e.1) (enumerate_from 0 g.vertices);
}

-- the register of a key
abbrev pub register_part : Graph → Names → List RegisterKey → RegisterKey → RegisterPart
register_part g names keys key = record {
  source = key_signal g names keys (key_before key);
  start = key_start key;
}

-- what an Output shows
abbrev pub shown_by : VertexKind → List Signal → List Signal
shown_by Output signals = signals
shown_by _ signals = []

abbrev pub shown_signals : Graph → Names → List RegisterKey → Vertex → List Signal
shown_signals g names keys x = shown_by x.kind (pin_signals g names keys x)

abbrev pub is_write : VertexKind → Bool
is_write (WritePort memory port) = true
is_write _ = false

-- a vertex is a write port
abbrev pub has_write : Graph → Bool
has_write g = list_any (λ (x : Vertex). is_write x.kind) g.vertices

-- ---- the circuit

abbrev pub has_some : {A : Type 0} → List A → Bool
has_some [] = false
has_some (x ∷ xs) = true

-- with these registers and names, which have a clock where something is clocked
abbrev pub circuit_with : Graph → List RegisterKey → Names → Circuit
circuit_with g keys names = record {
  name = names.«module»;
  ports = written_ports 2 (flat_map (shown_signals g names keys) g.vertices) names.ports;
  clock = written_clock names;
  gates = filter_map (gate_part g names keys) (enumerate_from 0 g.vertices);
  memories = map (memory_part g names keys) (enumerate_from 0 g.memories);
  registers = map (register_part g names keys) keys;
  first_register = first_register g names;
  keeps_clock = is_some names.clock && not (has_some keys) && not (has_write g);
}
