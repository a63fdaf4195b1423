-- The parts of a circuit by tables of numbers and signals: this only mirrors the code, whose result is said by Shared.
use Rattle.std.specs.Prelude.{◌≡◌, ℕ, zero, suc, ◌+◌, ◌<◌, ◌^◌, ◌==◌, List, [], ◌∷◌, ◌++◌, map, filter_map, drop, get_or, slice_get, take, Option, Some, None, option_map, unwrap_or, if◌then◌else◌}
use Rattle.std.specs.List.{enumerate_from, zip}
use Rattle.cs_base.specs.declared.signal.Signal.{Signal}
use Rattle.cs_base.specs.declared.signal.Signal.TheVariants.{Zero, Bit}
use Rattle.cs_circuit.specs.declared.circuit.GatePart.{GatePart}
use Rattle.cs_circuit.specs.declared.circuit.MemoryPart.{MemoryPart}
use Rattle.cs_circuit.specs.declared.circuit.ReadPart.{ReadPart}
use Rattle.cs_circuit.specs.declared.circuit.RegisterPart.{RegisterPart}
use Rattle.cs_circuit.specs.declared.circuit.WritePart.{WritePart}
use Rattle.cs_graph.specs.declared.edge.Edge.{Edge}
use Rattle.cs_graph.specs.declared.graph.Graph.{Graph}
use Rattle.cs_graph.specs.declared.memory.Memory.{Memory}
use Rattle.cs_graph.specs.declared.vertex.Feed.{Feed}
use Rattle.cs_graph.specs.declared.vertex.Feed.TheVariants.{Tied, Edge as Along}
use Rattle.cs_graph.specs.declared.vertex.Vertex.{Vertex}
use Rattle.cs_graph.specs.declared.vertex.VertexKind.{VertexKind}
use Rattle.cs_graph.specs.declared.vertex.VertexKind.TheVariants.{Host, Input, Output, Constant, Gate, Read, Write as WritePort}
use Rattle.cs_graph.specs.Run.{inputs_before}
use Rattle.cs_prefix.specs.declared.plan.Planned.{Planned}
use Rattle.cs_share.specs.declared.types.Names.{Names}
use Rattle.cs_share.specs.Ports.{data_numbers}
use Rattle.cs_share.specs.Shared.{constant, logic_bit, shown_by, write_of_pins}

-- ---- numbers

-- the number of a vertex's first output, by the numbers of the data inputs, how many Inputs stand before it, and the next
-- number of a gate or Read
abbrev pub number_by : List ℕ → ℕ → ℕ → VertexKind → ℕ
number_by inputs before next Host = 0
number_by inputs before next Input = get_or inputs before 0
number_by inputs before next Output = 0
number_by inputs before next (Constant b) = 0
number_by inputs before next (Gate kind) = next
number_by inputs before next (Read memory port) = next
number_by inputs before next (WritePort memory port) = 0

abbrev pub vertex_number : Graph → Names → ℕ × Vertex → ℕ
vertex_number g names e =
    number_by (data_numbers names) (inputs_before g.vertices e.0) (logic_bit g names e.0) e.1.kind

-- the numbers of all vertices
abbrev pub vertex_numbers : Graph → Names → List ℕ
vertex_numbers g names = map (vertex_number g names) (enumerate_from 0 g.vertices)

-- ---- signals

-- an output of a vertex whose first output has number n
abbrev pub kind_signal : VertexKind → ℕ → ℕ → Signal
kind_signal Host n o = Zero
kind_signal Input n o = Bit n
kind_signal Output n o = Zero
kind_signal (Constant b) n o = constant b
kind_signal (Gate kind) n o = Bit (n + o)
kind_signal (Read memory port) n o = Bit (n + o)
kind_signal (WritePort memory port) n o = Zero

abbrev pub number_signal : List Vertex → List ℕ → ℕ → ℕ → Signal
number_signal vertices numbers v o =
    unwrap_or (option_map (λ (x : Vertex). kind_signal x.kind (get_or numbers v 0) o) (slice_get vertices v)) Zero

-- what stands behind a register, or the driver itself where there is none
abbrev pub signal_after : List Vertex → List ℕ → ℕ → ℕ → ℕ → Option ℕ → Signal
signal_after vertices numbers first v o None = number_signal vertices numbers v o
signal_after vertices numbers first v o (Some n) = Bit (first + n)

-- what the ends of edges read that pass these registers last
abbrev pub end_signal : List Vertex → List ℕ → ℕ → Option ℕ × Edge → Signal
end_signal vertices numbers first e = signal_after vertices numbers first e.1.from e.1.output e.0

abbrev pub end_signals : List Vertex → List ℕ → ℕ → List (Option ℕ) → List Edge → List Signal
end_signals vertices numbers first ends edges = map (end_signal vertices numbers first) (zip ends edges)

-- an output that has a number of 32 bits
pub record HasNumber (vertices : List Vertex) (numbers : List ℕ) (v o : ℕ) : Type 0 where
  pub vertex : Vertex
  pub there : slice_get vertices v ≡ Some vertex
  pub small : get_or numbers v 0 + o < 2 ^ 32

-- ---- what pins read, by what the ends of the edges read

abbrev pub feed_signal : List Signal → Feed → Signal
feed_signal signals (Tied b) = constant b
feed_signal signals (Along e) = get_or signals e Zero

abbrev pub feed_signals : List Signal → Vertex → List Signal
feed_signals signals x = map (feed_signal signals) x.pins

abbrev pub feeds_shown : List Signal → Vertex → List Signal
feeds_shown signals x = shown_by x.kind (feed_signals signals x)

-- ---- parts

abbrev pub planned_gate_by : List (List ℕ) → List ℕ → List Signal → ℕ → Vertex → VertexKind → Option GatePart
planned_gate_by origins numbers signals v x (Gate kind) = Some (record {
  number = v;
  origin = get_or origins v [];
  kind = kind;
  pins = feed_signals signals x;
  output = get_or numbers v 0;
})
planned_gate_by origins numbers signals v x _ = None

abbrev pub planned_gate : List (List ℕ) → List ℕ → List Signal → ℕ × Vertex → Option GatePart
planned_gate origins numbers signals e = planned_gate_by origins numbers signals e.0 e.1 e.1.kind

abbrev pub planned_register : List Vertex → List ℕ → ℕ → Planned → RegisterPart
planned_register vertices numbers first r = record {
  source = signal_after vertices numbers first r.driver.vertex r.driver.output r.behind;
  start = r.start;
}

-- ---- memories

abbrev pub planned_read_by : List ℕ → List Signal → ℕ → ℕ → Vertex → VertexKind → Option ReadPart
planned_read_by numbers signals i v x (Read memory port) =
    if memory == i then Some (record { address = feed_signals signals x; first = get_or numbers v 0 }) else None
planned_read_by numbers signals i v x _ = None

abbrev pub planned_read : List ℕ → List Signal → ℕ → ℕ × Vertex → Option ReadPart
planned_read numbers signals i e = planned_read_by numbers signals i e.0 e.1 e.1.kind

abbrev pub planned_write_by : List Signal → ℕ → Memory → Vertex → VertexKind → Option WritePart
planned_write_by signals i m x (WritePort memory port) =
    if memory == i then Some (write_of_pins m (feed_signals signals x)) else None
planned_write_by signals i m x _ = None

abbrev pub planned_write : List Signal → ℕ → Memory → ℕ × Vertex → Option WritePart
planned_write signals i m e = planned_write_by signals i m e.1 e.1.kind

-- a memory with the ports that are among these vertices
abbrev pub planned_memory : List Vertex → List ℕ → List Signal → ℕ × Memory → MemoryPart
planned_memory vertices numbers signals e = record {
  words = e.1.words;
  abits = e.1.abits;
  width = e.1.width;
  start = e.1.start;
  reads = filter_map (planned_read numbers signals e.0) (enumerate_from 0 vertices);
  writes = filter_map (planned_write signals e.0 e.1) (enumerate_from 0 vertices);
}

-- ---- memories, port by port

abbrev pub empty_memory : Memory → MemoryPart
empty_memory m = record { words = m.words; abits = m.abits; width = m.width; start = m.start; reads = []; writes = [] }

abbrev pub read_of : List ℕ → List Signal → ℕ → Vertex → ReadPart
read_of numbers signals v x = record { address = feed_signals signals x; first = get_or numbers v 0 }

abbrev pub write_in : ℕ → ℕ → List Signal → WritePart
write_in abits width pins = record {
  address = take abits pins;
  «data» = take width (drop abits pins);
  enable = drop width (drop abits pins);
}

-- an item at a place is changed
abbrev pub changed_at : {A : Type 0} → (A → A) → List A → ℕ → List A
changed_at f [] i = []
changed_at f (x ∷ xs) zero = f x ∷ xs
changed_at f (x ∷ xs) (suc i) = x ∷ changed_at f xs i

abbrev pub with_read : List ℕ → List Signal → ℕ → Vertex → MemoryPart → MemoryPart
with_read numbers signals v x part = record part { reads = part.reads ++ read_of numbers signals v x ∷ [] }

abbrev pub with_write : List Signal → Vertex → MemoryPart → MemoryPart
with_write signals x part =
    record part { writes = part.writes ++ write_in part.abits part.width (feed_signals signals x) ∷ [] }

-- memories with the port that vertex v is
abbrev pub add_port : List ℕ → List Signal → ℕ → Vertex → VertexKind → List MemoryPart → List MemoryPart
add_port numbers signals v x (Read memory port) parts = changed_at (with_read numbers signals v x) parts memory
add_port numbers signals v x (WritePort memory port) parts = changed_at (with_write signals x) parts memory
add_port numbers signals v x _ parts = parts

-- the memory of a port is among so many
abbrev pub HasPort : ℕ → VertexKind → Type 0
HasPort count (Read memory port) = memory < count
HasPort count (WritePort memory port) = memory < count
HasPort count _ = Unit {0}

-- ---- what is needed

-- an output's number has 32 bits, and so has that of the register behind it
pub record HasSignal (vertices : List Vertex) (numbers : List ℕ) (first v o : ℕ) (place : Option ℕ) : Type 0 where
  pub number : HasNumber vertices numbers v o
  pub register : (n : ℕ) → place ≡ Some n → first + n < 2 ^ 32

-- each end has a signal
abbrev pub HaveEnds : List Vertex → List ℕ → ℕ → List (Option ℕ) → List Edge → Type 0
HaveEnds vertices numbers first ends edges = (e : ℕ) (end : Option ℕ × Edge) → slice_get (zip ends edges) e ≡ Some end
    → HasSignal vertices numbers first end.1.from end.1.output end.0

-- each register has something to read
abbrev pub HaveSources : List Vertex → List ℕ → ℕ → List Planned → Type 0
HaveSources vertices numbers first registers = (n : ℕ) (r : Planned) → slice_get registers n ≡ Some r
    → HasSignal vertices numbers first r.driver.vertex r.driver.output r.behind
