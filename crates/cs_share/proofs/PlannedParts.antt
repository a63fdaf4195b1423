-- Pins and parts by tables of numbers and signals are those of the specification.
use Rattle.std.proofs.Common.{◌≡◌, ◌∙◌, ℕ, suc, ◌==◌, List, [], ◌∷◌, map, Option, Some, None, ap, ap₂, arith, get_or, refl, sym}
use Rattle.std.specs.Prelude.{filter_map, flat_map, option_map, slice_get, unwrap_or, if◌then◌else◌}
use Rattle.std.specs.List.{cons_option, enumerate_from}
use Rattle.std.proofs.lemmas.Option.{slice_get-map, unwrap_or-slice_get}
use Rattle.cs_base.specs.declared.signal.Signal.{Signal}
use Rattle.cs_base.specs.declared.signal.Signal.TheVariants.{Zero}
use Rattle.cs_circuit.specs.declared.circuit.GatePart.{GatePart}
use Rattle.cs_circuit.specs.declared.circuit.MemoryPart.{MemoryPart}
use Rattle.cs_circuit.specs.declared.circuit.ReadPart.{ReadPart}
use Rattle.cs_circuit.specs.declared.circuit.WritePart.{WritePart}
use Rattle.cs_graph.specs.declared.edge.Edge.{Edge}
use Rattle.cs_graph.specs.declared.graph.Graph.{Graph}
use Rattle.cs_graph.specs.declared.memory.Memory.{Memory}
use Rattle.cs_graph.specs.declared.vertex.Feed.{Feed}
use Rattle.cs_graph.specs.declared.vertex.Feed.TheVariants.{Tied, Edge as Along}
use Rattle.cs_graph.specs.declared.vertex.Vertex.{Vertex}
use Rattle.cs_graph.specs.declared.vertex.VertexKind.{VertexKind}
use Rattle.cs_graph.specs.declared.vertex.VertexKind.TheVariants.{Host, Input, Output, Constant, Gate, Read, Write as WritePort}
use Rattle.cs_graph.specs.Run.{inputs_before}
use Rattle.cs_graph.proofs.Lists.{flat_map_same, map_same}
use Rattle.cs_net.proofs.Members.{numbered}
use Rattle.cs_prefix.specs.Prefixes.{RegisterKey}
use Rattle.cs_share.specs.declared.types.Names.{Names}
use Rattle.cs_share.specs.Planned.{feed_signal, feed_signals, feeds_shown, number_by, planned_gate, planned_gate_by, planned_memory, planned_read, planned_read_by, planned_write, planned_write_by, vertex_numbers}
use Rattle.cs_share.specs.Ports.{data_numbers}
use Rattle.cs_share.specs.Shared.{edge_signal, gate_by, gate_part, logic_bit, memory_part, pin_signal, pin_signals, read_by, read_part, shown_by, shown_signals, write_by, write_of_pins, write_part}
use Rattle.cs_share.proofs.PlannedSignals.{number_at}

-- what the ends of the edges read
abbrev pub edge_signals : Graph → Names → List RegisterKey → List Signal
edge_signals g names keys = map (edge_signal g names keys) g.edges

filter_map_same : {A B : Type 0} (f h : A → Option B) (xs : List A)
    → ((i : ℕ) (x : A) → slice_get xs i ≡ Some x → f x ≡ h x) → filter_map f xs ≡ filter_map h xs
filter_map_same f h [] each = refl
filter_map_same f h (x ∷ xs) each =
    ap₂ (λ y ys. cons_option y ys) (each 0 x refl) (filter_map_same f h xs (λ i z at. each (suc i) z at))

module _ (g : Graph) (names : Names) (keys : List RegisterKey) (signals : List Signal)
    (are : signals ≡ edge_signals g names keys) where
  -- ---- pins

  -- a pin of any number reads what the specification says
  pub feed_is : (f : Feed) → feed_signal signals f ≡ pin_signal g names keys f
  feed_is (Tied b) = refl
  feed_is (Along e) =
      ap (λ read. get_or read e Zero) are
      ∙ sym (unwrap_or-slice_get (edge_signals g names keys) e Zero)
      ∙ ap (λ found. unwrap_or found Zero) (slice_get-map (edge_signal g names keys) g.edges e)

  -- the end of an edge that is there
  pub end_is : (e : ℕ) (d : Edge) → slice_get g.edges e ≡ Some d
      → get_or signals e Zero ≡ edge_signal g names keys d
  end_is e d at =
      feed_is (Along e) ∙ ap (λ found. unwrap_or (option_map (edge_signal g names keys) found) Zero) at

  -- the pins of any vertex
  pub feeds_are : (x : Vertex) → feed_signals signals x ≡ pin_signals g names keys x
  feeds_are x = map_same (feed_signal signals) (pin_signal g names keys) x.pins (λ i f at. feed_is f)

  -- ---- outputs

  -- what Outputs show
  pub shown_are : flat_map (feeds_shown signals) g.vertices ≡ flat_map (shown_signals g names keys) g.vertices
  shown_are =
      flat_map_same (feeds_shown signals) (shown_signals g names keys) g.vertices
      (λ v x at. ap (shown_by x.kind) (feeds_are x))

  -- ---- vertices

  -- an element of an enumeration is the vertex of its number
  placed : (i : ℕ) (e : ℕ × Vertex) → slice_get (enumerate_from 0 g.vertices) i ≡ Some e
      → slice_get g.vertices e.0 ≡ Some e.1
  placed i e at =
      let found = numbered 0 g.vertices e (i, at) in
      let place : e.0 ≡ found.0 = found.1 ∙ omega arith in
      ap (slice_get g.vertices) place ∙ found.2

  number_of_kind : (v : ℕ) (x : Vertex) → slice_get g.vertices v ≡ Some x
      → (kind : VertexKind) → x.kind ≡ kind
      → get_or (vertex_numbers g names) v 0
      ≡ number_by (data_numbers names) (inputs_before g.vertices v) (logic_bit g names v) kind
  number_of_kind v x at kind is =
      number_at g names v x at
      ∙ ap (number_by (data_numbers names) (inputs_before g.vertices v) (logic_bit g names v)) is

  -- ---- gates

  gate_is : (v : ℕ) (x : Vertex) → slice_get g.vertices v ≡ Some x → (kind : VertexKind) → x.kind ≡ kind
      → planned_gate_by names.origins (vertex_numbers g names) signals v x kind ≡ gate_by g names keys v x kind
  gate_is v x at Host is = refl
  gate_is v x at Input is = refl
  gate_is v x at Output is = refl
  gate_is v x at (Constant b) is = refl
  gate_is v x at (Gate kind) is =
      ap₂ (λ pins output. let part : GatePart = record {
        number = v;
        origin = get_or names.origins v [];
        kind = kind;
        pins = pins;
        output = output;
      } in Some part)
      (feeds_are x) (number_of_kind v x at (Gate kind) is)
  gate_is v x at (Read memory port) is = refl
  gate_is v x at (WritePort memory port) is = refl

  pub gates_are : filter_map (planned_gate names.origins (vertex_numbers g names) signals)
      (enumerate_from 0 g.vertices)
      ≡ filter_map (gate_part g names keys) (enumerate_from 0 g.vertices)
  gates_are =
      filter_map_same (planned_gate names.origins (vertex_numbers g names) signals) (gate_part g names keys)
      (enumerate_from 0 g.vertices) (λ i e at. gate_is e.0 e.1 (placed i e at) e.1.kind refl)

  -- ---- memories

  read_is : (i v : ℕ) (x : Vertex) → slice_get g.vertices v ≡ Some x → (kind : VertexKind) → x.kind ≡ kind
      → planned_read_by (vertex_numbers g names) signals i v x kind ≡ read_by g names keys i v x kind
  read_is i v x at Host is = refl
  read_is i v x at Input is = refl
  read_is i v x at Output is = refl
  read_is i v x at (Constant b) is = refl
  read_is i v x at (Gate kind) is = refl
  read_is i v x at (Read memory port) is =
      ap₂ (λ pins first. let part : ReadPart = record { address = pins; first = first } in
      if memory == i then Some part else None)
      (feeds_are x) (number_of_kind v x at (Read memory port) is)
  read_is i v x at (WritePort memory port) is = refl

  write_is : (i : ℕ) (m : Memory) (x : Vertex) (kind : VertexKind)
      → planned_write_by signals i m x kind ≡ write_by g names keys i m x kind
  write_is i m x Host = refl
  write_is i m x Input = refl
  write_is i m x Output = refl
  write_is i m x (Constant b) = refl
  write_is i m x (Gate kind) = refl
  write_is i m x (Read memory port) = refl
  write_is i m x (WritePort memory port) =
      ap (λ pins. if memory == i then Some (write_of_pins m pins) else None) (feeds_are x)

  abbrev memory_of : Memory → List ReadPart → List WritePart → MemoryPart
  memory_of m reads writes = record {
    words = m.words;
    abits = m.abits;
    width = m.width;
    start = m.start;
    reads = reads;
    writes = writes;
  }

  memory_is : (e : ℕ × Memory)
      → planned_memory g.vertices (vertex_numbers g names) signals e ≡ memory_part g names keys e
  memory_is e =
      ap₂ (memory_of e.1)
      (filter_map_same (planned_read (vertex_numbers g names) signals e.0) (read_part g names keys e.0)
      (enumerate_from 0 g.vertices) (λ i p at. read_is e.0 p.0 p.1 (placed i p at) p.1.kind refl))
      (filter_map_same (planned_write signals e.0 e.1) (write_part g names keys e.0 e.1)
      (enumerate_from 0 g.vertices) (λ i p at. write_is e.0 e.1 p.1 p.1.kind))

  pub memories_are : map (planned_memory g.vertices (vertex_numbers g names) signals) (enumerate_from 0 g.memories)
      ≡ map (memory_part g names keys) (enumerate_from 0 g.memories)
  memories_are =
      map_same (planned_memory g.vertices (vertex_numbers g names) signals) (memory_part g names keys)
      (enumerate_from 0 g.memories) (λ i e at. memory_is e)
