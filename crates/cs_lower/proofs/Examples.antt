-- The graphs of small netlists, computed: chains, a ring, constants, multiplexers before registers, and a memory.
use Rattle.std.proofs.Common.{◌≡◌, ℕ, Bool, true, false, List, [], ◌∷◌, length, map, refl, codes, Option, Some, None}
use Prim.Native.String.{String}
use Rattle.cs_base.specs.declared.signal.Signal.{Signal}
use Rattle.cs_base.specs.declared.signal.Signal.TheVariants.{Zero, One, Bit}
use Rattle.cs_cells.specs.declared.class.Class.TheVariants as class
use Rattle.cs_cells.specs.declared.gate.Kind.{Kind}
use Rattle.cs_cells.specs.declared.gate.Kind.TheVariants.{And, Buf, Mux, Not, Xor}
use Rattle.cs_cells.specs.declared.memory.MemShape.{MemShape}
use Rattle.cs_cells.specs.declared.register.FfKind.{FfKind}
use Rattle.cs_cells.specs.declared.register.ResetKind.{ResetKind}
use Rattle.cs_graph.specs.declared.edge.Edge.{Edge}
use Rattle.cs_graph.specs.declared.graph.Graph.{Graph}
use Rattle.cs_graph.specs.declared.vertex.Feed.TheVariants.{Edge as Along, Tied}
use Rattle.cs_graph.specs.declared.vertex.Vertex.{Vertex}
use Rattle.cs_graph.specs.declared.vertex.VertexKind.{VertexKind}
use Rattle.cs_graph.specs.declared.vertex.VertexKind.TheVariants.{Constant, Gate, Host, Input, Output, Read, Write}
use Rattle.cs_json.specs.declared.document.Direction.TheVariants.{Input as In, Output as Out}
use Rattle.cs_net.specs.declared.netlist.Cell.{Cell}
use Rattle.cs_net.specs.declared.netlist.PinBits.{PinBits}
use Rattle.cs_net.specs.declared.netlist.Port.{Port}
use Rattle.cs_net.specs.declared.state.BitValue.{BitValue}
use Rattle.cs_net.specs.Drivers.{driver_of}
use Rattle.cs_net.specs.Netlist.{Net}
use Rattle.cs_lower.specs.Followed.{followed}
use Rattle.cs_lower.specs.Lowered.{lowered, origins}
use Rattle.cs_lower.specs.Wires.{parts_of}

-- ---- netlists in short forms

abbrev in_port : String → List ℕ → Port
in_port name bits = record { name = codes name; direction = In; bits = map Bit bits }

abbrev out_port : String → List ℕ → Port
out_port name bits = record { name = codes name; direction = Out; bits = map Bit bits }

abbrev pin : String → Signal → PinBits
pin name s = record { name = codes name; bits = s ∷ [] }

abbrev wire : String → ℕ → PinBits
wire name b = pin name (Bit b)

abbrev pins : String → List ℕ → PinBits
pins name bits = record { name = codes name; bits = map Bit bits }

abbrev gate : String → Kind → List PinBits → Cell
gate name kind ps = record { name = codes name; class = class.Gate kind; pins = ps }

abbrev not_gate : String → ℕ → ℕ → Cell
not_gate name a y = gate name Not (wire "A" a ∷ wire "Y" y ∷ [])

abbrev gate_2 : String → Kind → ℕ → ℕ → ℕ → Cell
gate_2 name kind a b y = gate name kind (wire "A" a ∷ wire "B" b ∷ wire "Y" y ∷ [])

-- `$_DFF_P_`
abbrev plain : FfKind
plain = record { rising = true; reset = None; enable = None; enable_over_reset = false }

abbrev dff : String → Signal → ℕ → Cell
dff name d q = record { name = codes name; class = class.Register plain; pins = wire "C" 2 ∷ pin "D" d ∷ wire "Q" q ∷ [] }

-- `$_SDFFE_PP0P_` and `$_SDFFCE_PP0P_`, at D 3, E and R
abbrev reset_0 : Option ResetKind
reset_0 = Some (record { high = true; value = false })

abbrev register : String → Bool → Signal → Signal → ℕ → Cell
register name over e r q = record {
  name = codes name;
  class = class.Register (record { rising = true; reset = reset_0; enable = Some true; enable_over_reset = over });
  pins = wire "C" 2 ∷ wire "D" 3 ∷ pin "E" e ∷ wire "Q" q ∷ pin "R" r ∷ [];
}

abbrev start : ℕ → Bool → BitValue
start b value = record { bit = b; value = value }

abbrev without_memory : List Cell → List (Option MemShape)
without_memory cells = map (λ c. None) cells

abbrev clk : Port
clk = in_port "clk" (2 ∷ [])

abbrev top : List Port → List Cell → List BitValue → Net
top ports cells starts = record {
  name = codes "top";
  ports = ports;
  cells = cells;
  shapes = without_memory cells;
  clock = Some (record { bit = 2; rising = true });
  starts = starts;
  memories = [];
}

-- ---- graphs in short forms

abbrev vertex : VertexKind → List ℕ → Vertex
vertex kind edges = record { kind = kind; pins = map Along edges }

-- an edge from output 0 of a vertex to a pin of a vertex
abbrev edge : ℕ → ℕ → ℕ → List Bool → Edge
edge u v i contents = record { from = u; output = 0; to = v; pin = i; weight = length contents; contents = contents }

abbrev graph : List Vertex → List Edge → Graph
graph vertices edges = record { vertices = vertices; edges = edges; memories = [] }

-- ---- chains

-- N4: an exclusive or of a registered input and of itself, through two inverters and a register
n4 : lowered (top (in_port "a" (3 ∷ []) ∷ clk ∷ out_port "y" (8 ∷ []) ∷ [])
    (not_gate "n1" 5 6 ∷ not_gate "n2" 6 7 ∷ dff "ra" (Bit 3) 4 ∷ dff "rq" (Bit 7) 8 ∷ gate_2 "x" Xor 4 8 5 ∷ [])
    (start 4 false ∷ start 8 false ∷ [])) ≡
    graph
    (vertex Host [] ∷ vertex Input [] ∷ vertex Output (0 ∷ []) ∷ vertex (Gate Not) (1 ∷ []) ∷ vertex (Gate Not) (2 ∷ [])
    ∷ vertex (Gate Xor) (3 ∷ 4 ∷ []) ∷ [])
    (edge 4 2 0 (false ∷ []) ∷ edge 5 3 0 [] ∷ edge 3 4 0 [] ∷ edge 1 5 0 (false ∷ []) ∷ edge 4 5 1 (false ∷ []) ∷ [])
unfolding parts_of followed driver_of
n4 = refl

-- N7: one inverter behind two registers with different starts
n7 : lowered (top (in_port "a" (3 ∷ []) ∷ in_port "b" (4 ∷ []) ∷ clk ∷ out_port "y" (7 ∷ []) ∷ out_port "z" (8 ∷ []) ∷ [])
    (gate_2 "g" And 3 4 5 ∷ not_gate "h" 5 6 ∷ dff "r" (Bit 6) 7 ∷ dff "s" (Bit 6) 8 ∷ [])
    (start 7 false ∷ start 8 true ∷ [])) ≡
    graph
    (vertex Host [] ∷ vertex Input [] ∷ vertex Input [] ∷ vertex Output (0 ∷ []) ∷ vertex Output (1 ∷ [])
    ∷ vertex (Gate And) (2 ∷ 3 ∷ []) ∷ vertex (Gate Not) (4 ∷ []) ∷ [])
    (edge 6 3 0 (false ∷ []) ∷ edge 6 4 0 (true ∷ []) ∷ edge 1 5 0 [] ∷ edge 2 5 1 [] ∷ edge 5 6 0 [] ∷ [])
unfolding parts_of followed driver_of
n7 = refl

-- two registers in series: the one nearest the input comes first
series : lowered (top (in_port "a" (3 ∷ []) ∷ clk ∷ out_port "y" (5 ∷ []) ∷ [])
    (dff "p" (Bit 3) 4 ∷ dff "q" (Bit 4) 5 ∷ []) (start 4 true ∷ start 5 false ∷ [])) ≡
    graph (vertex Host [] ∷ vertex Input [] ∷ vertex Output (0 ∷ []) ∷ []) (edge 1 2 0 (true ∷ false ∷ []) ∷ [])
unfolding parts_of followed driver_of
series = refl

-- ---- rings and constants

-- N9: a register that feeds itself has a buffer in its place
n9 : lowered (top (clk ∷ out_port "y" (3 ∷ []) ∷ []) (dff "r" (Bit 3) 3 ∷ []) (start 3 true ∷ [])) ≡
    graph (vertex Host [] ∷ vertex Output (0 ∷ []) ∷ vertex (Gate Buf) (1 ∷ []) ∷ [])
    (edge 2 1 0 [] ∷ edge 2 2 0 (true ∷ []) ∷ [])
unfolding parts_of followed driver_of
n9 = refl

-- a ring of two registers, and a third that hangs on it
ring : lowered (top (clk ∷ out_port "y" (5 ∷ []) ∷ [])
    (dff "p" (Bit 4) 3 ∷ dff "q" (Bit 3) 4 ∷ dff "r" (Bit 4) 5 ∷ []) (start 3 true ∷ start 4 false ∷ start 5 true ∷ [])) ≡
    graph (vertex Host [] ∷ vertex Output (0 ∷ []) ∷ vertex (Gate Buf) (1 ∷ []) ∷ [])
    (edge 2 1 0 (false ∷ true ∷ []) ∷ edge 2 2 0 (false ∷ true ∷ []) ∷ [])
unfolding parts_of followed driver_of
ring = refl

-- N10: a register behind a constant
n10 : lowered (top (clk ∷ out_port "y" (3 ∷ []) ∷ []) (dff "r" One 3 ∷ []) (start 3 false ∷ [])) ≡
    graph (vertex Host [] ∷ vertex Output (0 ∷ []) ∷ vertex (Constant true) [] ∷ []) (edge 2 1 0 (false ∷ []) ∷ [])
unfolding parts_of followed driver_of
n10 = refl

-- a gate whose pin is a constant
tied : lowered (top (in_port "a" (3 ∷ []) ∷ clk ∷ out_port "y" (4 ∷ []) ∷ [])
    (gate "g" And (wire "A" 3 ∷ pin "B" One ∷ wire "Y" 4 ∷ []) ∷ []) []) ≡
    graph
    (vertex Host [] ∷ vertex Input [] ∷ vertex Output (0 ∷ [])
    ∷ record { kind = Gate And; pins = Along 1 ∷ Tied true ∷ [] } ∷ []) (edge 3 2 0 [] ∷ edge 1 3 0 [] ∷ [])
unfolding parts_of followed driver_of
tied = refl

-- ---- registers with an enable and a reset

-- N8: with the reset over the enable the enable's multiplexer goes first, with the enable over the reset the reset's
n8 : lowered (top (clk ∷ in_port "d" (3 ∷ []) ∷ in_port "e" (4 ∷ []) ∷ in_port "r" (5 ∷ []) ∷ out_port "s" (6 ∷ []) ∷ out_port "t" (7 ∷ []) ∷ [])
    (register "p" false (Bit 4) (Bit 5) 6 ∷ register "u" true (Bit 4) (Bit 5) 7 ∷ []) (start 6 true ∷ start 7 true ∷ [])) ≡
    graph
    (vertex Host [] ∷ vertex Input [] ∷ vertex Input [] ∷ vertex Input [] ∷ vertex Output (0 ∷ []) ∷ vertex Output (1 ∷ [])
    ∷ vertex (Gate Mux) (2 ∷ 3 ∷ 4 ∷ []) ∷ record { kind = Gate Mux; pins = Along 5 ∷ Tied false ∷ Along 6 ∷ [] }
    ∷ record { kind = Gate Mux; pins = Along 7 ∷ Tied false ∷ Along 8 ∷ [] } ∷ vertex (Gate Mux) (9 ∷ 10 ∷ 11 ∷ []) ∷ [])
    (edge 7 4 0 (true ∷ []) ∷ edge 9 5 0 (true ∷ []) ∷ edge 7 6 0 (true ∷ []) ∷ edge 1 6 1 [] ∷ edge 2 6 2 [] ∷ edge 6 7 0 []
    ∷ edge 3 7 2 [] ∷ edge 1 8 0 [] ∷ edge 3 8 2 [] ∷ edge 9 9 0 (true ∷ []) ∷ edge 8 9 1 [] ∷ edge 2 9 2 [] ∷ [])
unfolding parts_of followed driver_of
n8 = refl

-- an enable that is active for good and a reset that is inactive for good have none, and others are tied
stills : map (λ (v : Vertex). v.pins) (lowered (top (clk ∷ in_port "d" (3 ∷ []) ∷ out_port "s" (6 ∷ []) ∷ out_port "t" (7 ∷ []) ∷ [])
    (register "p" false One (Bit 9) 6 ∷ register "u" true Zero One 7 ∷ []) (start 6 true ∷ start 7 true ∷ []))).vertices ≡
    [] ∷ [] ∷ (Along 0 ∷ []) ∷ (Along 1 ∷ []) ∷ (Along 2 ∷ Tied false ∷ Tied true ∷ []) ∷ (Along 3 ∷ Along 4 ∷ Tied false ∷ []) ∷ []
unfolding parts_of followed driver_of
stills = refl

-- ---- memories

-- M2: three words of two bits, with an unclocked read and a write at one address; a fourth word starts with 0
abbrev m2 : Net
m2 = record {
  name = codes "top";
  ports = in_port "a" (3 ∷ 4 ∷ []) ∷ clk ∷ in_port "d" (5 ∷ 6 ∷ []) ∷ out_port "q" (8 ∷ 9 ∷ []) ∷ in_port "w" (7 ∷ []) ∷ [];
  cells = record {
    name = codes "m";
    class = class.Memory;
    pins = pins "RD_ADDR" (3 ∷ 4 ∷ []) ∷ pins "RD_DATA" (8 ∷ 9 ∷ []) ∷ pins "WR_ADDR" (3 ∷ 4 ∷ []) ∷ pins "WR_DATA" (5 ∷ 6 ∷ [])
        ∷ pins "WR_EN" (7 ∷ 7 ∷ []) ∷ [];
  } ∷ [];
  shapes = Some (record {
    size = 3;
    abits = 2;
    width = 2;
    reads = record { clocked = false; enable_over_reset = false; reset_value = []; start = [] } ∷ [];
    writes = 1;
  }) ∷ [];
  clock = Some (record { bit = 2; rising = true });
  starts = [];
  memories = record { name = codes "m"; words = (false ∷ false ∷ []) ∷ (false ∷ true ∷ []) ∷ (false ∷ false ∷ []) ∷ [] } ∷ [];
}

m2_is : lowered m2 ≡ record {
  vertices = vertex Host [] ∷ vertex Input [] ∷ vertex Input [] ∷ vertex Input [] ∷ vertex Input [] ∷ vertex Input []
      ∷ vertex Output (0 ∷ []) ∷ vertex Output (1 ∷ []) ∷ vertex (Read 0 0) (2 ∷ 3 ∷ []) ∷ vertex (Write 0 0) (4 ∷ 5 ∷ 6 ∷ 7 ∷ 8 ∷ 9 ∷ [])
      ∷ [];
  edges = edge 8 6 0 [] ∷ record (edge 8 7 0 []) { output = 1 } ∷ edge 1 8 0 [] ∷ edge 2 8 1 [] ∷ edge 1 9 0 [] ∷ edge 2 9 1 []
      ∷ edge 3 9 2 [] ∷ edge 4 9 3 [] ∷ edge 5 9 4 [] ∷ edge 5 9 5 [] ∷ [];
  memories = record {
    size = 3;
    words = 4;
    abits = 2;
    width = 2;
    start = false ∷ false ∷ false ∷ true ∷ false ∷ false ∷ false ∷ false ∷ [];
  } ∷ [];
}
unfolding parts_of followed driver_of
m2_is = refl

-- gate cells are named, all other vertices are not
names : origins (top (in_port "a" (3 ∷ []) ∷ clk ∷ out_port "y" (5 ∷ []) ∷ [])
    (not_gate "g" 3 4 ∷ dff "r" (Bit 4) 5 ∷ []) (start 5 false ∷ [])) ≡ [] ∷ [] ∷ [] ∷ codes "g" ∷ []
unfolding parts_of followed driver_of
names = refl
