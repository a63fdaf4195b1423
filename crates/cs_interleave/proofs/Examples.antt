-- Small netlists for two contexts, computed: a register behind an exclusive or, and a memory with images.
use Rattle.std.proofs.Common.{◌≡◌, ℕ, Bool, true, false, List, [], ◌∷◌, length, map, refl, codes, Some, None}
use Prim.Native.String.{String}
use Rattle.cs_base.specs.declared.signal.Signal.TheVariants.{Bit}
use Rattle.cs_cells.specs.declared.class.Class.TheVariants as class
use Rattle.cs_cells.specs.declared.gate.Kind.TheVariants.{And, Buf, Not, OrNot, Xor}
use Rattle.cs_graph.specs.declared.edge.Edge.{Edge}
use Rattle.cs_graph.specs.declared.vertex.Feed.TheVariants.{Edge as Along}
use Rattle.cs_graph.specs.declared.vertex.Vertex.{Vertex}
use Rattle.cs_graph.specs.declared.vertex.VertexKind.{VertexKind}
use Rattle.cs_graph.specs.declared.vertex.VertexKind.TheVariants.{Gate, Host, Input, Output, Read, Write}
use Rattle.cs_json.specs.declared.document.Direction.TheVariants.{Input as In, Output as Out}
use Rattle.cs_net.specs.declared.netlist.PinBits.{PinBits}
use Rattle.cs_net.specs.declared.netlist.Port.{Port}
use Rattle.cs_net.specs.Drivers.{driver_of}
use Rattle.cs_net.specs.Netlist.{Net}
use Rattle.cs_interleave.specs.Interleaved.{interleaved}
use Rattle.cs_lower.specs.Followed.{followed}
use Rattle.cs_lower.specs.Wires.{parts_of}

-- ---- short forms

abbrev in_port : String → List ℕ → Port
in_port name bits = record { name = codes name; direction = In; bits = map Bit bits }

abbrev out_port : String → List ℕ → Port
out_port name bits = record { name = codes name; direction = Out; bits = map Bit bits }

abbrev pins : String → List ℕ → PinBits
pins name bits = record { name = codes name; bits = map Bit bits }

abbrev vertex : VertexKind → List ℕ → Vertex
vertex kind edges = record { kind = kind; pins = map Along edges }

-- an edge from output 0 of a vertex to a pin of a vertex
abbrev edge : ℕ → ℕ → ℕ → List Bool → Edge
edge u v i contents = record { from = u; output = 0; to = v; pin = i; weight = length contents; contents = contents }

-- ---- a register

-- a bit that changes where the input is 1, and starts as 1
abbrev toggle : Net
toggle = record {
  name = codes "top";
  ports = in_port "a" (3 ∷ []) ∷ in_port "clk" (2 ∷ []) ∷ out_port "y" (4 ∷ []) ∷ [];
  cells = record {
    name = codes "r";
    class = class.Register (record { rising = true; reset = None; enable = None; enable_over_reset = false });
    pins = pins "C" (2 ∷ []) ∷ pins "D" (5 ∷ []) ∷ pins "Q" (4 ∷ []) ∷ [];
  } ∷ record {
    name = codes "x";
    class = class.Gate Xor;
    pins = pins "A" (3 ∷ []) ∷ pins "B" (4 ∷ []) ∷ pins "Y" (5 ∷ []) ∷ [];
  } ∷ [];
  shapes = None ∷ None ∷ [];
  clock = Some (record { bit = 2; rising = true });
  starts = record { bit = 4; value = true } ∷ [];
  memories = [];
}

-- a register for each context, both of which start as the one does
toggle_for_two : interleaved toggle (record { of = [] }) 2 ≡ record {
  vertices = vertex Host [] ∷ vertex Input [] ∷ vertex Output (0 ∷ []) ∷ vertex (Gate Xor) (1 ∷ 2 ∷ []) ∷ [];
  edges = edge 3 2 0 (true ∷ true ∷ []) ∷ edge 1 3 0 [] ∷ edge 3 3 1 (true ∷ true ∷ []) ∷ [];
  memories = [];
}
unfolding parts_of followed driver_of
toggle_for_two = refl

-- ---- a memory

-- three words of one bit, with an unclocked read and a write at one address; word 1 starts with 1
abbrev store : Net
store = record {
  name = codes "top";
  ports = in_port "a" (3 ∷ 4 ∷ []) ∷ in_port "clk" (2 ∷ []) ∷ in_port "d" (5 ∷ []) ∷ out_port "q" (6 ∷ [])
      ∷ in_port "w" (7 ∷ []) ∷ [];
  cells = record {
    name = codes "m";
    class = class.Memory;
    pins = pins "RD_ADDR" (3 ∷ 4 ∷ []) ∷ pins "RD_DATA" (6 ∷ []) ∷ pins "WR_ADDR" (3 ∷ 4 ∷ []) ∷ pins "WR_DATA" (5 ∷ [])
        ∷ pins "WR_EN" (7 ∷ []) ∷ [];
  } ∷ [];
  shapes = Some (record {
    size = 3;
    abits = 2;
    width = 1;
    reads = record { clocked = false; enable_over_reset = false; reset_value = []; start = [] } ∷ [];
    writes = 1;
  }) ∷ [];
  clock = Some (record { bit = 2; rising = true });
  starts = [];
  memories = record { name = codes "m"; words = (false ∷ []) ∷ (true ∷ []) ∷ (false ∷ []) ∷ [] } ∷ [];
}

-- bank k starts with image k and a word of 0; the context's bit is above the address, and a guard tests the
-- address of a write
store_for_two : interleaved store
    (record { of = Some ((true ∷ true ∷ true ∷ []) ∷ (false ∷ true ∷ true ∷ []) ∷ []) ∷ [] }) 2 ≡ record {
      vertices = vertex Host [] ∷ vertex Input [] ∷ vertex Input [] ∷ vertex Input [] ∷ vertex Input []
          ∷ vertex Output (0 ∷ []) ∷ vertex (Read 0 0) (1 ∷ 2 ∷ 3 ∷ []) ∷ vertex (Write 0 0) (4 ∷ 5 ∷ 6 ∷ 7 ∷ 8 ∷ [])
          ∷ vertex (Gate Buf) (9 ∷ []) ∷ vertex (Gate Not) (10 ∷ []) ∷ vertex (Gate OrNot) (11 ∷ 12 ∷ [])
          ∷ vertex (Gate And) (13 ∷ 14 ∷ []) ∷ [];
      edges = edge 6 5 0 [] ∷ edge 1 6 0 [] ∷ edge 2 6 1 [] ∷ edge 8 6 2 [] ∷ edge 1 7 0 [] ∷ edge 2 7 1 []
          ∷ edge 8 7 2 [] ∷ edge 3 7 3 [] ∷ edge 11 7 4 [] ∷ edge 8 8 0 (true ∷ false ∷ []) ∷ edge 1 9 0 [] ∷ edge 9 10 0 []
          ∷ edge 2 10 1 [] ∷ edge 4 11 0 [] ∷ edge 10 11 1 [] ∷ [];
      memories = record {
        size = 3;
        words = 8;
        abits = 3;
        width = 1;
        start = true ∷ true ∷ true ∷ false ∷ false ∷ true ∷ true ∷ false ∷ [];
      } ∷ [];
    }
unfolding parts_of followed driver_of
store_for_two = refl
