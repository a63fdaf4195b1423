-- Small netlists as graphs, computed.
use Rattle.std.proofs.Common.{◌≡◌, ℕ, List, [], ◌∷◌, map, refl, Bool, true, false, Option, Some, None, codes}
use Prim.Native.String.{String}
use Rattle.cs_base.specs.declared.signal.Signal.TheVariants.{Bit}
use Rattle.cs_json.specs.declared.document.Direction.TheVariants.{Input}
use Rattle.cs_cells.specs.declared.class.Class.{Class}
use Rattle.cs_cells.specs.declared.class.Class.TheVariants.{Gate, Register, Memory}
use Rattle.cs_cells.specs.declared.gate.Kind.TheVariants.{And, Not}
use Rattle.cs_cells.specs.declared.memory.MemShape.{MemShape}
use Rattle.cs_cells.specs.declared.memory.ReadShape.{ReadShape}
use Rattle.cs_net.specs.declared.netlist.Cell.{Cell}
use Rattle.cs_net.specs.declared.netlist.PinBits.{PinBits}
use Rattle.cs_net.specs.Elements.{elements_of, graph_of}
use Rattle.cs_net.specs.Netlist.{Net}

abbrev wires : String → List ℕ → PinBits
wires name bits = record { name = codes name; bits = map Bit bits }

abbrev wire : String → ℕ → PinBits
wire name b = wires name (b ∷ [])

abbrev cell : Class → List PinBits → Cell
cell class pins = record { name = []; class = class; pins = pins }

abbrev register : ℕ → ℕ → Cell
register d q =
    cell (Register (record { rising = true; reset = None; enable = None; enable_over_reset = false }))
    (wire "C" 2 ∷ wire "D" d ∷ wire "Q" q ∷ [])

-- a netlist with an input port of these bits, and the clock's bit 2
abbrev net : List ℕ → List Cell → List (Option MemShape) → Net
net inputs cells shapes = record {
  name = [];
  ports = record { name = codes "a"; direction = Input; bits = map Bit (2 ∷ inputs) } ∷ [];
  cells = cells;
  shapes = shapes;
  clock = Some (record { bit = 2; rising = true });
  starts = [];
  memories = [];
}

-- the data inputs are vertex 0; the gate reads one of them and the register, which depends on nothing
gate_and_register : graph_of (elements_of (net (3 ∷ [])
    (cell (Gate And) (wire "A" 3 ∷ wire "B" 4 ∷ wire "Y" 5 ∷ []) ∷ register 5 4 ∷ []) (None ∷ None ∷ [])))
    ≡ [] ∷ (0 ∷ 2 ∷ []) ∷ [] ∷ []
unfolding graph_of
gate_and_register = refl

-- each inverter depends on the other
two_inverters : graph_of (elements_of (net []
    (cell (Gate Not) (wire "A" 3 ∷ wire "Y" 4 ∷ []) ∷ cell (Gate Not) (wire "A" 4 ∷ wire "Y" 3 ∷ []) ∷ [])
    (None ∷ None ∷ []))) ≡ [] ∷ (2 ∷ []) ∷ (1 ∷ []) ∷ []
unfolding graph_of
two_inverters = refl

abbrev read : Bool → ReadShape
read clocked = record { clocked = clocked; enable_over_reset = false; reset_value = []; start = [] }

-- an unclocked read port depends on its part of RD_ADDR, here an input and what the other port reads; a
-- clocked one depends on nothing within a clock
two_read_ports : graph_of (elements_of (net (3 ∷ 4 ∷ 5 ∷ [])
    (cell Memory (wires "RD_ADDR" (3 ∷ 4 ∷ 5 ∷ 8 ∷ []) ∷ wires "RD_DATA" (8 ∷ 9 ∷ []) ∷ []) ∷ [])
    (Some (record { size = 4; abits = 2; width = 1; reads = read true ∷ read false ∷ []; writes = 0 }) ∷ [])))
    ≡ [] ∷ [] ∷ (0 ∷ 1 ∷ []) ∷ []
unfolding graph_of
two_read_ports = refl
