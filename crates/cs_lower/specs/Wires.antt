-- The vertices before ring buffers and constants, and what drives each bit.
use Rattle.std.specs.Prelude.{ℕ, List, [], ◌∷◌, length, map, find, Option, option_map, unwrap_or}
use Rattle.std.specs.List.{enumerate_from}
use Rattle.cs_base.specs.declared.signal.Signal.{Signal}
use Rattle.cs_graph.specs.declared.vertex.VertexKind.TheVariants.{Host, Input, Output}
use Rattle.cs_modules.specs.Signals.{is_bit}
use Rattle.cs_net.specs.Drivers.{data_inputs, data_outputs}
use Rattle.cs_net.specs.Netlist.{Net}
use Rattle.cs_lower.specs.Cells.{cell_parts, placed_cells}
use Rattle.cs_lower.specs.declared.taps.Tap.TheVariants.{Signal as of_signal}
use Rattle.cs_lower.specs.declared.taps.Wire.{Wire}
use Rattle.cs_lower.specs.declared.taps.Wire.TheVariants.{Vertex as from_vertex, Undriven as undriven}
use Rattle.cs_lower.specs.declared.taps.Parts.{Parts}
use Rattle.cs_lower.specs.Taps.{both, in_turn, piece}

-- an input of the number v, which drives a signal
abbrev pub input_part : ℕ → Signal → Parts
input_part v s = record { pieces = piece Input [] ∷ []; wires = (s, from_vertex v 0) ∷ [] }

-- the host, then the data inputs, which are numbered from 1
abbrev pub input_parts : Net → Parts
input_parts net = record {
  pieces = piece Host [] ∷ map (λ s. piece Input []) (data_inputs net);
  wires = map (λ e. (e.1, from_vertex e.0 0)) (enumerate_from 1 (data_inputs net));
}

-- the data outputs, which drive nothing
abbrev pub output_parts : Net → Parts
output_parts net = record { pieces = map (λ s. piece Output (of_signal s ∷ [])) (data_outputs net); wires = [] }

-- the host, the data inputs, the data outputs
abbrev pub port_parts : Net → Parts
port_parts net = both (input_parts net) (output_parts net)

-- the ports, then cell by cell
unfoldable pub parts_of : Net → Parts
parts_of net = both (port_parts net) (in_turn (cell_parts net) (length (port_parts net).pieces) (placed_cells net))

-- the first wire of a bit
abbrev pub first_wire : List (Signal × Wire) → ℕ → Option Wire
first_wire wires b = option_map (λ w. w.1) (find (λ w. is_bit b w.0) wires)

-- what drives a bit
abbrev pub wire_in : List (Signal × Wire) → ℕ → Wire
wire_in wires b = unwrap_or (first_wire wires b) undriven
