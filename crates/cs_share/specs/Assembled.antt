-- The circuit of a machine by the plan of its registers: this only mirrors the code, whose result is said by Shared.
use Rattle.std.specs.Prelude.{◌≡◌, ◌+◌, ◌<◌, ◌^◌, ◌&&◌, ℕ, List, Bool, filter_map, flat_map, is_some, length, map, not}
use Rattle.std.specs.List.{enumerate_from}
use Rattle.cs_base.specs.declared.signal.Signal.{Signal}
use Rattle.cs_circuit.specs.declared.circuit.Circuit.{Circuit}
use Rattle.cs_circuit.specs.declared.circuit.GatePart.{GatePart}
use Rattle.cs_circuit.specs.declared.circuit.MemoryPart.{MemoryPart}
use Rattle.cs_circuit.specs.declared.circuit.RegisterPart.{RegisterPart}
use Rattle.cs_graph.specs.declared.graph.Graph.{Graph}
use Rattle.cs_json.specs.declared.document.PortDecl.{PortDecl}
use Rattle.cs_prefix.specs.declared.plan.Plan.{Plan}
use Rattle.cs_share.specs.declared.assembly.Tables.{Tables}
use Rattle.cs_share.specs.declared.types.Names.{Names}
use Rattle.cs_share.specs.Planned.{HaveEnds, HaveSources, end_signals, feeds_shown, planned_gate, planned_memory, planned_register, vertex_numbers}
use Rattle.cs_share.specs.Ports.{input_signals, written_clock, written_ports}
use Rattle.cs_share.specs.Shared.{first_register, has_some, has_write}

-- what the ends of the edges read
abbrev pub plan_signals : Graph → Names → Plan → List Signal
plan_signals g names plan =
    end_signals g.vertices (vertex_numbers g names) (first_register g names) plan.ends g.edges

-- the circuit by the numbers of the vertices and what the ends of the edges read
abbrev pub circuit_by : Graph → Names → Plan → List ℕ → List Signal → Circuit
circuit_by g names plan numbers signals = record {
  name = names.«module»;
  ports = written_ports 2 (flat_map (feeds_shown signals) g.vertices) names.ports;
  clock = written_clock names;
  gates = filter_map (planned_gate names.origins numbers signals) (enumerate_from 0 g.vertices);
  memories = map (planned_memory g.vertices numbers signals) (enumerate_from 0 g.memories);
  registers = map (planned_register g.vertices numbers (first_register g names)) plan.registers;
  first_register = first_register g names;
  keeps_clock = is_some names.clock && not (has_some plan.registers) && not (has_write g);
}

abbrev pub planned_circuit : Graph → Names → Plan → Circuit
planned_circuit g names plan = circuit_by g names plan (vertex_numbers g names) (plan_signals g names plan)

-- numbers have 32 bits, and the plan is one for the edges
pub record FitsPlan (g : Graph) (names : Names) (plan : Plan) : Type 0 where
  pub inputs : 2 + length (input_signals names.ports) < 2 ^ 32
  pub bits : first_register g names < 2 ^ 32
  pub count : length plan.ends ≡ length g.edges
  pub ends : HaveEnds g.vertices (vertex_numbers g names) (first_register g names) plan.ends g.edges
  pub sources : HaveSources g.vertices (vertex_numbers g names) (first_register g names) plan.registers

-- the clock with its number, the numbers of a machine's vertices and of its first register, and what the ends of its edges read
pub record AreTables (g : Graph) (names : Names) (plan : Plan) (tables : Tables) : Type 0 where
  pub clock : tables.clock ≡ written_clock names
  pub vertices : tables.numbers.vertices ≡ vertex_numbers g names
  pub register : tables.numbers.first_register ≡ first_register g names
  pub signals : tables.signals ≡ plan_signals g names plan

-- the parts of the circuit
abbrev pub planned_ports : Graph → Names → Plan → List PortDecl
planned_ports g names plan =
    written_ports 2 (flat_map (feeds_shown (plan_signals g names plan)) g.vertices) names.ports

abbrev pub planned_gates : Graph → Names → Plan → List GatePart
planned_gates g names plan =
    filter_map (planned_gate names.origins (vertex_numbers g names) (plan_signals g names plan)) (enumerate_from 0 g.vertices)

abbrev pub planned_memories : Graph → Names → Plan → List MemoryPart
planned_memories g names plan =
    map (planned_memory g.vertices (vertex_numbers g names) (plan_signals g names plan)) (enumerate_from 0 g.memories)

abbrev pub planned_registers : Graph → Names → Plan → List RegisterPart
planned_registers g names plan =
    map (planned_register g.vertices (vertex_numbers g names) (first_register g names)) plan.registers

-- whether a further register keeps the clock
abbrev pub keeps_clock : Graph → Names → Plan → Bool
keeps_clock g names plan = is_some names.clock && not (has_some plan.registers) && not (has_write g)
