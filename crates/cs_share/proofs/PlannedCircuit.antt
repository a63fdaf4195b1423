-- The circuit by a plan is that of the specification.
use Rattle.std.proofs.Common.{◌≡◌, ◌∙◌, ℕ, List, map, Bool, ap, ap₂, sym}
use Rattle.std.specs.Prelude.{ℤ, ◌&&◌, filter_map, flat_map, if◌then◌else◌, is_none, is_some, not}
use Rattle.std.specs.List.{enumerate_from}
use Rattle.cs_base.specs.declared.signal.Signal.{Signal}
use Rattle.cs_circuit.specs.declared.circuit.Circuit.{Circuit}
use Rattle.cs_circuit.specs.declared.circuit.GatePart.{GatePart}
use Rattle.cs_circuit.specs.declared.circuit.MemoryPart.{MemoryPart}
use Rattle.cs_circuit.specs.declared.circuit.RegisterPart.{RegisterPart}
use Rattle.cs_graph.specs.declared.contents.Contents.{Contents}
use Rattle.cs_graph.specs.declared.graph.Graph.{Graph}
use Rattle.cs_graph.specs.declared.memory.Memory.{Memory}
use Rattle.cs_graph.specs.Lags.{HasLengths, retimed}
use Rattle.cs_prefix.specs.declared.plan.Plan.{Plan}
use Rattle.cs_prefix.specs.declared.plan.Planned.{Planned}
use Rattle.cs_prefix.specs.Prefixes.{IsPlan, IsPlanOf, RegisterKey}
use Rattle.cs_share.specs.declared.types.Names.{Names}
use Rattle.cs_share.specs.Emission.{clocked_names, shared_circuit}
use Rattle.cs_share.specs.Planned.{end_signals, feeds_shown, planned_gate, planned_memory, planned_register, vertex_numbers}
use Rattle.cs_share.specs.Ports.{with_clock, written_clock, written_ports}
use Rattle.cs_share.specs.Registers.{AreRegisters, edge_contents, edge_drivers}
use Rattle.cs_share.specs.Shared.{circuit_with, first_register, gate_part, has_some, has_write, memory_part, register_part, shown_signals}
use Rattle.cs_share.proofs.PlannedParts.{gates_are, memories_are, shown_are}
use Rattle.cs_share.proofs.PlannedRegisters.{ends_are, has_registers, registers_are}
use Rattle.cs_share.proofs.PlannedRetimed.{retimed_ends, retimed_plan}

-- the parts of a graph by tables, whose ends of edges read these signals
abbrev pub planned_circuit : Graph → List ℕ → ℕ → List Signal → List Planned → Names → Circuit
planned_circuit g numbers first signals registers names = record {
  name = names.«module»;
  ports = written_ports 2 (flat_map (feeds_shown signals) g.vertices) names.ports;
  clock = written_clock names;
  gates = filter_map (planned_gate names.origins numbers signals) (enumerate_from 0 g.vertices);
  memories = map (planned_memory g.vertices numbers signals) (enumerate_from 0 g.memories);
  registers = map (planned_register g.vertices numbers first) registers;
  first_register = first;
  keeps_clock = is_some names.clock && not (has_some registers) && not (has_write g);
}

-- what the ends of a graph's edges read by a plan
abbrev pub signals_of_plan : Graph → Names → Plan → List Signal
signals_of_plan g names plan =
    end_signals g.vertices (vertex_numbers g names) (first_register g names) plan.ends g.edges

-- the circuit of a graph by a plan and names that have their clock
abbrev pub circuit_of_plan : Graph → Names → Plan → Circuit
circuit_of_plan g names plan =
    planned_circuit g (vertex_numbers g names) (first_register g names) (signals_of_plan g names plan)
    plan.registers names

-- the names with a clock where the plan has a register
abbrev pub clocked_by : Plan → Names → Names
clocked_by plan names = if is_none names.clock && has_some plan.registers then with_clock names else names

-- by a plan for a graph's registers it is the circuit with these
pub circuit_is : (g : Graph) (names : Names) (keys : List RegisterKey) (plan : Plan) → AreRegisters g keys
    → IsPlanOf keys (edge_drivers g) (edge_contents g) plan
    → circuit_of_plan g names plan ≡ circuit_with g keys names
circuit_is g names keys plan are is =
    let ends = ends_are g names keys plan are is in
    let signals = signals_of_plan g names plan in
    ap₂ (λ shown gates. made shown gates (map memory (enumerate_from 0 g.memories)) (map register plan.registers)
    (has_some plan.registers))
    (shown_are g names keys signals ends) (gates_are g names keys signals ends)
    ∙ ap₂ (λ memories registers. made (flat_map (shown_signals g names keys) g.vertices)
    (filter_map (gate_part g names keys) (enumerate_from 0 g.vertices)) memories registers (has_some plan.registers))
    (memories_are g names keys signals ends) (registers_are g names keys plan are is)
    ∙ ap (made (flat_map (shown_signals g names keys) g.vertices)
    (filter_map (gate_part g names keys) (enumerate_from 0 g.vertices))
    (map (memory_part g names keys) (enumerate_from 0 g.memories)) (map (register_part g names keys) keys))
    (has_registers g keys plan is)
  where
    made : List Signal → List GatePart → List MemoryPart → List RegisterPart → Bool → Circuit
    made shown gates memories registers some = record {
      name = names.«module»;
      ports = written_ports 2 shown names.ports;
      clock = written_clock names;
      gates = gates;
      memories = memories;
      registers = registers;
      first_register = first_register g names;
      keeps_clock = is_some names.clock && not some && not (has_write g);
    }

    memory : ℕ × Memory → MemoryPart
    memory = planned_memory g.vertices (vertex_numbers g names) (signals_of_plan g names plan)

    register : Planned → RegisterPart
    register = planned_register g.vertices (vertex_numbers g names) (first_register g names)

-- a plan's clock is that of its keys
pub clocked_is : (g : Graph) (names : Names) (keys : List RegisterKey) (plan : Plan)
    → IsPlanOf keys (edge_drivers g) (edge_contents g) plan → clocked_by plan names ≡ clocked_names keys names
clocked_is g names keys plan is =
    ap (λ some. if is_none names.clock && some then with_clock names else names) (has_registers g keys plan is)

-- by a plan for the registers of a graph it is the one that is written
pub shared_by_plan : (g : Graph) (names : Names) (keys : List RegisterKey) (plan : Plan) → AreRegisters g keys
    → IsPlanOf keys (edge_drivers g) (edge_contents g) plan
    → circuit_of_plan g (clocked_by plan names) plan ≡ shared_circuit g keys names
shared_by_plan g names keys plan are is =
    circuit_is g (clocked_by plan names) keys plan are is
    ∙ ap (circuit_with g keys) (clocked_is g names keys plan is)

-- the circuit of a retimed machine by a plan is that of the machine itself by it
pub retimed_circuit : (lags : List ℤ) (k : Contents) (m : Graph) (names : Names) (plan : Plan)
    → circuit_of_plan (retimed lags k m) names plan ≡ circuit_of_plan m names plan
retimed_circuit lags k m names plan =
    ap (λ signals. planned_circuit m (vertex_numbers m names) (first_register m names) signals plan.registers names)
    (retimed_ends lags k m m.vertices (vertex_numbers m names) (first_register m names) plan.ends)

-- the circuit by a plan for the machine's drivers with these contents, and the keys that are its registers
pub retimed_by_plan : (lags : List ℤ) (k : Contents) (m : Graph) → HasLengths m lags k
    → (names : Names) (plan : Plan) → IsPlan (edge_drivers m) k.of plan
    → (keys : List RegisterKey) × AreRegisters (retimed lags k m) keys
    × (circuit_of_plan m (clocked_by plan names) plan ≡ shared_circuit (retimed lags k m) keys names)
retimed_by_plan lags k m lengths names plan is =
    let whole = retimed_plan lags k m lengths plan is in (
      whole.keys,
      whole.are,
      sym (retimed_circuit lags k m (clocked_by plan names) plan)
          ∙ shared_by_plan (retimed lags k m) names whole.keys plan whole.are whole.is,
    )
