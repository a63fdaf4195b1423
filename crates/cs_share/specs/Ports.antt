-- The ports of a written netlist: those of the read one, with bits numbered anew.
use Rattle.std.specs.Prelude.{ℕ, ◌+◌, List, [], ◌∷◌, ◌++◌, length, map, filter, find, flat_map, take, drop, true, not, Option, Some, option_map, option_and_then, codes}
use Rattle.std.specs.List.{enumerate_from}
use Rattle.cs_base.specs.declared.signal.Signal.{Signal}
use Rattle.cs_base.specs.declared.signal.Signal.TheVariants.{Bit}
use Rattle.cs_json.specs.declared.document.Direction.{Direction}
use Rattle.cs_json.specs.declared.document.Direction.TheVariants.{Input, Output, Inout}
use Rattle.cs_json.specs.declared.document.PortDecl.{PortDecl}
use Rattle.cs_json.specs.Readable.{is_below}
use Rattle.cs_modules.specs.declared.clocks.Clock.{Clock}
use Rattle.cs_modules.specs.Pins.{count_from}
use Rattle.cs_modules.specs.Signals.{is_bit, is_input}
use Rattle.cs_net.specs.declared.netlist.Port.{Port}
use Rattle.cs_net.specs.Drivers.{is_clock}
use Rattle.cs_share.specs.declared.types.Names.{Names}

-- ---- a clock for a netlist without one

-- the port of a clock that is added; its bit is that of no other port
abbrev pub clock_port : Port
clock_port = record { name = codes "cslow_clk"; direction = Input; bits = Bit 0 ∷ [] }

-- ports in order with this one among them
abbrev pub with_clock_port : List Port → List Port
with_clock_port ports =
    filter (λ p. is_below p.name (codes "cslow_clk")) ports
    ++ clock_port ∷ filter (λ p. not (is_below p.name (codes "cslow_clk"))) ports

-- the same names with a clock of their own, which rises
abbrev pub with_clock : Names → Names
with_clock names = record names {
  ports = with_clock_port names.ports;
  clock = Some (record { bit = 0; rising = true });
}

-- ---- numbers

-- the bits of the input ports, port by port and least first, the clock among them
abbrev pub input_signals : List Port → List Signal
input_signals ports = flat_map (λ p. p.bits) (filter (λ p. is_input p.direction) ports)

-- the same with the numbers that they get, from 2 on
abbrev pub numbered_inputs : Names → List (ℕ × Signal)
numbered_inputs names = enumerate_from 2 (input_signals names.ports)

-- the new numbers of the data input bits
abbrev pub data_numbers : Names → List ℕ
data_numbers names = map (λ e. e.0) (filter (λ e. not (is_clock names.clock e.1)) (numbered_inputs names))

-- the clock with its new number
abbrev pub written_clock : Names → Option Clock
written_clock names = option_and_then
    (λ clock. option_map (λ e. record { bit = e.0; rising = clock.rising })
    (find (λ e. is_bit clock.bit e.1) (numbered_inputs names)))
    names.clock

-- the first number behind those of the input ports
abbrev pub first_number : Names → ℕ
first_number names = 2 + length (input_signals names.ports)

-- ---- ports

abbrev pub with_bits : Port → List Signal → PortDecl
with_bits p bits = record { name = p.name; direction = p.direction; bits = bits }

-- the bits of a port of a width: the numbers from `next` on for an input port, the first of the signals that are left for
-- an output port
abbrev pub port_bits : Direction → ℕ → ℕ → List Signal → List Signal
port_bits Input width next outputs = map Bit (count_from next width)
port_bits Output width next outputs = take width outputs
port_bits Inout width next outputs = []

-- the next number behind a port
abbrev pub number_after : Direction → ℕ → ℕ → ℕ
number_after Input width next = next + width
number_after Output width next = next
number_after Inout width next = next

-- the signals that are left behind a port
abbrev pub outputs_after : Direction → ℕ → List Signal → List Signal
outputs_after Input width outputs = outputs
outputs_after Output width outputs = drop width outputs
outputs_after Inout width outputs = outputs

-- input ports have the numbers from `next` on, output ports these signals one after the other
abbrev pub written_ports : ℕ → List Signal → List Port → List PortDecl
written_ports next outputs [] = []
written_ports next outputs (p ∷ ports) =
    with_bits p (port_bits p.direction (length p.bits) next outputs)
    ∷ written_ports (number_after p.direction (length p.bits) next) (outputs_after p.direction (length p.bits) outputs) ports
