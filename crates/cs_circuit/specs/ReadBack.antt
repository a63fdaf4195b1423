-- What the netlist of a circuit's document is.
use Rattle.std.specs.Prelude.{◌≡◌, ℕ, ◌+◌, ◌*◌, map, get_or, slice_get, false, Some, None}
use Rattle.cs_base.specs.declared.signal.Signal.{Signal}
use Rattle.cs_base.specs.declared.signal.Signal.TheVariants.{Bit}
use Rattle.cs_json.specs.declared.document.Document.{Document}
use Rattle.cs_json.specs.Readable.{IsReadable}
use Rattle.cs_cells.specs.Memories.{Words, Write}
use Rattle.cs_modules.specs.Pins.{count_from}
use Rattle.cs_net.specs.Accept.{IsNetOfTop}
use Rattle.cs_net.specs.Build.{port_of}
use Rattle.cs_net.specs.Drivers.{StateElement, data_inputs, driver_of, from_signal, gate, input, own_start, register, word_bit}
use Rattle.cs_net.specs.Invariant.{HasBitOrder}
use Rattle.cs_net.specs.Netlist.{Net, NetState, state_of}
use Rattle.cs_net.specs.Trace.{Valuation, signal_value, writes_at}
use Rattle.cs_circuit.specs.declared.circuit.Circuit.{Circuit}
use Rattle.cs_circuit.specs.declared.circuit.GatePart.{GatePart}
use Rattle.cs_circuit.specs.declared.circuit.MemoryPart.{MemoryPart}
use Rattle.cs_circuit.specs.declared.circuit.RegisterPart.{RegisterPart}
use Rattle.cs_circuit.specs.declared.circuit.WritePart.{WritePart}
use Rattle.cs_circuit.specs.Cells.{register_bit}
use Rattle.cs_circuit.specs.MemoryCells.{memory_name}
use Rattle.cs_circuit.specs.WellFormed.{IsReadBit}

-- a register drives bit b: it has neither reset nor enable, and this signal at D
pub record IsPlainRegister (net : Net) (b : ℕ) (source : Signal) : Type 0 where
  pub element : StateElement
  pub drives : driver_of net b ≡ register element
  pub reset : element.kind.reset ≡ None
  pub enable : element.kind.enable ≡ None
  pub source_is : element.source ≡ from_signal source

-- the words that a memory starts with
abbrev pub memory_words : MemoryPart → Words
memory_words m =
    map (λ i. map (λ j. get_or m.start (i * m.width + j) false) (count_from 0 m.width)) (count_from 0 m.words)

-- what a write port is given in one clock
abbrev pub write_by : Valuation → WritePart → Write
write_by v w = record {
  address = map (signal_value v) w.address;
  word = map (signal_value v) w.«data»;
  enable = map (signal_value v) w.enable;
}

-- the netlist's own start
abbrev pub start_of : Net → NetState
start_of net = state_of (own_start net)

-- a netlist has the ports and the clock of a circuit, and its parts drive what they drive there
pub record IsNetOfCircuit (k : Circuit) (net : Net) : Type 0 where
  pub name : net.name ≡ k.name
  pub ports : net.ports ≡ map port_of k.ports
  pub clock : net.clock ≡ k.clock
  pub inputs : (i b : ℕ) → slice_get (data_inputs net) i ≡ Some (Bit b) → driver_of net b ≡ input i
  pub gates : (p : ℕ) (g : GatePart) → slice_get k.gates p ≡ Some g → driver_of net g.output ≡ gate g.kind g.pins
  pub reads : (i j o b : ℕ) (bit : IsReadBit k i j o b)
      → driver_of net b ≡ word_bit (record { memory = memory_name i; address = bit.read.address; place = o })
  pub registers : (n : ℕ) (r : RegisterPart) → slice_get k.registers n ≡ Some r
      → IsPlainRegister net (register_bit k n) r.source
  pub starts : (n : ℕ) (r : RegisterPart) → slice_get k.registers n ≡ Some r
      → (start_of net).bit (register_bit k n) ≡ r.start
  pub words : (i : ℕ) (m : MemoryPart) → slice_get k.memories i ≡ Some m
      → (start_of net).words (memory_name i) ≡ memory_words m
  pub writes : (i : ℕ) (m : MemoryPart) (v : Valuation) → slice_get k.memories i ≡ Some m
      → writes_at net (memory_name i) v ≡ map (write_by v) m.writes
  pub order : HasBitOrder net

-- a circuit's document is readable, and has a netlist, which is the circuit's
pub record IsReadBack (k : Circuit) (doc : Document) : Type 0 where
  pub readable : IsReadable doc
  pub net : Net
  pub of_document : IsNetOfTop doc None net
  pub of_circuit : IsNetOfCircuit k net
