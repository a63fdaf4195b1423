-- What is needed of a circuit so that its document is a netlist.
use Rattle.std.specs.Prelude.{◌≡◌, ◌||◌, ℕ, ◌+◌, ◌-◌, ◌*◌, ◌<◌, ◌≤◌, ◌^◌, length, map, slice_get, Bool, true, false, Option, Some, None, IsTrue}
use Rattle.std.specs.List.{AllByRecursion, list_any}
use Rattle.cs_base.specs.declared.signal.Signal.{Signal}
use Rattle.cs_base.specs.declared.signal.Signal.TheVariants.{Bit}
use Rattle.cs_json.specs.declared.document.PortDecl.{PortDecl}
use Rattle.cs_json.specs.Readable.{AreInOrder, is_readable_signal}
use Rattle.cs_cells.specs.Gates.{pin_count}
use Rattle.cs_conditions.specs.Conditions.{is_inout, is_reserved}
use Rattle.cs_modules.specs.declared.clocks.Clock.{Clock}
use Rattle.cs_modules.specs.Modules.{input_bits_in, output_bits_in}
use Rattle.cs_modules.specs.Pins.{count_from}
use Rattle.cs_modules.specs.Signals.{holds_bit, is_high_z}
use Rattle.cs_net.specs.Drivers.{is_clock}
use Rattle.cs_circuit.specs.declared.circuit.Circuit.{Circuit}
use Rattle.cs_circuit.specs.declared.circuit.GatePart.{GatePart}
use Rattle.cs_circuit.specs.declared.circuit.MemoryPart.{MemoryPart}
use Rattle.cs_circuit.specs.declared.circuit.ReadPart.{ReadPart}
use Rattle.cs_circuit.specs.declared.circuit.RegisterPart.{RegisterPart}
use Rattle.cs_circuit.specs.declared.circuit.WritePart.{WritePart}
use Rattle.cs_circuit.specs.Sizes.{AreNumbersRising}

-- how many bits the input ports have, the clock among them
abbrev pub input_count : Circuit → ℕ
input_count k = length (input_bits_in k.ports)

-- a signal that is read as data: neither `z` nor the clock
pub record IsData (clock : Option Clock) (s : Signal) : Type 0 where
  pub closed : is_high_z s ≡ false
  pub readable : IsTrue (is_readable_signal false s)
  pub apart : is_clock clock s ≡ false

-- ---- parts

-- a gate reads one signal at each pin
pub record IsGatePart (clock : Option Clock) (gate : GatePart) : Type 0 where
  pub pins : length gate.pins ≡ pin_count gate.kind
  pub read : AllByRecursion (IsData clock) gate.pins

-- a read port has an address
pub record IsReadPart (clock : Option Clock) (abits : ℕ) (port : ReadPart) : Type 0 where
  pub address : length port.address ≡ abits
  pub read : AllByRecursion (IsData clock) port.address

-- a write port has an address, a word, and an enable for each bit of it
pub record IsWritePart (clock : Option Clock) (abits width : ℕ) (write : WritePart) : Type 0 where
  pub address : length write.address ≡ abits
  pub «data» : length write.«data» ≡ width
  pub enable : length write.enable ≡ width
  pub read_address : AllByRecursion (IsData clock) write.address
  pub read_data : AllByRecursion (IsData clock) write.«data»
  pub read_enable : AllByRecursion (IsData clock) write.enable

-- the sizes of a memory fit one another, and each fits into 32 bits
pub record IsMemoryPart (clock : Option Clock) (memory : MemoryPart) : Type 0 where
  pub few_words : memory.words < 2 ^ 32
  pub few_address_bits : memory.abits < 2 ^ 32
  pub few_bits : memory.width < 2 ^ 32
  pub some_words : 0 < memory.words
  pub some_bits : 0 < memory.width
  pub reached : memory.words ≤ 2 ^ memory.abits
  pub start : length memory.start ≡ memory.words * memory.width
  pub few_reads : length memory.reads < 2 ^ 32
  pub few_writes : length memory.writes < 2 ^ 32
  pub reads : AllByRecursion (IsReadPart clock memory.abits) memory.reads
  pub writes : AllByRecursion (IsWritePart clock memory.abits memory.width) memory.writes

-- ---- what is driven

-- bit o of read port j of memory i has this number
pub record IsReadBit (k : Circuit) (i j o b : ℕ) : Type 0 where
  pub memory : MemoryPart
  pub read : ReadPart
  pub memory_is : slice_get k.memories i ≡ Some memory
  pub read_is : slice_get memory.reads j ≡ Some read
  pub among : o < memory.width
  pub is : b ≡ read.first + o

-- gates and reads drive bits behind those of the input ports and before those of the registers, none twice, and the
-- gates stand in order of their numbers
pub record AreApart (k : Circuit) : Type 0 where
  pub numbers : AreNumbersRising k.gates
  pub gates : (p q : ℕ) (g h : GatePart) → slice_get k.gates p ≡ Some g → slice_get k.gates q ≡ Some h
      → g.output ≡ h.output → p ≡ q
  pub gates_among : (p : ℕ) (g : GatePart) → slice_get k.gates p ≡ Some g
      → (2 + input_count k ≤ g.output) × (g.output < k.first_register)
  pub gates_reads : (p i j o : ℕ) (g : GatePart) → slice_get k.gates p ≡ Some g → IsReadBit k i j o g.output → ⊥
  pub reads : (i j o i' j' o' b : ℕ) → IsReadBit k i j o b → IsReadBit k i' j' o' b
      → (i ≡ i') × (j ≡ j') × (o ≡ o')
  pub reads_among : (i j o b : ℕ) → IsReadBit k i j o b → (2 + input_count k ≤ b) × (b < k.first_register)
  pub above : 2 + input_count k ≤ k.first_register
  pub small : k.first_register + length k.registers + 1 < 2 ^ 32 - 1

-- something is clocked: a register, a write port, or the register that keeps the clock
abbrev pub is_clocked : Circuit → Bool
is_clocked k = list_any (λ (r : RegisterPart). true) k.registers
    || list_any (λ (m : MemoryPart). list_any (λ (w : WritePart). true) m.writes) k.memories || k.keeps_clock

-- where something is clocked the clock is a bit of an input port, and else there is none
pub data Clocking (k : Circuit) : Type 0 where
  unclocked : is_clocked k ≡ false → k.clock ≡ None → Clocking k
  clocked : (place : ℕ) (rising : Bool) → is_clocked k ≡ true → place < input_count k
      → k.clock ≡ Some (record { bit = 2 + place; rising = rising }) → Clocking k

-- some place for each bit, by which what a gate or a read port drives stands after the bits that it reads
pub record HasPlaces (k : Circuit) : Type 0 where
  pub place : ℕ → ℕ
  pub gates : (p a : ℕ) (g : GatePart) → slice_get k.gates p ≡ Some g → IsTrue (holds_bit a g.pins)
      → place a < place g.output
  pub reads : (i j o b a : ℕ) (bit : IsReadBit k i j o b) → IsTrue (holds_bit a bit.read.address)
      → place a < place b

-- ---- circuits

pub record IsCircuit (k : Circuit) : Type 0 where
  pub ports_order : AreInOrder (λ (p : PortDecl). p.name) k.ports
  pub one_way : AllByRecursion (λ (p : PortDecl). is_inout p.direction ≡ false) k.ports
  pub not_reserved : AllByRecursion (λ (p : PortDecl). is_reserved k.clock p ≡ false) k.ports
  pub inputs : input_bits_in k.ports ≡ map Bit (count_from 2 (input_count k))
  pub outputs : AllByRecursion (IsData k.clock) (output_bits_in k.ports)
  pub gates : AllByRecursion (IsGatePart k.clock) k.gates
  pub memories : AllByRecursion (IsMemoryPart k.clock) k.memories
  pub registers : AllByRecursion (λ (r : RegisterPart). IsData k.clock r.source) k.registers
  pub apart : AreApart k
  pub clocking : Clocking k
  pub places : HasPlaces k
