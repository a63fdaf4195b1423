-- One clock of a netlist that is laid out.
use Rattle.std.specs.Prelude.{ℕ, List, [], ◌∷◌, fold, get_or, length, map, slice_get, slice_index_or, slice_set, Bool, true, false, option_map, unwrap_or}
use Rattle.std.specs.List.{enumerate_from, zip}
use Rattle.cs_cells.specs.declared.gate.Kind.{Kind}
use Rattle.cs_cells.specs.Gates.{gate_value, pin_count}
use Rattle.cs_cells.specs.Memories.{Word, Words, Write, after_writes}
use Rattle.cs_cells.specs.Registers.{next_value}
use Rattle.cs_modules.specs.Pins.{count_from}
use Rattle.cs_sim.specs.declared.layout.Layout.{Layout}
use Rattle.cs_sim.specs.declared.layout.Part.{Part}
use Rattle.cs_sim.specs.declared.layout.ReadBit.{ReadBit}
use Rattle.cs_sim.specs.declared.layout.ReadPortSlots.{ReadPortSlots}
use Rattle.cs_sim.specs.declared.layout.RegisterSlots.{RegisterSlots}
use Rattle.cs_sim.specs.declared.layout.Work.{Work}
use Rattle.cs_sim.specs.declared.layout.Work.TheVariants.{Inputs, Register, ClockedRead, Gate, Read}
use Rattle.cs_sim.specs.declared.layout.WriteSlots.{WriteSlots}
use Rattle.cs_sim.specs.Slots.{bits_from, number_at, stored, value_at}

-- what is held between two clocks: by registers, by the data bits of each clocked read, by memories
pub record HeldValues : Type 0 where
  pub registers : List Bool
  pub reads : List (List Bool)
  pub memories : List Words

-- the word of a memory at the address in these slots, empty where that is no word
abbrev pub word_in : List Words → ℕ → List Bool → List ℕ → Word
word_in memories memory values address = slice_index_or (get_or memories memory []) (number_at values address) []

-- the values at a gate's pins
abbrev pub pins_at : List Bool → Kind → List ℕ → List Bool
pins_at values kind pins = map (λ i. value_at values (get_or pins i 0)) (count_from 0 (pin_count kind))

-- ---- the values within a clock

-- the values that a part drives
abbrev pub output_bits : HeldValues → List Bool → List Bool → Work → List Bool
output_bits held row values Inputs = bits_from row 0 (length row)
output_bits held row values (Register place) = get_or held.registers place false ∷ []
output_bits held row values (ClockedRead place) =
    bits_from (get_or held.reads place []) 0 (length (get_or held.reads place []))
output_bits held row values (Gate kind pins) = gate_value kind (pins_at values kind pins) ∷ []
output_bits held row values (Read memory address width) = bits_from (word_in held.memories memory values address) 0 width

-- the values once a part has driven its bits
unfoldable pub evaluated : HeldValues → List Bool → List Bool → Part → List Bool
evaluated held row values part = stored values part.first (output_bits held row values part.work)

-- the same of the part of a number
abbrev pub evaluated_at : HeldValues → List Bool → List Part → List Bool → ℕ → List Bool
evaluated_at held row parts values v = unwrap_or (option_map (evaluated held row values) (slice_get parts v)) values

-- the constants stand in slots 0 and 1
abbrev pub with_constants : List Bool → List Bool
with_constants values = slice_set (slice_set values 0 false) 1 true

-- the values once all parts have driven their bits in this order
unfoldable pub settled : HeldValues → List Bool → List Part → List ℕ → List Bool → List Bool
settled held row parts order values = fold (evaluated_at held row parts) (with_constants values) order

-- ---- what is held after the clock

abbrev pub next_register : List Bool → RegisterSlots × Bool → Bool
next_register values r =
    next_value r.0.kind (value_at values r.0.source) r.1 (value_at values r.0.enable) (value_at values r.0.reset)

-- a data bit of a clocked read, by its place in the word
abbrev pub next_read_bit : List Bool → ReadPortSlots → Word → ℕ × (ReadBit × Bool) → Bool
next_read_bit values port word b =
    next_value b.1.0.kind (get_or word b.0 false) b.1.1 (value_at values port.enable) (value_at values port.reset)

abbrev pub next_read : List Words → List Bool → ReadPortSlots × List Bool → List Bool
next_read memories values r =
    map (next_read_bit values r.0 (word_in memories r.0.memory values r.0.address)) (enumerate_from 0 (zip r.0.bits r.1))

-- what a write port is given
abbrev pub write_in : List Bool → WriteSlots → Write
write_in values w = record {
  address = map (value_at values) w.address;
  word = map (value_at values) w.word;
  enable = map (value_at values) w.enable;
}

abbrev pub next_words : List Bool → Words × List WriteSlots → Words
next_words values m = after_writes (map (write_in values) m.1) m.0

unfoldable pub next_held : Layout → List Bool → HeldValues → HeldValues
next_held layout values held = record {
  registers = map (next_register values) (zip layout.registers held.registers);
  reads = map (next_read held.memories values) (zip layout.read_ports held.reads);
  memories = map (next_words values) (zip held.memories layout.writes);
}
