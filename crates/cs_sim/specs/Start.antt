-- What a netlist that is laid out holds, and the state that this shows.
use Rattle.std.specs.Prelude.{◌≡◌, List, ◌++◌, filter_map, length, map, Bool}
use Rattle.std.specs.List.{flat_map, zip}
use Rattle.cs_net.specs.declared.state.BitValue.{BitValue}
use Rattle.cs_net.specs.declared.state.Snapshot.{Snapshot}
use Rattle.cs_net.specs.Drivers.{bit_value}
use Rattle.cs_net.specs.Netlist.{Net}
use Rattle.cs_sim.specs.declared.layout.Layout.{Layout}
use Rattle.cs_sim.specs.declared.layout.ReadPortSlots.{ReadPortSlots}
use Rattle.cs_sim.specs.declared.layout.RegisterSlots.{RegisterSlots}
use Rattle.cs_sim.specs.Clock.{HeldValues}

-- each register, each data bit of a clocked read, and each memory has its own start
abbrev pub held_at_start : Net → Layout → HeldValues
held_at_start net layout = record {
  registers = map (λ r. r.start) layout.registers;
  reads = map (λ p. map (λ b. b.start) p.bits) layout.read_ports;
  memories = map (λ m. m.words) net.memories;
}

-- there is a value for each register and each data bit of a clocked read, and words for each memory
pub record Fits (layout : Layout) (held : HeldValues) : Type 0 where
  pub registers : length held.registers ≡ length layout.registers
  pub reads : map (λ bits. length bits) held.reads ≡ map (λ p. length p.bits) layout.read_ports
  pub memories : length held.memories ≡ length layout.writes

-- the values of registers with their bits
abbrev pub register_values : List RegisterSlots → List Bool → List BitValue
register_values registers held = filter_map (λ r. bit_value r.0.output r.1) (zip registers held)

-- the values of a clocked read's data bits with their bits
abbrev pub read_values : ReadPortSlots × List Bool → List BitValue
read_values port = filter_map (λ b. bit_value b.0.output b.1) (zip port.0.bits port.1)

-- the state that is held
abbrev pub snapshot_of : Net → Layout → HeldValues → Snapshot
snapshot_of net layout held = record {
  bits = register_values layout.registers held.registers ++ flat_map read_values (zip layout.read_ports held.reads);
  memories = map (λ m. record { name = m.0.name; words = m.1 }) (zip net.memories held.memories);
}
