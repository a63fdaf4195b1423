-- The period of a netlist by a delay table: the greatest delay of a chain. Each read of its memories is unclocked.
use Rattle.std.specs.Prelude.{◌≡◌, ℕ, ◌+◌, ◌≤◌, ◌⊎◌, List, [], ◌∷◌, get_or, map, slice_get, IsTrue, Some, unwrap_or, codes}
use Rattle.std.specs.List.{range_with_len}
use Rattle.cs_base.specs.declared.signal.Signal.TheVariants.{Bit}
use Rattle.cs_cells.specs.declared.gate.Kind.{Kind}
use Rattle.cs_cells.specs.Gates.{pin_count, pin_name, row_of}
use Rattle.cs_delay.specs.Assigned.{delay_of, greatest}
use Rattle.cs_delay.specs.declared.table.DelayTable.{DelayTable}
use Rattle.cs_net.specs.Accept.{is_combinational}
use Rattle.cs_net.specs.Drivers.{Driver, driver_of, fanin, gate, input, register, undriven, word_bit}
use Rattle.cs_net.specs.Netlist.{Net}

-- ---- delays

-- the delay of a pin of a type of cells, 0 where the table gives none
abbrev pub delay_at : DelayTable → List ℕ → List ℕ → ℕ
delay_at table kind pin = unwrap_or (delay_of table kind pin) 0

-- the delays of the input pins of a gate, in order
abbrev pub gate_delays : DelayTable → Kind → List ℕ
gate_delays table kind =
    map (λ pin. delay_at table (row_of kind).name pin) (map (pin_name kind) (range_with_len 0 (pin_count kind)))

-- the delay of a read port, and of each of its address bits
abbrev pub read_delay : DelayTable → ℕ
read_delay table = delay_at table (codes "$mem_v2") (codes "RD_ADDR")

-- the delay of a gate or a read port with which a chain begins: a gate has the greatest of its pins'
abbrev pub driver_delay : DelayTable → Driver → ℕ
driver_delay table undriven = 0
driver_delay table (input i) = 0
driver_delay table (gate kind pins) = greatest (gate_delays table kind)
driver_delay table (word_bit w) = read_delay table
driver_delay table (register r) = 0

-- the delay of input pin i of a gate, or of address bit i of a read port
abbrev pub input_delay : DelayTable → Driver → ℕ → ℕ
input_delay table undriven i = 0
input_delay table (input n) i = 0
input_delay table (gate kind pins) i = get_or (gate_delays table kind) i 0
input_delay table (word_bit w) i = read_delay table
input_delay table (register r) i = 0

-- ---- chains

-- the next gate or read port of a chain: a bit that it drives, and the input pin or address bit that holds the bit
-- before
pub record Link : Type 0 where
  pub pin : ℕ
  pub bit : ℕ

-- what drives the bit of each link reads the bit before at the link's pin
abbrev pub GoesOn : Net → ℕ → List Link → Type 0
GoesOn net before [] = Unit {0}
GoesOn net before (l ∷ links) =
    (slice_get (fanin (driver_of net l.bit)) l.pin ≡ Some (Bit before)) × GoesOn net l.bit links

-- a chain begins with a bit of a gate or of an unclocked read port, and goes on with links
pub record IsChain (net : Net) (first : ℕ) (links : List Link) : Type 0 where
  pub begins : IsTrue (is_combinational (driver_of net first))
  pub goes_on : GoesOn net first links

-- the delays of the pins that it goes on with
abbrev pub links_delay : DelayTable → Net → List Link → ℕ
links_delay table net [] = 0
links_delay table net (l ∷ links) =
    input_delay table (driver_of net l.bit) l.pin + links_delay table net links

-- the delay of a chain: that of the first, and those of the pins
abbrev pub chain_delay : DelayTable → Net → ℕ → List Link → ℕ
chain_delay table net first links = driver_delay table (driver_of net first) + links_delay table net links

-- ---- the period

-- a chain of this delay
pub record HasChainOf (table : DelayTable) (net : Net) (delay : ℕ) : Type 0 where
  pub first : ℕ
  pub links : List Link
  pub chain : IsChain net first links
  pub is : chain_delay table net first links ≡ delay

-- the greatest delay of a chain, 0 where there is none
pub record IsNetPeriod (table : DelayTable) (net : Net) (period : ℕ) : Type 0 where
  pub within : (first : ℕ) (links : List Link) → IsChain net first links
      → chain_delay table net first links ≤ period
  pub reached : (period ≡ 0) ⊎ HasChainOf table net period
