-- What it means that a netlist isolates another one in a number of contexts.
use Rattle.std.specs.Prelude.{◌≡◌, ℕ, ◌<◌, List, length, map, Bool, not, ◌&&◌, filter}
use Rattle.std.specs.List.{list_all, list_any}
use Rattle.cs_base.specs.Parts.{part}
use Rattle.cs_json.specs.declared.document.Direction.{Direction}
use Rattle.cs_net.specs.declared.images.Images.{Images}
use Rattle.cs_net.specs.declared.netlist.Port.{Port}
use Rattle.cs_net.specs.Netlist.{Net, state_of}
use Rattle.cs_net.specs.Drivers.{is_clock, own_start}
use Rattle.cs_net.specs.Contexts.{start_of}
use Rattle.cs_net.specs.Trace.{Row, Answers, AreRows}

-- a port as it matters to what is answered: `width` counts its bits without the clock
pub record DataPort : Type 0 where
  pub name : List ℕ
  pub direction : Direction
  pub width : ℕ

-- a port that holds the clock and no other bit
abbrev pub is_clock_port : Net → Port → Bool
is_clock_port net p = list_any (is_clock net.clock) p.bits && list_all (is_clock net.clock) p.bits

-- the data port of a port
abbrev pub data_port : Net → Port → DataPort
data_port net p = record {
  name = p.name;
  direction = p.direction;
  width = length (filter (λ s. not (is_clock net.clock s)) p.bits);
}

-- the ports of a netlist other than one that holds the clock and no other bit; a port without bits is one of width 0
abbrev pub data_ports : Net → List DataPort
data_ports net = map (data_port net) (filter (λ p. not (is_clock_port net p)) net.ports)

-- over these rows, `answer` is the one answer of `written` from its own start, and each context's part of it is what
-- `net` answers, from that context's start, to that context's part of the rows
pub record IsolatesOver (written net : Net) (images : Images) (c : ℕ) (rows answer : List Row) : Type 0 where
  pub answers : Answers written (state_of (own_start written)) rows answer
  pub only : (other : List Row) → Answers written (state_of (own_start written)) rows other → other ≡ answer
  pub parts : (k : ℕ) → k < c → Answers net (start_of net images k) (part k c rows) (part k c answer)

-- `written` has the data ports of `net`, and fed the rows of c contexts in turn, it answers to each context what `net`
-- alone answers to it
pub record Isolates (written net : Net) (images : Images) (c : ℕ) : Type 0 where
  pub ports : data_ports written ≡ data_ports net
  pub each : (rows : List Row) → AreRows net rows → (answer : List Row) × IsolatesOver written net images c rows answer
