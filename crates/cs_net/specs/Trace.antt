-- What a netlist does, clock by clock, and what it answers.
use Rattle.std.specs.Prelude.{◌≡◌, ℕ, zero, suc, ◌<◌, ◌≤◌, List, [], ◌∷◌, length, get_or, map, Bool, true, false, Option, Some, None, find, bytes_eq, option_map, unwrap_or, codes}
use Rattle.std.specs.List.{AllByRecursion, zip}
use Rattle.cs_base.specs.declared.signal.Signal.{Signal}
use Rattle.cs_base.specs.declared.signal.Signal.TheVariants.{Zero, One, Unknown, HighZ, Bit}
use Rattle.cs_cells.specs.declared.memory.MemShape.{MemShape}
use Rattle.cs_cells.specs.Gates.{gate_value}
use Rattle.cs_cells.specs.Registers.{next_value}
use Rattle.cs_cells.specs.Memories.{Words, Write, read_bit, after_writes}
use Rattle.cs_net.specs.declared.netlist.Cell.{Cell}
use Rattle.cs_net.specs.declared.state.Snapshot.{Snapshot}
use Rattle.cs_net.specs.Netlist.{Net, NetState, state_of}
use Rattle.cs_net.specs.Drivers.{WordBit, Source, from_signal, from_word, Driver, undriven, input, gate, word_bit, register, driver_of, data_inputs, data_outputs, port_part}
use Rattle.cs_modules.specs.Pins.{count_from}

-- the data input bits, or the data output bits, of one clock
abbrev pub Row : Type 0
Row = List Bool

-- a value for each bit in one clock
abbrev pub Valuation : Type 0
Valuation = ℕ → Bool

-- a signal's value: the constant `1` is 1, and the other constants are 0
abbrev pub signal_value : Valuation → Signal → Bool
signal_value v Zero = false
signal_value v One = true
signal_value v Unknown = false
signal_value v HighZ = false
signal_value v (Bit b) = v b

-- a bit of the word at an address, 0 where that is no word
abbrev pub word_bit_value : (List ℕ → Words) → Valuation → WordBit → Bool
word_bit_value words v w = read_bit (words w.memory) (map (signal_value v) w.address) w.place

-- the value of a bit by what drives it: a data input has its bit of the row, a gate its equation, an unclocked read
-- its bit of the word before this clock's writes, a register what it holds, and an undriven bit is 0
abbrev pub value_by : Driver → ℕ → Row → NetState → Valuation → Bool
value_by undriven b row now v = false
value_by (input i) b row now v = get_or row i false
value_by (gate kind pins) b row now v = gate_value kind (map (signal_value v) pins)
value_by (word_bit w) b row now v = word_bit_value now.words v w
value_by (register r) b row now v = now.bit b

-- a valuation settles where each bit has the value that its driver gives it
abbrev pub Settles : Net → Row → NetState → Valuation → Type 0
Settles net row now v = (b : ℕ) → v b ≡ value_by (driver_of net b) b row now v

-- the settled value of a bit, computed where it depends on others no more than `fuel` deep
unfoldable pub value_within : Net → Row → NetState → ℕ → Valuation
value_within net row now zero b = false
value_within net row now (suc fuel) b = value_by (driver_of net b) b row now (value_within net row now fuel)

-- ---- the state of the next clock

-- what a register has at D
abbrev pub source_value : Source → (List ℕ → Words) → Valuation → Bool
source_value (from_signal s) words v = signal_value v s
source_value (from_word w) words v = word_bit_value words v w

-- what a register, or a clocked read's data bit, holds next; no other bit holds a value
abbrev pub next_bit : Driver → Bool → (List ℕ → Words) → Valuation → Bool
next_bit undriven held words v = false
next_bit (input i) held words v = false
next_bit (gate kind pins) held words v = false
next_bit (word_bit w) held words v = false
next_bit (register r) held words v =
    next_value r.kind (source_value r.source words v) held (signal_value v r.enable) (signal_value v r.reset)

-- what write port i of a memory is given
abbrev pub write_at : Cell → MemShape → Valuation → ℕ → Write
write_at cell shape v i = record {
  address = map (signal_value v) (port_part cell (codes "WR_ADDR") shape.abits i);
  word = map (signal_value v) (port_part cell (codes "WR_DATA") shape.width i);
  enable = map (signal_value v) (port_part cell (codes "WR_EN") shape.width i);
}

-- what all its write ports are given
abbrev pub writes_of : Cell × Option MemShape → Valuation → List Write
writes_of (cell, None) v = []
writes_of (cell, Some shape) v = map (write_at cell shape v) (count_from 0 shape.writes)

-- what the write ports of the memory of a name are given
abbrev pub writes_at : Net → List ℕ → Valuation → List Write
writes_at net name v =
    unwrap_or (option_map (λ c. writes_of c v) (find (λ c. bytes_eq c.0.name name) (zip net.cells net.shapes))) []

-- the state after a clock: registers hold their next values, and memories have the words after the writes
abbrev pub next_state : Net → NetState → Valuation → NetState
next_state net now v = record {
  bit = λ b. next_bit (driver_of net b) (now.bit b) now.words v;
  words = λ name. after_writes (writes_at net name v) (now.words name);
}

-- ---- traces

-- a trace over rows from a state: it begins there, in each clock the bits settle, and then it goes on to the next state
pub record IsTrace (net : Net) (from : NetState) (rows : List Row) (bits : ℕ → Valuation) (state : ℕ → NetState) : Type 0 where
  pub begins : state 0 ≡ from
  pub settles : (n : ℕ) → n < length rows → Settles net (get_or rows n []) (state n) (bits n)
  pub goes_on : (n : ℕ) → n < length rows → state (suc n) ≡ next_state net (state n) (bits n)

-- two traces agree at every clock of the rows
pub record AgreeOver (rows : List Row) (bits bits' : ℕ → Valuation) (state state' : ℕ → NetState) : Type 0 where
  pub same_bits : (n : ℕ) → n < length rows → bits n ≡ bits' n
  pub same_state : (n : ℕ) → n ≤ length rows → state n ≡ state' n

-- there is a trace, and every other one agrees with it
pub record HasOneTrace (net : Net) (from : NetState) (rows : List Row) : Type 0 where
  pub bits : ℕ → Valuation
  pub state : ℕ → NetState
  pub trace : IsTrace net from rows bits state
  pub only : (bits' : ℕ → Valuation) (state' : ℕ → NetState) → IsTrace net from rows bits' state' → AgreeOver rows bits bits' state state'

-- ---- answers

-- the data output bits of one clock
abbrev pub output_row : Net → Valuation → Row
output_row net v = map (signal_value v) (data_outputs net)

-- the rows of data output bits of the first `count` clocks
abbrev pub output_rows : Net → ℕ → (ℕ → Valuation) → List Row
output_rows net zero bits = []
output_rows net (suc count) bits = output_row net (bits 0) ∷ output_rows net count (λ n. bits (suc n))

-- net answers rows from a state with `answer`: there is a trace over them, and the answer is its data output bits
pub record Answers (net : Net) (from : NetState) (rows answer : List Row) : Type 0 where
  pub bits : ℕ → Valuation
  pub state : ℕ → NetState
  pub trace : IsTrace net from rows bits state
  pub shows : answer ≡ output_rows net (length rows) bits

-- each row has a bit for each data input bit of the netlist
abbrev pub AreRows : Net → List Row → Type 0
AreRows net rows = AllByRecursion (λ row. length row ≡ length (data_inputs net)) rows

-- ---- clock by clock

-- one clock leads from a snapshot to the next and answers a row
pub record IsStep (net : Net) (now next : Snapshot) (row answer : Row) : Type 0 where
  pub bits : Valuation
  pub settles : Settles net row (state_of now) bits
  pub shows : answer ≡ output_row net bits
  pub after : state_of next ≡ next_state net (state_of now) bits

-- clocks lead from a snapshot to the last one and answer the rows one by one
abbrev pub AreSteps : Net → Snapshot → List Row → List Row → Snapshot → Type 0
AreSteps net now [] [] last = last ≡ now
AreSteps net now [] (answer ∷ answers) last = ⊥
AreSteps net now (row ∷ rows) [] last = ⊥
AreSteps net now (row ∷ rows) (answer ∷ answers) last =
    (next : Snapshot) × IsStep net now next row answer × AreSteps net next rows answers last
