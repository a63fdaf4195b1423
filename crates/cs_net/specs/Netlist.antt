-- A netlist as contracts see it, and a state of it.
use Rattle.std.specs.Prelude.{ℕ, ◌==◌, List, [], Bool, false, Option, bytes_eq, find, option_map, unwrap_or}
use Rattle.cs_cells.specs.declared.memory.MemShape.{MemShape}
use Rattle.cs_cells.specs.Memories.{Words}
use Rattle.cs_net.specs.declared.netlist.Cell.{Cell}
use Rattle.cs_net.specs.declared.netlist.Port.{Port}
use Rattle.cs_modules.specs.declared.clocks.Clock.{Clock}
use Rattle.cs_net.specs.declared.state.Snapshot.{Snapshot}
use Rattle.cs_net.specs.declared.state.BitValue.{BitValue}
use Rattle.cs_net.specs.declared.state.MemoryWords.{MemoryWords}

pub record Net : Type 0 where
  pub name : List ℕ
  pub ports : List Port
  -- without `$scopeinfo`
  pub cells : List Cell
  -- one for each cell, of a memory alone
  pub shapes : List (Option MemShape)
  pub clock : Option Clock
  -- each register's bit Q with its start
  pub starts : List BitValue
  -- each memory's words at the start, in order of the cells
  pub memories : List MemoryWords

-- a state: the value of each bit that a register or a clocked read drives, and the words of the memory of a name
pub record NetState : Type 0 where
  pub bit : ℕ → Bool
  pub words : List ℕ → Words

-- the value that a list gives a bit, 0 where it gives none
abbrev pub bit_at : List BitValue → ℕ → Bool
bit_at bits b = unwrap_or (option_map (λ e. e.value) (find (λ e. e.bit == b) bits)) false

-- the words that a list gives the memory of a name
abbrev pub words_at : List MemoryWords → List ℕ → Words
words_at memories name = unwrap_or (option_map (λ m. m.words) (find (λ m. bytes_eq m.name name) memories)) []

-- the state that a snapshot lists
abbrev pub state_of : Snapshot → NetState
state_of s = record { bit = bit_at s.bits; words = words_at s.memories }
