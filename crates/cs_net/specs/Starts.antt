-- The starts of registers: cell by cell, and as they are kept by the number of a bit.
use Rattle.std.specs.Prelude.{ℕ, List, [], Bool, false, Option, option_map, unwrap_or, nat_eq, codes}
use Rattle.std.specs.HashMap.{HashMap, get}
use Rattle.std.specs.Option.{option_to_list}
use Rattle.cs_base.specs.declared.signal.Signal.{Signal}
use Rattle.cs_cells.specs.declared.class.Class.{Class}
use Rattle.cs_cells.specs.declared.class.Class.TheVariants.{Register}
use Rattle.cs_net.specs.declared.netlist.Cell.{Cell}
use Rattle.cs_net.specs.declared.state.BitValue.{BitValue}
use Rattle.cs_modules.specs.Signals.{number_in}
use Rattle.cs_net.specs.Drivers.{signal_of}
use Rattle.cs_net.specs.Netlist.{bit_at}

-- the value that a table gives a bit, 0 where it gives none
abbrev pub noted_value : {S : Type 0} → HashMap ℕ Bool S → ℕ → Bool
noted_value table b = unwrap_or (get nat_eq table b) false

-- a signal's bit with its value
abbrev pub start_by : (ℕ → Bool) → Signal → Option BitValue
start_by value s = option_map (λ b. record { bit = b; value = value b }) (number_in s)

-- a register's bit Q with its value; a constant at Q and every other cell have no start
abbrev pub start_of_class : (ℕ → Bool) → Class → Cell → List BitValue
start_of_class value (Register kind) cell = option_to_list (start_by value (signal_of cell (codes "Q")))
start_of_class value _ cell = []

-- the start of a cell, whose value is that which a list of starts gives the bit
abbrev pub starts_of_cell : List BitValue → Cell → List BitValue
starts_of_cell starts cell = start_of_class (bit_at starts) cell.class cell
