-- A bit that a data input drives is one of a row's.
use Rattle.std.specs.Prelude.{if◌then◌else◌}
use Rattle.std.proofs.Common.{◌≡◌, ℕ, ◌+◌, ◌<◌, ◌≤◌, Bool, true, false, cond, List, [], ◌∷◌, length, map, Option, Some, None, find, option_map, unwrap_or, subst, arith}
use Rattle.std.specs.List.{AllByRecursion, enumerate_from, flat_map, zip}
use Rattle.cs_base.specs.declared.signal.Signal.{Signal}
use Rattle.cs_cells.specs.declared.class.Class.{Class}
use Rattle.cs_cells.specs.declared.class.Class.TheVariants.{Asynchronous, Gate, Memory, NotFine, Register, Scope, Unknown}
use Rattle.cs_cells.specs.declared.memory.MemShape.{MemShape}
use Rattle.cs_cells.specs.declared.memory.ReadShape.{ReadShape}
use Rattle.cs_modules.specs.Signals.{is_bit}
use Rattle.cs_net.specs.declared.netlist.Cell.{Cell}
use Rattle.cs_net.specs.Drivers.{Driver, DrivenSignal, cell_drives, class_drives, data_inputs, driver_of, drivers, gate, input, memory_drives, read_data, read_drives, read_element, read_word_bit, register, undriven, word_bit}
use Rattle.cs_net.specs.Netlist.{Net}
use Rattle.cs_net.proofs.Members.{append_all}

-- a driver that is a data input is one of the first so many
abbrev IsWithin : ℕ → Driver → Type 0
IsWithin count undriven = Unit {0}
IsWithin count (input i) = i < count
IsWithin count (gate kind pins) = Unit {0}
IsWithin count (word_bit w) = Unit {0}
IsWithin count (register r) = Unit {0}

abbrev AreWithin : ℕ → List DrivenSignal → Type 0
AreWithin count ds = AllByRecursion (λ d. IsWithin count d.1) ds

inputs_within : (count k : ℕ) (signals : List Signal) → k + length signals ≤ count
    → AreWithin count (map (λ e. (e.1, input e.0)) (enumerate_from k signals))
inputs_within count k [] within = tt
inputs_within count k (s ∷ signals) within =
    (omega (arith, within), inputs_within count (k + 1) signals (omega (arith, within)))

-- ---- no cell is a data input

read_within : (count : ℕ) (cell : Cell) (shape : MemShape) (read : ℕ × ReadShape) → AreWithin count (read_drives cell shape read)
read_within count cell shape read = by read.1.clocked (read_data cell shape read.0)
  where
    by : (clocked : Bool) (bits : List (ℕ × Signal))
        → AreWithin count (map (λ e. (
          e.1,
          if clocked then register (read_element cell shape read.1 read.0 e.0)
              else word_bit (read_word_bit cell shape read.0 e.0),
        )) bits)
    by clocked [] = tt
    by true (e ∷ bits) = (tt, by true bits)
    by false (e ∷ bits) = (tt, by false bits)

chain_within : {A : Type 0} (count : ℕ) (drives : A → List DrivenSignal) (xs : List A)
    → ((x : A) → AreWithin count (drives x)) → AreWithin count (flat_map drives xs)
chain_within count drives [] each = tt
chain_within count drives (x ∷ xs) each =
    append_all (λ (d : DrivenSignal). IsWithin count d.1) (drives x) (flat_map drives xs) (each x)
    (chain_within count drives xs each)

memory_within : (count : ℕ) (cell : Cell) (shape : Option MemShape) → AreWithin count (memory_drives cell shape)
memory_within count cell None = tt
memory_within count cell (Some shape) =
    chain_within count (read_drives cell shape) (enumerate_from 0 shape.reads) (read_within count cell shape)

class_within : (count : ℕ) (class : Class) (cell : Cell) (shape : Option MemShape)
    → AreWithin count (class_drives class cell shape)
class_within count (Gate kind) cell shape = (tt, tt)
class_within count (Register kind) cell shape = (tt, tt)
class_within count Memory cell shape = memory_within count cell shape
class_within count Scope cell shape = tt
class_within count Asynchronous cell shape = tt
class_within count NotFine cell shape = tt
class_within count Unknown cell shape = tt

all_within : (net : Net) → AreWithin (length (data_inputs net)) (drivers net)
all_within net =
    append_all (λ (d : DrivenSignal). IsWithin (length (data_inputs net)) d.1)
    (map (λ e. (e.1, input e.0)) (enumerate_from 0 (data_inputs net))) (flat_map cell_drives (zip net.cells net.shapes))
    (inputs_within (length (data_inputs net)) 0 (data_inputs net) (omega arith))
    (chain_within (length (data_inputs net)) cell_drives (zip net.cells net.shapes)
    (λ c. class_within (length (data_inputs net)) c.0.class c.0 c.1))

-- ---- what is found

found_within : (count : ℕ) (b : ℕ) (ds : List DrivenSignal) → AreWithin count ds
    → IsWithin count (unwrap_or (option_map (λ d. d.1) (find (λ d. is_bit b d.0) ds)) undriven)
found_within count b [] all = tt
found_within count b (d ∷ ds) all = by (is_bit b d.0) (found_within count b ds all.1)
  where
    by : (here : Bool)
        → IsWithin count (unwrap_or (option_map (λ d. d.1) (find (λ d. is_bit b d.0) ds)) undriven)
        → IsWithin count (unwrap_or (option_map (λ d. d.1) (cond here (Some d) (find (λ d. is_bit b d.0) ds))) undriven)
    by true rest = all.0
    by false rest = rest

-- the place of a data input that drives a bit is within a row
pub input_place : (net : Net) (b i : ℕ) → driver_of net b ≡ input i → i < length (data_inputs net)
unfolding driver_of
input_place net b i is =
    subst (IsWithin (length (data_inputs net))) is (found_within (length (data_inputs net)) b (drivers net) (all_within net))
