-- Signals, and the directions of ports.
use Rattle.std.specs.Prelude.{ℕ, ◌*◌, min, List, [], ◌∷◌, ◌++◌, get_or, map, Bool, true, false, not, ◌&&◌, ◌||◌, ◌==◌, nat_lt, if◌then◌else◌, bytes_eq, nat_eq, Option, Some, None, find, filter, filter_map, flat_map, option_map, option_and_then, unwrap_or, is_some, codes, ◌+◌, slice_range, ◌<◌, IsTrue}
use Rattle.std.specs.List.{list_any, list_all, starts_with, enumerate_from, flat_map, zip}
use Rattle.cs_base.specs.declared.signal.Signal.{Signal}
use Rattle.cs_base.specs.declared.signal.Signal.TheVariants.{Zero, One, Unknown, HighZ, Bit}
use Rattle.cs_json.specs.declared.document.Direction.{Direction}
use Rattle.cs_json.specs.declared.document.Direction.TheVariants.{Input, Output, Inout}
use Rattle.cs_cells.specs.declared.class.Class.TheVariants as class
use Rattle.cs_modules.specs.declared.connection.Role.TheVariants as roles

-- the constant `z`
abbrev pub is_high_z : Signal → Bool
is_high_z Zero = false
is_high_z One = false
is_high_z Unknown = false
is_high_z HighZ = true
is_high_z (Bit b) = false

-- the number of a bit
abbrev pub number_in : Signal → Option ℕ
number_in Zero = None
number_in One = None
number_in Unknown = None
number_in HighZ = None
number_in (Bit b) = Some b

-- the signal is the bit of this number
abbrev pub is_bit : ℕ → Signal → Bool
is_bit b Zero = false
is_bit b One = false
is_bit b Unknown = false
is_bit b HighZ = false
is_bit b (Bit a) = a == b

-- one of the signals is this bit
abbrev pub holds_bit : ℕ → List Signal → Bool
holds_bit b signals = list_any (is_bit b) signals

-- the signal is a bit that passes a test
abbrev pub is_bit_where : (ℕ → Bool) → Signal → Bool
is_bit_where test Zero = false
is_bit_where test One = false
is_bit_where test Unknown = false
is_bit_where test HighZ = false
is_bit_where test (Bit b) = test b

-- the signal is a bit, and one of these
abbrev pub is_bit_of : List Signal → Signal → Bool
is_bit_of bits s = is_bit_where (λ b. list_any (is_bit b) bits) s

-- both values are the same
abbrev pub same : Bool → Bool → Bool
same a b = if a then b else not b

-- ---- the directions of ports

abbrev pub is_input : Direction → Bool
is_input Input = true
is_input Output = false
is_input Inout = false

abbrev pub is_output : Direction → Bool
is_output Input = false
is_output Output = true
is_output Inout = false
