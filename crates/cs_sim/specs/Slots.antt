-- Values by their slots: slot 0 holds 0, slot 1 holds 1, and slot i + 2 the value of the i-th signal that is driven.
use Rattle.std.specs.Prelude.{ℕ, ◌+◌, List, [], ◌∷◌, get_or, map, slice_set, Bool, false, unwrap_or, option_map}
use Rattle.cs_base.specs.declared.signal.Signal.{Signal}
use Rattle.cs_base.specs.declared.signal.Signal.TheVariants.{Zero, One, Unknown, HighZ, Bit}
use Rattle.cs_cells.specs.Memories.{number_of}
use Rattle.cs_modules.specs.Pins.{count_from}
use Rattle.cs_modules.specs.Places.{place_of}

-- the slot of a signal among those that are driven; a bit that isn't among them is 0
abbrev pub slot_of : List Signal → Signal → ℕ
slot_of driven Zero = 0
slot_of driven One = 1
slot_of driven Unknown = 0
slot_of driven HighZ = 0
slot_of driven (Bit b) = unwrap_or (option_map (λ i. i + 2) (place_of b driven)) 0

-- the value in a slot, 0 past the last one
abbrev pub value_at : List Bool → ℕ → Bool
value_at values slot = get_or values slot false

-- the number of an address whose bits stand in these slots, least first
abbrev pub number_at : List Bool → List ℕ → ℕ
number_at values slots = number_of (map (value_at values) slots)

-- `width` bits from the place `from` on, 0 past the last one
abbrev pub bits_from : List Bool → ℕ → ℕ → List Bool
bits_from bits from width = map (λ p. get_or bits (from + p) false) (count_from 0 width)

-- the values once these bits are put into the slots from `first` on
unfoldable pub stored : List Bool → ℕ → List Bool → List Bool
stored values first [] = values
stored values first (b ∷ bs) = stored (slice_set values first b) (first + 1) bs
