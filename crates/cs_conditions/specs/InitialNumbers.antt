-- The initial values that nets give, as lists of numbers of bits.
use Rattle.std.specs.Prelude.{◌≡◌, ℕ, ◌+◌, List, [], ◌∷◌, ◌++◌, map, filter_map, Bool, Option, Some, None, if◌then◌else◌, unwrap_or, option_map, slice_get, codes}
use Rattle.std.specs.List.{enumerate_from, flat_map}
use Rattle.cs_json.specs.declared.document.CellDecl.{CellDecl}
use Rattle.cs_base.specs.declared.signal.Signal.{Signal}
use Rattle.cs_json.specs.declared.document.NetDecl.{NetDecl}
use Rattle.cs_modules.specs.Pins.{class_at, pin_bits}
use Rattle.cs_modules.specs.Signals.{number_in, same}
use Rattle.cs_modules.specs.Modules.{is_register}
use Rattle.cs_modules.specs.Digits.{digits_at, init_digit}

-- the number of a bit whose digit gives it this initial value
abbrev pub given_number : Bool → Option Bool → Signal → Option ℕ
given_number value None signal = None
given_number value (Some found) signal = if same found value then number_in signal else None

-- the numbers of the bits to which a net's `init` gives this initial value
abbrev pub numbers_given : Bool → NetDecl → List ℕ
numbers_given value net =
    filter_map (λ e. given_number value (init_digit (digits_at (codes "init") net.attributes) e.0) e.1) (enumerate_from 0 net.bits)

-- the numbers of the bits that registers drive, cell by cell
abbrev pub register_numbers_of : List CellDecl → List ℕ
register_numbers_of [] = []
register_numbers_of (cell ∷ cells) =
    (if is_register (class_at cell) then filter_map number_in (pin_bits cell.pins (codes "Q")) else []) ++ register_numbers_of cells
