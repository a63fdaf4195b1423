-- What bits are listed to hold at first.
use Rattle.std.specs.Prelude.{◌==◌, ℕ, List, Bool, Option, find, option_map}
use Rattle.cs_net.specs.declared.state.BitValue.{BitValue}

-- the value that a list gives a bit first, if it gives one
abbrev pub first_value : List BitValue → ℕ → Option Bool
first_value values b = option_map (λ e. e.value) (find (λ e. e.bit == b) values)
