-- Numbers among input bits: this only mirrors the code, whose result is said by Ports.
use Rattle.std.specs.Prelude.{ℕ, List, filter, find, map, not, Option, Some, None, option_map}
use Rattle.std.specs.List.{enumerate_from}
use Rattle.cs_base.specs.declared.signal.Signal.{Signal}
use Rattle.cs_modules.specs.declared.clocks.Clock.{Clock}
use Rattle.cs_modules.specs.Signals.{is_bit}
use Rattle.cs_net.specs.Drivers.{is_clock}

-- the numbers of the data bits among these, which are numbered from `next` on
abbrev pub data_among : Option Clock → ℕ → List Signal → List ℕ
data_among clock next inputs = map (λ e. e.0) (filter (λ e. not (is_clock clock e.1)) (enumerate_from next inputs))

-- the number of a bit among these
abbrev pub number_among : ℕ → ℕ → List Signal → Option ℕ
number_among b next inputs = option_map (λ e. e.0) (find (λ e. is_bit b e.1) (enumerate_from next inputs))

-- the clock with its number among these
abbrev pub written_among : Option Clock → List Signal → Option Clock
written_among None inputs = None
written_among (Some clock) inputs =
    option_map (λ n. record { bit = n; rising = clock.rising }) (number_among clock.bit 2 inputs)
