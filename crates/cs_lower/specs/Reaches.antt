-- How far a pin reaches: how many registers it passes, and where it leads.
use Rattle.std.specs.Prelude.{◌==◌, ◌+◌, ℕ, List, length, Option, Some, None, option_map, unwrap_or, true, false}
use Rattle.std.specs.List.{position_from}
use Rattle.cs_base.specs.declared.signal.Signal.{Signal}
use Rattle.cs_base.specs.declared.signal.Signal.TheVariants.{Zero, One, Unknown, HighZ, Bit}
use Rattle.cs_modules.specs.Signals.{number_in}
use Rattle.cs_lower.specs.Followed.{Trail}
use Rattle.cs_lower.specs.declared.reaches.Reach.{Reach}
use Rattle.cs_lower.specs.declared.taps.End.{End}
use Rattle.cs_lower.specs.declared.taps.End.TheVariants.{Constant as at_bit, Vertex as at_vertex}
use Rattle.cs_lower.specs.declared.taps.Tap.{Tap}
use Rattle.cs_lower.specs.declared.taps.Tap.TheVariants.{Constant as of_bit, Held as of_held, Register as of_register, Signal as of_signal, Vertex as of_vertex}
use Rattle.cs_lower.specs.declared.taps.Wire.{Wire}
use Rattle.cs_lower.specs.declared.taps.Wire.TheVariants.{Register as from_register, Vertex as from_vertex, Undriven as undriven}

-- the registers on a trail, and its end
abbrev pub reach_of : Trail → Reach
reach_of t = record { registers = length t.contents; end = t.end }

-- no register
abbrev pub at_once : End → Reach
at_once end = record { registers = 0; end = end }

-- one register more
abbrev pub one_more : Reach → Reach
one_more r = record { registers = r.registers + 1; end = r.end }

-- what is found for a bit; for one that nothing drives nothing is found
abbrev pub found : Option Reach → Reach
found r = unwrap_or r (at_once (at_bit false))

-- a bit that a ring buffer takes the place of leads to that buffer
abbrev pub ring_reach : ℕ → List ℕ → ℕ → Option Reach
ring_reach first_buffer rings b =
    option_map (λ i. at_once (at_vertex (first_buffer + i) 0)) (position_from (λ r. r == b) 0 rings)

-- where a constant leads
abbrev pub signal_end : Signal → End
signal_end Zero = at_bit false
signal_end One = at_bit true
signal_end Unknown = at_bit false
signal_end HighZ = at_bit false
signal_end (Bit b) = at_bit false

-- where a tap leads that is no bit
abbrev pub tap_end : Tap → End
tap_end (of_signal s) = signal_end s
tap_end (of_vertex v o) = at_vertex v o
tap_end (of_bit b) = at_bit b
tap_end (of_register b) = at_bit false
tap_end (of_held v start) = at_bit false

-- how far one gets through a wire that no bit is behind
abbrev pub short_reach : Wire → Reach
short_reach undriven = at_once (at_bit false)
short_reach (from_vertex v o) = at_once (at_vertex v o)
short_reach (from_register d) = one_more (at_once (tap_end d))

-- the bit that a tap is, or whose register it is
abbrev pub bit_of_tap : Tap → Option ℕ
bit_of_tap (of_signal s) = number_in s
bit_of_tap (of_vertex v o) = None
bit_of_tap (of_bit b) = None
bit_of_tap (of_register b) = Some b
bit_of_tap (of_held v start) = None

-- what a register takes
abbrev pub taken_by : Wire → Tap
taken_by undriven = of_bit false
taken_by (from_vertex v o) = of_bit false
taken_by (from_register d) = d

-- a tap that is no register of its own
abbrev pub IsUnheld : Tap → Type 0
IsUnheld (of_signal s) = Unit {0}
IsUnheld (of_vertex v o) = Unit {0}
IsUnheld (of_bit b) = Unit {0}
IsUnheld (of_register b) = Unit {0}
IsUnheld (of_held v start) = ⊥
