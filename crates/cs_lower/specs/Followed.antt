-- What a pin reads, followed back through registers.
use Rattle.std.specs.Prelude.{ℕ, zero, suc, ◌+◌, ◌==◌, List, [], ◌∷◌, ◌++◌, Bool, true, false, Option, Some, None}
use Rattle.std.specs.List.{position_from}
use Rattle.cs_base.specs.declared.signal.Signal.{Signal}
use Rattle.cs_base.specs.declared.signal.Signal.TheVariants.{Zero, One, Unknown, HighZ, Bit}
use Rattle.cs_lower.specs.declared.taps.End.{End}
use Rattle.cs_lower.specs.declared.taps.End.TheVariants.{Constant as at_bit, Vertex as at_vertex}
use Rattle.cs_lower.specs.declared.taps.Tap.{Tap}
use Rattle.cs_lower.specs.declared.taps.Tap.TheVariants.{Constant as of_bit, Held as of_held, Register as of_register, Signal as of_signal, Vertex as of_vertex}
use Rattle.cs_lower.specs.declared.taps.Wire.{Wire}
use Rattle.cs_lower.specs.declared.taps.Wire.TheVariants.{Register as from_register, Vertex as from_vertex, Undriven as undriven}
use Rattle.cs_lower.specs.Wires.{wire_in}

-- the starts of the registers that are passed, nearest the end first, and the end
pub record Trail : Type 0 where
  pub contents : List Bool
  pub end : End

abbrev pub ends : End → Trail
ends end = record { contents = []; end = end }

-- a trail that passes one more register
abbrev pub past : Bool → Trail → Trail
past start t = record { contents = t.contents ++ start ∷ []; end = t.end }

-- what drives bits: wires, starts, the bits of ring buffers, and the number of the first such buffer
pub record Wiring : Type 0 where
  pub wires : List (Signal × Wire)
  pub start : ℕ → Bool
  pub rings : List ℕ
  pub first_buffer : ℕ

-- back through what drives a bit
abbrev pub behind_wire : Bool → (Tap → Trail) → Wire → Trail
behind_wire start back undriven = ends (at_bit false)
behind_wire start back (from_vertex v o) = ends (at_vertex v o)
behind_wire start back (from_register d) = past start (back d)

abbrev pub behind_bit : Wiring → (Tap → Trail) → ℕ → Trail
behind_bit w back b = behind_wire (w.start b) back (wire_in w.wires b)

-- a bit that a ring buffer takes the place of is that buffer's
abbrev pub by_ring : Wiring → (Tap → Trail) → ℕ → Option ℕ → Trail
by_ring w back b None = behind_bit w back b
by_ring w back b (Some i) = ends (at_vertex (w.first_buffer + i) 0)

abbrev pub from_signal : Wiring → (Tap → Trail) → Signal → Trail
from_signal w back Zero = ends (at_bit false)
from_signal w back One = ends (at_bit true)
from_signal w back Unknown = ends (at_bit false)
from_signal w back HighZ = ends (at_bit false)
from_signal w back (Bit b) = by_ring w back b (position_from (λ r. r == b) 0 w.rings)

abbrev pub from_tap : Wiring → (Tap → Trail) → Tap → Trail
from_tap w back (of_signal s) = from_signal w back s
from_tap w back (of_vertex v o) = ends (at_vertex v o)
from_tap w back (of_bit b) = ends (at_bit b)
from_tap w back (of_register b) = behind_bit w back b
from_tap w back (of_held v start) = past start (ends (at_vertex v 0))

-- what a pin reads, where it passes fewer than so many registers
unfoldable pub followed : Wiring → ℕ → Tap → Trail
followed w zero t = ends (at_bit false)
followed w (suc fuel) t = from_tap w (followed w fuel) t
