-- Rings: loops of registers without any vertex.
use Rattle.std.specs.Prelude.{ℕ, zero, suc, ◌==◌, nat_le, List, [], ◌∷◌, Bool, ◌&&◌, if◌then◌else◌, length, filter, filter_map, Option, Some, None}
use Rattle.std.specs.List.{list_all, list_any}
use Rattle.cs_base.specs.declared.signal.Signal.{Signal}
use Rattle.cs_modules.specs.Signals.{number_in}
use Rattle.cs_lower.specs.declared.taps.Tap.{Tap}
use Rattle.cs_lower.specs.declared.taps.Tap.TheVariants.{Constant as of_bit, Held as of_held, Register as of_register, Signal as of_signal, Vertex as of_vertex}
use Rattle.cs_lower.specs.declared.taps.Wire.{Wire}
use Rattle.cs_lower.specs.declared.taps.Wire.TheVariants.{Register as from_register, Vertex as from_vertex, Undriven as undriven}
use Rattle.cs_lower.specs.Wires.{wire_in}

-- the bit of a signal that a register takes
abbrev pub bit_at_tap : Tap → Option ℕ
bit_at_tap (of_signal s) = number_in s
bit_at_tap (of_vertex v o) = None
bit_at_tap (of_bit b) = None
bit_at_tap (of_register b) = None
bit_at_tap (of_held v start) = None

abbrev pub bit_behind : Wire → Option ℕ
bit_behind undriven = None
bit_behind (from_vertex v o) = None
bit_behind (from_register d) = bit_at_tap d

-- the bits that are met from a bit back through registers alone, itself first, at most so many
abbrev pub met : List (Signal × Wire) → ℕ → Option ℕ → List ℕ
met wires zero b = []
met wires (suc count) None = []
met wires (suc count) (Some b) = b ∷ met wires count (bit_behind (wire_in wires b))

-- those that are met behind a bit
abbrev pub met_behind : List (Signal × Wire) → ℕ → List ℕ
met_behind wires b = met wires (length wires) (bit_behind (wire_in wires b))

-- a bit is on a ring where it is met behind itself, and it stands for the ring where none that is met is less
abbrev pub is_ring : List (Signal × Wire) → ℕ → Bool
is_ring wires b = list_any (λ a. a == b) (met_behind wires b) && list_all (λ a. nat_le b a) (met_behind wires b)

-- a number among others in order
abbrev pub in_place : ℕ → List ℕ → List ℕ
in_place b [] = b ∷ []
in_place b (a ∷ others) = if nat_le b a then b ∷ a ∷ others else a ∷ in_place b others

abbrev pub in_order : List ℕ → List ℕ
in_order [] = []
in_order (b ∷ bs) = in_place b (in_order bs)

-- the least bit of each ring, in order
abbrev pub rings : List (Signal × Wire) → List ℕ
rings wires = in_order (filter (is_ring wires) (filter_map (λ w. number_in w.0) wires))
