-- Wires through which one goes back by signals and outputs alone.
use Rattle.std.proofs.Common.{◌≡◌, ℕ, Bool, true, false, cond, List, [], ◌∷◌, ◌++◌, Some, find, option_map, unwrap_or, subst}
use Rattle.std.specs.List.{AllByRecursion}
use Rattle.cs_base.specs.declared.signal.Signal.{Signal}
use Rattle.cs_modules.specs.Signals.{is_bit}
use Rattle.cs_lower.specs.declared.taps.Tap.{Tap}
use Rattle.cs_lower.specs.declared.taps.Tap.TheVariants.{Constant as of_bit, Held as of_held, Register as of_register, Signal as of_signal, Vertex as of_vertex}
use Rattle.cs_lower.specs.declared.taps.Wire.{Wire}
use Rattle.cs_lower.specs.declared.taps.Wire.TheVariants.{Register as from_register, Vertex as from_vertex, Undriven as undriven}
use Rattle.cs_lower.specs.Wires.{wire_in}

-- a tap that is no register
abbrev pub IsPlain : Tap → Type 0
IsPlain (of_signal s) = Unit {0}
IsPlain (of_vertex v o) = Unit {0}
IsPlain (of_bit b) = Unit {0}
IsPlain (of_register b) = ⊥
IsPlain (of_held v start) = ⊥

-- a wire that takes such a tap, if any
abbrev pub IsPlainWire : Wire → Type 0
IsPlainWire undriven = Unit {0}
IsPlainWire (from_vertex v o) = Unit {0}
IsPlainWire (from_register d) = IsPlain d

abbrev pub ArePlain : List (Signal × Wire) → Type 0
ArePlain wires = AllByRecursion (λ w. IsPlainWire w.1) wires

pub plain_append : (xs ys : List (Signal × Wire)) → ArePlain xs → ArePlain ys → ArePlain (xs ++ ys)
plain_append [] ys plain rest = rest
plain_append (x ∷ xs) ys (first, plain) rest = (first, plain_append xs ys plain rest)

-- what drives a bit is plain
pub plain_wire_in : (wires : List (Signal × Wire)) → ArePlain wires → (b : ℕ) → IsPlainWire (wire_in wires b)
plain_wire_in [] plain b = tt
plain_wire_in (x ∷ wires) (first, plain) b = by (is_bit b x.0) (plain_wire_in wires plain b)
  where
    by : (here : Bool) → IsPlainWire (wire_in wires b)
        → IsPlainWire (unwrap_or (option_map (λ w. w.1) (cond here (Some x) (find (λ w. is_bit b w.0) wires))) undriven)
    by true rest = first
    by false rest = rest

pub plain_behind : (wires : List (Signal × Wire)) (b : ℕ) (d : Tap) → ArePlain wires
    → wire_in wires b ≡ from_register d → IsPlain d
plain_behind wires b d plain wired = subst IsPlainWire wired (plain_wire_in wires plain b)
