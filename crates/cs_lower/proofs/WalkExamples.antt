-- Two chains of registers, one of which ends on a ring: what is met, and how far bits reach.
use Rattle.std.proofs.Common.{◌≡◌, false, true, List, [], ◌∷◌, Some, refl}
use Rattle.cs_base.specs.declared.signal.Signal.{Signal}
use Rattle.cs_base.specs.declared.signal.Signal.TheVariants.{One, Bit}
use Rattle.cs_lower.specs.declared.taps.End.TheVariants.{Constant as at_bit, Vertex as at_vertex}
use Rattle.cs_lower.specs.declared.taps.Tap.TheVariants.{Register as of_register, Signal as of_signal}
use Rattle.cs_lower.specs.declared.taps.Wire.{Wire}
use Rattle.cs_lower.specs.declared.taps.Wire.TheVariants.{Register as from_register}
use Rattle.cs_lower.specs.Followed.{Wiring, followed}
use Rattle.cs_lower.specs.Reaches.{reach_of, ring_reach}
use Rattle.cs_lower.specs.Rings.{rings}
use Rattle.cs_lower.specs.Walks.{back}

-- 4 takes 3, which takes a constant; 9 takes 8, which is on a ring of 8, 5 and 6
abbrev wires : List (Signal × Wire)
wires =
    (Bit 4, from_register (of_signal (Bit 3))) ∷ (Bit 3, from_register (of_signal One))
    ∷ (Bit 9, from_register (of_signal (Bit 8))) ∷ (Bit 8, from_register (of_signal (Bit 5)))
    ∷ (Bit 5, from_register (of_signal (Bit 6))) ∷ (Bit 6, from_register (of_signal (Bit 8))) ∷ []

abbrev wiring : Wiring
wiring = record { wires = wires; start = λ b. false; rings = rings wires; first_buffer = 7 }

two_back : back wires 2 (Some 9) ≡ Some 5
two_back = refl

the_ring : rings wires ≡ 5 ∷ []
the_ring = refl

to_the_constant : reach_of (followed wiring 8 (of_signal (Bit 4))) ≡ record { registers = 2; end = at_bit true }
unfolding followed
to_the_constant = refl

to_the_buffer : reach_of (followed wiring 8 (of_signal (Bit 9))) ≡ record { registers = 2; end = at_vertex 7 0 }
unfolding followed
to_the_buffer = refl

-- the register of a ring's bit goes once round
round_the_ring : reach_of (followed wiring 8 (of_register 5)) ≡ record { registers = 3; end = at_vertex 7 0 }
unfolding followed
round_the_ring = refl

the_buffer : ring_reach 7 (rings wires) 5 ≡ Some (record { registers = 0; end = at_vertex 7 0 })
the_buffer = refl
