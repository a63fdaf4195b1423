-- What a pin of a netlist reads solves its own equation.
use Rattle.std.specs.Prelude.{◌==◌}
use Rattle.std.proofs.Common.{◌≡◌, ℕ, ◌+◌, Some, None, refl}
use Rattle.std.specs.List.{position_from}
use Rattle.cs_base.specs.declared.signal.Signal.TheVariants.{Bit}
use Rattle.cs_net.specs.Netlist.{Net}
use Rattle.cs_lower.specs.Followed.{behind_bit, ends, from_tap}
use Rattle.cs_lower.specs.declared.taps.End.TheVariants.{Vertex as at_vertex}
use Rattle.cs_lower.specs.Lowered.{trail_of, wiring_of}
use Rattle.cs_lower.specs.declared.taps.Tap.{Tap}
use Rattle.cs_lower.specs.declared.taps.Tap.TheVariants.{Register as of_register, Signal as of_signal}
use Rattle.cs_lower.proofs.FollowLemmas.{followed_free, followed_register, followed_ring, followed_step}
use Rattle.cs_lower.proofs.NetWires.{plain_parts}

pub trail_step : (net : Net) (t : Tap) → trail_of net t ≡ from_tap (wiring_of net) (trail_of net) t
trail_step net t = followed_step (wiring_of net) (plain_parts net) refl t

-- a bit that no ring buffer takes the place of
pub trail_of_free : (net : Net) (b : ℕ) → position_from (λ r. r == b) 0 (wiring_of net).rings ≡ None
    → trail_of net (of_signal (Bit b)) ≡ behind_bit (wiring_of net) (trail_of net) b
trail_of_free net b free = followed_free (wiring_of net) (plain_parts net) refl b free

-- a bit that one does
pub trail_of_ring : (net : Net) (b i : ℕ) → position_from (λ r. r == b) 0 (wiring_of net).rings ≡ Some i
    → trail_of net (of_signal (Bit b)) ≡ ends (at_vertex ((wiring_of net).first_buffer + i) 0)
trail_of_ring net b i at = followed_ring (wiring_of net) (plain_parts net) refl b i at

-- the register of a bit
pub trail_of_register : (net : Net) (b : ℕ)
    → trail_of net (of_register b) ≡ behind_bit (wiring_of net) (trail_of net) b
trail_of_register net b = followed_register (wiring_of net) (plain_parts net) refl b
