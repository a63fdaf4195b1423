-- What the bits of a netlist show clock by clock: a register's bit shows its start, and then what it takes.
use Rattle.std.specs.Prelude.{◌==◌}
use Rattle.std.proofs.Common.{◌≡◌, ℕ, suc, ◌+◌, false, Some, None, sym, ap, ◌∙◌}
use Rattle.std.specs.List.{position_from}
use Rattle.cs_base.specs.declared.signal.Signal.TheVariants.{Bit}
use Rattle.cs_graph.specs.Run.{Outs}
use Rattle.cs_net.specs.Netlist.{Net}
use Rattle.cs_lower.specs.Followed.{behind_wire}
use Rattle.cs_lower.specs.declared.taps.End.TheVariants.{Constant as at_bit, Vertex as at_vertex}
use Rattle.cs_lower.specs.Lowered.{trail_of, wiring_of}
use Rattle.cs_lower.specs.Meaning.{shown}
use Rattle.cs_lower.specs.declared.taps.Tap.{Tap}
use Rattle.cs_lower.specs.declared.taps.Tap.TheVariants.{Register as of_register, Signal as of_signal}
use Rattle.cs_lower.specs.declared.taps.Wire.TheVariants.{Register as from_register, Vertex as from_vertex, Undriven as undriven}
use Rattle.cs_lower.specs.Wires.{wire_in}
use Rattle.cs_lower.proofs.MeaningLemmas.{shown_ends, shown_past_first, shown_past_next}
use Rattle.cs_lower.proofs.TrailLemmas.{trail_of_free, trail_of_register, trail_of_ring}

-- ---- the register of a bit

pub register_first : (net : Net) (value : ℕ → Outs) (b : ℕ) (d : Tap)
    → wire_in (wiring_of net).wires b ≡ from_register d
    → shown value (trail_of net (of_register b)) 0 ≡ (wiring_of net).start b
register_first net value b d wired =
    ap (λ t. shown value t 0) (trail_of_register net b
    ∙ ap (behind_wire ((wiring_of net).start b) (trail_of net)) wired)
    ∙ shown_past_first value ((wiring_of net).start b) (trail_of net d)

pub register_next : (net : Net) (value : ℕ → Outs) (b : ℕ) (d : Tap) (n : ℕ)
    → wire_in (wiring_of net).wires b ≡ from_register d
    → shown value (trail_of net (of_register b)) (suc n) ≡ shown value (trail_of net d) n
register_next net value b d n wired =
    ap (λ t. shown value t (suc n)) (trail_of_register net b
    ∙ ap (behind_wire ((wiring_of net).start b) (trail_of net)) wired)
    ∙ shown_past_next value ((wiring_of net).start b) (trail_of net d) n

-- ---- bits

-- a bit that no ring buffer takes the place of is what drives it
pub free_register : (net : Net) (value : ℕ → Outs) (b n : ℕ)
    → position_from (λ r. r == b) 0 (wiring_of net).rings ≡ None
    → shown value (trail_of net (of_signal (Bit b))) n ≡ shown value (trail_of net (of_register b)) n
free_register net value b n free =
    ap (λ t. shown value t n) (trail_of_free net b free ∙ sym (trail_of_register net b))

-- an output of a vertex
pub free_vertex : (net : Net) (value : ℕ → Outs) (b v o n : ℕ)
    → position_from (λ r. r == b) 0 (wiring_of net).rings ≡ None
    → wire_in (wiring_of net).wires b ≡ from_vertex v o
    → shown value (trail_of net (of_signal (Bit b))) n ≡ value n v o
free_vertex net value b v o n free wired =
    ap (λ t. shown value t n) (trail_of_free net b free
    ∙ ap (behind_wire ((wiring_of net).start b) (trail_of net)) wired)
    ∙ shown_ends value (at_vertex v o) n

-- nothing
pub free_undriven : (net : Net) (value : ℕ → Outs) (b n : ℕ)
    → position_from (λ r. r == b) 0 (wiring_of net).rings ≡ None
    → wire_in (wiring_of net).wires b ≡ undriven
    → shown value (trail_of net (of_signal (Bit b))) n ≡ false
free_undriven net value b n free wired =
    ap (λ t. shown value t n) (trail_of_free net b free
    ∙ ap (behind_wire ((wiring_of net).start b) (trail_of net)) wired)
    ∙ shown_ends value (at_bit false) n

-- a bit that a ring buffer takes the place of is that buffer's output
pub ring_bit : (net : Net) (value : ℕ → Outs) (b i n : ℕ)
    → position_from (λ r. r == b) 0 (wiring_of net).rings ≡ Some i
    → shown value (trail_of net (of_signal (Bit b))) n ≡ value n ((wiring_of net).first_buffer + i) 0
ring_bit net value b i n at =
    ap (λ t. shown value t n) (trail_of_ring net b i at)
    ∙ shown_ends value (at_vertex ((wiring_of net).first_buffer + i) 0) n
