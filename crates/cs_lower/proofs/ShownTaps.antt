-- What taps show clock by clock in a run of the graph of a netlist: constants, signals, outputs of vertices, registers.
use Rattle.std.specs.Prelude.{◌==◌, option_map, slice_get}
use Rattle.std.proofs.Common.{◌≡◌, ℕ, ◌+◌, ◌<◌, Bool, true, false, List, [], ◌∷◌, map, Option, Some, None, refl, ap, ◌∙◌}
use Rattle.std.specs.List.{position_from}
use Rattle.std.proofs.lemmas.Option.{slice_get-map}
use Rattle.cs_base.specs.declared.signal.Signal.{Signal}
use Rattle.cs_base.specs.declared.signal.Signal.TheVariants.{Zero, One, Unknown, HighZ, Bit}
use Rattle.cs_cells.specs.declared.gate.Kind.TheVariants.{Buf}
use Rattle.cs_cells.specs.Gates.{equation, gate_value}
use Rattle.cs_cells.specs.Memories.{Words}
use Rattle.cs_graph.specs.Run.{Outs, Row, RunsFor}
use Rattle.cs_net.specs.Netlist.{Net}
use Rattle.cs_net.specs.Trace.{Valuation, signal_value}
use Rattle.cs_lower.specs.declared.taps.End.TheVariants.{Constant as at_bit, Vertex as at_vertex}
use Rattle.cs_lower.specs.Lowered.{buffer, lowered, pieces_of, wiring_of}
use Rattle.cs_lower.specs.Meaning.{shown}
use Rattle.cs_lower.specs.Rings.{rings}
use Rattle.cs_lower.specs.declared.taps.Tap.{Tap}
use Rattle.cs_lower.specs.declared.taps.Tap.TheVariants.{Constant as of_bit, Register as of_register, Signal as of_signal, Vertex as of_vertex}
use Rattle.cs_lower.specs.declared.taps.Wire.{Wire}
use Rattle.cs_lower.specs.declared.taps.Wire.TheVariants.{Register as from_register}
use Rattle.cs_lower.specs.Wires.{parts_of, wire_in}
use Rattle.cs_lower.proofs.MeaningLemmas.{shown_ends}
use Rattle.cs_lower.proofs.PieceValues.{gate_gives}
use Rattle.cs_graph.proofs.Lists.{get_right}
use Rattle.cs_lower.proofs.RegisterTrails.{free_register, ring_bit}
use Rattle.cs_lower.proofs.RingBits.{ring_register}
use Rattle.cs_lower.proofs.SeenLemmas.{shows}
use Rattle.cs_lower.proofs.TrailLemmas.{trail_step}

-- what each bit of the netlist shows at clock n
abbrev pub shown_bits : Net → (ℕ → Outs) → ℕ → Valuation
shown_bits net value n b = shows net value n (of_signal (Bit b))

module _ (net : Net) (value : ℕ → Outs) (n : ℕ) where
  pub shown_bit : (b : Bool) → shows net value n (of_bit b) ≡ b
  shown_bit b = ap (λ t. shown value t n) (trail_step net (of_bit b)) ∙ shown_ends value (at_bit b) n

  pub shown_vertex : (v o : ℕ) → shows net value n (of_vertex v o) ≡ value n v o
  shown_vertex v o = ap (λ t. shown value t n) (trail_step net (of_vertex v o)) ∙ shown_ends value (at_vertex v o) n

  -- a signal shows its value
  pub shown_signal : (s : Signal) → shows net value n (of_signal s) ≡ signal_value (shown_bits net value n) s
  shown_signal Zero = ap (λ t. shown value t n) (trail_step net (of_signal Zero)) ∙ shown_ends value (at_bit false) n
  shown_signal One = ap (λ t. shown value t n) (trail_step net (of_signal One)) ∙ shown_ends value (at_bit true) n
  shown_signal Unknown = ap (λ t. shown value t n) (trail_step net (of_signal Unknown)) ∙ shown_ends value (at_bit false) n
  shown_signal HighZ = ap (λ t. shown value t n) (trail_step net (of_signal HighZ)) ∙ shown_ends value (at_bit false) n
  shown_signal (Bit b) = refl

-- ---- rings

-- a bit that no register drives has no buffer in its place
pub no_ring : (wires : List (Signal × Wire)) (b : ℕ) → ((d : Tap) → wire_in wires b ≡ from_register d → ⊥)
    → position_from (λ r. r == b) 0 (rings wires) ≡ None
no_ring wires b other = by (position_from (λ r. r == b) 0 (rings wires)) refl
  where
    by : (place : Option ℕ) → position_from (λ r. r == b) 0 (rings wires) ≡ place → place ≡ None
    by None is = refl
    by (Some i) is = let found = ring_register wires b i is in absurd (other found.1.0 found.1.1)

buffer_piece : (net : Net) (b i : ℕ) → slice_get (wiring_of net).rings i ≡ Some b
    → slice_get (pieces_of net) ((wiring_of net).first_buffer + i) ≡ Some (buffer b)
buffer_piece net b i at =
    get_right (parts_of net).pieces (map buffer (wiring_of net).rings) ((wiring_of net).first_buffer + i) i refl
    ∙ slice_get-map buffer (wiring_of net).rings i ∙ ap (option_map buffer) at

buf_value : (b : Bool) → gate_value Buf (b ∷ []) ≡ b
unfolding equation
buf_value b = refl

module _ (net : Net) (bounded : Bool) (clocks : ℕ) (row : ℕ → Row) (value : ℕ → Outs) (words : ℕ → ℕ
    → Words) (run : RunsFor bounded (lowered net) clocks row value words)
  where
    -- a register's bit shows what the register does, with a buffer in its place or without
    pub shown_register : (n : ℕ) → n < clocks → (b : ℕ) → shown_bits net value n b ≡ shows net value n (of_register b)
    shown_register n h b = by (position_from (λ r. r == b) 0 (wiring_of net).rings) refl
      where
        by : (place : Option ℕ) → position_from (λ r. r == b) 0 (wiring_of net).rings ≡ place
            → shown_bits net value n b ≡ shows net value n (of_register b)
        by None free = free_register net value b n free
        by (Some i) at =
            let found = ring_register (wiring_of net).wires b i at in
            ring_bit net value b i n at
            ∙ gate_gives net bounded clocks row value words run n h ((wiring_of net).first_buffer + i) 0 (buffer b) Buf
            (buffer_piece net b i found.0) refl
            ∙ buf_value (shows net value n (of_register b))
