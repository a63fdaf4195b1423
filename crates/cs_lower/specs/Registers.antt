-- The multiplexers that stand before a register with an enable and a reset.
use Rattle.std.specs.Prelude.{◌≡◌, ℕ, ◌+◌, List, [], ◌∷◌, ◌++◌, Bool, true, false, not, if◌then◌else◌, length, Option, Some, None, is_some}
use Rattle.cs_base.specs.declared.signal.Signal.{Signal}
use Rattle.cs_base.specs.declared.signal.Signal.TheVariants.{Zero, One, Unknown, HighZ, Bit}
use Rattle.cs_cells.specs.declared.gate.Kind.TheVariants.{Mux}
use Rattle.cs_cells.specs.declared.register.ResetKind.{ResetKind}
use Rattle.cs_cells.specs.Registers.{is_active}
use Rattle.cs_graph.specs.declared.vertex.VertexKind.TheVariants.{Gate}
use Rattle.cs_net.specs.Drivers.{Driver, Source, StateElement, driver_of, gate, input, register, undriven, word_bit}
use Rattle.cs_net.specs.Netlist.{Net}
use Rattle.cs_lower.specs.declared.taps.Tap.{Tap}
use Rattle.cs_lower.specs.declared.taps.Tap.TheVariants.{Constant as of_bit, Held as of_held, Signal as of_signal, Vertex as of_vertex}
use Rattle.cs_lower.specs.declared.taps.Wire.TheVariants.{Register as from_register}
use Rattle.cs_lower.specs.declared.taps.Piece.{Piece}
use Rattle.cs_lower.specs.declared.registers.RegisterPins.{RegisterPins}
use Rattle.cs_lower.specs.declared.taps.Parts.{Parts}
use Rattle.cs_lower.specs.Taps.{piece, with_pieces}

-- ---- selects that never change

abbrev pub still_driver : Driver → Option Bool
still_driver undriven = Some false
still_driver (input i) = None
still_driver (gate kind pins) = None
still_driver (word_bit w) = None
still_driver (register r) = None

-- something drives a bit
abbrev pub is_driven : Net → ℕ → Bool
is_driven net b = not (is_some (still_driver (driver_of net b)))

-- the bit that a constant, or a bit that nothing drives, stands for
abbrev pub still : Net → Signal → Option Bool
still net Zero = Some false
still net One = Some true
still net Unknown = Some false
still net HighZ = Some false
still net (Bit b) = still_driver (driver_of net b)

-- a select that is active for good, and one that is inactive for good
abbrev pub always : Bool → Option Bool → Bool
always high None = false
always high (Some bit) = is_active high bit

abbrev pub never : Bool → Option Bool → Bool
never high None = false
never high (Some bit) = not (is_active high bit)

-- a pin's signal, where a register has what the pin is for; else 0
abbrev pub signal_for : {A : Type 0} → Option A → Signal → Signal
signal_for None s = Zero
signal_for (Some has) s = s

-- ---- multiplexers

-- what comes out of vertices that follow one another, the first of which has the number `first`
pub record Chain : Type 0 where
  pub first : ℕ
  pub pieces : List Piece
  pub last : Tap

-- a chain without vertices
abbrev pub no_chain : ℕ → Tap → Chain
no_chain n d = record { first = n; pieces = []; last = d }

-- a chain with one more vertex
abbrev pub with_piece : Chain → Piece → Chain
with_piece c p = record { first = c.first; pieces = c.pieces ++ p ∷ []; last = of_vertex (c.first + length c.pieces) 0 }

-- a `$_MUX_` that gives `on` where the select is active, else `off`
abbrev pub mux : Bool → Tap → Tap → Signal → Piece
mux high off on select =
    piece (Gate Mux) (if high then off ∷ on ∷ of_signal select ∷ [] else on ∷ off ∷ of_signal select ∷ [])

-- a register that keeps what it holds while its enable is inactive
abbrev pub with_enable : Net → Tap → Option Bool → Signal → Chain → Chain
with_enable net held None e c = c
with_enable net held (Some high) e c = if always high (still net e) then c else with_piece c (mux high held c.last e)

-- a register that takes its reset value while its reset is active
abbrev pub with_reset : Net → Option ResetKind → Signal → Chain → Chain
with_reset net None r c = c
with_reset net (Some reset) r c =
    if never reset.high (still net r) then c else with_piece c (mux reset.high c.last (of_bit reset.value) r)

-- how many multiplexers a reset makes
abbrev pub reset_count : Net → Option ResetKind → Signal → ℕ
reset_count net None r = 0
reset_count net (Some reset) r = if never reset.high (still net r) then 0 else 1

-- where a register's bit Q is a text, a register of its own with that start, behind vertex v
abbrev pub held_of : ℕ → Bool → Signal → Tap
held_of v start Zero = of_held v start
held_of v start One = of_held v start
held_of v start Unknown = of_held v start
held_of v start HighZ = of_held v start
held_of v start (Bit b) = of_signal (Bit b)

-- what a register holds that drives such a signal, with the start that it has where this is a text; its multiplexers
-- begin at vertex n, and that of its enable is among them
abbrev pub held_tap : Net → ℕ → Signal × Bool → StateElement → Tap
held_tap net n q r = held_of (n + reset_count net r.kind.reset r.reset) q.1 q.0

-- the multiplexers before the register of a bit Q, from what it has at D: that which goes first is nearer D
abbrev pub register_chain : Net → ℕ → Signal × Bool → StateElement → Tap → Chain
register_chain net n q r d =
    if r.kind.enable_over_reset
    then with_enable net (held_tap net n q r) r.kind.enable r.enable (with_reset net r.kind.reset r.reset (no_chain n d))
    else with_reset net r.kind.reset r.reset (with_enable net (held_tap net n q r) r.kind.enable r.enable (no_chain n d))

-- the vertices of a register, which drives Q
abbrev pub register_parts : Net → ℕ → Signal × Bool → StateElement → Tap → Parts
register_parts net n q r d =
    let c = register_chain net n q r d in
    record { pieces = c.pieces; wires = (q.0, from_register c.last) ∷ [] }

-- a register of these pins, whatever it has at D
abbrev pub element_of : Source → RegisterPins → StateElement
element_of source pins = record { kind = pins.kind; source = source; enable = pins.enable; reset = pins.reset }

-- the parts with the vertices of a chain behind the others, and what comes out of it
abbrev pub IsPushed : Parts → Chain → Parts → Tap → Type 0
IsPushed old c new last = (new ≡ with_pieces old c.pieces) × (last ≡ c.last)
