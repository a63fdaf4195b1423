-- Walks back through registers: what is met, and what has been found.
use Rattle.std.specs.Prelude.{◌≡◌, ◌⊎◌, ◌<◌, ◌≤◌, ◌==◌, nat_eq, nat_le, drop, slice_get, ℕ, zero, suc, List, ◌++◌, Bool, true, length, filter_map, Option, Some, None}
use Rattle.std.specs.List.{IsDistinct, list_all, list_any, position_from}
use Rattle.cs_base.specs.declared.signal.Signal.{Signal}
use Rattle.cs_base.specs.declared.signal.Signal.TheVariants.{Bit}
use Rattle.cs_modules.specs.Signals.{number_in}
use Rattle.cs_net.specs.Drivers.{own_start}
use Rattle.cs_net.specs.Netlist.{Net}
use Rattle.cs_lower.specs.Followed.{Wiring}
use Rattle.cs_lower.specs.Lowered.{trail_of, wiring_of}
use Rattle.cs_lower.specs.Reaches.{found, reach_of}
use Rattle.cs_lower.specs.Rings.{bit_behind, is_ring, met}
use Rattle.cs_lower.specs.declared.reaches.Reach.{Reach}
use Rattle.cs_lower.specs.declared.taps.Tap.TheVariants.{Signal as of_signal}
use Rattle.cs_lower.specs.declared.taps.Wire.{Wire}
use Rattle.cs_lower.specs.declared.taps.Wire.TheVariants.{Undriven as undriven}
use Rattle.cs_lower.specs.Starts.{first_value}
use Rattle.cs_lower.specs.Wires.{wire_in}

-- the bit behind so many registers
abbrev pub back : List (Signal × Wire) → ℕ → Option ℕ → Option ℕ
back wires zero b = b
back wires (suc k) None = None
back wires (suc k) (Some b) = back wires k (bit_behind (wire_in wires b))

-- the bits of wires
abbrev pub numbers : List (Signal × Wire) → List ℕ
numbers wires = filter_map (λ w. number_in w.0) wires

-- ---- the search for rings

-- the least of some numbers
abbrev pub IsLeast : ℕ → List ℕ → Type 0
IsLeast m bits = (list_any (λ a. a == m) bits ≡ true) × (list_all (λ a. nat_le m a) bits ≡ true)

-- every bit that stands for a ring and is met from this one, itself among them, is found
abbrev pub AreFound : List (Signal × Wire) → (ℕ → Bool) → ℕ → Type 0
AreFound wires least b =
    (k r : ℕ) → back wires k (Some b) ≡ Some r → is_ring wires r ≡ true → least r ≡ true

-- the bits are of wires
abbrev pub AreWired : List (Signal × Wire) → List ℕ → Type 0
AreWired wires bits = (b : ℕ) → list_any (nat_eq b) bits ≡ true → list_any (nat_eq b) (numbers wires) ≡ true

-- bits that are put down: none twice, and each is of a wire
pub record AreDown (wires : List (Signal × Wire)) (bits : List ℕ) : Type 0 where
  pub distinct : IsDistinct nat_eq bits
  pub wired : AreWired wires bits

-- a walk back from a bit puts those that it meets behind the old ones, up to where it stops
pub record IsWalk (wires : List (Signal × Wire)) (old : List ℕ) (from : ℕ) (new : List ℕ) (stop : ℕ) : Type 0 where
  pub steps : ℕ
  pub bits : new ≡ old ++ met wires steps (Some from)
  pub reached : back wires steps (Some from) ≡ Some stop

-- it stops at a bit that was put down, or that no bit is behind
abbrev pub IsStopped : List (Signal × Wire) → List ℕ → ℕ → Type 0
IsStopped wires bits stop = (list_any (nat_eq stop) bits ≡ true) ⊎ (bit_behind (wire_in wires stop) ≡ None)

-- what stands at every bit that was passed: its rings are found, and what is found stands for a ring
pub record IsSearched (wires : List (Signal × Wire)) (passed : List ℕ) (least : ℕ → Bool) : Type 0 where
  pub down : AreDown wires passed
  pub found : (b : ℕ) → list_any (nat_eq b) passed ≡ true → AreFound wires least b
  pub rings : (r : ℕ) → least r ≡ true → is_ring wires r ≡ true

-- what was found stays found
abbrev pub KeepsFound : (ℕ → Bool) → (ℕ → Bool) → Type 0
KeepsFound old new = (r : ℕ) → old r ≡ true → new r ≡ true

-- the bit stands among the others at a place, not before this one, and m is the least from there on
pub record ClosesAt (start : ℕ) (stop : ℕ) (bits : List ℕ) (m : ℕ) : Type 0 where
  pub place : ℕ
  pub own : start ≤ place
  pub stands : slice_get bits place ≡ Some stop
  pub least : IsLeast m (drop place bits)

-- ---- paths that no ring buffer cuts

-- the bit behind k registers is passed in its turn
pub record IsPassed (w : Wiring) (k : ℕ) (b : Option ℕ) : Type 0 where
  pub bit : ℕ
  pub reached : back w.wires k b ≡ Some bit
  pub free : position_from (λ r. r == bit) 0 w.rings ≡ None
  pub driven : wire_in w.wires bit ≡ undriven → ⊥

abbrev pub Passes : Wiring → ℕ → Option ℕ → Type 0
Passes w n b = (k : ℕ) → k < n → IsPassed w k b

-- the bits that are passed from one bit up to another, which isn't among them
pub record IsPath (w : Wiring) (from : ℕ) (path : List ℕ) (stop : ℕ) : Type 0 where
  pub bits : path ≡ met w.wires (length path) (Some from)
  pub reached : back w.wires (length path) (Some from) ≡ Some stop
  pub passes : Passes w (length path) (Some from)

-- ---- the table of reaches

-- how far the signal of a bit reaches
abbrev pub bit_reach : Net → ℕ → Reach
bit_reach net b = reach_of (trail_of net (of_signal (Bit b)))

-- what the table has is right, and it has each bit that a ring buffer takes the place of
pub record AreReaches (net : Net) (table : ℕ → Option Reach) : Type 0 where
  pub known : (b : ℕ) (r : Reach) → table b ≡ Some r → r ≡ bit_reach net b
  pub rings : (b : ℕ) → table b ≡ None → position_from (λ r. r == b) 0 (wiring_of net).rings ≡ None

-- the table has no fewer bits than before
abbrev pub Grows : (ℕ → Option Reach) → (ℕ → Option Reach) → Type 0
Grows old new = (b : ℕ) → new b ≡ None → old b ≡ None

-- it has all of these bits
abbrev pub AreNoted : (ℕ → Option Reach) → List ℕ → Type 0
AreNoted table bits = (b : ℕ) → list_any (λ a. a == b) bits ≡ true → table b ≡ None → ⊥

-- the reach of the bit behind a path is noted
pub record IsNoting (net : Net) (table : ℕ → Option Reach) (from : ℕ) (path : List ℕ) (reach : Reach) : Type 0 where
  pub behind : ℕ
  pub path_to : IsPath (wiring_of net) from path behind
  pub reaches : AreReaches net table
  pub noted : table behind ≡ Some reach

-- what is kept of a netlist to follow its pins at once: the start of each bit, the ring buffers, and the reaches
pub record IsFollowed (net : Net) (start : ℕ → Option Bool) (rings : List ℕ) (table : ℕ → Option Reach) : Type 0 where
  pub starts : (b : ℕ) → start b ≡ first_value (own_start net).bits b
  pub buffers : rings ≡ (wiring_of net).rings
  pub reaches : (b : ℕ) → found (table b) ≡ bit_reach net b
