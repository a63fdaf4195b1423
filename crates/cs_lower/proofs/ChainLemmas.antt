-- What comes out of the multiplexers before a register is what the register holds next.
use Rattle.std.specs.Prelude.{if◌then◌else◌, not}
use Rattle.std.proofs.Common.{◌≡◌, ℕ, zero, suc, ◌+◌, Bool, true, false, List, [], ◌∷◌, ◌++◌, length, map, Option, Some, None, refl, sym, ap, ◌∙◌}
use Rattle.std.specs.Prelude.{slice_get}
use Rattle.cs_base.specs.declared.signal.Signal.{Signal}
use Rattle.cs_cells.specs.declared.gate.Kind.TheVariants.{Mux}
use Rattle.cs_cells.specs.declared.register.ResetKind.{ResetKind}
use Rattle.cs_cells.specs.Gates.{equation, gate_value}
use Rattle.cs_cells.specs.Registers.{is_active, next_value, value_with_enable, value_with_reset}
use Rattle.cs_net.specs.Drivers.{StateElement}
use Rattle.cs_net.specs.Netlist.{Net}
use Rattle.cs_lower.specs.Registers.{Chain, always, held_tap, mux, never, register_chain, still, with_enable, with_piece, with_reset}
use Rattle.cs_lower.specs.declared.taps.Tap.{Tap}
use Rattle.cs_lower.specs.declared.taps.Tap.TheVariants.{Constant as of_bit, Signal as of_signal, Vertex as of_vertex}
use Rattle.cs_lower.specs.declared.taps.Piece.{Piece}

-- ---- what taps show at one clock

-- constants show themselves, and a select that is still for good shows its bit
pub record ShowsConstants (net : Net) (tap : Tap → Bool) : Type 0 where
  pub bits : (b : Bool) → tap (of_bit b) ≡ b
  pub still_shows : (s : Signal) (b : Bool) → still net s ≡ Some b → tap (of_signal s) ≡ b

-- each vertex of a chain shows what its multiplexer gives
abbrev pub ShowsChain : (Tap → Bool) → Chain → Type 0
ShowsChain tap c =
    (i : ℕ) (p : Piece) → slice_get c.pieces i ≡ Some p
    → tap (of_vertex (c.first + i) 0) ≡ gate_value Mux (map tap p.pins)

-- ---- one multiplexer

pub mux_value : (tap : Tap → Bool) (high : Bool) (off on : Tap) (select : Signal)
    → gate_value Mux (map tap (mux high off on select).pins)
    ≡ (if is_active high (tap (of_signal select)) then tap on else tap off)
unfolding equation
mux_value tap true off on select = refl
mux_value tap false off on select = by (tap (of_signal select))
  where
    by : (bit : Bool)
        → (if bit then tap off else tap on) ≡ (if not bit then tap on else tap off)
    by true = refl
    by false = refl

before_last : (xs : List Piece) (p q : Piece) (i : ℕ) → slice_get xs i ≡ Some q → slice_get (xs ++ p ∷ []) i ≡ Some q
before_last [] p q i stands = cc
before_last (x ∷ xs) p q zero stands = stands
before_last (x ∷ xs) p q (suc i) stands = before_last xs p q i stands

at_last : (xs : List Piece) (p : Piece) → slice_get (xs ++ p ∷ []) (length xs) ≡ Some p
at_last [] p = refl
at_last (x ∷ xs) p = at_last xs p

shows_before : (tap : Tap → Bool) (c : Chain) (p : Piece) → ShowsChain tap (with_piece c p) → ShowsChain tap c
shows_before tap c p shows i q stands = shows i q (before_last c.pieces p q i stands)

last_value : (tap : Tap → Bool) (c : Chain) (p : Piece) → ShowsChain tap (with_piece c p)
    → tap (with_piece c p).last ≡ gate_value Mux (map tap p.pins)
last_value tap c p shows = shows (length c.pieces) p (at_last c.pieces p)

-- ---- enables

-- a select that is active for good
always_active : (net : Net) (tap : Tap → Bool) → ShowsConstants net tap → (high : Bool) (e : Signal)
    → always high (still net e) ≡ true → is_active high (tap (of_signal e)) ≡ true
always_active net tap constants high e is = by (still net e) refl is
  where
    by : (bit : Option Bool) → still net e ≡ bit → always high bit ≡ true
        → is_active high (tap (of_signal e)) ≡ true
    by None same is = cc
    by (Some b) same is = ap (is_active high) (constants.still_shows e b same) ∙ is

-- one that is inactive for good
never_active : (net : Net) (tap : Tap → Bool) → ShowsConstants net tap → (high : Bool) (r : Signal)
    → never high (still net r) ≡ true → is_active high (tap (of_signal r)) ≡ false
never_active net tap constants high r is = by (still net r) refl is
  where
    flip : (active : Bool) → not active ≡ true → active ≡ false
    flip true is = cc
    flip false is = refl

    by : (bit : Option Bool) → still net r ≡ bit → never high bit ≡ true
        → is_active high (tap (of_signal r)) ≡ false
    by None same is = cc
    by (Some b) same is = ap (is_active high) (constants.still_shows r b same) ∙ flip (is_active high b) is

-- the chain before a multiplexer shows what it did, and what comes out is the value with the enable
record Adds (tap : Tap → Bool) (c longer : Chain) (value : Bool → Bool) : Type 0 where
  before : ShowsChain tap c
  last : tap longer.last ≡ value (tap c.last)

enable_adds : (net : Net) (tap : Tap → Bool) → ShowsConstants net tap → (held : Tap) (enable : Option Bool) (e : Signal)
    (c : Chain) → ShowsChain tap (with_enable net held enable e c)
    → Adds tap c (with_enable net held enable e c)
    (value_with_enable enable (tap (of_signal e)) (tap held))
enable_adds net tap constants held None e c shows = record { before = shows; last = refl }
enable_adds net tap constants held (Some high) e c shows = by (always high (still net e)) refl shows
  where
    p : Piece
    p = mux high held c.last e

    by : (out : Bool) → always high (still net e) ≡ out → ShowsChain tap (if out then c else with_piece c p)
        → Adds tap c (if out then c else with_piece c p)
        (value_with_enable (Some high) (tap (of_signal e)) (tap held))
    by true is shows = record {
      before = shows;
      last = sym (ap (λ t. if t then tap c.last else tap held)
          (always_active net tap constants high e is));
    }
    by false is shows = record {
      before = shows_before tap c p shows;
      last = last_value tap c p shows ∙ mux_value tap high held c.last e;
    }

reset_adds : (net : Net) (tap : Tap → Bool) → ShowsConstants net tap → (reset : Option ResetKind) (r : Signal)
    (c : Chain) → ShowsChain tap (with_reset net reset r c)
    → Adds tap c (with_reset net reset r c) (value_with_reset reset (tap (of_signal r)))
reset_adds net tap constants None r c shows = record { before = shows; last = refl }
reset_adds net tap constants (Some reset) r c shows = by (never reset.high (still net r)) refl shows
  where
    p : Piece
    p = mux reset.high c.last (of_bit reset.value) r

    by : (out : Bool) → never reset.high (still net r) ≡ out → ShowsChain tap (if out then c else with_piece c p)
        → Adds tap c (if out then c else with_piece c p) (value_with_reset (Some reset) (tap (of_signal r)))
    by true is shows = record {
      before = shows;
      last = sym (ap (λ t. if t then reset.value else tap c.last)
          (never_active net tap constants reset.high r is));
    }
    by false is shows = record {
      before = shows_before tap c p shows;
      last = last_value tap c p shows ∙ mux_value tap reset.high c.last (of_bit reset.value) r
          ∙ ap (λ value. if is_active reset.high (tap (of_signal r)) then value else tap c.last)
          (constants.bits reset.value);
    }

-- ---- the chain

-- what comes out of the chain is the register's next value
pub chain_value : (net : Net) (tap : Tap → Bool) → ShowsConstants net tap → (n : ℕ) (q : Signal × Bool) (r : StateElement)
    (d : Tap) → ShowsChain tap (register_chain net n q r d)
    → tap (register_chain net n q r d).last
    ≡ next_value r.kind (tap d) (tap (held_tap net n q r)) (tap (of_signal r.enable)) (tap (of_signal r.reset))
unfolding next_value
chain_value net tap constants n q r d shows = by r.kind.enable_over_reset shows
  where
    at_d : Chain
    at_d = record {
      first = n;
      pieces = [];
      last = d;
    }

    by : (over : Bool)
        → ShowsChain tap (if over
        then with_enable net (held_tap net n q r) r.kind.enable r.enable (with_reset net r.kind.reset r.reset at_d)
        else with_reset net r.kind.reset r.reset (with_enable net (held_tap net n q r) r.kind.enable r.enable at_d))
        → tap (if over
        then with_enable net (held_tap net n q r) r.kind.enable r.enable (with_reset net r.kind.reset r.reset at_d)
        else with_reset net r.kind.reset r.reset (with_enable net (held_tap net n q r) r.kind.enable r.enable at_d)).last
        ≡ (if over
        then value_with_enable r.kind.enable (tap (of_signal r.enable)) (tap (held_tap net n q r))
        (value_with_reset r.kind.reset (tap (of_signal r.reset)) (tap d))
        else value_with_reset r.kind.reset (tap (of_signal r.reset))
        (value_with_enable r.kind.enable (tap (of_signal r.enable)) (tap (held_tap net n q r)) (tap d)))
    by true shows =
        let outer = enable_adds net tap constants (held_tap net n q r) r.kind.enable r.enable (with_reset net r.kind.reset r.reset at_d)
        shows in
        let inner = reset_adds net tap constants r.kind.reset r.reset at_d outer.before in
        outer.last
        ∙ ap (value_with_enable r.kind.enable (tap (of_signal r.enable)) (tap (held_tap net n q r))) inner.last
    by false shows =
        let outer = reset_adds net tap constants r.kind.reset r.reset
        (with_enable net (held_tap net n q r) r.kind.enable r.enable at_d) shows in
        let inner = enable_adds net tap constants (held_tap net n q r) r.kind.enable r.enable at_d outer.before in
        outer.last ∙ ap (value_with_reset r.kind.reset (tap (of_signal r.reset))) inner.last
