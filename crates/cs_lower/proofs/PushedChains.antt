-- The multiplexers of a register, pushed one after another.
use Rattle.std.proofs.Common.{◌≡◌, ℕ, ◌+◌, Bool, true, false, [], ◌∷◌, ◌++◌, length, Option, Some, None, if◌then◌else◌, refl, sym, ap, ap₂, subst, ◌∙◌, arith, length-append}
use Rattle.std.proofs.lemmas.List.{append-nil, append_assoc}
use Rattle.cs_base.specs.declared.signal.Signal.{Signal}
use Rattle.cs_cells.specs.declared.register.ResetKind.{ResetKind}
use Rattle.cs_net.specs.Drivers.{Source}
use Rattle.cs_net.specs.Netlist.{Net}
use Rattle.cs_lower.specs.declared.registers.RegisterPins.{RegisterPins}
use Rattle.cs_lower.specs.declared.taps.Parts.{Parts}
use Rattle.cs_lower.specs.declared.taps.Piece.{Piece}
use Rattle.cs_lower.specs.declared.taps.Tap.{Tap}
use Rattle.cs_lower.specs.declared.taps.Tap.TheVariants.{Constant as of_bit, Vertex as of_vertex}
use Rattle.cs_lower.specs.declared.taps.Wire.TheVariants.{Register as from_register}
use Rattle.cs_lower.specs.Registers.{Chain, IsPushed, always, element_of, held_tap, mux, never, no_chain, register_chain, still, with_enable, with_piece, with_reset}
use Rattle.cs_lower.specs.Taps.{both, with_pieces, with_wire}

-- a chain that goes on by another
abbrev joined : Chain → Chain → Chain
joined c d = record { first = c.first; pieces = c.pieces ++ d.pieces; last = d.last }

-- what comes next of a chain
abbrev rest_of : Chain → Chain
rest_of c = no_chain (c.first + length c.pieces) c.last

no_more : (c : Chain) → c ≡ joined c (rest_of c)
no_more c = ap (λ pieces. let d : Chain = record { first = c.first; pieces = pieces; last = c.last } in d) (sym (append-nil c.pieces))

one_more : (c : Chain) (p : Piece) → with_piece c p ≡ joined c (with_piece (rest_of c) p)
one_more c p =
    ap (λ n. let d : Chain = record { first = c.first; pieces = c.pieces ++ p ∷ []; last = of_vertex n 0 } in d) (omega arith)

maybe_more : (out : Bool) (c : Chain) (p : Tap → Piece)
    → (if out then c else with_piece c (p c.last))
    ≡ joined c (if out then rest_of c else with_piece (rest_of c) (p c.last))
maybe_more true c p = no_more c
maybe_more false c p = one_more c (p c.last)

enable_goes_on : (net : Net) (held : Tap) (e : Signal) (enable : Option Bool) (c : Chain)
    → with_enable net held enable e c ≡ joined c (with_enable net held enable e (rest_of c))
enable_goes_on net held e None c = no_more c
enable_goes_on net held e (Some high) c = maybe_more (always high (still net e)) c (λ last. mux high held last e)

reset_goes_on : (net : Net) (r : Signal) (reset : Option ResetKind) (c : Chain)
    → with_reset net reset r c ≡ joined c (with_reset net reset r (rest_of c))
reset_goes_on net r None c = no_more c
reset_goes_on net r (Some reset) c =
    maybe_more (never reset.high (still net r)) c (λ last. mux reset.high last (of_bit reset.value) r)

-- ---- pushed

enable_first : (net : Net) (held : Tap) (e : Signal) (enable : Option Bool) (n : ℕ) (d : Tap)
    → (with_enable net held enable e (no_chain n d)).first ≡ n
enable_first net held e None n d = refl
enable_first net held e (Some high) n d = by (always high (still net e))
  where
    by : (out : Bool) → (if out then no_chain n d else with_piece (no_chain n d) (mux high held d e)).first ≡ n
    by true = refl
    by false = refl

reset_first : (net : Net) (r : Signal) (reset : Option ResetKind) (n : ℕ) (d : Tap)
    → (with_reset net reset r (no_chain n d)).first ≡ n
reset_first net r None n d = refl
reset_first net r (Some reset) n d = by (never reset.high (still net r))
  where
    by : (out : Bool) → (if out then no_chain n d else with_piece (no_chain n d) (mux reset.high d (of_bit reset.value) r)).first ≡ n
    by true = refl
    by false = refl

goes_on : (step : Chain → Chain) → ((c : Chain) → step c ≡ joined c (step (rest_of c)))
    → (old middle new : Parts) (c : Chain) (last end : Tap) → c.first ≡ length old.pieces → IsPushed old c middle last
    → IsPushed middle (step (no_chain (length middle.pieces) last)) new end → IsPushed old (step c) new end
goes_on step joins old middle new c last end first start next =
    let there : no_chain (length middle.pieces) last ≡ rest_of c =
    ap₂ no_chain (ap (λ (p : Parts). length p.pieces) start.0 ∙ length-append old.pieces c.pieces
    ∙ ap (λ n. n + length c.pieces) (sym first)) start.1 in
    let more = step (rest_of c) in (
      next.0 ∙ ap (λ d. with_pieces middle (step d).pieces) there ∙ ap (λ p. with_pieces p more.pieces) start.0
          ∙ ap (λ pieces. let p : Parts = record { pieces = pieces; wires = old.wires } in p) (append_assoc old.pieces c.pieces more.pieces)
          ∙ sym (ap (λ (d : Chain). with_pieces old d.pieces) (joins c)),
      next.1 ∙ ap (λ d. (step d).last) there ∙ sym (ap (λ (d : Chain). d.last) (joins c)),
    )

-- an enable after a reset
pub enable_after : (net : Net) (held : Tap) (e r : Signal) (enable : Option Bool) (reset : Option ResetKind) (old middle new : Parts) (d last end : Tap)
    → IsPushed old (with_reset net reset r (no_chain (length old.pieces) d)) middle last
    → IsPushed middle (with_enable net held enable e (no_chain (length middle.pieces) last)) new end
    → IsPushed old (with_enable net held enable e (with_reset net reset r (no_chain (length old.pieces) d))) new end
enable_after net held e r enable reset old middle new d last end start next =
    goes_on (with_enable net held enable e) (enable_goes_on net held e enable) old middle new
    (with_reset net reset r (no_chain (length old.pieces) d)) last end (reset_first net r reset (length old.pieces) d) start next

-- a reset after an enable
pub reset_after : (net : Net) (held : Tap) (e r : Signal) (enable : Option Bool) (reset : Option ResetKind) (old middle new : Parts) (d last end : Tap)
    → IsPushed old (with_enable net held enable e (no_chain (length old.pieces) d)) middle last
    → IsPushed middle (with_reset net reset r (no_chain (length middle.pieces) last)) new end
    → IsPushed old (with_reset net reset r (with_enable net held enable e (no_chain (length old.pieces) d))) new end
reset_after net held e r enable reset old middle new d last end start next =
    goes_on (with_reset net reset r) (reset_goes_on net r reset) old middle new
    (with_enable net held enable e (no_chain (length old.pieces) d)) last end (enable_first net held e enable (length old.pieces) d) start next

-- ---- registers

-- where the tap that the enable's mux reads is what the register holds
module _ (net : Net) (source : Source) (pins : RegisterPins) (old middle new : Parts) (d last end held : Tap)
    (is : held ≡ held_tap net (length old.pieces) (pins.q, pins.start) (element_of source pins))
  where
    abbrev own : Tap
    own = held_tap net (length old.pieces) (pins.q, pins.start) (element_of source pins)

    abbrev at_d : Chain
    at_d = no_chain (length old.pieces) d

    pub reset_then_enable : pins.kind.enable_over_reset ≡ true
        → IsPushed old (with_reset net pins.kind.reset pins.reset (no_chain (length old.pieces) d)) middle last
        → IsPushed middle (with_enable net held pins.kind.enable pins.enable (no_chain (length middle.pieces) last)) new end
        → IsPushed old (register_chain net (length old.pieces) (pins.q, pins.start) (element_of source pins) d) new end
    reset_then_enable over start next =
        let here = subst (λ h. IsPushed middle
        (with_enable net h pins.kind.enable pins.enable (no_chain (length middle.pieces) last)) new end) is next in
        subst (λ (o : Bool). IsPushed old (if o
        then with_enable net own pins.kind.enable pins.enable (with_reset net pins.kind.reset pins.reset at_d)
        else with_reset net pins.kind.reset pins.reset (with_enable net own pins.kind.enable pins.enable at_d)) new end)
        (sym over)
        (enable_after net own pins.enable pins.reset pins.kind.enable pins.kind.reset old middle new d last end start here)

    pub enable_then_reset : pins.kind.enable_over_reset ≡ false
        → IsPushed old (with_enable net held pins.kind.enable pins.enable (no_chain (length old.pieces) d)) middle last
        → IsPushed middle (with_reset net pins.kind.reset pins.reset (no_chain (length middle.pieces) last)) new end
        → IsPushed old (register_chain net (length old.pieces) (pins.q, pins.start) (element_of source pins) d) new end
    enable_then_reset over start next =
        let here = subst (λ h. IsPushed old
        (with_enable net h pins.kind.enable pins.enable (no_chain (length old.pieces) d)) middle last) is start in
        subst (λ (o : Bool). IsPushed old (if o
        then with_enable net own pins.kind.enable pins.enable (with_reset net pins.kind.reset pins.reset at_d)
        else with_reset net pins.kind.reset pins.reset (with_enable net own pins.kind.enable pins.enable at_d)) new end)
        (sym over)
        (reset_after net own pins.enable pins.reset pins.kind.enable pins.kind.reset old middle new d last end here next)

-- the wire of a register follows its vertices
pub register_pushed : (old middle new : Parts) (c : Chain) (q : Signal) (last : Tap) → IsPushed old c middle last
    → new ≡ with_wire middle q (from_register last)
    → new ≡ both old (record { pieces = c.pieces; wires = (q, from_register c.last) ∷ [] })
register_pushed old middle new c q last pushed driven =
    driven ∙ ap₂ (λ m t. with_wire m q (from_register t)) pushed.0 pushed.1
