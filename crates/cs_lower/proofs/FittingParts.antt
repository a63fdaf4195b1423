-- Vertices that fit: each has the pins and the memory of its kind, and reads outputs of vertices before it.
use Rattle.std.specs.Prelude.{if◌then◌else◌, slice_get}
use Rattle.std.proofs.Common.{◌≡◌, ℕ, ◌+◌, ◌<◌, ◌≤◌, Bool, true, false, List, [], ◌∷◌, ◌++◌, length, map, Option, Some, None, refl, ap, subst, ◌∙◌, arith, length-append}
use Rattle.std.specs.List.{AllByRecursion}
use Rattle.cs_base.specs.declared.signal.Signal.{Signal}
use Rattle.cs_base.specs.declared.signal.Signal.TheVariants.{Zero, One, Unknown, HighZ, Bit}
use Rattle.cs_cells.specs.declared.register.ResetKind.{ResetKind}
use Rattle.cs_graph.specs.declared.vertex.VertexKind.TheVariants.{Host}
use Rattle.cs_graph.specs.Invariant.{HasMemory}
use Rattle.cs_graph.specs.Kinds.{output_count, pin_count}
use Rattle.cs_net.specs.Drivers.{StateElement}
use Rattle.cs_net.specs.Netlist.{Net}
use Rattle.cs_net.proofs.Members.{append_all}
use Rattle.cs_lower.specs.Lowered.{draft_of}
use Rattle.cs_lower.specs.Registers.{Chain, always, held_of, held_tap, mux, never, no_chain, register_chain, register_parts, reset_count, still, with_enable, with_piece, with_reset}
use Rattle.cs_lower.specs.declared.taps.Tap.{Tap}
use Rattle.cs_lower.specs.declared.taps.Tap.TheVariants.{Constant as of_bit, Held as of_held, Register as of_register, Signal as of_signal, Vertex as of_vertex}
use Rattle.cs_lower.specs.declared.taps.Wire.{Wire}
use Rattle.cs_lower.specs.declared.taps.Wire.TheVariants.{Register as from_register, Vertex as from_vertex, Undriven as undriven}
use Rattle.cs_lower.specs.declared.taps.Piece.{Piece}
use Rattle.cs_lower.specs.declared.taps.Parts.{Parts}
use Rattle.cs_lower.specs.Taps.{both, in_turn}
use Rattle.cs_lower.specs.Wires.{parts_of}
use Rattle.cs_lower.proofs.MatchLists.{StandsIn}
use Rattle.cs_lower.proofs.StandLemmas.{part_first, part_left, part_right}

-- ---- what fits

-- vertex v has an output of this number
pub record Gives (net : Net) (v o : ℕ) : Type 0 where
  pub vertex : Piece
  pub stands : slice_get (parts_of net).pieces v ≡ Some vertex
  pub among : o < output_count (draft_of net).memories vertex.kind

-- a tap of a vertex is an output of one before vertex n, and a register's own vertex is there
abbrev pub IsBefore : Net → ℕ → Tap → Type 0
IsBefore net n (of_signal s) = Unit {0}
IsBefore net n (of_vertex v o) = (v < n) × Gives net v o
IsBefore net n (of_bit b) = Unit {0}
IsBefore net n (of_register b) = ⊥
IsBefore net n (of_held v start) = Gives net v 0

-- a vertex of number n has the pins and the memory of its kind, reads vertices before it, and is the Host first alone
pub record Fits (net : Net) (n : ℕ) (p : Piece) : Type 0 where
  pub count : length p.pins ≡ pin_count (draft_of net).memories p.kind
  pub there : HasMemory (draft_of net).memories p.kind
  pub taps : AllByRecursion (IsBefore net n) p.pins
  pub host : p.kind ≡ Host → n ≡ 0

-- all of these fit by their numbers, n and on
abbrev pub FitFrom : Net → ℕ → List Piece → Type 0
FitFrom net n [] = Unit {0}
FitFrom net n (p ∷ pieces) = Fits net n p × FitFrom net (n + 1) pieces

-- what drives a bit is there
abbrev pub IsThere : Net → Wire → Type 0
IsThere net undriven = Unit {0}
IsThere net (from_vertex v o) = Gives net v o
IsThere net (from_register t) = (n : ℕ) × IsBefore net n t

pub record PartsFit (net : Net) (n : ℕ) (parts : Parts) : Type 0 where
  pub pieces : FitFrom net n parts.pieces
  pub wires : AllByRecursion (λ w. IsThere net w.1) parts.wires

-- ---- parts that follow one another

pub fit_append : (net : Net) (n : ℕ) (xs ys : List Piece) → FitFrom net n xs → FitFrom net (n + length xs) ys
    → FitFrom net n (xs ++ ys)
fit_append net n [] ys first rest =
    let same : n + length {A = Piece} [] ≡ n = omega arith in subst (λ k. FitFrom net k ys) same rest
fit_append net n (x ∷ xs) ys first rest =
    let same : n + length (x ∷ xs) ≡ (n + 1) + length xs = omega arith in
    (first.0, fit_append net (n + 1) xs ys first.1 (subst (λ k. FitFrom net k ys) same rest))

pub fit_both : (net : Net) (n : ℕ) (a b : Parts) → PartsFit net n a → PartsFit net (n + length a.pieces) b
    → PartsFit net n (both a b)
fit_both net n a b first rest = record {
  pieces = fit_append net n a.pieces b.pieces first.pieces rest.pieces;
  wires = append_all (λ w. IsThere net w.1) a.wires b.wires first.wires rest.wires;
}

-- each part fits where it stands, at number m or later
pub fit_in_turn : {A : Type 0} (net : Net) (m : ℕ) (parts : ℕ → A → Parts) (n : ℕ) (xs : List A) → m ≤ n
    → AllByRecursion (λ x. (k : ℕ) → m ≤ k → StandsIn net k (parts k x).pieces → PartsFit net k (parts k x)) xs
    → StandsIn net n (in_turn parts n xs).pieces → PartsFit net n (in_turn parts n xs)
fit_in_turn net m parts n [] most each stands = record { pieces = tt; wires = tt }
fit_in_turn net m parts n (x ∷ xs) most each stands =
    let here : Parts = parts n x in
    let rest : Parts = in_turn parts (n + length here.pieces) xs in
    fit_both net n here rest (each.0 n most (part_left (parts_of net).pieces n here.pieces rest.pieces stands))
    (fit_in_turn net m parts (n + length here.pieces) xs (omega (arith, most)) each.1
    (part_right (parts_of net).pieces n here.pieces rest.pieces stands))

-- ---- taps

pub later : (net : Net) (n m : ℕ) (t : Tap) → n ≤ m → IsBefore net n t → IsBefore net m t
later net n m (of_signal s) most before = tt
later net n m (of_vertex v o) most before = let less = before.0 in (omega (arith, less, most), before.1)
later net n m (of_bit b) most before = tt
later net n m (of_register b) most before = absurd before
later net n m (of_held v start) most before = before

pub signals_before : (net : Net) (n : ℕ) (signals : List Signal)
    → AllByRecursion (IsBefore net n) (map of_signal signals)
signals_before net n [] = tt
signals_before net n (s ∷ signals) = (tt, signals_before net n signals)

-- ---- registers

-- the multiplexers so far fit, from number n on, and so does what comes out
record ChainFits (net : Net) (n : ℕ) (c : Chain) : Type 0 where
  first : c.first ≡ n
  pieces : FitFrom net n c.pieces
  last : IsBefore net (n + length c.pieces) c.last

mux_taps : (net : Net) (n : ℕ) (high : Bool) (off on : Tap) (select : Signal) → IsBefore net n off → IsBefore net n on
    → AllByRecursion (IsBefore net n) (mux high off on select).pins
mux_taps net n true off on select first second = (first, (second, (tt, tt)))
mux_taps net n false off on select first second = (second, (first, (tt, tt)))

mux_count : (high : Bool) (off on : Tap) (select : Signal) → length (mux high off on select).pins ≡ 3
mux_count true off on select = refl
mux_count false off on select = refl

mux_fits : (net : Net) (n : ℕ) (high : Bool) (off on : Tap) (select : Signal) → IsBefore net n off → IsBefore net n on
    → Fits net n (mux high off on select)
mux_fits net n high off on select first second = record {
  count = mux_count high off on select;
  there = tt;
  taps = mux_taps net n high off on select first second;
  host = λ is. cc;
}

one_more : (net : Net) (n : ℕ) (c : Chain) (high : Bool) (off on : Tap) (select : Signal) → ChainFits net n c
    → IsBefore net (n + length c.pieces) off → IsBefore net (n + length c.pieces) on
    → StandsIn net n (with_piece c (mux high off on select)).pieces
    → ChainFits net n (with_piece c (mux high off on select))
one_more net n c high off on select fits first second stands =
    let p : Piece = mux high off on select in
    let v : ℕ = n + length c.pieces in
    let count = length-append c.pieces (p ∷ []) in
    let gives : Gives net (c.first + length c.pieces) 0 = record {
      vertex = p;
      stands = ap (λ k. slice_get (parts_of net).pieces (k + length c.pieces)) fits.first
          ∙ part_first (parts_of net).pieces v p []
          (part_right (parts_of net).pieces n c.pieces (p ∷ []) stands);
      among = omega arith;
    } in
    let is = fits.first in
    record {
      first = fits.first;
      pieces = fit_append net n c.pieces (p ∷ []) fits.pieces (mux_fits net v high off on select first second, tt);
      last = (omega (arith, count, is), gives);
    }

-- a chain that a longer one begins with stands where that does, and the longer one fits where it does
record Lengthens (net : Net) (n : ℕ) (c longer : Chain) : Type 0 where
  stands : StandsIn net n c.pieces
  fits : ChainFits net n c → ChainFits net n longer

-- the vertex of a mux that ends these stands where they do
last_gives : (net : Net) (n : ℕ) (xs : List Piece) (high : Bool) (off on : Tap) (select : Signal)
    → StandsIn net n (xs ++ mux high off on select ∷ []) → Gives net (n + length xs) 0
last_gives net n xs high off on select stands =
    let p : Piece = mux high off on select in
    record {
      vertex = p;
      stands = part_first (parts_of net).pieces (n + length xs) p []
          (part_right (parts_of net).pieces n xs (p ∷ []) stands);
      among = omega arith;
    }

reset_pieces : (net : Net) (n : ℕ) (reset : Option ResetKind) (r : Signal) (d : Tap)
    → length (with_reset net reset r (no_chain n d)).pieces ≡ reset_count net reset r
reset_pieces net n None r d = refl
reset_pieces net n (Some reset) r d = by (never reset.high (still net r))
  where
    by : (out : Bool) → length (if out
        then no_chain n d
        else with_piece (no_chain n d) (mux reset.high d (of_bit reset.value) r)).pieces
        ≡ (if out then 0 else 1)
    by true = refl
    by false = refl

-- where an enable's mux is made, behind that of a reset, it is the last vertex of the chain
gives_behind : (net : Net) (n : ℕ) (held : Tap) (high : Bool) (e : Signal) (reset : Option ResetKind) (r : Signal)
    (d : Tap) → always high (still net e) ≡ false
    → StandsIn net n (with_enable net held (Some high) e (with_reset net reset r (no_chain n d))).pieces
    → Gives net (n + reset_count net reset r) 0
gives_behind net n held high e reset r d made stands =
    let c : Chain = with_reset net reset r (no_chain n d) in
    let p : Piece = mux high held c.last e in
    subst (λ k. Gives net (n + k) 0) (reset_pieces net n reset r d)
    (last_gives net n c.pieces high held c.last e
    (subst (λ (out : Bool). StandsIn net n (if out then c else with_piece c p).pieces) made stands))

-- and before that of a reset, if one is made
gives_before : (net : Net) (n : ℕ) (held : Tap) (high : Bool) (e : Signal) (reset : Option ResetKind) (r : Signal)
    (d : Tap) → always high (still net e) ≡ false
    → StandsIn net n (with_reset net reset r (with_enable net held (Some high) e (no_chain n d))).pieces
    → Gives net (n + reset_count net reset r) 0
gives_before net n held high e reset r d made stands =
    by reset (subst (λ (out : Bool). StandsIn net n (with_reset net reset r (if out
    then no_chain n d
    else with_piece (no_chain n d) (mux high held d e))).pieces) made stands)
  where
    c : Chain
    c = with_piece (no_chain n d) (mux high held d e)

    by : (reset : Option ResetKind) → StandsIn net n (with_reset net reset r c).pieces
        → Gives net (n + reset_count net reset r) 0
    by None stands = last_gives net n [] high held d e stands
    by (Some reset) stands = made_or_not (never reset.high (still net r)) stands
      where
        made_or_not : (out : Bool) → StandsIn net n (if out
            then c
            else with_piece c (mux reset.high c.last (of_bit reset.value) r)).pieces
            → Gives net (n + (if out then 0 else 1)) 0
        made_or_not true stands = last_gives net n [] high held d e stands
        made_or_not false stands = last_gives net n c.pieces reset.high c.last (of_bit reset.value) r stands

-- where the mux of an enable is made, what its register holds is there
abbrev HeldFits : Net → Tap → Option Bool → Signal → Type 0
HeldFits net held None e = Unit {0}
HeldFits net held (Some high) e = always high (still net e) ≡ false → (k : ℕ) → IsBefore net k held

held_fits : (net : Net) (n : ℕ) (q : Signal × Bool) (r : StateElement) (d : Tap)
    → StandsIn net n (register_chain net n q r d).pieces → HeldFits net (held_tap net n q r) r.kind.enable r.enable
held_fits net n q r d stands = by r.kind.enable r.kind.enable_over_reset stands
  where
    held : Tap
    held = held_tap net n q r

    of_gives : (s : Signal) (v k : ℕ) → Gives net v 0 → IsBefore net k (held_of v q.1 s)
    of_gives Zero v k gives = gives
    of_gives One v k gives = gives
    of_gives Unknown v k gives = gives
    of_gives HighZ v k gives = gives
    of_gives (Bit b) v k gives = tt

    by : (enable : Option Bool) (over : Bool) → StandsIn net n (if over
        then with_enable net held enable r.enable (with_reset net r.kind.reset r.reset (no_chain n d))
        else with_reset net r.kind.reset r.reset (with_enable net held enable r.enable (no_chain n d))).pieces
        → HeldFits net held enable r.enable
    by None over stands = tt
    by (Some high) true stands = λ made k. of_gives q.0 (n + reset_count net r.kind.reset r.reset) k
        (gives_behind net n held high r.enable r.kind.reset r.reset d made stands)
    by (Some high) false stands = λ made k. of_gives q.0 (n + reset_count net r.kind.reset r.reset) k
        (gives_before net n held high r.enable r.kind.reset r.reset d made stands)

enable_fits : (net : Net) (n : ℕ) (held : Tap) (enable : Option Bool) (e : Signal) (c : Chain)
    → HeldFits net held enable e → StandsIn net n (with_enable net held enable e c).pieces
    → Lengthens net n c (with_enable net held enable e c)
enable_fits net n held None e c before stands = record { stands = stands; fits = λ fits. fits }
enable_fits net n held (Some high) e c before stands = by (always high (still net e)) refl stands
  where
    by : (out : Bool) → always high (still net e) ≡ out
        → StandsIn net n (if out then c else with_piece c (mux high held c.last e)).pieces
        → Lengthens net n c (if out then c else with_piece c (mux high held c.last e))
    by true is stands = record { stands = stands; fits = λ fits. fits }
    by false is stands = record {
      stands = part_left (parts_of net).pieces n c.pieces (mux high held c.last e ∷ []) stands;
      fits = λ fits. one_more net n c high held c.last e fits (before is (n + length c.pieces)) fits.last stands;
    }

reset_fits : (net : Net) (n : ℕ) (reset : Option ResetKind) (r : Signal) (c : Chain)
    → StandsIn net n (with_reset net reset r c).pieces → Lengthens net n c (with_reset net reset r c)
reset_fits net n None r c stands = record { stands = stands; fits = λ fits. fits }
reset_fits net n (Some reset) r c stands = by (never reset.high (still net r)) stands
  where
    by : (out : Bool)
        → StandsIn net n (if out then c else with_piece c (mux reset.high c.last (of_bit reset.value) r)).pieces
        → Lengthens net n c (if out then c else with_piece c (mux reset.high c.last (of_bit reset.value) r))
    by true stands = record { stands = stands; fits = λ fits. fits }
    by false stands = record {
      stands = part_left (parts_of net).pieces n c.pieces (mux reset.high c.last (of_bit reset.value) r ∷ []) stands;
      fits = λ fits. one_more net n c reset.high c.last (of_bit reset.value) r fits fits.last tt stands;
    }

chain_fits : (net : Net) (n : ℕ) (q : Signal × Bool) (r : StateElement) (d : Tap) → IsBefore net n d
    → StandsIn net n (register_chain net n q r d).pieces → ChainFits net n (register_chain net n q r d)
chain_fits net n q r d before stands = by r.kind.enable_over_reset stands
  where
    held : Tap
    held = held_tap net n q r

    there : HeldFits net held r.kind.enable r.enable
    there = held_fits net n q r d stands

    at_d : Chain
    at_d = record {
      first = n;
      pieces = [];
      last = d;
    }

    none : ChainFits net n at_d
    none = record { first = refl; pieces = tt; last = later net n (n + 0) d (omega arith) before }

    by : (over : Bool)
        → StandsIn net n (if over
        then with_enable net held r.kind.enable r.enable (with_reset net r.kind.reset r.reset at_d)
        else with_reset net r.kind.reset r.reset (with_enable net held r.kind.enable r.enable at_d)).pieces
        → ChainFits net n (if over
        then with_enable net held r.kind.enable r.enable (with_reset net r.kind.reset r.reset at_d)
        else with_reset net r.kind.reset r.reset (with_enable net held r.kind.enable r.enable at_d))
    by true stands =
        let outer = enable_fits net n held r.kind.enable r.enable (with_reset net r.kind.reset r.reset at_d) there stands in
        let inner = reset_fits net n r.kind.reset r.reset at_d outer.stands in
        outer.fits (inner.fits none)
    by false stands =
        let outer = reset_fits net n r.kind.reset r.reset (with_enable net held r.kind.enable r.enable at_d) stands in
        let inner = enable_fits net n held r.kind.enable r.enable at_d there outer.stands in
        outer.fits (inner.fits none)

-- a register fits where what it has at D does
pub register_fits : (net : Net) (n : ℕ) (q : Signal × Bool) (r : StateElement) (d : Tap) → IsBefore net n d
    → StandsIn net n (register_parts net n q r d).pieces → PartsFit net n (register_parts net n q r d)
register_fits net n q r d before stands =
    let c : Chain = register_chain net n q r d in
    let fits : ChainFits net n c = chain_fits net n q r d before stands in
    record { pieces = fits.pieces; wires = ((n + length c.pieces, fits.last), tt) }
