-- Where a pin of a netlist's vertex leads, there is a vertex with that output; and ring buffers read registers.
use Rattle.std.specs.Prelude.{◌==◌, ◌&&◌, slice_get, nat_le}
use Rattle.std.proofs.Common.{◌≡◌, ℕ, zero, suc, ◌+◌, ◌<◌, Bool, true, false, cond, List, [], ◌∷◌, ◌++◌, length, map, Option, Some, None, filter, filter_map, find, option_map, unwrap_or, refl, sym, ap, ◌∙◌, arith}
use Rattle.std.specs.List.{AllByRecursion, list_all, list_any, position_from}
use Rattle.std.proofs.lemmas.Option.{none-some, same_Some, slice_get-map}
use Rattle.cs_base.specs.declared.signal.Signal.{Signal}
use Rattle.cs_base.specs.declared.signal.Signal.TheVariants.{Zero, One, Unknown, HighZ, Bit}
use Rattle.cs_graph.specs.declared.source.OpenVertex.{OpenVertex}
use Rattle.cs_graph.specs.Draft.{open_kinds}
use Rattle.cs_graph.specs.Invariant.{HasOutput}
use Rattle.cs_modules.specs.Signals.{is_bit, number_in}
use Rattle.cs_net.specs.Invariant.{IsWellFormed}
use Rattle.cs_net.specs.Netlist.{Net}
use Rattle.cs_net.proofs.Members.{of_all, within_has}
use Rattle.cs_lower.specs.Followed.{Trail, behind_bit, behind_wire, by_ring, followed, from_signal, from_tap}
use Rattle.cs_lower.specs.declared.taps.End.{End}
use Rattle.cs_lower.specs.declared.taps.End.TheVariants.{Constant as at_bit, Vertex as at_vertex}
use Rattle.cs_lower.specs.Lowered.{buffer, constants, draft_of, pieces_of, trail_of, vertex_of, wiring_of}
use Rattle.cs_lower.specs.Rings.{bit_behind, in_order, in_place, is_ring, met, rings}
use Rattle.cs_lower.specs.declared.taps.Tap.{Tap}
use Rattle.cs_lower.specs.declared.taps.Tap.TheVariants.{Constant as of_bit, Held as of_held, Register as of_register, Signal as of_signal, Vertex as of_vertex}
use Rattle.cs_lower.specs.declared.taps.Wire.{Wire}
use Rattle.cs_lower.specs.declared.taps.Wire.TheVariants.{Register as from_register, Vertex as from_vertex, Undriven as undriven}
use Rattle.cs_lower.specs.declared.taps.Piece.{Piece}
use Rattle.cs_lower.specs.Wires.{parts_of, wire_in}
use Rattle.cs_lower.proofs.FittingNets.{parts_fit}
use Rattle.cs_lower.proofs.FittingParts.{Gives, IsBefore, IsThere}
use Rattle.cs_graph.proofs.Lists.{get_left, get_right}

-- ---- ring buffers

-- a bit that is met behind itself is a register's
pub ring_wire : (wires : List (Signal × Wire)) (b : ℕ) → is_ring wires b ≡ true
    → (d : Tap) × (wire_in wires b ≡ from_register d)
ring_wire wires b is = by (wire_in wires b) refl is
  where
    none : (n : ℕ) → list_any (λ a. a == b) (met wires n None) ≡ false
    none zero = refl
    none (suc n) = refl

    nothing : (rest : Bool) (n : ℕ) → (list_any (λ a. a == b) (met wires n None) && rest) ≡ true → ⊥
    nothing rest zero is = cc
    nothing rest (suc n) is = cc

    by : (x : Wire) → wire_in wires b ≡ x
        → (list_any (λ a. a == b) (met wires (length wires) (bit_behind x))
        && list_all (λ a. nat_le b a) (met wires (length wires) (bit_behind x))) ≡ true
        → (d : Tap) × (wire_in wires b ≡ from_register d)
    by undriven wired is =
        absurd (nothing (list_all (λ a. nat_le b a) (met wires (length wires) None)) (length wires) is)
    by (from_vertex v o) wired is =
        absurd (nothing (list_all (λ a. nat_le b a) (met wires (length wires) None)) (length wires) is)
    by (from_register d) wired is = (d, wired)

all_placed : (P : ℕ → Type 0) (b : ℕ) (bs : List ℕ) → P b → AllByRecursion P bs → AllByRecursion P (in_place b bs)
all_placed P b [] here all = (here, tt)
all_placed P b (a ∷ bs) here all = by (nat_le b a) (all_placed P b bs here all.1)
  where
    by : (least : Bool) → AllByRecursion P (in_place b bs)
        → AllByRecursion P (cond least (b ∷ a ∷ bs) (a ∷ in_place b bs))
    by true rest = (here, all)
    by false rest = (all.0, rest)

all_ordered : (P : ℕ → Type 0) (bs : List ℕ) → AllByRecursion P bs → AllByRecursion P (in_order bs)
all_ordered P [] all = tt
all_ordered P (b ∷ bs) all = all_placed P b (in_order bs) all.0 (all_ordered P bs all.1)

all_passed : (test : ℕ → Bool) (bs : List ℕ) → AllByRecursion (λ b. test b ≡ true) (filter test bs)
all_passed test [] = tt
all_passed test (b ∷ bs) = by (test b) refl (all_passed test bs)
  where
    by : (here : Bool) → test b ≡ here → AllByRecursion (λ b. test b ≡ true) (filter test bs)
        → AllByRecursion (λ b. test b ≡ true) (cond here (b ∷ filter test bs) (filter test bs))
    by true is rest = (is, rest)
    by false is rest = rest

-- a bit that a ring buffer takes the place of is a register's
pub ring_register : (net : Net) (i b : ℕ) → slice_get (wiring_of net).rings i ≡ Some b
    → (d : Tap) × (wire_in (wiring_of net).wires b ≡ from_register d)
ring_register net i b at =
    let wires : List (Signal × Wire) = (parts_of net).wires in
    let bits : List ℕ = filter_map (λ w. number_in w.0) wires in
    ring_wire wires b
    (of_all (λ b. is_ring wires b ≡ true) (rings wires) i b
    (all_ordered (λ b. is_ring wires b ≡ true) (filter (is_ring wires) bits) (all_passed (is_ring wires) bits)) at)

-- where a bit is found, there is a place
found_place : (test : ℕ → Bool) (k : ℕ) (bs : List ℕ) (i : ℕ) → position_from test k bs ≡ Some i
    → (j : ℕ) × (i ≡ k + j) × (j < length bs)
found_place test k [] i found = absurd (none-some i found)
found_place test k (b ∷ bs) i found = by (test b) found (found_place test (k + 1) bs i)
  where
    by : (here : Bool) → cond here (Some k) (position_from test (k + 1) bs) ≡ Some i
        → (position_from test (k + 1) bs ≡ Some i → (j : ℕ) × (i ≡ (k + 1) + j) × (j < length bs))
        → (j : ℕ) × (i ≡ k + j) × (j < length (b ∷ bs))
    by true found rest =
        let same : k ≡ i = same_Some k i found in (0, omega (arith, same), omega arith)
    by false found rest =
        let later = rest found in (suc later.0, omega (arith, later.1), omega (arith, later.2))

-- the buffer of a ring is among the vertices
pub buffer_at : (net : Net) (b i : ℕ) → position_from (λ r. r == b) 0 (wiring_of net).rings ≡ Some i
    → (r : ℕ) × (slice_get (pieces_of net ++ constants net) ((wiring_of net).first_buffer + i) ≡ Some (buffer r))
buffer_at net b i found =
    let place = found_place (λ r. r == b) 0 (wiring_of net).rings i found in
    let r = within_has (wiring_of net).rings place.0 place.2 in
    let same : place.0 ≡ i = omega (arith, place.1) in
    let at : slice_get (wiring_of net).rings i ≡ Some r.0 = ap (slice_get (wiring_of net).rings) (sym same) ∙ r.1 in (
      r.0,
      get_left (pieces_of net) (constants net) ((wiring_of net).first_buffer + i) (buffer r.0)
          (get_right (parts_of net).pieces (map buffer (wiring_of net).rings) ((wiring_of net).first_buffer + i) i refl
          ∙ slice_get-map buffer (wiring_of net).rings i ∙ ap (option_map buffer) at),
    )

-- ---- outputs of the draft's vertices

-- the draft has this output
abbrev pub DraftGives : Net → ℕ → ℕ → Type 0
DraftGives net v o = HasOutput (draft_of net).memories (open_kinds (draft_of net).vertices) v o

pub draft_kind : (net : Net) (v : ℕ) (p : Piece) → slice_get (pieces_of net ++ constants net) v ≡ Some p
    → slice_get (open_kinds (draft_of net).vertices) v ≡ Some p.kind
draft_kind net v p at =
    slice_get-map (λ (x : OpenVertex). x.kind) (draft_of net).vertices v
    ∙ ap (option_map (λ (x : OpenVertex). x.kind)) (slice_get-map (vertex_of net) (pieces_of net ++ constants net) v
    ∙ ap (option_map (vertex_of net)) at)

-- a vertex before ring buffers and constants is one of all
pub part_among : (net : Net) (v : ℕ) (p : Piece) → slice_get (parts_of net).pieces v ≡ Some p
    → slice_get (pieces_of net ++ constants net) v ≡ Some p
part_among net v p at =
    get_left (pieces_of net) (constants net) v p
    (get_left (parts_of net).pieces (map buffer (wiring_of net).rings) v p at)

draft_gives : (net : Net) (v o : ℕ) → Gives net v o → DraftGives net v o
draft_gives net v o g = record {
  kind = g.vertex.kind;
  found = draft_kind net v g.vertex (part_among net v g.vertex g.stands);
  among = g.among;
}

buffer_gives : (net : Net) (b i : ℕ) → position_from (λ r. r == b) 0 (wiring_of net).rings ≡ Some i
    → DraftGives net ((wiring_of net).first_buffer + i) 0
buffer_gives net b i found =
    let r = buffer_at net b i found in
    record {
      kind = (buffer r.0).kind;
      found = draft_kind net ((wiring_of net).first_buffer + i) (buffer r.0) r.1;
      among = omega arith;
    }

-- ---- trails

-- where it leads there is an output
abbrev pub EndIsThere : Net → End → Type 0
EndIsThere net (at_vertex v o) = DraftGives net v o
EndIsThere net (at_bit b) = Unit {0}

-- an output that a tap is is there
abbrev pub TapIsThere : Net → Tap → Type 0
TapIsThere net (of_signal s) = Unit {0}
TapIsThere net (of_vertex v o) = Gives net v o
TapIsThere net (of_bit b) = Unit {0}
TapIsThere net (of_register b) = Unit {0}
TapIsThere net (of_held v start) = Gives net v 0

pub tap_there : (net : Net) (n : ℕ) (t : Tap) → IsBefore net n t → TapIsThere net t
tap_there net n (of_signal s) before = tt
tap_there net n (of_vertex v o) before = before.1
tap_there net n (of_bit b) before = tt
tap_there net n (of_register b) before = tt
tap_there net n (of_held v start) before = before

-- what drives a bit is there
there_in : (net : Net) (wires : List (Signal × Wire)) → AllByRecursion (λ w. IsThere net w.1) wires → (b : ℕ)
    → IsThere net (wire_in wires b)
there_in net [] all b = tt
there_in net (x ∷ wires) all b = by (is_bit b x.0) (there_in net wires all.1 b)
  where
    by : (here : Bool) → IsThere net (wire_in wires b)
        → IsThere net
        (unwrap_or (option_map (λ w. w.1) (cond here (Some x) (find (λ w. is_bit b w.0) wires))) undriven)
    by true rest = all.0
    by false rest = rest

module _ (net : Net) (w : IsWellFormed net) where
  behind_there : (back : Tap → Trail) → ((t : Tap) → TapIsThere net t → EndIsThere net (back t).end) → (b : ℕ)
      → EndIsThere net (behind_bit (wiring_of net) back b).end
  behind_there back each b =
      by (wire_in (wiring_of net).wires b) (there_in net (parts_of net).wires (parts_fit net w).wires b)
    where
      by : (x : Wire) → IsThere net x → EndIsThere net (behind_wire ((wiring_of net).start b) back x).end
      by undriven there = tt
      by (from_vertex v o) there = draft_gives net v o there
      by (from_register d) there = each d (tap_there net there.0 d there.1)

  ring_there : (back : Tap → Trail) → ((t : Tap) → TapIsThere net t → EndIsThere net (back t).end) → (b : ℕ)
      → EndIsThere net (by_ring (wiring_of net) back b (position_from (λ r. r == b) 0 (wiring_of net).rings)).end
  ring_there back each b = by (position_from (λ r. r == b) 0 (wiring_of net).rings) refl
    where
      by : (place : Option ℕ) → position_from (λ r. r == b) 0 (wiring_of net).rings ≡ place
          → EndIsThere net (by_ring (wiring_of net) back b place).end
      by None found = behind_there back each b
      by (Some i) found = buffer_gives net b i found

  signal_there : (back : Tap → Trail) → ((t : Tap) → TapIsThere net t → EndIsThere net (back t).end) → (s : Signal)
      → EndIsThere net (from_signal (wiring_of net) back s).end
  signal_there back each Zero = tt
  signal_there back each One = tt
  signal_there back each Unknown = tt
  signal_there back each HighZ = tt
  signal_there back each (Bit b) = ring_there back each b

  step_there : (back : Tap → Trail) → ((t : Tap) → TapIsThere net t → EndIsThere net (back t).end) → (t : Tap)
      → TapIsThere net t → EndIsThere net (from_tap (wiring_of net) back t).end
  step_there back each (of_signal s) there = signal_there back each s
  step_there back each (of_vertex v o) there = draft_gives net v o there
  step_there back each (of_bit b) there = tt
  step_there back each (of_register b) there = behind_there back each b
  step_there back each (of_held v start) there = draft_gives net v 0 there

  followed_there : (fuel : ℕ) (t : Tap) → TapIsThere net t → EndIsThere net (followed (wiring_of net) fuel t).end
  unfolding followed
  followed_there zero t there = tt
  followed_there (suc fuel) t there =
      step_there (followed (wiring_of net) fuel) (λ u is. followed_there fuel u is) t there

  -- where a tap that is there leads, the draft has an output
  pub trail_there : (t : Tap) → TapIsThere net t → EndIsThere net (trail_of net t).end
  trail_there t there = followed_there (length (wiring_of net).wires + 2) t there
