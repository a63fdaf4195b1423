-- Levels of vertices: above the places of the bits that the vertex reads, and above the vertices whose outputs it reads.
use Rattle.std.specs.Prelude.{slice_get}
use Rattle.std.proofs.Common.{◌≡◌, ◌⊎◌, ℕ, zero, suc, ◌+◌, ◌<◌, ◌≤◌, Bool, true, false, List, [], ◌∷◌, ◌++◌, length, map, max, Option, Some, None, refl, ap, ◌∙◌, arith, inl, inr}
use Rattle.std.specs.List.{list_any}
use Rattle.std.proofs.Math.Nat.{le-max_left, le-max_right, max-le}
use Rattle.std.proofs.lemmas.Bool.{eq-eqb, or_left, or_right}
use Rattle.std.proofs.lemmas.Option.{none-some, same_Some, slice_get_within}
use Rattle.cs_base.specs.declared.signal.Signal.{Signal}
use Rattle.cs_base.specs.declared.signal.Signal.TheVariants.{Zero, One, Unknown, HighZ, Bit}
use Rattle.cs_graph.specs.declared.vertex.VertexKind.TheVariants.{Constant}
use Rattle.cs_modules.specs.Signals.{holds_bit, is_bit}
use Rattle.cs_net.specs.Drivers.{Driver, IsBitOrder, driver_of, fanin, gate, input, register, undriven as driven_by_none, word_bit}
use Rattle.cs_net.specs.Invariant.{IsWellFormed}
use Rattle.cs_net.specs.Netlist.{Net}
use Rattle.cs_net.proofs.Members.{of_all}
use Rattle.cs_net.proofs.MemoryPlaces.{map_at}
use Rattle.cs_lower.specs.Lowered.{buffer, constants, is_used, pieces_of, wiring_of}
use Rattle.cs_lower.specs.Matching.{IsVertex, Matches}
use Rattle.cs_lower.specs.declared.taps.Tap.{Tap}
use Rattle.cs_lower.specs.declared.taps.Tap.TheVariants.{Constant as of_bit, Held as of_held, Register as of_register, Signal as of_signal, Vertex as of_vertex}
use Rattle.cs_lower.specs.declared.taps.Wire.TheVariants.{Vertex as from_vertex}
use Rattle.cs_lower.specs.declared.taps.Piece.{Piece}
use Rattle.cs_lower.specs.Taps.{piece}
use Rattle.cs_lower.specs.Wires.{parts_of}
use Rattle.cs_lower.proofs.FittingNets.{part_fits}
use Rattle.cs_lower.proofs.FittingParts.{IsBefore}
use Rattle.cs_graph.proofs.Lists.{get_append}
use Rattle.cs_lower.proofs.SeenLemmas.{constant_piece}
use Rattle.cs_lower.proofs.TrailEnds.{part_among}

-- ---- the greatest of a list

abbrev pub greatest : {A : Type 0} → (A → ℕ) → List A → ℕ
greatest f [] = 0
greatest f (x ∷ xs) = max (f x) (greatest f xs)

pub at_most : {A : Type 0} (f : A → ℕ) (xs : List A) (i : ℕ) (x : A) → slice_get xs i ≡ Some x → f x ≤ greatest f xs
at_most f [] i x at = absurd (none-some x at)
at_most f (y ∷ xs) zero x at =
    let same : f y ≡ f x = ap f (same_Some y x at) in
    let first = le-max_left (f y) (greatest f xs) in
    omega (arith, same, first)
at_most f (y ∷ xs) (suc i) x at =
    let rest = at_most f xs i x at in
    let second = le-max_right (f y) (greatest f xs) in
    omega (arith, rest, second)

pub all_at_most : {A : Type 0} (f : A → ℕ) (xs : List A) (n : ℕ)
    → ((i : ℕ) (x : A) → slice_get xs i ≡ Some x → f x ≤ n) → greatest f xs ≤ n
all_at_most f [] n each = omega arith
all_at_most f (x ∷ xs) n each = max-le (each 0 x refl) (all_at_most f xs n (λ i. each (suc i)))

-- ---- levels

-- above a bit's place
abbrev pub signal_level : (ℕ → ℕ) → Signal → ℕ
signal_level place Zero = 0
signal_level place One = 0
signal_level place Unknown = 0
signal_level place HighZ = 0
signal_level place (Bit b) = place b + 1

-- above what a pin reads, where the vertices have levels of at most `most` and their numbers
abbrev pub tap_level : (ℕ → ℕ) → ℕ → Tap → ℕ
tap_level place most (of_signal s) = signal_level place s
tap_level place most (of_vertex v o) = most + v + 1
tap_level place most (of_bit b) = 0
tap_level place most (of_register b) = 0
tap_level place most (of_held v start) = 0

abbrev pub bit_level : (ℕ → ℕ) → Tap → ℕ
bit_level place (of_signal s) = signal_level place s
bit_level place (of_vertex v o) = 0
bit_level place (of_bit b) = 0
bit_level place (of_register b) = 0
bit_level place (of_held v start) = 0

-- above the places of all bits that pins read
unfoldable pub bits_level : (ℕ → ℕ) → List Piece → ℕ
bits_level place pieces = greatest (λ p. greatest (bit_level place) p.pins) pieces

abbrev pub pins_level : (ℕ → ℕ) → ℕ → Option Piece → ℕ
pins_level place most None = 0
pins_level place most (Some p) = greatest (tap_level place most) p.pins

-- above the places of all bits that the vertices before ring buffers and constants read
abbrev pub most : Net → (ℕ → ℕ) → ℕ
most net place = bits_level place (parts_of net).pieces

-- the level of vertex v
abbrev pub level : Net → (ℕ → ℕ) → ℕ → ℕ
level net place v = pins_level place (most net place) (slice_get (pieces_of net ++ constants net) v)

-- no vertex is as high as this
abbrev pub span : Net → (ℕ → ℕ) → ℕ
span net place = most net place + length (pieces_of net ++ constants net) + 1

-- ---- which vertices there are

-- a vertex is one before ring buffers and constants, the buffer of a ring, or a constant
abbrev pub IsKnown : Net → ℕ → Piece → Type 0
IsKnown net v p =
    (slice_get (parts_of net).pieces v ≡ Some p)
    ⊎ (((i : ℕ) × (r : ℕ) × (slice_get (wiring_of net).rings i ≡ Some r) × (buffer r ≡ p))
    ⊎ ((b : Bool) × (piece (Constant b) [] ≡ p)))

pub known : (net : Net) (v : ℕ) (p : Piece) → slice_get (pieces_of net ++ constants net) v ≡ Some p → IsKnown net v p
known net v p at = elim (get_append (pieces_of net) (constants net) v p at) [
  | inr (k, is, right) ↦ inr (inr (constant_piece (is_used net false) (is_used net true) k p right))
  | inl left ↦ elim (get_append (parts_of net).pieces (map buffer (wiring_of net).rings) v p left) [
    | inl part ↦ inl part
    | inr (i, is, right) ↦ let r = map_at buffer (wiring_of net).rings i p right in inr (inl (i, r.0, r.1, r.2))
  ]
]

-- ---- how high levels are

module _ (net : Net) (w : IsWellFormed net) (place : ℕ → ℕ) where
  bit_at_most : (v i : ℕ) (p : Piece) (t : Tap) → slice_get (parts_of net).pieces v ≡ Some p
      → slice_get p.pins i ≡ Some t → bit_level place t ≤ most net place
  unfolding bits_level
  bit_at_most v i p t at there =
      let outer = at_most (λ p. greatest (bit_level place) p.pins) (parts_of net).pieces v p at in
      let inner = at_most (bit_level place) p.pins i t there in
      omega (arith, outer, inner)

  tap_at_most : (n : ℕ) (t : Tap) → IsBefore net n t → bit_level place t ≤ most net place
      → tap_level place (most net place) t ≤ most net place + n
  tap_at_most n (of_signal s) before few = omega (arith, few)
  tap_at_most n (of_vertex v o) before few = let less = before.0 in omega (arith, less)
  tap_at_most n (of_bit b) before few = omega arith
  tap_at_most n (of_register b) before few = absurd before
  tap_at_most n (of_held v start) before few = omega arith

  part_level : (v : ℕ) (p : Piece) → slice_get (parts_of net).pieces v ≡ Some p
      → greatest (tap_level place (most net place)) p.pins ≤ most net place + v
  part_level v p at =
      all_at_most (tap_level place (most net place)) p.pins (most net place + v)
      (λ i t there. tap_at_most v t (of_all (IsBefore net v) p.pins i t (part_fits net w v p at).taps there)
      (bit_at_most v i p t at there))

  -- a vertex that stands there has the level of its pins
  pub level_is : (v : ℕ) (p : Piece) → slice_get (pieces_of net ++ constants net) v ≡ Some p
      → level net place v ≡ greatest (tap_level place (most net place)) p.pins
  level_is v p at = ap (pins_level place (most net place)) at

  -- a vertex before ring buffers and constants is at most so high
  pub level_at_most : (v : ℕ) (p : Piece) → slice_get (parts_of net).pieces v ≡ Some p
      → level net place v ≤ most net place + v
  level_at_most v p at =
      let same = level_is v p (part_among net v p at) in
      let few = part_level v p at in
      omega (arith, same, few)

  piece_within : (v : ℕ) (p : Piece) → slice_get (pieces_of net ++ constants net) v ≡ Some p
      → level net place v < span net place
  piece_within v p at = elim (known net v p at) [
    | inl part ↦
        let few = level_at_most v p part in
        let within = slice_get_within (pieces_of net ++ constants net) v p at in
        omega (arith, few, within)
    | inr (inl (i, r, ring, is)) ↦
        let same = level_is v p at in
        let none = ap (λ q. greatest (tap_level place (most net place)) q.pins) is in
        omega (arith, same, none)
    | inr (inr (b, is)) ↦
        let same = level_is v p at in
        let none = ap (λ q. greatest (tap_level place (most net place)) q.pins) is in
        omega (arith, same, none)
  ]

  pub level_within : (v : ℕ) → level net place v < span net place
  level_within v = by (slice_get (pieces_of net ++ constants net) v) refl
    where
      by : (p : Option Piece) → slice_get (pieces_of net ++ constants net) v ≡ p → level net place v < span net place
      by None at = let none = ap (pins_level place (most net place)) at in omega (arith, none)
      by (Some p) at = piece_within v p at

  -- ---- what drives a bit within the clock

  -- vertices that read signals alone are no higher than the bit that depends on those
  signals_level : (n : ℕ) (signals : List Signal) → ((c : ℕ) → holds_bit c signals ≡ true → place c < n)
      → greatest (tap_level place (most net place)) (map of_signal signals) ≤ n
  signals_level n [] each = omega arith
  signals_level n (s ∷ signals) each =
      max-le (first s (λ c is. each c (or_left (is_bit c s) (list_any (is_bit c) signals) is)))
      (signals_level n signals (λ c is. each c (or_right (is_bit c s) (list_any (is_bit c) signals) is)))
    where
      first : (s : Signal) → ((c : ℕ) → is_bit c s ≡ true → place c < n) → signal_level place s ≤ n
      first Zero each = omega arith
      first One each = omega arith
      first Unknown each = omega arith
      first HighZ each = omega arith
      first (Bit b) each = let less = each b (eq-eqb b b refl) in omega (arith, less)

  vertex_level : (v n : ℕ) (kind : _) (signals : List Signal) → IsVertex net v kind (map of_signal signals)
      → ((c : ℕ) → holds_bit c signals ≡ true → place c < n) → level net place v ≤ n
  vertex_level v n kind signals vertex each =
      let same = level_is v vertex.vertex (part_among net v vertex.vertex vertex.stands) in
      let pins = ap (greatest (tap_level place (most net place))) vertex.pins_are in
      let few = signals_level n signals each in
      omega (arith, same, pins, few)

  -- a vertex that drives a bit is no higher than the bit's place
  pub driver_level : IsBitOrder net place → (b v o : ℕ) → Matches net (Bit b) (driver_of net b) (from_vertex v o)
      → level net place v ≤ place b
  driver_level order b v o matched = by (driver_of net b) refl matched
    where
      by : (driver : Driver) → driver_of net b ≡ driver → Matches net (Bit b) driver (from_vertex v o)
          → level net place v ≤ place b
      by driven_by_none is matched = absurd matched
      by (input i) is (number, output, vertex) = vertex_level v (place b) _ [] vertex (λ c has. cc)
      by (gate kind pins) is (vertex, output) =
          vertex_level v (place b) _ pins vertex (λ c has. order b c (ap (λ d. holds_bit c (fanin d)) is ∙ has))
      by (word_bit word) is (reads, output) =
          vertex_level v (place b) _ word.address reads.vertex
          (λ c has. order b c (ap (λ d. holds_bit c (fanin d)) is ∙ has))
      by (register r) is matched = absurd matched
