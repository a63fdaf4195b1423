-- An order of a banked draft's vertices, each after all that its pins read without a register.
use Rattle.std.proofs.Common.{◌≡◌, ℕ, zero, suc, ◌+◌, ◌-◌, ◌<◌, ◌≤◌, Bool, true, false, List, [], ◌∷◌, length, map, refl, sym, ap, ◌∙◌, inl, inr, arith}
use Rattle.std.specs.Prelude.{slice_get, option_map, nat_lt, Option, Some, None, if◌then◌else◌}
use Rattle.std.specs.List.{range_with_len}
use Rattle.std.proofs.lemmas.Bool.{cases_lt, le-ltb, lt-ltb}
use Rattle.std.proofs.lemmas.List.{length-map}
use Rattle.std.proofs.lemmas.List.FromFn.{length-map-range_with_len}
use Rattle.std.proofs.lemmas.Option.{none-some, same_Some, slice_get-map, slice_get_past, slice_get_within}
use Rattle.cs_graph.specs.declared.edge.Edge.{Edge}
use Rattle.cs_graph.specs.declared.memory.Memory.{Memory}
use Rattle.cs_graph.specs.declared.source.Driver.{Driver}
use Rattle.cs_graph.specs.declared.source.OpenVertex.{OpenVertex}
use Rattle.cs_graph.specs.declared.source.Source.{Source}
use Rattle.cs_graph.specs.declared.source.Source.TheVariants.{Driven, Tied as TiedTo}
use Rattle.cs_graph.specs.declared.vertex.VertexKind.{VertexKind}
use Rattle.cs_graph.specs.declared.vertex.VertexKind.TheVariants.{Constant, Gate, Host, Input, Output, Read, Write}
use Rattle.cs_graph.specs.Draft.{Draft, built, edge_into, edges_from, edges_into}
use Rattle.cs_graph.specs.Invariant.{HasOrder}
use Rattle.cs_graph.specs.Kinds.{is_write_of}
use Rattle.cs_graph.specs.Past.{context_of}
use Rattle.cs_net.specs.Contexts.{Image}
use Rattle.cs_bank.specs.Bank.{banked, banked_pins, banked_vertex, first_guard, guard_place, new_vertices}
use Rattle.cs_bank.specs.ContextBits.{context_bit, context_bits, context_pins, context_vertices, counter_contents, digit, wire}
use Rattle.cs_bank.specs.Guards.{guards}
use Rattle.cs_bank.proofs.BankedPins.{back_guards, get_both, write_read}
use Rattle.cs_bank.proofs.BankedPlaces.{HasPorts, in_filter, write_pins_are}
use Rattle.cs_bank.proofs.Counters.{get_context_bit, get_range}
use Rattle.cs_bank.proofs.GuardLemmas.{place_after}
use Rattle.cs_bank.proofs.Lists.{was_in}

-- the driver of a pin
pub same_driver : (k k' : Driver) → Some (Driven k) ≡ Some (Driven k') → k ≡ k'
same_driver k k' same = ap by (same_Some (Driven k) (Driven k') same)
  where
    by : Source → Driver
    by (Driven d) = d
    by other = k

-- some place for each vertex, after all that its pins read without a register
pub record HasDraftOrder (d : Draft) : Type 0 where
  pub place : ℕ → ℕ
  pub span : ℕ
  pub within : (v : ℕ) → place v < span
  pub below : (v i : ℕ) (x : OpenVertex) (k : Driver) → slice_get d.vertices v ≡ Some x
      → slice_get x.pins i ≡ Some (Some (Driven k)) → length k.contents ≡ 0 → place k.from < place v

-- ---- the graph that is built

-- the pin that an edge comes from
record FromPin (v : ℕ) (ss : List (Option Source)) (d : Edge) : Type 0 where
  i : ℕ
  k : Driver
  at : slice_get ss i ≡ Some (Some (Driven k))
  to : d.to ≡ v
  from : d.from ≡ k.from
  weight : d.weight ≡ length k.contents

from_pin : (v j : ℕ) (ss : List (Option Source)) (e : ℕ) (d : Edge) → slice_get (edges_into v j ss) e ≡ Some d
    → FromPin v ss d
from_pin v j [] e d h = absurd (none-some d h)
from_pin v j (s ∷ ss) e d h = elim (get_both (edge_into v j s) (edges_into v (j + 1) ss) e d h) [
  | inl here ↦ by s e here
  | inr (e', is, right) ↦
      let rest = from_pin v (j + 1) ss e' d right in
      record { i = suc rest.i; k = rest.k; at = rest.at; to = rest.to; from = rest.from; weight = rest.weight }
]
  where
    by : (s : Option Source) (e : ℕ) → slice_get (edge_into v j s) e ≡ Some d → FromPin v (s ∷ ss) d
    by None e h = absurd (none-some d h)
    by (Some (TiedTo b)) e h = absurd (none-some d h)
    by (Some (Driven k)) zero h =
        let same = same_Some
        (record {
          from = k.from;
          output = k.output;
          to = v;
          pin = j;
          weight = length k.contents;
          contents =
              k.contents;
        }) d h in
        record {
          i = 0;
          k = k;
          at = refl;
          to = sym (ap (λ (y : Edge). y.to) same);
          from = sym (ap (λ (y : Edge). y.from) same);
          weight = sym (ap (λ (y : Edge). y.weight) same);
        }
    by (Some (Driven k)) (suc e) h = absurd (none-some d h)

order_from : (d : Draft) (order : HasDraftOrder d) (v : ℕ) (xs : List OpenVertex)
    → ((w : ℕ) → slice_get xs w ≡ slice_get d.vertices (v + w)) → (e : ℕ) (y : Edge)
    → slice_get (edges_from v xs) e ≡ Some y
    → y.weight ≡ 0 → order.place y.from < order.place y.to
order_from d order v [] rows e y h none = absurd (none-some y h)
order_from d order v (x ∷ xs) rows e y h none = elim (get_both (edges_into v 0 x.pins) (edges_from (v + 1) xs) e y h) [
  | inl here ↦
      let pin = from_pin v 0 x.pins e y here in
      let place : v + 0 ≡ v = omega arith in
      let weight = pin.weight in
      let low = order.below v pin.i x pin.k (ap (slice_get d.vertices) (sym place) ∙ sym (rows 0)) pin.at
      (omega (arith, weight, none)) in
      let from = ap order.place pin.from in
      let to = ap order.place pin.to in
      omega (arith, low, from, to)
  | inr (e', is, right) ↦
      order_from d order (v + 1) xs (λ w. let place : v + suc w ≡ (v + 1) + w = omega arith in rows (suc w)
      ∙ ap (slice_get d.vertices) place) e' y right none
]

pub order_built : (d : Draft) → HasDraftOrder d → HasOrder (built d)
order_built d order = record {
  place = order.place;
  span = order.span;
  within = order.within;
  below = λ e y found none. order_from d order 0 d.vertices
      (λ w. let place : w ≡ 0 + w = omega arith in ap (slice_get d.vertices) place) e y found none;
}

-- ---- the banked draft

abbrev pub is_writer : VertexKind → Bool
is_writer Host = false
is_writer Input = false
is_writer Output = false
is_writer (Constant b) = false
is_writer (Gate kind) = false
is_writer (Read memory port) = false
is_writer (Write memory port) = true

-- a driver is a vertex that is there, and no Write
abbrev pub IsRead : Draft → Driver → Type 0
IsRead d k = (y : OpenVertex) × (slice_get d.vertices k.from ≡ Some y) × (is_writer y.kind ≡ false)

module _ (c : ℕ) (entries : List (Option (List Image))) (d : Draft) (order : HasDraftOrder d) (ports : HasPorts d)
    (several : 0 < c)
    (some : (i : ℕ) (m : Memory) → slice_get d.memories i ≡ Some m → 0 < m.size)
    (read : (v i : ℕ) (x : OpenVertex) (k : Driver) → slice_get d.vertices v ≡ Some x
    → slice_get x.pins i ≡ Some (Some (Driven k)) → IsRead d k) where
  abbrev total : ℕ
  total = length (banked c entries d).vertices

  abbrev top : ℕ
  top = suc (order.span + total)

  abbrev first : ℕ
  first = first_guard c d

  -- the place of a new vertex: a context bit comes first, guards after all that was there, in order
  new_place : ℕ → ℕ
  new_place v = if nat_lt v first then 0 else if nat_lt v total then suc order.span + (v - first) else 0

  -- and a Write last
  place_by : Option OpenVertex → ℕ → ℕ
  place_by None v = new_place v
  place_by (Some y) v = if is_writer y.kind then top else suc (order.place v)

  place_of : ℕ → ℕ
  place_of v = place_by (slice_get d.vertices v) v

  new_bit : (v : ℕ) → v < first → new_place v ≡ 0
  unfolding new_place
  new_bit v low = rw (lt-ltb v first low) refl

  new_guard : (v : ℕ) → first ≤ v → v < total → new_place v ≡ suc order.span + (v - first)
  unfolding new_place
  new_guard v low high = rw (le-ltb v first low, lt-ltb v total high) refl

  new_below : (v : ℕ) → new_place v < top
  unfolding new_place
  new_below v = elim (cases_lt v first) [
    | inl low ↦ rw (lt-ltb v first low) (omega arith)
    | inr low ↦ elim (cases_lt v total) [
      | inl high ↦ rw (le-ltb v first low, lt-ltb v total high) (omega (arith, high))
      | inr high ↦ rw (le-ltb v first low, le-ltb v total high) (omega arith)
    ]
  ]

  place_below : (o : Option OpenVertex) (v : ℕ) → place_by o v < suc top
  unfolding place_by
  place_below None v = let low = new_below v in omega (arith, low)
  place_below (Some y) v = by (is_writer y.kind)
    where
      by : (b : Bool) → (if b then top else suc (order.place v)) < suc top
      by true = omega arith
      by false = let low = order.within v in omega (arith, low)

  -- a vertex that is read stands before all Writes
  place_of_read : (k : Driver) → IsRead d k → place_of k.from ≡ suc (order.place k.from)
  unfolding place_of place_by
  place_of_read k is =
      ap (λ o. place_by o k.from) is.1 ∙ ap (λ b. if b then top else suc (order.place k.from)) is.2

  place_of_new : (v : ℕ) → length d.vertices ≤ v → place_of v ≡ new_place v
  unfolding place_of place_by
  place_of_new v out = ap (λ o. place_by o v) (slice_get_past d.vertices v out)

  IsBeforeWrites : Driver → Type 0
  IsBeforeWrites k = place_of k.from < top

  read_before : (k : Driver) → IsRead d k → IsBeforeWrites k
  unfolding IsBeforeWrites
  read_before k is = let same = place_of_read k is in let low = order.within k.from in omega (arith, same, low)

  new_before : (k : Driver) → length d.vertices ≤ k.from → IsBeforeWrites k
  unfolding IsBeforeWrites
  new_before k out = let same = place_of_new k.from out in let low = new_below k.from in omega (arith, same, low)

  -- what a pin reads is before the Writes
  SourceBefore : Option Source → Type 0
  SourceBefore s = (k : Driver) → s ≡ Some (Driven k) → IsBeforeWrites k

  -- what wires to vertices from a on read
  wire_from : (a n i : ℕ) (k : Driver) → slice_get (map wire (range_with_len a n)) i ≡ Some (Some (Driven k))
      → (k.from ≡ a + i) × (i < n)
  wire_from a n i k at =
      let within = slice_get_within (map wire (range_with_len a n)) i (Some (Driven k)) at in
      let count = length-map-range_with_len wire a n in
      let low : i < n = omega (arith, within, count) in
      let is = slice_get-map wire (range_with_len a n) i ∙ ap (option_map wire) (get_range a n i low) in
      let same = ap (λ (e : Driver). e.from) (same_driver (record { from = a + i; output = 0; contents = [] }) k
      (same_Some (wire (a + i)) (Some (Driven k)) (sym is ∙ at))) in
      (sym same, low)

  wire_before : (u : ℕ) → length d.vertices ≤ u → SourceBefore (wire u)
  unfolding SourceBefore
  wire_before u out k same =
      let from = ap (λ (e : Driver). e.from) (same_driver (record { from = u; output = 0; contents = [] }) k same) in
      new_before k (omega (arith, out, from))

  -- ---- vertices that were there

  module _ (v : ℕ) (x : OpenVertex) (found : slice_get d.vertices v ≡ Some x) where
    old_pin : (i : ℕ) (k : Driver) → slice_get x.pins i ≡ Some (Some (Driven k)) → length k.contents ≡ 0
        → place_of k.from < suc (order.place v)
    old_pin i k at none =
        let same = place_of_read k (read v i x k found at) in
        let low = order.below v i x k found at none in
        omega (arith, same, low)

    pins_below : (kind : VertexKind) → (i : ℕ) (k : Driver)
        → slice_get (banked_pins (context_pins c (length d.vertices)) first d kind x.pins) i ≡ Some (Some (Driven k))
        → length k.contents ≡ 0 → place_of k.from < (if is_writer kind then top else suc (order.place v))
    unfolding IsBeforeWrites SourceBefore
    pins_below Host i k at none = old_pin i k at none
    pins_below Input i k at none = old_pin i k at none
    pins_below Output i k at none = old_pin i k at none
    pins_below (Constant b) i k at none = old_pin i k at none
    pins_below (Gate kind) i k at none = old_pin i k at none
    pins_below (Read memory port) i k at none = elim
        (get_both x.pins (context_pins c (length d.vertices)) i (Some (Driven k)) at) [
          | inl here ↦ old_pin i k here none
          | inr (j, is, here) ↦
              let from = wire_from (length d.vertices) (context_bits c) j k here in
              let same = place_of_new k.from (omega (arith, from.0)) ∙ new_bit k.from (omega (arith, from.0, from.1)) in
              omega (arith, same)
        ]
    pins_below (Write memory port) i k at none =
        let low = place_after first 0 d.memories d.vertices memory in
        write_read 0 SourceBefore (length d.vertices) wire_before c (guard_place first d memory port)
        (slice_get d.memories memory) x.pins (omega (arith, low))
        (λ j s on e is. read_before e (read v j x e found (on ∙ ap Some is))) i (Some (Driven k)) at k refl

    old_place : place_of v ≡ (if is_writer x.kind then top else suc (order.place v))
    unfolding place_of place_by
    old_place = ap (λ o. place_by o v) found

  -- ---- new vertices

  bit_below : (e i : ℕ) (x : OpenVertex) (k : Driver) → slice_get (context_vertices c (length d.vertices)) e ≡ Some x
      → slice_get x.pins i ≡ Some (Some (Driven k)) → length k.contents ≡ 0 → ⊥
  bit_below e i x k found at none =
      let n = length d.vertices in
      let within = slice_get_within (context_vertices c n) e x found in
      let count = length-map-range_with_len (λ j. context_bit c (n + j) j) 0 (context_bits c) in
      let is = same_Some (context_bit c (n + e) e) x (sym (get_context_bit c n e (omega (arith, within, count)))
      ∙ found) in
      by i (ap (λ (z : OpenVertex). slice_get z.pins i) is ∙ at)
    where
      by : (i : ℕ) → slice_get (context_bit c (length d.vertices + e) e).pins i ≡ Some (Some (Driven k)) → ⊥
      by zero at =
          let source : Source = Driven
          (record { from = length d.vertices + e; output = 0; contents = counter_contents c e }) in
          let same = ap (λ (z : Driver). length z.contents)
          (same_driver (record { from = length d.vertices + e; output = 0; contents = counter_contents c e }) k
          (same_Some (Some source) (Some (Driven k)) at)) in
          let long = length-map-range_with_len (λ j. digit e (context_of c j)) 0 c in
          absurd (omega (arith, same, long, none, several))
      by (suc i) at = absurd (none-some (Some (Driven k)) at)

  guard_below : (e i : ℕ) (x : OpenVertex) (k : Driver) → slice_get (guards first 0 d.memories d.vertices) e ≡ Some x
      → slice_get x.pins i ≡ Some (Some (Driven k)) → first + e < total → place_of k.from < place_of (first + e)
  guard_below e i x k found at inside =
      let here = place_of_new (first + e) (omega arith) ∙ new_guard (first + e) (omega arith) inside in
      let back = back_guards first (λ s. (e : Driver) → s ≡ Some (Driven e) → IsRead d e) first 0 d.memories d.vertices
      (omega arith) some (write_pins_are d ports)
      (λ j p y on i s at e is. let was = in_filter (λ (z : OpenVertex). is_write_of j z.kind) d.vertices p y on in read
      was.0 i y e was.1 (at ∙ ap Some is)) in
      elim (back e i x (Some (Driven k)) found at) [
        | inl earlier ↦
            let from = ap (λ (y : Driver). y.from)
            (same_driver k (record { from = earlier.u; output = 0; contents = [] }) earlier.is) in
            let low = earlier.low in
            let high = earlier.high in
            let there = place_of_new k.from (omega (arith, low, from))
            ∙ new_guard k.from (omega (arith, low, from)) (omega (arith, high, inside, from)) in
            omega (arith, here, there, low, high, from)
        | inr read ↦
            let is = read k refl in
            let there = place_of_read k is in
            let within = order.within k.from in
            omega (arith, here, there, within)
      ]

  all_below : (v i : ℕ) (x : OpenVertex) (k : Driver) → slice_get (banked c entries d).vertices v ≡ Some x
      → slice_get x.pins i ≡ Some (Some (Driven k)) → length k.contents ≡ 0 → place_of k.from < place_of v
  all_below v i x k found at none =
      let mine = banked_vertex (context_pins c (length d.vertices)) first d in
      let count = length-map d.vertices mine in
      let bits = length-map-range_with_len (λ j. context_bit c (length d.vertices + j) j) 0 (context_bits c) in
      let within = slice_get_within (banked c entries d).vertices v x found in
      elim (get_both (map mine d.vertices) (new_vertices c d) v x found) [
        | inl old ↦
            let was = was_in mine d.vertices v x old in
            let low = pins_below v was.0 was.1 was.0.kind i k (ap (λ (z : OpenVertex). slice_get z.pins i) was.2
            ∙ at) none in
            let here = old_place v was.0 was.1 in
            omega (arith, low, here)
        | inr (e, is, new) ↦ elim
            (get_both (context_vertices c (length d.vertices)) (guards first 0 d.memories d.vertices) e x new) [
              | inl bit ↦ absurd (bit_below e i x k bit at none)
              | inr (e', is', guard) ↦
                  let place : v ≡ first + e' = omega (arith, is, is', count, bits) in
                  let low = guard_below e' i x k guard at (omega (arith, place, within)) in
                  let here = ap place_of place in
                  omega (arith, low, here)
            ]
      ]

  pub banked_order : HasDraftOrder (banked c entries d)
  unfolding place_of
  banked_order = record {
    place = place_of;
    span = suc top;
    within = λ v. place_below (slice_get d.vertices v) v;
    below = all_below;
  }
