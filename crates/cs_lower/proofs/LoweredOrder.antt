-- The graph of a netlist has an order: no loop lacks a register.
use Rattle.std.specs.Prelude.{◌==◌, slice_get}
use Rattle.std.proofs.Common.{◌≡◌, ℕ, zero, suc, ◌+◌, ◌<◌, Bool, true, false, List, [], ◌∷◌, ◌++◌, length, Option, Some, None, refl, sym, ap, subst, ◌∙◌, arith, inl, inr, length-append}
use Rattle.std.specs.List.{position_from}
use Rattle.std.proofs.lemmas.Option.{none-some, same_Some}
use Rattle.cs_base.specs.declared.signal.Signal.TheVariants.{Zero, One, Unknown, HighZ, Bit}
use Rattle.cs_graph.specs.declared.edge.Edge.{Edge}
use Rattle.cs_graph.specs.declared.source.Driver.{Driver}
use Rattle.cs_graph.specs.declared.source.OpenVertex.{OpenVertex}
use Rattle.cs_graph.specs.declared.source.Source.{Source}
use Rattle.cs_graph.specs.declared.source.Source.TheVariants.{Driven, Tied}
use Rattle.cs_graph.specs.Invariant.{HasOrder}
use Rattle.cs_graph.proofs.BuiltLemmas.{vertex_from}
use Rattle.cs_net.specs.Drivers.{IsBitOrder, driver_of}
use Rattle.cs_net.specs.Invariant.{IsWellFormed}
use Rattle.cs_net.specs.Netlist.{Net}
use Rattle.cs_net.proofs.Members.{of_all}
use Rattle.cs_net.proofs.MemoryPlaces.{map_at}
use Rattle.cs_lower.specs.Followed.{Trail, behind_wire, ends}
use Rattle.cs_lower.specs.declared.taps.End.{End}
use Rattle.cs_lower.specs.declared.taps.End.TheVariants.{Constant as at_bit, Vertex as at_vertex}
use Rattle.cs_lower.specs.Lowered.{buffer, constant_source, constants, draft_of, lowered, pieces_of, source_by, source_of, trail_of, vertex_of, wiring_of}
use Rattle.cs_lower.specs.Matching.{Matches}
use Rattle.cs_lower.specs.declared.taps.Tap.{Tap}
use Rattle.cs_lower.specs.declared.taps.Tap.TheVariants.{Constant as of_bit, Held as of_held, Register as of_register, Signal as of_signal, Vertex as of_vertex}
use Rattle.cs_lower.specs.declared.taps.Wire.{Wire}
use Rattle.cs_lower.specs.declared.taps.Wire.TheVariants.{Register as from_register, Vertex as from_vertex, Undriven as undriven}
use Rattle.cs_lower.specs.declared.taps.Piece.{Piece}
use Rattle.cs_lower.specs.Wires.{parts_of, wire_in}
use Rattle.cs_lower.proofs.FittingNets.{part_fits}
use Rattle.cs_lower.proofs.FittingParts.{IsBefore}
use Rattle.cs_lower.proofs.Levels.{at_most, driver_level, known, level, level_at_most, level_is, level_within, most, span, tap_level}
use Rattle.cs_lower.proofs.MatchLemmas.{matches, well_named}
use Rattle.cs_lower.proofs.TrailEnds.{buffer_at, ring_register}
use Rattle.cs_lower.proofs.TrailLemmas.{trail_of_free, trail_of_register, trail_of_ring, trail_step}

-- ---- trails through no register

-- a trail leads to this output and passes no register
pub record LeadsAtOnce (t : Trail) (v o : ℕ) : Type 0 where
  pub contents : t.contents ≡ []
  pub end : t.end ≡ at_vertex v o

number_of_end : End → ℕ
number_of_end (at_vertex v o) = v
number_of_end (at_bit b) = 0

same_vertex : (u o v p : ℕ) → at_vertex u o ≡ at_vertex v p → u ≡ v
unfolding number_of_end
same_vertex u o v p same = ap number_of_end same

is_bit_end : End → ℕ
is_bit_end (at_vertex v o) = 0
is_bit_end (at_bit b) = 1

no_vertex : (b : Bool) (v o : ℕ) → at_bit b ≡ at_vertex v o → ⊥
unfolding is_bit_end
no_vertex b v o same = let no : ◌≡◌ {A = ℕ} 1 0 = ap is_bit_end same in absurd (omega (arith, no))

-- one that stands for good leads to no output
bit_leads : (b : Bool) (v o : ℕ) → LeadsAtOnce (ends (at_bit b)) v o → ⊥
bit_leads b v o leads = no_vertex b v o leads.end

-- one that passes a register does so
past_leads : (start : Bool) (contents : List Bool) → contents ++ start ∷ [] ≡ [] → ⊥
past_leads start contents none =
    let count = length-append contents (start ∷ []) in
    let same = ap length none in
    absurd (omega (arith, count, same))

-- a register's bit leads to no output at once
register_leads : (net : Net) (b v o : ℕ) (d : Tap) → wire_in (wiring_of net).wires b ≡ from_register d
    → LeadsAtOnce (trail_of net (of_register b)) v o → ⊥
register_leads net b v o d wired leads =
    let is = trail_of_register net b ∙ ap (behind_wire ((wiring_of net).start b) (trail_of net)) wired in
    past_leads ((wiring_of net).start b) (trail_of net d).contents
    (sym (ap (λ (t : Trail). t.contents) is) ∙ leads.contents)

-- ---- levels rise along such trails

-- the tap of a ring's buffer is a register's
pub buffer_tap : (i r : ℕ) (t : Tap) → slice_get (buffer r).pins i ≡ Some t → of_register r ≡ t
buffer_tap zero r t there = same_Some (of_register r) t there
buffer_tap (suc i) r t there = absurd (none-some t there)

module _ (net : Net) (w : IsWellFormed net) (place : ℕ → ℕ) (order : IsBitOrder net place) where
  -- of a bit that no ring buffer takes the place of
  wire_rises : (b v o : ℕ) (x : Wire) → wire_in (wiring_of net).wires b ≡ x
      → Matches net (Bit b) (driver_of net b) x
      → LeadsAtOnce (behind_wire ((wiring_of net).start b) (trail_of net) x) v o → level net place v < place b + 1
  wire_rises b v o undriven wired matched leads = absurd (bit_leads false v o leads)
  wire_rises b v o (from_vertex u p) wired matched leads =
      let same = same_vertex u p v o leads.end in
      let few = driver_level net w place order b u p matched in
      let there = ap (level net place) same in
      omega (arith, few, there)
  wire_rises b v o (from_register d) wired matched leads =
      absurd (past_leads ((wiring_of net).start b) (trail_of net d).contents leads.contents)

  free_rises : (b v o : ℕ) → position_from (λ r. r == b) 0 (wiring_of net).rings ≡ None
      → LeadsAtOnce (trail_of net (of_signal (Bit b))) v o → level net place v < place b + 1
  free_rises b v o free leads =
      wire_rises b v o (wire_in (wiring_of net).wires b) refl (matches net (well_named net w) b)
      (subst (λ t. LeadsAtOnce t v o) (trail_of_free net b free) leads)

  -- of a bit that one does
  ring_rises : (b i v o : ℕ) → position_from (λ r. r == b) 0 (wiring_of net).rings ≡ Some i
      → LeadsAtOnce (trail_of net (of_signal (Bit b))) v o → level net place v < place b + 1
  ring_rises b i v o found leads =
      let first : ℕ = (wiring_of net).first_buffer in
      let at = buffer_at net b i found in
      let led = subst (λ t. LeadsAtOnce t v o) (trail_of_ring net b i found) leads in
      let same = same_vertex (first + i) 0 v o led.end in
      let there = ap (level net place) same in
      let none = level_is net w place (first + i) (buffer at.0) at.1 in
      omega (arith, there, none)

  bit_rises : (b v o : ℕ) → LeadsAtOnce (trail_of net (of_signal (Bit b))) v o → level net place v < place b + 1
  bit_rises b v o leads = by (position_from (λ r. r == b) 0 (wiring_of net).rings) refl
    where
      by : (found : Option ℕ) → position_from (λ r. r == b) 0 (wiring_of net).rings ≡ found
          → level net place v < place b + 1
      by None free = free_rises b v o free leads
      by (Some i) found = ring_rises b i v o found leads

  -- what a tap of a vertex before ring buffers leads to is below the tap
  tap_rises : (n : ℕ) (t : Tap) → IsBefore net n t → (v o : ℕ) → LeadsAtOnce (trail_of net t) v o
      → level net place v < tap_level place (most net place) t
  tap_rises n (of_signal Zero) before v o leads =
      absurd (bit_leads false v o (subst (λ t. LeadsAtOnce t v o) (trail_step net (of_signal Zero)) leads))
  tap_rises n (of_signal One) before v o leads =
      absurd (bit_leads true v o (subst (λ t. LeadsAtOnce t v o) (trail_step net (of_signal One)) leads))
  tap_rises n (of_signal Unknown) before v o leads =
      absurd (bit_leads false v o (subst (λ t. LeadsAtOnce t v o) (trail_step net (of_signal Unknown)) leads))
  tap_rises n (of_signal HighZ) before v o leads =
      absurd (bit_leads false v o (subst (λ t. LeadsAtOnce t v o) (trail_step net (of_signal HighZ)) leads))
  tap_rises n (of_signal (Bit b)) before v o leads = bit_rises b v o leads
  tap_rises n (of_vertex u p) before v o leads =
      let led = subst (λ t. LeadsAtOnce t v o) (trail_step net (of_vertex u p)) leads in
      let same = same_vertex u p v o led.end in
      let there = ap (level net place) same in
      let few = level_at_most net w place u before.1.vertex before.1.stands in
      omega (arith, there, few)
  tap_rises n (of_bit b) before v o leads =
      absurd (bit_leads b v o (subst (λ t. LeadsAtOnce t v o) (trail_step net (of_bit b)) leads))
  tap_rises n (of_register b) before v o leads = absurd before
  tap_rises n (of_held u start) before v o leads =
      let led = subst (λ t. LeadsAtOnce t v o) (trail_step net (of_held u start)) leads in
      absurd (past_leads start [] led.contents)

  part_rises : (v i u o : ℕ) (p : Piece) (t : Tap) → slice_get (pieces_of net ++ constants net) v ≡ Some p
      → slice_get (parts_of net).pieces v ≡ Some p → slice_get p.pins i ≡ Some t → LeadsAtOnce (trail_of net t) u o
      → level net place u < level net place v
  part_rises v i u o p t at part there leads =
      let before = of_all (IsBefore net v) p.pins i t (part_fits net w v p part).taps there in
      let below = tap_rises v t before u o leads in
      let same = level_is net w place v p at in
      let above = at_most (tap_level place (most net place)) p.pins i t there in
      omega (arith, below, same, above)

  buffer_rises : (i r k u o : ℕ) (t : Tap) → slice_get (wiring_of net).rings k ≡ Some r
      → slice_get (buffer r).pins i ≡ Some t → LeadsAtOnce (trail_of net t) u o → ⊥
  buffer_rises i r k u o t ring there leads =
      let d = ring_register net k r ring in
      register_leads net r u o d.0 d.1
      (subst (λ s. LeadsAtOnce (trail_of net s) u o) (sym (buffer_tap i r t there)) leads)

  -- a vertex that a pin reads through no register is below the pin's
  pub level_rises : (v i u o : ℕ) (p : Piece) (t : Tap) → slice_get (pieces_of net ++ constants net) v ≡ Some p
      → slice_get p.pins i ≡ Some t → LeadsAtOnce (trail_of net t) u o → level net place u < level net place v
  level_rises v i u o p t at there leads = elim (known net v p at) [
    | inl part ↦ part_rises v i u o p t at part there leads
    | inr (inl (k, r, ring, is)) ↦
        absurd (buffer_rises i r k u o t ring (ap (λ q. slice_get q.pins i) is ∙ there) leads)
    | inr (inr (b, is)) ↦ absurd (none-some t (ap (λ q. slice_get q.pins i) is ∙ there))
  ]

-- ---- sources

-- a tied pin has no driver
from_of : Source → ℕ
from_of (Tied b) = 0
from_of (Driven k) = k.from

contents_of : Source → List Bool
contents_of (Tied b) = []
contents_of (Driven k) = k.contents

is_driven : Source → ℕ
is_driven (Tied b) = 0
is_driven (Driven k) = 1

not_driven : (b : Bool) (k : Driver) → Tied b ≡ Driven k → ⊥
unfolding is_driven
not_driven b k same = let no : ◌≡◌ {A = ℕ} 0 1 = ap is_driven same in absurd (omega (arith, no))

none_held : (contents : List Bool) → length contents ≡ 0 → contents ≡ []
none_held [] is = refl
none_held (b ∷ contents) is = absurd (omega (arith, is))

constant_driven : (net : Net) (b : Bool) (contents : List Bool) (k : Driver) → constant_source net b contents ≡ Driven k
    → length k.contents ≡ 0 → ⊥
unfolding contents_of
constant_driven net b [] k same none = not_driven b k same
constant_driven net b (start ∷ contents) k same none =
    let count = ap (λ s. length (contents_of s)) same in absurd (omega (arith, count, none))

-- a source that passes no register is an output
driven_at_once : (net : Net) (t : Trail) (k : Driver) → source_by net t.contents t.end ≡ Driven k
    → length k.contents ≡ 0 → (o : ℕ) × LeadsAtOnce t k.from o
unfolding from_of contents_of
driven_at_once net t k is none = by t.end refl is
  where
    by : (end : End) → t.end ≡ end → source_by net t.contents end ≡ Driven k → (o : ℕ) × LeadsAtOnce t k.from o
    by (at_vertex v o) there is =
        let from : v ≡ k.from = ap from_of is in (
          o,
          record {
            contents = none_held t.contents (ap (λ s. length (contents_of s)) is ∙ none);
            end = there ∙ ap (λ u. at_vertex u o) from;
          },
        )
    by (at_bit b) there is = absurd (constant_driven net b t.contents k is none)

-- ---- the order

-- an edge of the graph is of a pin's source
pub record IsOfPin (net : Net) (d : Edge) : Type 0 where
  pub vertex : Piece
  pub at : slice_get (pieces_of net ++ constants net) d.to ≡ Some vertex
  pub tap : Tap
  pub there : slice_get vertex.pins d.pin ≡ Some tap
  pub driver : Driver
  pub source : source_of net tap ≡ Driven driver
  pub from : d.from ≡ driver.from
  pub held : length driver.contents ≡ d.weight

pub edge_of_pin : (net : Net) (e : ℕ) (d : Edge) → slice_get (lowered net).edges e ≡ Some d → IsOfPin net d
edge_of_pin net e d at =
    let x = vertex_from 0 0 (draft_of net).vertices e d at in
    let p = map_at (vertex_of net) (pieces_of net ++ constants net) x.w x.old x.given in
    let to : x.w ≡ d.to = let is = x.to in omega (arith, is) in
    let t = map_at (λ u. Some (source_of net u)) p.0.pins d.pin (Some (Driven x.comes.driver))
    (ap (λ (y : OpenVertex). slice_get y.pins d.pin) p.2 ∙ x.comes.source) in
    record {
      vertex = p.0;
      at = ap (slice_get (pieces_of net ++ constants net)) (sym to) ∙ p.1;
      tap = t.0;
      there = t.1;
      driver = x.comes.driver;
      source = same_Some (source_of net t.0) (Driven x.comes.driver) t.2;
      from = x.comes.from;
      held = ap length (sym x.comes.contents) ∙ x.comes.held;
    }

edge_rises : (net : Net) → IsWellFormed net → (place : ℕ → ℕ) → IsBitOrder net place → (d : Edge) → IsOfPin net d
    → d.weight ≡ 0 → level net place d.from < level net place d.to
edge_rises net w place order d pin none =
    let led = driven_at_once net (trail_of net pin.tap) pin.driver pin.source (pin.held ∙ none) in
    let below =
    level_rises net w place order d.to d.pin pin.driver.from led.0 pin.vertex pin.tap pin.at pin.there led.1 in
    let from = ap (level net place) pin.from in
    omega (arith, below, from)

-- each vertex has a place after all that feed it without a register
pub lowered_order : (net : Net) → IsWellFormed net → HasOrder (lowered net)
lowered_order net w = record {
  place = level net w.order.place;
  span = span net w.order.place;
  within = level_within net w w.order.place;
  below = λ e d at none.
      edge_rises net w w.order.place w.order.order d (edge_of_pin net e d at) none;
}
