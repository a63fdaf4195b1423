-- Drafts whose registers are several.
use Rattle.std.proofs.Common.{◌≡◌, ℕ, suc, ◌+◌, ◌-◌, ◌*◌, ◌<◌, ◌≤◌, false, List, [], ◌∷◌, length, map, take, refl, sym, ap, ap₂, ◌∙◌, inl, inr, arith}
use Rattle.std.specs.Prelude.{pos, ◌-ℤ◌, slice_get, option_map, Option, Some, None, if◌then◌else◌, nat_lt}
use Rattle.std.specs.List.{count_by}
use Rattle.std.proofs.lemmas.Bool.{cases_lt}
use Rattle.std.proofs.lemmas.Bool.Decides.{nat_tests}
use Rattle.std.proofs.lemmas.List.{length-map}
use Rattle.std.proofs.lemmas.Option.{slice_get-map}
use Rattle.cs_graph.specs.declared.edge.Edge.{Edge}
use Rattle.cs_graph.specs.declared.graph.Graph.{Graph}
use Rattle.cs_graph.specs.declared.source.Driver.{Driver}
use Rattle.cs_graph.specs.declared.source.OpenVertex.{OpenVertex}
use Rattle.cs_graph.specs.declared.source.Source.{Source}
use Rattle.cs_graph.specs.declared.source.Source.TheVariants.{Driven, Tied as TiedTo}
use Rattle.cs_graph.specs.declared.vertex.Feed.{Feed}
use Rattle.cs_graph.specs.declared.vertex.Feed.TheVariants.{Edge as Along, Tied}
use Rattle.cs_graph.specs.declared.vertex.Vertex.{Vertex}
use Rattle.cs_graph.specs.Draft.{Draft, open_kinds}
use Rattle.cs_graph.specs.Kinds.{is_write_of}
use Rattle.cs_graph.specs.Run.{Outs}
use Rattle.cs_graph.specs.Slow.{repeated, slow, slow_edge}
use Rattle.cs_graph.proofs.SlowLemmas.{length-repeated}
use Rattle.cs_graph.proofs.Slowed.{get_or-repeated, slow_now, slow_past}
use Rattle.cs_bank.specs.Wired.{edge_source, feed_source, wired, wired_vertex}
use Rattle.cs_bank.proofs.BankedPlaces.{HasPorts}
use Rattle.cs_bank.proofs.Counters.{at_now, at_past}
use Rattle.cs_bank.proofs.DraftRuns.{carried_from, sees}
use Rattle.cs_bank.proofs.Lists.{was_in}

abbrev pub slow_driver : ℕ → Driver → Driver
slow_driver c k = record k { contents = repeated c k.contents }

abbrev pub slow_pin : ℕ → Option Source → Option Source
slow_pin c None = None
slow_pin c (Some (TiedTo b)) = Some (TiedTo b)
slow_pin c (Some (Driven k)) = Some (Driven (slow_driver c k))

abbrev pub slow_open : ℕ → OpenVertex → OpenVertex
slow_open c x = record x { pins = map (slow_pin c) x.pins }

abbrev pub slow_draft : ℕ → Draft → Draft
slow_draft c d = record d { vertices = map (slow_open c) d.vertices }

-- ---- the wired form of a slowed graph

edge_slowed : (c : ℕ) (o : Option Edge) → edge_source (option_map (slow_edge c) o) ≡ slow_pin c (edge_source o)
edge_slowed c None = refl
edge_slowed c (Some d) = refl

feed_slowed : (c : ℕ) (edges : List Edge) (f : Feed)
    → feed_source (map (slow_edge c) edges) f ≡ slow_pin c (feed_source edges f)
feed_slowed c edges (Tied b) = refl
feed_slowed c edges (Along e) = ap edge_source (slice_get-map (slow_edge c) edges e) ∙ edge_slowed c (slice_get edges e)

pins_slowed : (c : ℕ) (edges : List Edge) (fs : List Feed)
    → map (feed_source (map (slow_edge c) edges)) fs ≡ map (slow_pin c) (map (feed_source edges) fs)
pins_slowed c edges [] = refl
pins_slowed c edges (f ∷ fs) = ap₂ (λ y ys. y ∷ ys) (feed_slowed c edges f) (pins_slowed c edges fs)

vertices_slowed : (c : ℕ) (edges : List Edge) (xs : List Vertex)
    → map (wired_vertex (map (slow_edge c) edges)) xs ≡ map (slow_open c) (map (wired_vertex edges) xs)
vertices_slowed c edges [] = refl
vertices_slowed c edges (x ∷ xs) =
    ap₂ (λ y ys. record { kind = x.kind; pins = y } ∷ ys) (pins_slowed c edges x.pins) (vertices_slowed c edges xs)

pub wired_slow : (c : ℕ) (g : Graph) → wired (slow c g) ≡ slow_draft c (wired g)
wired_slow c g = ap (λ xs. record { vertices = xs; memories = g.memories }) (vertices_slowed c g.edges g.vertices)

-- ---- ports

kinds_slowed : (c : ℕ) (xs : List OpenVertex) → open_kinds (map (slow_open c) xs) ≡ open_kinds xs
kinds_slowed c [] = refl
kinds_slowed c (x ∷ xs) = ap (λ ks. x.kind ∷ ks) (kinds_slowed c xs)

pub ports_slow : (c : ℕ) (d : Draft) → HasPorts d → HasPorts (slow_draft c d)
ports_slow c d ports = record {
  reads = λ v memory port y found kind.
      let old = was_in (slow_open c) d.vertices v y found in
      let own = ports.reads v memory port old.0 old.1 (ap (λ (z : OpenVertex). z.kind) old.2 ∙ kind) in
      (own.0, own.1, sym (ap (λ (z : OpenVertex). length z.pins) old.2) ∙ length-map old.0.pins (slow_pin c) ∙ own.2);
  writes = λ v memory port y found kind.
      let old = was_in (slow_open c) d.vertices v y found in
      let own = ports.writes v memory port old.0 old.1 (ap (λ (z : OpenVertex). z.kind) old.2 ∙ kind) in (
        own.0,
        own.1,
        sym (ap (λ (z : OpenVertex). length z.pins) old.2) ∙ length-map old.0.pins (slow_pin c) ∙ own.2,
        own.3 ∙ ap (λ ks. count_by (is_write_of memory) (take v ks)) (sym (kinds_slowed c d.vertices)),
      );
}

-- ---- what pins see in one context

module _ (c k : ℕ) (below : k < c) (value : ℕ → Outs) (count : ℕ) where
  -- the values of context k, of the first vertices
  unfoldable pub context : ℕ → Outs
  context n v o = if nat_lt v count then value (n * c + k) v o else false

  pub context_in : (n v o : ℕ) → v < count → context n v o ≡ value (n * c + k) v o
  unfolding context
  context_in n v o h = grind (arith, nat_tests)

  pub context_out : (n v o : ℕ) → count ≤ v → context n v o ≡ false
  unfolding context
  context_out n v o h = grind (arith, nat_tests)

  carried_slow : (s : Driver) (n : ℕ) → s.from < count
      → carried_from (slow_driver c s) value (pos (n * c + k) -ℤ pos (length s.contents * c))
      ≡ carried_from s context (pos n -ℤ pos (length s.contents))
  carried_slow s n in_range =
      let w = length s.contents in
      elim (cases_lt n w) [
        | inl before ↦
            let j = w - n - 1 in
            let few : n + suc j ≡ w = omega (arith, before) in
            let sum : (n * c + k) + suc (j * c + (c - suc k)) ≡ w * c = slow_past n j c k below ∙ ap (λ m. m * c) few in
            ap (carried_from (slow_driver c s) value) (at_past (n * c + k) (w * c) (j * c + (c - suc k)) sum)
            ∙ get_or-repeated s.contents c j (c - suc k) (omega (arith, below))
            ∙ sym (ap (carried_from s context) (at_past n w j few))
        | inr after ↦
            let m = n - w in
            let few : m + w ≡ n = omega (arith, after) in
            ap (carried_from (slow_driver c s) value)
            (at_now (n * c + k) (w * c) (m * c + k) (slow_now m w c k ∙ ap (λ t. t * c + k) few))
            ∙ sym (context_in m s.from s.output in_range)
            ∙ sym (ap (carried_from s context) (at_now n w m few))
      ]

  pin_slow : (n : ℕ) (s : Option Source) → ((d : Driver) → s ≡ Some (Driven d) → d.from < count)
      → sees value (n * c + k) (slow_pin c s) ≡ sees context n s
  pin_slow n None h = refl
  pin_slow n (Some (TiedTo b)) h = refl
  pin_slow n (Some (Driven d)) h =
      ap (λ w. carried_from (slow_driver c d) value (pos (n * c + k) -ℤ pos w)) (length-repeated c d.contents)
      ∙ carried_slow d n (h d refl)

  pub pins_slow : (n : ℕ) (pins : List (Option Source))
      → ((i : ℕ) (d : Driver) → slice_get pins i ≡ Some (Some (Driven d)) → d.from < count)
      → map (sees value (n * c + k)) (map (slow_pin c) pins) ≡ map (sees context n) pins
  pins_slow n [] h = refl
  pins_slow n (s ∷ pins) h =
      ap₂ (λ x xs. x ∷ xs) (pin_slow n s (λ d is. h 0 d (ap Some is))) (pins_slow n pins (λ i d at. h (suc i) d at))
