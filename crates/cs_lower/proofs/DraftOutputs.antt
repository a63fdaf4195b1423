-- Each source that drives a pin of a netlist's draft is an output that is there; so the netlist's graph is well-formed.
use Rattle.std.specs.Prelude.{◌&&◌, slice_get}
use Rattle.std.proofs.Common.{◌≡◌, ℕ, Bool, true, List, [], ◌∷◌, ◌++◌, Some, refl, ap, ap₂, subst, ◌∙◌, arith, inl, inr}
use Rattle.std.proofs.lemmas.Option.{none-some, same_Some}
use Rattle.cs_graph.specs.declared.source.OpenVertex.{OpenVertex}
use Rattle.cs_graph.specs.declared.source.Source.{Source}
use Rattle.cs_graph.specs.declared.source.Source.TheVariants.{Driven, Tied}
use Rattle.cs_graph.specs.declared.vertex.VertexKind.TheVariants.{Constant}
use Rattle.cs_graph.specs.Invariant.{IsWellFormed as IsWellFormedGraph}
use Rattle.cs_graph.proofs.BuiltLemmas.{HasOutputs, built_well_formed}
use Rattle.cs_net.specs.Invariant.{IsWellFormed}
use Rattle.cs_net.specs.Netlist.{Net}
use Rattle.cs_net.proofs.Members.{of_all}
use Rattle.cs_net.proofs.MemoryPlaces.{map_at}
use Rattle.cs_lower.specs.declared.taps.End.{End}
use Rattle.cs_lower.specs.declared.taps.End.TheVariants.{Constant as at_bit, Vertex as at_vertex}
use Rattle.cs_lower.specs.Lowered.{constant_number, constant_source, constants, draft_of, is_used, is_value, lowered, needs_constant, passes_some, pieces_of, source_by, source_of, trail_of, vertex_of}
use Rattle.cs_lower.specs.declared.taps.Tap.{Tap}
use Rattle.cs_lower.specs.declared.taps.Piece.{Piece}
use Rattle.cs_lower.specs.Taps.{piece}
use Rattle.cs_lower.proofs.FittingNets.{part_fits}
use Rattle.cs_lower.proofs.FittingParts.{IsBefore}
use Rattle.cs_lower.proofs.Levels.{known}
use Rattle.cs_lower.proofs.LoweredOrder.{buffer_tap, lowered_order}
use Rattle.cs_lower.proofs.SeenLemmas.{constant_at, is_value_itself, used_by}
use Rattle.cs_lower.proofs.TrailEnds.{DraftGives, EndIsThere, TapIsThere, draft_kind, tap_there, trail_there}

-- ---- taps

-- an output that a vertex's tap is is there
tap_of_known : (net : Net) → IsWellFormed net → (v i : ℕ) (p : Piece) (t : Tap)
    → slice_get (pieces_of net ++ constants net) v ≡ Some p → slice_get p.pins i ≡ Some t → TapIsThere net t
tap_of_known net w v i p t at there = elim (known net v p at) [
  | inl part ↦ tap_there net v t (of_all (IsBefore net v) p.pins i t (part_fits net w v p part).taps there)
  | inr (inl (k, r, ring, is)) ↦
      subst (TapIsThere net) (buffer_tap i r t (ap (λ q. slice_get q.pins i) is ∙ there)) tt
  | inr (inr (b, is)) ↦ absurd (none-some t (ap (λ q. slice_get q.pins i) is ∙ there))
]

-- ---- sources

abbrev DriverIsThere : Net → Source → Type 0
DriverIsThere net (Tied b) = Unit {0}
DriverIsThere net (Driven k) = DraftGives net k.from k.output

constant_there : (net : Net) (v i : ℕ) (p : Piece) (t : Tap) (b : Bool)
    → slice_get (pieces_of net ++ constants net) v ≡ Some p → slice_get p.pins i ≡ Some t
    → (trail_of net t).end ≡ at_bit b → (contents : List Bool) → (trail_of net t).contents ≡ contents
    → DriverIsThere net (constant_source net b contents)
constant_there net v i p t b at there end [] is = tt
constant_there net v i p t b at there end (start ∷ contents) is =
    let needs : needs_constant b (trail_of net t) ≡ true =
    ap₂ (λ c e. passes_some c && is_value b e) is end ∙ is_value_itself b in
    let used : is_used net b ≡ true = used_by net v i p t b at there needs in
    record {
      kind = Constant b;
      found = draft_kind net (constant_number net b) (piece (Constant b) []) (constant_at net b used);
      among = omega arith;
    }

source_there : (net : Net) → IsWellFormed net → (v i : ℕ) (p : Piece) (t : Tap)
    → slice_get (pieces_of net ++ constants net) v ≡ Some p → slice_get p.pins i ≡ Some t
    → DriverIsThere net (source_of net t)
source_there net w v i p t at there =
    by (trail_of net t).end refl (trail_there net w t (tap_of_known net w v i p t at there))
  where
    by : (end : End) → (trail_of net t).end ≡ end → EndIsThere net end
        → DriverIsThere net (source_by net (trail_of net t).contents end)
    by (at_vertex u o) is ends = ends
    by (at_bit b) is ends = constant_there net v i p t b at there is (trail_of net t).contents refl

pub draft_outputs : (net : Net) → IsWellFormed net → HasOutputs (draft_of net)
draft_outputs net w v i x k at there =
    let p = map_at (vertex_of net) (pieces_of net ++ constants net) v x at in
    let t = map_at (λ u. Some (source_of net u)) p.0.pins i (Some (Driven k))
    (ap (λ (y : OpenVertex). slice_get y.pins i) p.2 ∙ there) in
    subst (DriverIsThere net) (same_Some (source_of net t.0) (Driven k) t.2) (source_there net w v i p.0 t.0 p.1 t.1)

-- ---- the graph

-- the graph of a well-formed netlist is well-formed
pub lowered_well_formed : (net : Net) → IsWellFormed net → IsWellFormedGraph (lowered net)
lowered_well_formed net w = built_well_formed (draft_of net) (draft_outputs net w) (lowered_order net w)
