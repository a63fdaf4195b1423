-- The graph of a netlist is a machine where it is within the limits.
use Rattle.std.specs.Prelude.{slice_get}
use Rattle.std.proofs.Common.{◌≡◌, ℕ, List, [], ◌++◌, length, Some, refl, sym, ap, subst, ◌∙◌, arith, inl, inr}
use Rattle.std.proofs.lemmas.List.{length-map}
use Rattle.std.proofs.lemmas.Simd.{map-map}
use Rattle.cs_graph.specs.declared.source.OpenVertex.{OpenVertex}
use Rattle.cs_graph.specs.declared.vertex.Vertex.{Vertex}
use Rattle.cs_graph.specs.declared.vertex.VertexKind.TheVariants.{Host}
use Rattle.cs_graph.specs.Draft.{IsDraft, IsWithinLimits, open_kinds}
use Rattle.cs_graph.specs.Invariant.{HasHost, HasMemories, HasMemory, IsMachine, IsWithinLimits as IsGraphWithinLimits, kinds}
use Rattle.cs_graph.specs.Kinds.{pin_count}
use Rattle.cs_graph.proofs.BuiltLemmas.{became, built_machine, kinds_from, length_edges_from, length_vertices_from, weight_from}
use Rattle.cs_net.specs.Invariant.{IsWellFormed}
use Rattle.cs_net.specs.Netlist.{Net}
use Rattle.cs_net.proofs.MemoryPlaces.{map_at}
use Rattle.cs_lower.specs.Lowered.{constants, draft_of, lowered, pieces_of, source_of, vertex_of}
use Rattle.cs_lower.specs.declared.taps.Piece.{Piece}
use Rattle.cs_lower.specs.Taps.{piece}
use Rattle.cs_lower.proofs.DraftMemories.{each_memory, few_memories}
use Rattle.cs_lower.proofs.DraftOutputs.{draft_outputs}
use Rattle.cs_lower.proofs.FittingNets.{part_fits}
use Rattle.cs_lower.proofs.Levels.{known}
use Rattle.cs_lower.proofs.LoweredOrder.{lowered_order}
use Rattle.cs_lower.proofs.PieceValues.{host_piece}
use Rattle.cs_graph.proofs.Lists.{get_left}
use Rattle.cs_lower.proofs.PortNumbers.{kinds_of, next_at}
use Rattle.cs_lower.proofs.PortsInOrder.{all_next}
use Rattle.cs_lower.proofs.ReadWidths.{few_outputs}
use Rattle.cs_lower.proofs.TrailEnds.{draft_kind}

module _ (net : Net) (w : IsWellFormed net) where
  -- all vertices of the netlist
  abbrev all : List Piece
  all = pieces_of net ++ constants net

  draft_kinds : kinds_of all ≡ open_kinds (draft_of net).vertices
  draft_kinds = sym (map-map (λ (x : OpenVertex). x.kind) (vertex_of net) all)

  -- ---- vertices

  host_first : (v : ℕ) (p : Piece) → slice_get all v ≡ Some p → p.kind ≡ Host → v ≡ 0
  host_first v p at is = elim (known net v p at) [
    | inl part ↦ (part_fits net w v p part).host is
    | inr (inl (k, r, ring, same)) ↦ let kind = ap (λ q. q.kind) same in absurd (cc)
    | inr (inr (b, same)) ↦ let kind = ap (λ q. q.kind) same in absurd (cc)
  ]

  one_host : HasHost (open_kinds (draft_of net).vertices)
  one_host = record {
    first = draft_kind net 0 (piece Host [])
        (get_left (pieces_of net) (constants net) 0 (piece Host []) (host_piece net));
    one = λ v at.
        let p = map_at (λ q. q.kind) all v Host (ap (λ ks. slice_get ks v) draft_kinds ∙ at) in
        host_first v p.0 p.1 p.2;
  }

  -- each vertex has the pins of its kind
  pins_fit : (v : ℕ) (p : Piece) → slice_get all v ≡ Some p → length p.pins ≡ pin_count (draft_of net).memories p.kind
  pins_fit v p at = elim (known net v p at) [
    | inl part ↦ (part_fits net w v p part).count
    | inr (inl (k, r, ring, same)) ↦
        subst (λ (q : Piece). length q.pins ≡ pin_count (draft_of net).memories q.kind) same refl
    | inr (inr (b, same)) ↦
        subst (λ (q : Piece). length q.pins ≡ pin_count (draft_of net).memories q.kind) same refl
  ]

  memory_there : (v : ℕ) (p : Piece) → slice_get all v ≡ Some p → HasMemory (draft_of net).memories p.kind
  memory_there v p at = elim (known net v p at) [
    | inl part ↦ (part_fits net w v p part).there
    | inr (inl (k, r, ring, same)) ↦ subst (λ (q : Piece). HasMemory (draft_of net).memories q.kind) same tt
    | inr (inr (b, same)) ↦ subst (λ (q : Piece). HasMemory (draft_of net).memories q.kind) same tt
  ]

  vertex_pins : (v : ℕ) (x : OpenVertex) → slice_get (draft_of net).vertices v ≡ Some x
      → length x.pins ≡ pin_count (draft_of net).memories x.kind
  vertex_pins v x at =
      let p = map_at (vertex_of net) all v x at in
      subst (λ (y : OpenVertex). length y.pins ≡ pin_count (draft_of net).memories y.kind) p.2
      (length-map p.0.pins (λ t. Some (source_of net t)) ∙ pins_fit v p.0 p.1)

  -- ---- memories

  all_memories : HasMemories (draft_of net).memories (kinds_of all)
  all_memories = record {
    few = few_memories net w;
    each = each_memory net w;
    there = λ v kind at.
        let p = map_at (λ q. q.kind) all v kind at in
        subst (HasMemory (draft_of net).memories) p.2 (memory_there v p.0 p.1);
    ports = λ v kind at. next_at [] (kinds_of all) (all_next net) v kind at;
    reads = few_outputs net w;
  }

  -- ---- the graph, whatever the limits

  -- each vertex of the graph has the pins of its kind
  pub lowered_pins : (v : ℕ) (x : Vertex) → slice_get (lowered net).vertices v ≡ Some x
      → length x.pins ≡ pin_count (lowered net).memories x.kind
  lowered_pins v x found =
      let was = became 0 (draft_of net).vertices v x found in
      was.count ∙ vertex_pins v was.old was.given ∙ ap (pin_count (draft_of net).memories) (sym was.kind)

  -- and the memories fit its vertices
  pub lowered_memories : HasMemories (lowered net).memories (kinds (lowered net).vertices)
  lowered_memories =
      subst (HasMemories (draft_of net).memories) (draft_kinds ∙ sym (kinds_from 0 (draft_of net).vertices)) all_memories

  -- ---- the draft

  -- a netlist's draft is one of a machine where it is within the limits
  pub draft_fits : IsWithinLimits (draft_of net).vertices → IsDraft (draft_of net)
  draft_fits limits = record {
    host = one_host;
    pins = vertex_pins;
    outputs = draft_outputs net w;
    memories = subst (HasMemories (draft_of net).memories) draft_kinds all_memories;
    limits = limits;
  }

  -- the draft is within the limits where the graph is
  draft_within : IsGraphWithinLimits (lowered net) → IsWithinLimits (draft_of net).vertices
  draft_within limits =
      let vertices = length_vertices_from 0 (draft_of net).vertices in
      let edges = length_edges_from 0 (draft_of net).vertices in
      let weight = weight_from 0 (draft_of net).vertices in
      let few_vertices = limits.vertices in
      let few_edges = limits.edges in
      let few_registers = limits.weight in
      record {
        vertices = omega (arith, vertices, few_vertices);
        edges = omega (arith, edges, few_edges);
        weight = omega (arith, weight, few_registers);
      }

  -- the graph of a netlist is a machine where it is within the limits
  pub lowered_machine : IsGraphWithinLimits (lowered net) → IsMachine (lowered net)
  lowered_machine limits = built_machine (draft_of net) (draft_fits (draft_within limits)) (lowered_order net w)
