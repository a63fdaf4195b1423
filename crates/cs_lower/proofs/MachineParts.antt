-- What is made of a netlist that is within the limits is what a machine is assembled of.
use Rattle.std.specs.Prelude.{cond, min, slice_get}
use Rattle.std.proofs.Common.{◌≡◌, ◌∙◌, ℕ, zero, suc, ◌*◌, ◌-◌, ◌^◌, ◌<◌, ◌≤◌, ◌++◌, Bool, List, Option, Some, None, ap, arith, inl, inr, length, refl, subst, sym}
use Rattle.std.specs.List.{AllByRecursion, zip}
use Rattle.std.specs.Option.{option_or}
use Rattle.std.proofs.lemmas.Bool.{cases_lt, lt-ltb}
use Rattle.std.proofs.lemmas.List.{length-map}
use Rattle.std.proofs.lemmas.Option.{none-some, slice_get_within}
use Rattle.cs_base.specs.declared.limit.Counted.{Counted}
use Rattle.cs_base.specs.declared.limit.Counted.TheVariants.{Edges, Vertices, Weight}
use Rattle.cs_base.specs.declared.limit.LimitFault.{LimitFault}
use Rattle.cs_graph.specs.declared.memory.Memory.{Memory}
use Rattle.cs_graph.specs.declared.source.OpenVertex.{OpenVertex}
use Rattle.cs_graph.specs.declared.source.Source.{Source}
use Rattle.cs_graph.specs.declared.source.Source.TheVariants.{Driven, Tied}
use Rattle.cs_graph.specs.declared.vertex.VertexKind.{VertexKind}
use Rattle.cs_graph.specs.declared.vertex.VertexKind.TheVariants.{Constant, Gate, Host, Input, Output, Read, Write}
use Rattle.cs_graph.specs.Draft.{AreFed, IsDraft, IsWithinLimits, built, edge_count, open_kinds, weight}
use Rattle.cs_graph.specs.Invariant.{HasOrder, IsMemory}
use Rattle.cs_graph.specs.Kinds.{output_count, word_bits}
use Rattle.cs_modules.specs.Memories.{shapes_in}
use Rattle.cs_net.specs.Accept.{above_limit}
use Rattle.cs_net.specs.Invariant.{IsWellFormed}
use Rattle.cs_net.specs.Netlist.{Net}
use Rattle.cs_net.proofs.MemoryPlaces.{at_map, map_at}
use Rattle.cs_lower.specs.declared.taps.Piece.{Piece}
use Rattle.cs_lower.specs.declared.taps.Tap.{Tap}
use Rattle.cs_lower.specs.LowerFaults.{lower_fault}
use Rattle.cs_lower.specs.Lowered.{constants, draft_of, memory_of, pieces_of, source_of, vertex_of}
use Rattle.cs_lower.specs.Sizes.{HasIds}
use Rattle.cs_lower.proofs.DraftMemories.{each_memory}
use Rattle.cs_lower.proofs.DraftOutputs.{draft_outputs}
use Rattle.cs_lower.proofs.FittingNets.{all_by_place}
use Rattle.cs_lower.proofs.LoweredMachine.{draft_fits}
use Rattle.cs_lower.proofs.LoweredOrder.{lowered_order}

-- ---- counts

within_limit : (what : Counted) (count most : ℕ) → above_limit what count most ≡ None → count ≤ most
within_limit what count most none = elim (cases_lt most count) [
  | inl over ↦
      let fault : LimitFault = record { what = what; found = min count (2 ^ 64 - 1); most = most } in
      absurd (none-some fault (sym none ∙ ap (λ (b : Bool). cond b (Some fault) None) (lt-ltb most count over)))
  | inr few ↦ few
]

neither : {A : Type 0} (a b : Option A) → option_or a b ≡ None → (a ≡ None) × (b ≡ None)
neither None b none = (refl, none)
neither (Some x) b none = absurd (none-some x (sym none))

-- what has no fault is within the limits
within_limits : (net : Net) → lower_fault net ≡ None → IsWithinLimits (draft_of net).vertices
within_limits net none =
    let d = draft_of net in
    let edges = above_limit Edges (edge_count d.vertices) 32768 in
    let weights = above_limit Weight (weight d.vertices) 65536 in
    let one = neither (above_limit Vertices (length d.vertices) 4096) (option_or edges weights) none in
    let two = neither edges weights one.1 in
    record {
      vertices = within_limit Vertices (length d.vertices) 4096 one.0;
      edges = within_limit Edges (edge_count d.vertices) 32768 two.0;
      weight = within_limit Weight (weight d.vertices) 65536 two.1;
    }

-- ---- outputs

narrow : (words width : ℕ) → 0 < words → words * width ≤ 4194304 → width ≤ 4194304
narrow zero width some few = absurd (omega (arith, some))
narrow (suc words) width some few = omega (arith, few)

few_bits : (ms : List Memory) (i : ℕ) → ((j : ℕ) (m : Memory) → slice_get ms j ≡ Some m → IsMemory m)
    → word_bits (slice_get ms i) ≤ 4194304
few_bits ms i each = by (slice_get ms i) refl
  where
    by : (o : Option Memory) → slice_get ms i ≡ o → word_bits o ≤ 4194304
    by None is = omega arith
    by (Some m) is = let sizes = each i m is in narrow m.words m.width sizes.some_words sizes.size

few_outputs : (ms : List Memory) (kind : VertexKind) → ((j : ℕ) (m : Memory) → slice_get ms j ≡ Some m → IsMemory m)
    → output_count ms kind ≤ 4194304
few_outputs ms Host each = omega arith
few_outputs ms Input each = omega arith
few_outputs ms Output each = omega arith
few_outputs ms (Constant b) each = omega arith
few_outputs ms (Gate gate) each = omega arith
few_outputs ms (Read memory port) each = few_bits ms memory each
few_outputs ms (Write memory port) each = omega arith

module _ (net : Net) (w : IsWellFormed net) where
  -- ---- memories

  -- the memories fit machines
  pub fitting_memories : AllByRecursion (λ m. IsMemory (memory_of m)) (zip net.memories (shapes_in net.shapes))
  fitting_memories =
      all_by_place (λ m. IsMemory (memory_of m)) (zip net.memories (shapes_in net.shapes))
      (λ i m at. each_memory net w i (memory_of m) (at_map memory_of (zip net.memories (shapes_in net.shapes)) i m at))

  module _ (none : lower_fault net ≡ None) where
    limits : IsWithinLimits (draft_of net).vertices
    limits = within_limits net none

    abbrev all : List Piece
    all = pieces_of net ++ constants net

    -- ---- ids

    ids_of : (v i : ℕ) (p : Piece) (t : Tap) → slice_get all v ≡ Some p → slice_get p.pins i ≡ Some t
        → HasIds (source_of net t)
    ids_of v i p t at there = by (source_of net t) refl
      where
        by : (s : Source) → source_of net t ≡ s → HasIds s
        by (Tied b) is = tt
        by (Driven k) is =
            let pin = at_map (λ u. Some (source_of net u)) p.pins i t there ∙ ap (λ s. Some (Some s)) is in
            let has = draft_outputs net w v i (vertex_of net p) k (at_map (vertex_of net) all v p at) pin in
            let place = slice_get_within (open_kinds (draft_of net).vertices) k.from has.kind has.found in
            let count = length-map (draft_of net).vertices (λ (x : OpenVertex). x.kind) in
            let few = limits.vertices in
            let among = has.among in
            let most = few_outputs (draft_of net).memories has.kind (each_memory net w) in
            (omega (arith, place, count, few), omega (arith, among, most))

    -- what the pins read has numbers that fit ids
    pub few_ids : (pieces : List Piece) → pieces ≡ all
        → AllByRecursion (λ p. AllByRecursion (λ t. HasIds (source_of net t)) p.pins) pieces
    few_ids pieces same =
        subst (AllByRecursion (λ (p : Piece). AllByRecursion (λ t. HasIds (source_of net t)) p.pins)) (sym same)
        (all_by_place (λ (p : Piece). AllByRecursion (λ t. HasIds (source_of net t)) p.pins) all
        (λ v p at. all_by_place (λ t. HasIds (source_of net t)) p.pins (λ i t there. ids_of v i p t at there)))

    -- ---- the draft

    pub fits : IsDraft (draft_of net)
    fits = draft_fits net w limits

    pub fed : AreFed (draft_of net).vertices
    fed v i is_open =
        let p = map_at (vertex_of net) all v is_open.0 is_open.1 in
        let t = map_at (λ u. Some (source_of net u)) p.0.pins i None
        (ap (λ (y : OpenVertex). slice_get y.pins i) p.2 ∙ is_open.2) in
        none-some (source_of net t.0) (sym t.2)

    pub ordered : HasOrder (built (draft_of net))
    ordered = lowered_order net w
