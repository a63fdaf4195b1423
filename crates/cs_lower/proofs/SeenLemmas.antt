-- What the vertices of the graph of a netlist see: each pin what its tap shows.
use Rattle.std.proofs.Common.{◌≡◌, ℕ, zero, suc, ◌<◌, ℤ, pos, negsuc, ◌-ℤ◌, Bool, true, false, List, [], ◌∷◌, ◌++◌, length, map, Some, option_map, refl, sym, ap, ◌∙◌, inl, inr, arith}
use Rattle.std.specs.Prelude.{not, if◌then◌else◌, slice_get}
use Rattle.std.specs.List.{list_any}
use Rattle.std.proofs.lemmas.Int.{ints}
use Rattle.std.proofs.lemmas.List.{length-map}
use Rattle.std.proofs.lemmas.Option.{none-some, same_Some, slice_get-map}
use Rattle.cs_cells.specs.Memories.{Words}
use Rattle.cs_graph.specs.declared.vertex.Feed.{Feed}
use Rattle.cs_graph.specs.declared.vertex.Vertex.{Vertex}
use Rattle.cs_graph.specs.declared.vertex.VertexKind.TheVariants.{Constant}
use Rattle.cs_graph.specs.Run.{Outs, Row, RunsFor, carried, inputs_before, output_of, seen, seen_edge, vertex_output}
use Rattle.cs_net.specs.Netlist.{Net}
use Rattle.cs_lower.specs.declared.taps.End.{End}
use Rattle.cs_lower.specs.declared.taps.End.TheVariants.{Constant as at_bit, Vertex as at_vertex}
use Rattle.cs_lower.specs.Lowered.{constant_number, constants, draft_of, is_used, lowered, needs_constant, pieces_of, source_by, source_of, trail_of, vertex_of}
use Rattle.cs_lower.specs.Meaning.{carried_by, shown}
use Rattle.cs_lower.specs.declared.taps.Tap.{Tap}
use Rattle.cs_lower.specs.declared.taps.Piece.{Piece}
use Rattle.cs_lower.specs.Taps.{piece}
use Rattle.cs_lower.proofs.MeaningLemmas.{seen_is_shown, shown_ends}
use Rattle.cs_lower.proofs.NumberedPins.{PinAt, Reads, built_vertex, edge_by}
use Rattle.cs_graph.proofs.Lists.{get_append, get_right}
use Rattle.cs_lower.proofs.Places.{any_place, map_alike}

-- what a tap shows at clock n
abbrev pub shows : Net → (ℕ → Outs) → ℕ → Tap → Bool
shows net value n t = shown value (trail_of net t) n

-- ---- vertices by their numbers

-- vertex v, which a piece becomes: of its kind, and each pin reads the source of its tap
pub record PieceAt (net : Net) (v : ℕ) (p : Piece) : Type 0 where
  pub vertex : Vertex
  pub found : slice_get (lowered net).vertices v ≡ Some vertex
  pub kind : vertex.kind ≡ p.kind
  pub count : length vertex.pins ≡ length p.pins
  pub pins : (i : ℕ) (t : Tap) → slice_get p.pins i ≡ Some t
      → PinAt (lowered net).edges v i (Some (source_of net t)) (slice_get vertex.pins i)

pub piece_at : (net : Net) (v : ℕ) (p : Piece) → slice_get (pieces_of net ++ constants net) v ≡ Some p
    → PieceAt net v p
piece_at net v p at =
    let became = built_vertex (draft_of net) v (vertex_of net p)
    (slice_get-map (vertex_of net) (pieces_of net ++ constants net) v ∙ ap (option_map (vertex_of net)) at) in
    record {
      vertex = became.vertex;
      found = became.found;
      kind = became.kind;
      count = became.count ∙ length-map p.pins (λ t. Some (source_of net t));
      pins = λ i t there.
          became.pins i (Some (source_of net t))
          (slice_get-map (λ u. Some (source_of net u)) p.pins i ∙ ap (option_map (λ u. Some (source_of net u))) there);
    }

-- ---- Constant vertices

first_constant : (low high : Bool) → low ≡ true
    → slice_get ((if low then piece (Constant false) [] ∷ [] else [])
    ++ (if high then piece (Constant true) [] ∷ [] else [])) 0 ≡ Some (piece (Constant false) [])
first_constant true high is = refl
first_constant false high is = cc

second_constant : (low high : Bool) → high ≡ true
    → slice_get ((if low then piece (Constant false) [] ∷ [] else [])
    ++ (if high then piece (Constant true) [] ∷ [] else [])) (if low then 1 else 0) ≡ Some (piece (Constant true) [])
second_constant true true is = refl
second_constant false true is = refl
second_constant low false is = cc

pub constant_at : (net : Net) (b : Bool) → is_used net b ≡ true
    → slice_get (pieces_of net ++ constants net) (constant_number net b) ≡ Some (piece (Constant b) [])
constant_at net false used =
    get_right (pieces_of net) (constants net) (length (pieces_of net)) 0 (omega arith)
    ∙ first_constant (is_used net false) (is_used net true) used
constant_at net true used =
    get_right (pieces_of net) (constants net) (constant_number net true) (if is_used net false then 1 else 0) refl
    ∙ second_constant (is_used net false) (is_used net true) used

-- where a constant is used, its vertex is there
pub constant_vertex : (net : Net) (b : Bool) → is_used net b ≡ true
    → PieceAt net (constant_number net b) (piece (Constant b) [])
constant_vertex net b used = piece_at net (constant_number net b) (piece (Constant b) []) (constant_at net b used)

-- each of them is a Constant
pub constant_piece : (low high : Bool) (k : ℕ) (p : Piece)
    → slice_get ((if low then piece (Constant false) [] ∷ [] else [])
    ++ (if high then piece (Constant true) [] ∷ [] else [])) k ≡ Some p → (b : Bool) × (piece (Constant b) [] ≡ p)
constant_piece true high zero p at = (false, same_Some (piece (Constant false) []) p at)
constant_piece true true (suc zero) p at = (true, same_Some (piece (Constant true) []) p at)
constant_piece true true (suc (suc k)) p at = absurd (none-some p at)
constant_piece true false (suc k) p at = absurd (none-some p at)
constant_piece false true zero p at = (true, same_Some (piece (Constant true) []) p at)
constant_piece false true (suc k) p at = absurd (none-some p at)
constant_piece false false k p at = absurd (none-some p at)

-- no Constant has pins
no_pins : (low high : Bool) (k : ℕ) (p : Piece)
    → slice_get ((if low then piece (Constant false) [] ∷ [] else [])
    ++ (if high then piece (Constant true) [] ∷ [] else [])) k ≡ Some p → p.pins ≡ []
no_pins low high k p at = let is = constant_piece low high k p at in sym (ap (λ q. q.pins) is.1)

-- a constant that a pin needs is used
pub used_by : (net : Net) (v i : ℕ) (p : Piece) (t : Tap) (b : Bool)
    → slice_get (pieces_of net ++ constants net) v ≡ Some p → slice_get p.pins i ≡ Some t
    → needs_constant b (trail_of net t) ≡ true → is_used net b ≡ true
used_by net v i p t b at there needs = elim (get_append (pieces_of net) (constants net) v p at) [
  | inl left ↦
      any_place (λ q. list_any (λ u. needs_constant b (trail_of net u)) q.pins) (pieces_of net) v p left
      (any_place (λ u. needs_constant b (trail_of net u)) p.pins i t there needs)
  | inr (k, is, right) ↦
      let none = no_pins (is_used net false) (is_used net true) k p right in
      absurd (none-some t (ap (λ ts. slice_get ts i) (sym none) ∙ there))
]

-- ---- a run

not_later : (n m w : ℕ) → pos n -ℤ pos w ≡ pos m → m < suc n
not_later n m w is = omega (arith, ints, is)

pub is_value_itself : (b : Bool) → (if b then b else not b) ≡ true
is_value_itself true = refl
is_value_itself false = refl

module _ (net : Net) (bounded : Bool) (clocks : ℕ) (row : ℕ → Row) (value : ℕ → Outs) (words : ℕ → ℕ
    → Words) (run : RunsFor bounded (lowered net) clocks row value words)
  where
    -- a vertex gives what its kind makes of what its pins see
    pub gives : (n : ℕ) → n < clocks → (v o : ℕ) (p : Piece) (x : PieceAt net v p)
        → value n v o ≡ output_of p.kind (inputs_before (lowered net).vertices v) (row n) (words n)
        (map (seen (lowered net) value n) x.vertex.pins) o
    gives n h v o p x =
        run.settles n h v o
        ∙ ap (λ y. vertex_output y (inputs_before (lowered net).vertices v) (row n) (words n)
        (seen (lowered net) value n) o) x.found
        ∙ ap (λ kind. output_of kind (inputs_before (lowered net).vertices v) (row n) (words n)
        (map (seen (lowered net) value n) x.vertex.pins) o) x.kind

    pub constant_gives : (n : ℕ) → n < clocks → (b : Bool) → is_used net b ≡ true → value n (constant_number net b) 0 ≡ b
    constant_gives n h b used = gives n h (constant_number net b) 0 (piece (Constant b) []) (constant_vertex net b used)

    -- an edge from a Constant shows it once its registers have passed their starts
    by_constant : (n v i : ℕ) → n < clocks → (b : Bool) → is_used net b ≡ true → (contents : List Bool) (clock : ℤ)
        → pos n -ℤ pos (length contents) ≡ clock
        → carried (edge_by v i (record { from = constant_number net b; output = 0; contents = contents })) value clock
        ≡ carried_by (record { contents = contents; end = at_bit b }) value clock
    by_constant n v i h b used contents (pos m) is =
        let early = not_later n m (length contents) is in constant_gives m (omega (arith, early, h)) b used
    by_constant n v i h b used contents (negsuc j) is = refl

    -- a pin that reads where a trail leads shows what it shows
    pin_shows : (n v i : ℕ) → n < clocks → (contents : List Bool) (end : End) (f : Feed)
        → ((b : Bool) → needs_constant b (record { contents = contents; end = end }) ≡ true → is_used net b ≡ true)
        → Reads (lowered net).edges v i (Some (source_by net contents end)) f
        → seen (lowered net) value n f ≡ shown value (record { contents = contents; end = end }) n
    pin_shows n v i h contents (at_vertex u o) f used (k, same, there) =
        ap (seen (lowered net) value n) same
        ∙ seen_is_shown (lowered net) k (edge_by v i (record { from = u; output = o; contents = contents }))
        (record { contents = contents; end = at_vertex u o }) value n there
        (record { end = refl; contents = refl; weight = refl })
    pin_shows n v i h [] (at_bit b) f used same =
        ap (seen (lowered net) value n) same ∙ sym (shown_ends value (at_bit b) n)
    pin_shows n v i h (start ∷ contents) (at_bit b) f used (k, same, there) =
        ap (seen (lowered net) value n) same ∙ ap (λ e. seen_edge e value n) there
        ∙ by_constant n v i h b (used b (is_value_itself b)) (start ∷ contents)
        (pos n -ℤ pos (length (start ∷ contents))) refl

    -- each pin of a vertex sees what its tap shows
    pub sees : (n : ℕ) → n < clocks → (v : ℕ) (p : Piece) → slice_get (pieces_of net ++ constants net) v ≡ Some p
        → (x : PieceAt net v p)
        → map (seen (lowered net) value n) x.vertex.pins ≡ map (shows net value n) p.pins
    sees n h v p at x =
        map_alike (seen (lowered net) value n) (shows net value n) x.vertex.pins p.pins x.count
        (λ i f t here there. each i f t here there (x.pins i t there))
      where
        each : (i : ℕ) (f : Feed) (t : Tap) → slice_get x.vertex.pins i ≡ Some f → slice_get p.pins i ≡ Some t
            → PinAt (lowered net).edges v i (Some (source_of net t)) (slice_get x.vertex.pins i)
            → seen (lowered net) value n f ≡ shown value (trail_of net t) n
        each i f t here there pin =
            let same : f ≡ pin.feed = same_Some f pin.feed (sym here ∙ pin.found) in
            ap (seen (lowered net) value n) same
            ∙ pin_shows n v i h (trail_of net t).contents (trail_of net t).end pin.feed
            (λ b needs. used_by net v i p t b at there needs) pin.reads

    -- the same of the vertex that stands there: it is of the piece's kind
    pub sees_at : (n : ℕ) → n < clocks → (v : ℕ) (p : Piece) (x : Vertex)
        → slice_get (pieces_of net ++ constants net) v ≡ Some p → slice_get (lowered net).vertices v ≡ Some x
        → (x.kind ≡ p.kind) × (map (seen (lowered net) value n) x.pins ≡ map (shows net value n) p.pins)
    sees_at n h v p x at there =
        let y = piece_at net v p at in
        let same : x ≡ y.vertex = same_Some x y.vertex (sym there ∙ y.found) in (
          ap (λ z. z.kind) same ∙ y.kind,
          ap (λ z. map (seen (lowered net) value n) z.pins) same ∙ sees n h v p at y,
        )
