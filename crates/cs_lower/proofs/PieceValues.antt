-- What the vertices of the graph of a netlist give: inputs their bits of the row, gates and reads by what their taps show.
use Rattle.std.proofs.Common.{◌≡◌, ℕ, zero, suc, ◌+◌, ◌<◌, Bool, true, false, List, [], ◌∷◌, length, map, Some, option_map, refl, ap, ap₂, ◌∙◌, arith}
use Rattle.std.specs.Prelude.{get_or, if◌then◌else◌, slice_get}
use Rattle.std.proofs.lemmas.Option.{none-some, same_Some, slice_get-get_or, slice_get-map}
use Rattle.cs_base.specs.declared.signal.Signal.TheVariants.{Zero}
use Rattle.cs_cells.specs.declared.gate.Kind.{Kind}
use Rattle.cs_cells.specs.Gates.{gate_value}
use Rattle.cs_cells.specs.Memories.{Words, read_bit}
use Rattle.cs_graph.specs.declared.vertex.Vertex.{Vertex}
use Rattle.cs_graph.specs.declared.vertex.VertexKind.{VertexKind}
use Rattle.cs_graph.specs.declared.vertex.VertexKind.TheVariants.{Gate, Host, Input, Read}
use Rattle.cs_graph.specs.Kinds.{is_input}
use Rattle.cs_graph.specs.Run.{Outs, Row, RunsFor, inputs_before, output_of}
use Rattle.cs_net.specs.Drivers.{data_inputs}
use Rattle.cs_net.specs.Netlist.{Net}
use Rattle.cs_lower.specs.Cells.{cell_parts, placed_cells}
use Rattle.cs_lower.specs.Lowered.{buffer, constants, lowered, pieces_of, wiring_of}
use Rattle.cs_lower.specs.declared.taps.Piece.{Piece}
use Rattle.cs_lower.specs.Taps.{in_turn, piece}
use Rattle.cs_lower.specs.Wires.{input_parts, output_parts, parts_of, port_parts}
use Rattle.cs_graph.proofs.Lists.{get_left}
use Rattle.cs_lower.proofs.SeenLemmas.{PieceAt, gives, piece_at, sees, shows}

-- ---- how many inputs stand before a vertex

abbrev IsInputAt : List Vertex → ℕ → Bool → Type 0
IsInputAt xs v is = (x : Vertex) × (slice_get xs v ≡ Some x) × (is_input x.kind ≡ is)

all_inputs : (xs : List Vertex) (i : ℕ) → ((j : ℕ) → j < i → IsInputAt xs j true) → inputs_before xs i ≡ i
all_inputs [] zero each = refl
all_inputs [] (suc i) each = let first = each 0 (omega arith) in absurd (none-some first.0 first.1)
all_inputs (x ∷ xs) zero each = refl
all_inputs (x ∷ xs) (suc i) each =
    let first = each 0 (omega arith) in
    let is : is_input x.kind ≡ true = ap (λ y. is_input y.kind) (same_Some x first.0 first.1) ∙ first.2 in
    ap₂ (λ here rest. (if here then 1 else 0) + rest) is
    (all_inputs xs i (λ j below. each (suc j) (omega (arith, below)))) ∙ omega arith

after_one : (xs : List Vertex) (i : ℕ) → IsInputAt xs 0 false → ((j : ℕ) → j < i → IsInputAt xs (suc j) true)
    → inputs_before xs (suc i) ≡ i
after_one [] i first each = absurd (none-some first.0 first.1)
after_one (x ∷ xs) i first each =
    let is : is_input x.kind ≡ false = ap (λ y. is_input y.kind) (same_Some x first.0 first.1) ∙ first.2 in
    ap₂ (λ here rest. (if here then 1 else 0) + rest) is (all_inputs xs i each) ∙ omega arith

-- ---- the pieces of ports

-- a piece of the ports is one of all, by the same number
port_piece : (net : Net) (v : ℕ) (p : Piece) → slice_get (port_parts net).pieces v ≡ Some p
    → slice_get (pieces_of net) v ≡ Some p
unfolding parts_of
port_piece net v p at =
    get_left (parts_of net).pieces (map buffer (wiring_of net).rings) v p
    (get_left (port_parts net).pieces
    (in_turn (cell_parts net) (length (port_parts net).pieces) (placed_cells net)).pieces v p at)

pub host_piece : (net : Net) → slice_get (pieces_of net) 0 ≡ Some (piece Host [])
host_piece net = port_piece net 0 (piece Host []) refl

-- the data inputs are numbered from 1
pub input_piece : (net : Net) (i : ℕ) → i < length (data_inputs net)
    → slice_get (pieces_of net) (suc i) ≡ Some (piece Input [])
input_piece net i below =
    port_piece net (suc i) (piece Input [])
    (get_left (input_parts net).pieces (output_parts net).pieces (suc i) (piece Input [])
    (slice_get-map (λ s. piece Input []) (data_inputs net) i
    ∙ ap (option_map (λ s. piece Input [])) (slice_get-get_or (data_inputs net) i Zero below)))

-- ---- a piece of a netlist is a vertex

pub vertex_of_piece : (net : Net) (v : ℕ) (p : Piece) → slice_get (pieces_of net) v ≡ Some p → PieceAt net v p
vertex_of_piece net v p at = piece_at net v p (get_left (pieces_of net) (constants net) v p at)

kind_at : (net : Net) (v : ℕ) (p : Piece) → PieceAt net v p → IsInputAt (lowered net).vertices v (is_input p.kind)
kind_at net v p x = (x.vertex, x.found, ap is_input x.kind)

pub inputs_before_input : (net : Net) (i : ℕ) → i < length (data_inputs net)
    → inputs_before (lowered net).vertices (suc i) ≡ i
inputs_before_input net i below =
    after_one (lowered net).vertices i
    (kind_at net 0 (piece Host []) (vertex_of_piece net 0 (piece Host []) (host_piece net)))
    (λ j less.
    let at = input_piece net j (omega (arith, less, below)) in
    kind_at net (suc j) (piece Input []) (vertex_of_piece net (suc j) (piece Input []) at))

-- ---- a run

module _ (net : Net) (bounded : Bool) (clocks : ℕ) (row : ℕ → Row) (value : ℕ → Outs) (words : ℕ → ℕ
    → Words) (run : RunsFor bounded (lowered net) clocks row value words)
  where
    -- a vertex gives what its kind makes of what its taps show
    pub piece_gives : (n : ℕ) → n < clocks → (v o : ℕ) (p : Piece) → slice_get (pieces_of net) v ≡ Some p
        → value n v o
        ≡ output_of p.kind (inputs_before (lowered net).vertices v) (row n) (words n) (map (shows net value n) p.pins) o
    piece_gives n h v o p at =
        let x = vertex_of_piece net v p at in
        gives net bounded clocks row value words run n h v o p x
        ∙ ap (λ pins. output_of p.kind (inputs_before (lowered net).vertices v) (row n) (words n) pins o)
        (sees net bounded clocks row value words run n h v p (get_left (pieces_of net) (constants net) v p at) x)

    by_kind : (n : ℕ) → n < clocks → (v o : ℕ) (p : Piece) → slice_get (pieces_of net) v ≡ Some p
        → (kind : VertexKind) → p.kind ≡ kind
        → value n v o
        ≡ output_of kind (inputs_before (lowered net).vertices v) (row n) (words n) (map (shows net value n) p.pins) o
    by_kind n h v o p at kind is =
        piece_gives n h v o p at
        ∙ ap (λ k. output_of k (inputs_before (lowered net).vertices v) (row n) (words n)
        (map (shows net value n) p.pins) o) is

    -- data input i has the number i + 1
    pub input_gives : (n : ℕ) → n < clocks → (v i : ℕ) → v ≡ i + 1 → i < length (data_inputs net)
        → value n v 0 ≡ get_or (row n) i false
    input_gives n h v i is below =
        let same : v ≡ suc i = omega (arith, is) in
        ap (λ u. value n u 0) same ∙ piece_gives n h (suc i) 0 (piece Input []) (input_piece net i below)
        ∙ ap (λ k. get_or (row n) k false) (inputs_before_input net i below)

    pub gate_gives : (n : ℕ) → n < clocks → (v o : ℕ) (p : Piece) (kind : Kind)
        → slice_get (pieces_of net) v ≡ Some p → p.kind ≡ Gate kind
        → value n v o ≡ gate_value kind (map (shows net value n) p.pins)
    gate_gives n h v o p kind at is = by_kind n h v o p at (Gate kind) is

    pub read_gives : (n : ℕ) → n < clocks → (v o : ℕ) (p : Piece) (memory port : ℕ)
        → slice_get (pieces_of net) v ≡ Some p → p.kind ≡ Read memory port
        → value n v o ≡ read_bit (words n memory) (map (shows net value n) p.pins) o
    read_gives n h v o p memory port at is = by_kind n h v o p at (Read memory port) is
