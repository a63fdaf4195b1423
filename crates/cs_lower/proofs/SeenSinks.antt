-- What the data outputs show and what the write ports are given, in a run of the graph of a netlist.
use Rattle.std.proofs.Common.{◌≡◌, ℕ, ◌<◌, Bool, List, [], ◌∷◌, ◌++◌, length, map, Option, Some, None, flat_map, refl, ap, ap₂, ◌∙◌}
use Rattle.std.specs.Prelude.{slice_get}
use Rattle.std.proofs.lemmas.List.{append-nil, length-map}
use Rattle.cs_base.specs.declared.signal.Signal.{Signal}
use Rattle.cs_cells.specs.declared.class.Class.{Class}
use Rattle.cs_cells.specs.declared.class.Class.TheVariants.{Asynchronous, Gate, Memory, NotFine, Register, Scope, Unknown}
use Rattle.cs_cells.specs.declared.memory.MemShape.{MemShape}
use Rattle.cs_cells.specs.Memories.{Words, Write}
use Rattle.cs_graph.specs.declared.memory.Memory.{Memory as GraphMemory}
use Rattle.cs_graph.specs.declared.vertex.Vertex.{Vertex}
use Rattle.cs_graph.specs.declared.vertex.VertexKind.{VertexKind}
use Rattle.cs_graph.specs.declared.vertex.VertexKind.TheVariants.{Output}
use Rattle.cs_graph.specs.Run.{Outs, Row, RunsFor, outputs_at, seen, shown_by, writes_at, writes_by}
use Rattle.cs_graph.proofs.BuiltLemmas.{length_vertices_from}
use Rattle.cs_modules.specs.Pins.{count_from}
use Rattle.cs_net.specs.declared.netlist.Cell.{Cell}
use Rattle.cs_net.specs.Drivers.{data_outputs}
use Rattle.cs_net.specs.Netlist.{Net}
use Rattle.cs_lower.specs.Cells.{Placed, placed_cells, write_piece}
use Rattle.cs_lower.specs.Lowered.{constants, draft_of, lowered, pieces_of, vertex_of}
use Rattle.cs_lower.specs.declared.taps.Tap.{Tap}
use Rattle.cs_lower.specs.declared.taps.Tap.TheVariants.{Signal as of_signal}
use Rattle.cs_lower.specs.declared.taps.Piece.{Piece}
use Rattle.cs_lower.specs.Taps.{piece}
use Rattle.cs_lower.proofs.Places.{flat_map_alike}
use Rattle.cs_lower.proofs.SeenLemmas.{sees_at, shows}
use Rattle.cs_lower.proofs.SinkPieces.{IsOfSinks, class_write_pieces, made_of_sinks, write_pieces, write_pieces_of}

-- ---- what Outputs show

-- what a piece adds to the row of outputs, by what its taps show
abbrev pub row_part : (Tap → Bool) → Piece → List Bool
row_part tap p = shown_by p.kind (map tap p.pins)

row_of_sinks : (tap : Tap → Bool) → IsOfSinks (row_part tap)
row_of_sinks tap = record {
  host = refl;
  input = refl;
  ports = record {
    constant = λ b. refl;
    gate = λ kind pins origin. refl;
    read = λ memory port pins. refl;
  };
}

row_of_outputs : (tap : Tap → Bool) (signals : List Signal)
    → flat_map (row_part tap) (map (λ s. piece Output (of_signal s ∷ [])) signals) ≡ map (λ s. tap (of_signal s)) signals
row_of_outputs tap [] = refl
row_of_outputs tap (s ∷ signals) = ap (λ row. tap (of_signal s) ∷ row) (row_of_outputs tap signals)

no_row_of_ports : (tap : Tap → Bool) (memory : ℕ) (cell : Cell) (shape : MemShape) (ports : List ℕ)
    → flat_map (row_part tap) (map (write_piece memory cell shape) ports) ≡ []
no_row_of_ports tap memory cell shape [] = refl
no_row_of_ports tap memory cell shape (port ∷ ports) = no_row_of_ports tap memory cell shape ports

no_row_of_memory : (tap : Tap → Bool) (memory : ℕ) (cell : Cell) (shape : Option MemShape)
    → flat_map (row_part tap) (write_pieces_of memory cell shape) ≡ []
no_row_of_memory tap memory cell None = refl
no_row_of_memory tap memory cell (Some shape) = no_row_of_ports tap memory cell shape (count_from 0 shape.writes)

no_row_of_class : (tap : Tap → Bool) (class : Class) (c : Placed)
    → flat_map (row_part tap) (class_write_pieces class c) ≡ []
no_row_of_class tap (Gate kind) c = refl
no_row_of_class tap (Register kind) c = refl
no_row_of_class tap Memory c = no_row_of_memory tap c.memory c.cell c.shape
no_row_of_class tap Scope c = refl
no_row_of_class tap Asynchronous c = refl
no_row_of_class tap NotFine c = refl
no_row_of_class tap Unknown c = refl

no_row_of_cells : (tap : Tap → Bool) (cells : List Placed)
    → flat_map (λ c. flat_map (row_part tap) (write_pieces c)) cells ≡ []
no_row_of_cells tap [] = refl
no_row_of_cells tap (c ∷ cells) = ap₂ (λ a b. a ++ b) (no_row_of_class tap c.cell.class c) (no_row_of_cells tap cells)

-- the row is what the data outputs' signals show
row_shown : (net : Net) (tap : Tap → Bool)
    → flat_map (row_part tap) (pieces_of net ++ constants net) ≡ map (λ s. tap (of_signal s)) (data_outputs net)
row_shown net tap =
    made_of_sinks (row_part tap) (row_of_sinks tap) net
    ∙ ap₂ (λ a b. a ++ b) (row_of_outputs tap (data_outputs net)) (no_row_of_cells tap (placed_cells net))
    ∙ append-nil (map (λ s. tap (of_signal s)) (data_outputs net))

-- ---- what write ports are given

-- what a piece gives memory i, by what its taps show
abbrev pub given_by : ℕ → GraphMemory → (Tap → Bool) → Piece → List Write
given_by i m tap p = writes_by i m p.kind (map tap p.pins)

given_of_sinks : (i : ℕ) (m : GraphMemory) (tap : Tap → Bool) → IsOfSinks (given_by i m tap)
given_of_sinks i m tap = record {
  host = refl;
  input = refl;
  ports = record {
    constant = λ b. refl;
    gate = λ kind pins origin. refl;
    read = λ memory port pins. refl;
  };
}

none_given : (i : ℕ) (m : GraphMemory) (tap : Tap → Bool) (signals : List Signal)
    → flat_map (given_by i m tap) (map (λ s. piece Output (of_signal s ∷ [])) signals) ≡ []
none_given i m tap [] = refl
none_given i m tap (s ∷ signals) = none_given i m tap signals

-- a memory is given what the write ports of the cells give it, in their order
given : (net : Net) (i : ℕ) (m : GraphMemory) (tap : Tap → Bool)
    → flat_map (given_by i m tap) (pieces_of net ++ constants net)
    ≡ flat_map (λ c. flat_map (given_by i m tap) (write_pieces c)) (placed_cells net)
given net i m tap =
    made_of_sinks (given_by i m tap) (given_of_sinks i m tap) net
    ∙ ap (λ a. a ++ flat_map (λ c. flat_map (given_by i m tap) (write_pieces c)) (placed_cells net))
    (none_given i m tap (data_outputs net))

-- ---- a run

as_many : (net : Net) → length (lowered net).vertices ≡ length (pieces_of net ++ constants net)
as_many net =
    length_vertices_from 0 (draft_of net).vertices ∙ length-map (pieces_of net ++ constants net) (vertex_of net)

module _ (net : Net) (bounded : Bool) (clocks : ℕ) (row : ℕ → Row) (value : ℕ → Outs) (words : ℕ → ℕ
    → Words) (run : RunsFor bounded (lowered net) clocks row value words)
  where
    -- what is made of all vertices, by what their pins see, is made of all pieces, by what their taps show
    pub made_of_seen : {B : Type 0} (by : VertexKind → List Bool → List B) (n : ℕ) → n < clocks
        → flat_map (λ x. by x.kind (map (seen (lowered net) value n) x.pins)) (lowered net).vertices
        ≡ flat_map (λ p. by p.kind (map (shows net value n) p.pins)) (pieces_of net ++ constants net)
    made_of_seen by n h =
        flat_map_alike (λ x. by x.kind (map (seen (lowered net) value n) x.pins))
        (λ p. by p.kind (map (shows net value n) p.pins)) (lowered net).vertices (pieces_of net ++ constants net)
        (as_many net) (λ v x p there at. each v x p there at)
      where
        each : (v : ℕ) (x : Vertex) (p : Piece) → slice_get (lowered net).vertices v ≡ Some x
            → slice_get (pieces_of net ++ constants net) v ≡ Some p
            → by x.kind (map (seen (lowered net) value n) x.pins) ≡ by p.kind (map (shows net value n) p.pins)
        each v x p there at =
            let same = sees_at net bounded clocks row value words run n h v p x at there in
            ap₂ (λ kind pins. by kind pins) same.0 same.1

    -- the row of outputs is what the signals of the data outputs show
    pub outputs_show : (n : ℕ) → n < clocks
        → outputs_at (lowered net) (seen (lowered net) value n)
        ≡ map (λ s. shows net value n (of_signal s)) (data_outputs net)
    outputs_show n h = made_of_seen shown_by n h ∙ row_shown net (shows net value n)

    -- a memory is given what the taps of the write ports show, cell by cell
    pub writes_show : (n : ℕ) → n < clocks → (i : ℕ) (m : GraphMemory)
        → writes_at (lowered net) i m (seen (lowered net) value n)
        ≡ flat_map (λ c. flat_map (given_by i m (shows net value n)) (write_pieces c)) (placed_cells net)
    writes_show n h i m = made_of_seen (writes_by i m) n h ∙ given net i m (shows net value n)
