-- What drives a bit in the netlist is what drives it among the vertices.
use Rattle.std.specs.Prelude.{if◌then◌else◌, slice_get, codes}
use Rattle.std.proofs.Common.{◌≡◌, ℕ, suc, ◌+◌, Bool, true, false, List, [], ◌∷◌, ◌++◌, length, map, get_or, Option, Some, None, refl, sym, ap, subst, ◌∙◌, arith}
use Rattle.std.specs.List.{AllByRecursion, enumerate_from, flat_map, zip}
use Rattle.std.proofs.lemmas.List.{append-nil, append_assoc}
use Rattle.std.proofs.lemmas.List.Folds.{flat_map-map}
use Rattle.std.proofs.lemmas.Simd.{map-map}
use Rattle.std.proofs.Math.Seq.{drop-append_seam}
use Rattle.cs_base.specs.declared.signal.Signal.{Signal}
use Rattle.cs_base.specs.declared.signal.Signal.TheVariants.{Bit}
use Rattle.cs_cells.specs.declared.class.Class.{Class}
use Rattle.cs_cells.specs.declared.class.Class.TheVariants.{Asynchronous, Gate as GateClass, Memory, NotFine, Register, Scope, Unknown}
use Rattle.cs_cells.specs.declared.gate.Kind.{Kind}
use Rattle.cs_cells.specs.declared.memory.MemShape.{MemShape}
use Rattle.cs_cells.specs.declared.memory.ReadShape.{ReadShape}
use Rattle.cs_cells.specs.Gates.{pin_count, pin_name}
use Rattle.cs_graph.specs.declared.vertex.VertexKind.TheVariants.{Gate, Host, Input, Read}
use Rattle.cs_modules.specs.Pins.{count_from}
use Rattle.cs_net.specs.declared.netlist.Cell.{Cell}
use Rattle.cs_net.specs.Build.{places_from}
use Rattle.cs_net.specs.Drivers.{StateElement, cell_drives, class_drives, data_inputs, driver_of, drivers, input, memory_drives, port_part, read_data, read_drives, read_element, read_word_bit, register, register_of, signal_of, word_bit}
use Rattle.cs_net.specs.Invariant.{IsWellFormed}
use Rattle.cs_net.specs.Netlist.{Net}
use Rattle.cs_net.proofs.MemoryFacts.{memory_name}
use Rattle.cs_lower.specs.Cells.{Datum, Placed, cell_parts, class_parts, data_parts, held_parts, memory_parts, placed_cells, read_parts, read_wires, write_parts}
use Rattle.cs_lower.specs.Matching.{AreNamedInOrder, IsNamed, IsSource, IsVertex, Matches, ReadsWord, TakesFrom}
use Rattle.cs_lower.specs.Registers.{register_chain, register_parts}
use Rattle.cs_lower.specs.declared.taps.Tap.{Tap}
use Rattle.cs_lower.specs.declared.taps.Tap.TheVariants.{Signal as of_signal, Vertex as of_vertex}
use Rattle.cs_lower.specs.declared.taps.Wire.TheVariants.{Vertex as from_vertex}
use Rattle.cs_lower.specs.declared.taps.Piece.{Piece}
use Rattle.cs_lower.specs.declared.taps.Parts.{Parts}
use Rattle.cs_lower.specs.Taps.{in_turn, piece}
use Rattle.cs_lower.specs.Wires.{input_parts, output_parts, parts_of, port_parts, wire_in}
use Rattle.cs_lower.proofs.MatchLists.{AreMatched, StandsIn, found_match, matched_append, matched_in_turn}
use Rattle.cs_lower.proofs.StandLemmas.{part_first, part_is, part_left, part_next, part_right}

-- ---- the data inputs

matched_inputs : (net : Net) (k v : ℕ) (signals : List Signal) → v ≡ 1 + k
    → StandsIn net v (map (λ s. piece Input []) signals)
    → AreMatched net (map (λ e. (e.1, input e.0)) (enumerate_from k signals))
    (map (λ e. (e.1, from_vertex e.0 0)) (enumerate_from v signals))
matched_inputs net k v [] at stands = tt
matched_inputs net k v (s ∷ signals) at stands =
    let pieces : List Piece = map (λ s. piece Input []) signals in
    let here : IsVertex net v Input [] = record {
      vertex = piece Input [];
      stands = part_first (parts_of net).pieces v (piece Input []) pieces stands;
      kind_is = refl;
      pins_are = refl;
    } in (
      refl,
      (at, refl, here),
      matched_inputs net (k + 1) (v + 1) signals (omega (arith, at))
          (part_next (parts_of net).pieces v (piece Input []) pieces stands),
    )

-- ---- gates

matched_gate : (net : Net) (n : ℕ) (c : Placed) (kind : Kind) → StandsIn net n (class_parts net n (GateClass kind) c).pieces
    → AreMatched net (class_drives (GateClass kind) c.cell c.shape) (class_parts net n (GateClass kind) c).wires
matched_gate net n c kind stands =
    let p : Piece = record {
      kind = Gate kind;
      pins = map (λ i. of_signal (signal_of c.cell (pin_name kind i))) (count_from 0 (pin_count kind));
      origin = c.cell.name;
    } in
    let vertex : IsVertex net n (Gate kind)
    (map of_signal (map (λ i. signal_of c.cell (pin_name kind i)) (count_from 0 (pin_count kind)))) = record {
      vertex = p;
      stands = part_first (parts_of net).pieces n p [] stands;
      kind_is = refl;
      pins_are = sym (map-map of_signal (λ i. signal_of c.cell (pin_name kind i)) (count_from 0 (pin_count kind)));
    } in
    (refl, (vertex, refl), tt)

-- ---- registers

-- a register that takes what its source is through its multiplexers
takes : (net : Net) (n : ℕ) (q : Signal × Bool) (r : StateElement) (d : Tap) → IsSource net r.source d
    → StandsIn net n (register_parts net n q r d).pieces
    → AreMatched net ((q.0, register r) ∷ []) (register_parts net n q r d).wires
takes net n q r d source stands =
    let from : TakesFrom net q r (register_chain net n q r d).last = record {
      first = n;
      d = d;
      source = source;
      stand = part_is (parts_of net).pieces n (register_chain net n q r d).pieces stands;
      last = refl;
    } in
    (refl, (q.1, from), tt)

-- ---- memories

-- the data bits of an unclocked port
matched_words : (net : Net) (cell : Cell) (shape : MemShape) (port v : ℕ) (bits : List Datum)
    → ReadsWord net cell.name (port_part cell (codes "RD_ADDR") shape.abits port) v
    → AreMatched net (map (λ e. (e.1, word_bit (read_word_bit cell shape port e.0))) bits) (read_wires v bits).wires
matched_words net cell shape port v [] reads = tt
matched_words net cell shape port v (e ∷ bits) reads =
    (refl, (reads, refl), matched_words net cell shape port v bits reads)

-- the data bits of a clocked port
matched_held : (net : Net) (cell : Cell) (shape : MemShape) (read : ℕ × ReadShape) (v n : ℕ) (bits : List Datum)
    → ReadsWord net cell.name (port_part cell (codes "RD_ADDR") shape.abits read.0) v
    → StandsIn net n (in_turn (held_parts net cell shape read v) n bits).pieces
    → AreMatched net (map (λ e. (e.1, register (read_element cell shape read.1 read.0 e.0))) bits)
    (in_turn (held_parts net cell shape read v) n bits).wires
matched_held net cell shape read v n [] reads stands = tt
matched_held net cell shape read v n (e ∷ bits) reads stands =
    let here : Parts = held_parts net cell shape read v n e in
    let rest : Parts = in_turn (held_parts net cell shape read v) (n + length here.pieces) bits in
    matched_append net ((e.1, register (read_element cell shape read.1 read.0 e.0)) ∷ [])
    (map (λ e. (e.1, register (read_element cell shape read.1 read.0 e.0))) bits) here.wires rest.wires
    (takes net n (e.1, get_or read.1.start e.0 false) (read_element cell shape read.1 read.0 e.0) (of_vertex v e.0) (v, refl, reads)
    (part_left (parts_of net).pieces n here.pieces rest.pieces stands))
    (matched_held net cell shape read v (n + length here.pieces) bits reads
    (part_right (parts_of net).pieces n here.pieces rest.pieces stands))

matched_read : (net : Net) (memory : ℕ) (cell : Cell) (shape : MemShape) → IsNamed net memory cell.name
    → (read : ℕ × ReadShape) (v : ℕ) → StandsIn net v (read_parts net memory cell shape v read).pieces
    → AreMatched net (read_drives cell shape read) (read_parts net memory cell shape v read).wires
matched_read net memory cell shape named read v stands = by read.1.clocked after
  where
    p : Piece
    p = piece (Read memory read.0) (map of_signal (port_part cell (codes "RD_ADDR") shape.abits read.0))

    reads : ReadsWord net cell.name (port_part cell (codes "RD_ADDR") shape.abits read.0) v
    reads = record {
      memory = memory;
      port = read.0;
      named = named;
      vertex = record {
        vertex = p;
        stands = part_first (parts_of net).pieces v p (data_parts net cell shape read v).pieces stands;
        kind_is = refl;
        pins_are = refl;
      };
    }

    after : StandsIn net (v + 1) (data_parts net cell shape read v).pieces
    after = part_next (parts_of net).pieces v p (data_parts net cell shape read v).pieces stands

    by : (clocked : Bool)
        → StandsIn net (v + 1) (if clocked
        then in_turn (held_parts net cell shape read v) (v + 1) (read_data cell shape read.0)
        else read_wires v (read_data cell shape read.0)).pieces
        → AreMatched net (map (λ e. (
          e.1,
          if clocked then register (read_element cell shape read.1 read.0 e.0)
              else word_bit (read_word_bit cell shape read.0 e.0),
        )) (read_data cell shape read.0))
        (if clocked then in_turn (held_parts net cell shape read v) (v + 1) (read_data cell shape read.0)
        else read_wires v (read_data cell shape read.0)).wires
    by true here = matched_held net cell shape read v (v + 1) (read_data cell shape read.0) reads here
    by false here = matched_words net cell shape read.0 v (read_data cell shape read.0) reads

all_reads : (net : Net) (memory : ℕ) (cell : Cell) (shape : MemShape) → IsNamed net memory cell.name
    → (reads : List (ℕ × ReadShape))
    → AllByRecursion (λ read. (k : ℕ) → StandsIn net k (read_parts net memory cell shape k read).pieces
    → AreMatched net (read_drives cell shape read) (read_parts net memory cell shape k read).wires) reads
all_reads net memory cell shape named [] = tt
all_reads net memory cell shape named (read ∷ reads) =
    (matched_read net memory cell shape named read, all_reads net memory cell shape named reads)

-- a memory that has a shape has its name at its place
abbrev HasName : Net → Placed → Type 0
HasName net c = (shape : MemShape) → c.shape ≡ Some shape → IsNamed net c.memory c.cell.name

matched_memory : (net : Net) (n memory : ℕ) (cell : Cell) (shape : Option MemShape)
    → ((s : MemShape) → shape ≡ Some s → IsNamed net memory cell.name)
    → StandsIn net n (memory_parts net n memory cell shape).pieces
    → AreMatched net (memory_drives cell shape) (memory_parts net n memory cell shape).wires
matched_memory net n memory cell None named stands = tt
matched_memory net n memory cell (Some shape) named stands =
    let reads : Parts = in_turn (read_parts net memory cell shape) n (enumerate_from 0 shape.reads) in
    subst (AreMatched net (memory_drives cell (Some shape))) (sym (append-nil reads.wires))
    (matched_in_turn net (read_drives cell shape) (read_parts net memory cell shape) n (enumerate_from 0 shape.reads)
    (all_reads net memory cell shape (named shape refl) (enumerate_from 0 shape.reads))
    (part_left (parts_of net).pieces n reads.pieces (write_parts memory cell shape).pieces stands))

-- ---- all cells

matched_class : (net : Net) (class : Class) (c : Placed) → HasName net c → (n : ℕ)
    → StandsIn net n (class_parts net n class c).pieces
    → AreMatched net (class_drives class c.cell c.shape) (class_parts net n class c).wires
matched_class net (GateClass kind) c named n stands = matched_gate net n c kind stands
matched_class net (Register kind) c named n stands =
    takes net n (signal_of c.cell (codes "Q"), false) (register_of c.cell kind) (of_signal (signal_of c.cell (codes "D"))) refl
    stands
matched_class net Memory c named n stands = matched_memory net n c.memory c.cell c.shape named stands
matched_class net Scope c named n stands = tt
matched_class net Asynchronous c named n stands = tt
matched_class net NotFine c named n stands = tt
matched_class net Unknown c named n stands = tt

all_cells : (net : Net) (cs : List Placed) → AllByRecursion (HasName net) cs
    → AllByRecursion (λ c. (k : ℕ) → StandsIn net k (cell_parts net k c).pieces
    → AreMatched net (cell_drives (c.cell, c.shape)) (cell_parts net k c).wires) cs
all_cells net [] named = tt
all_cells net (c ∷ cs) named = (matched_class net c.cell.class c named.0, all_cells net cs named.1)

-- ---- of a netlist

-- a cell with its shape and its place
abbrev placed : Cell × (Option MemShape × ℕ) → Placed
placed c = record { cell = c.0; shape = c.1.0; memory = c.1.1 }

-- without its place
abbrev unplaced : Placed → Cell × Option MemShape
unplaced c = (c.cell, c.shape)

same_cells : (cells : List Cell) (shapes : List (Option MemShape)) (k : ℕ)
    → map unplaced (map placed (zip cells (zip shapes (places_from k shapes)))) ≡ zip cells shapes
same_cells [] shapes k = refl
same_cells (c ∷ cells) [] k = refl
same_cells (c ∷ cells) (None ∷ shapes) k = ap (λ cs. (c, None) ∷ cs) (same_cells cells shapes k)
same_cells (c ∷ cells) (Some shape ∷ shapes) k = ap (λ cs. (c, Some shape) ∷ cs) (same_cells cells shapes (k + 1))

all_named : (net : Net) (cells : List Cell) (shapes : List (Option MemShape)) (places : List ℕ)
    → ((i : ℕ) (cell : Cell) (shape : MemShape) → slice_get cells i ≡ Some cell → slice_get shapes i ≡ Some (Some shape)
    → IsNamed net (get_or places i 0) cell.name)
    → AllByRecursion (HasName net) (map placed (zip cells (zip shapes places)))
all_named net [] shapes places named = tt
all_named net (c ∷ cells) [] places named = tt
all_named net (c ∷ cells) (s ∷ shapes) [] named = tt
all_named net (c ∷ cells) (s ∷ shapes) (k ∷ places) named = (
  λ shape is. named 0 c shape refl (ap Some is),
  all_named net cells shapes places (λ i. named (suc i)),
)

pub inputs_stand : (net : Net) → StandsIn net 0 (input_parts net).pieces
unfolding parts_of
inputs_stand net = record {
  after = (output_parts net).pieces ++ (in_turn (cell_parts net) (length (port_parts net).pieces) (placed_cells net)).pieces;
  is = append_assoc (input_parts net).pieces (output_parts net).pieces
      (in_turn (cell_parts net) (length (port_parts net).pieces) (placed_cells net)).pieces;
}

pub cells_stand : (net : Net)
    → StandsIn net (length (port_parts net).pieces)
    (in_turn (cell_parts net) (length (port_parts net).pieces) (placed_cells net)).pieces
unfolding parts_of
cells_stand net =
    let cells : List Piece = (in_turn (cell_parts net) (length (port_parts net).pieces) (placed_cells net)).pieces in
    record {
      after = [];
      is = drop-append_seam (port_parts net).pieces cells ∙ sym (append-nil cells);
    }

matched_ports : (net : Net)
    → AreMatched net (map (λ e. (e.1, input e.0)) (enumerate_from 0 (data_inputs net))) (port_parts net).wires
matched_ports net =
    subst (AreMatched net (map (λ e. (e.1, input e.0)) (enumerate_from 0 (data_inputs net))))
    (sym (append-nil (input_parts net).wires))
    (matched_inputs net 0 1 (data_inputs net) (omega arith)
    (part_next (parts_of net).pieces 0 (piece Host []) (map (λ s. piece Input []) (data_inputs net)) (inputs_stand net)))

matched_cells : (net : Net) → AreNamedInOrder net
    → AreMatched net (flat_map cell_drives (zip net.cells net.shapes))
    (in_turn (cell_parts net) (length (port_parts net).pieces) (placed_cells net)).wires
matched_cells net named =
    subst (λ ds. AreMatched net ds (in_turn (cell_parts net) (length (port_parts net).pieces) (placed_cells net)).wires)
    (sym (flat_map-map cell_drives unplaced (placed_cells net))
    ∙ ap (flat_map cell_drives) (same_cells net.cells net.shapes 0))
    (matched_in_turn net (λ c. cell_drives (c.cell, c.shape)) (cell_parts net) (length (port_parts net).pieces)
    (placed_cells net)
    (all_cells net (placed_cells net) (all_named net net.cells net.shapes (places_from 0 net.shapes) named))
    (cells_stand net))

-- all that is driven is matched
pub all_matched : (net : Net) → AreNamedInOrder net → AreMatched net (drivers net) (parts_of net).wires
unfolding parts_of
all_matched net named =
    matched_append net (map (λ e. (e.1, input e.0)) (enumerate_from 0 (data_inputs net)))
    (flat_map cell_drives (zip net.cells net.shapes)) (port_parts net).wires
    (in_turn (cell_parts net) (length (port_parts net).pieces) (placed_cells net)).wires (matched_ports net)
    (matched_cells net named)

-- what drives a bit in the netlist is what drives it among the vertices
pub matches : (net : Net) → AreNamedInOrder net → (b : ℕ)
    → Matches net (Bit b) (driver_of net b) (wire_in (parts_of net).wires b)
unfolding driver_of
matches net named b = found_match net (drivers net) (parts_of net).wires b (all_matched net named)

-- a well-formed netlist's memories are named in order
pub well_named : (net : Net) → IsWellFormed net → AreNamedInOrder net
well_named net w = memory_name net w
