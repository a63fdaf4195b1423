-- The write ports of a memory among the vertices are those of its cell.
use Rattle.std.specs.Prelude.{◌==◌, if◌then◌else◌, slice_get, codes}
use Rattle.std.proofs.Common.{◌≡◌, ℕ, zero, suc, ◌+◌, ◌<◌, ◌≤◌, Bool, true, false, cond, List, [], ◌∷◌, ◌++◌, length, map, get_or, Option, Some, None, refl, ap, ap₂, ◌∙◌, arith, inl, inr}
use Rattle.std.specs.List.{AllByRecursion, enumerate_from, zip}
use Rattle.std.proofs.lemmas.Bool.{cases_Bool, eq-eqb, eqb-true}
use Rattle.std.proofs.lemmas.Option.{none-some, same_Some}
use Rattle.std.proofs.lemmas.List.{append-nil}
use Rattle.std.proofs.lemmas.List.Elements.{filter-append}
use Rattle.cs_base.specs.declared.signal.Signal.{Signal}
use Rattle.cs_cells.specs.declared.class.Class.{Class}
use Rattle.cs_cells.specs.declared.class.Class.TheVariants.{Asynchronous, Gate as GateClass, Memory, NotFine, Register, Scope, Unknown}
use Rattle.cs_cells.specs.declared.gate.Kind.TheVariants.{Mux}
use Rattle.cs_cells.specs.declared.memory.MemShape.{MemShape}
use Rattle.cs_cells.specs.declared.memory.ReadShape.{ReadShape}
use Rattle.cs_graph.specs.declared.vertex.VertexKind.TheVariants.{Gate, Input, Output}
use Rattle.cs_modules.specs.Pins.{count_from}
use Rattle.cs_net.specs.declared.netlist.Cell.{Cell}
use Rattle.cs_net.specs.Build.{places_from}
use Rattle.cs_net.specs.Drivers.{StateElement, data_inputs, data_outputs, read_data, read_element, register_of, signal_of}
use Rattle.cs_net.specs.Netlist.{Net}
use Rattle.cs_lower.specs.Cells.{Placed, cell_parts, class_parts, data_parts, held_parts, memory_parts, placed_cells, read_parts, read_wires, write_parts, write_piece}
use Rattle.cs_lower.specs.Registers.{register_chain, register_parts}
use Rattle.cs_lower.specs.declared.taps.Tap.{Tap}
use Rattle.cs_lower.specs.declared.taps.Tap.TheVariants.{Signal as of_signal, Vertex as of_vertex}
use Rattle.cs_lower.specs.declared.taps.Piece.{Piece}
use Rattle.cs_lower.specs.declared.taps.Parts.{Parts}
use Rattle.cs_lower.specs.Taps.{in_turn, piece}
use Rattle.cs_lower.specs.Wires.{input_parts, output_parts, parts_of, port_parts}
use Rattle.cs_lower.specs.Writes.{write_ports, writes_to}
use Rattle.cs_lower.proofs.TakenLemmas.{chain_muxes}

pub join_ports : (m : ℕ) (xs ys : List Piece) → write_ports m (xs ++ ys) ≡ write_ports m xs ++ write_ports m ys
join_ports m xs ys = filter-append (λ p. writes_to m p.kind) xs ys

none_join : (m : ℕ) (xs ys : List Piece) → write_ports m xs ≡ [] → write_ports m ys ≡ [] → write_ports m (xs ++ ys) ≡ []
none_join m xs ys left right = join_ports m xs ys ∙ ap₂ (λ a b. a ++ b) left right

-- ---- parts without write ports

none_in_turn : {A : Type 0} (m : ℕ) (parts : ℕ → A → Parts) (n : ℕ) (xs : List A)
    → ((k : ℕ) (x : A) → write_ports m (parts k x).pieces ≡ []) → write_ports m (in_turn parts n xs).pieces ≡ []
none_in_turn m parts n [] each = refl
none_in_turn m parts n (x ∷ xs) each =
    none_join m (parts n x).pieces (in_turn parts (n + length (parts n x).pieces) xs).pieces (each n x)
    (none_in_turn m parts (n + length (parts n x).pieces) xs each)

none_muxes : (m : ℕ) (pieces : List Piece) → AllByRecursion (λ p. p.kind ≡ Gate Mux) pieces → write_ports m pieces ≡ []
none_muxes m [] muxes = refl
none_muxes m (p ∷ pieces) muxes =
    ap (λ kind. cond (writes_to m kind) (p ∷ write_ports m pieces) (write_ports m pieces)) muxes.0
    ∙ none_muxes m pieces muxes.1

none_register : (m : ℕ) (net : Net) (n : ℕ) (q : Signal × Bool) (r : StateElement) (d : Tap)
    → write_ports m (register_parts net n q r d).pieces ≡ []
none_register m net n q r d = none_muxes m (register_chain net n q r d).pieces (chain_muxes net n q r d).muxes

none_data : (m : ℕ) (net : Net) (cell : Cell) (shape : MemShape) (read : ℕ × ReadShape) (v : ℕ)
    → write_ports m (data_parts net cell shape read v).pieces ≡ []
none_data m net cell shape read v = by read.1.clocked
  where
    by : (clocked : Bool) → write_ports m (if clocked
        then in_turn (held_parts net cell shape read v) (v + 1) (read_data cell shape read.0)
        else read_wires v (read_data cell shape read.0)).pieces ≡ []
    by true = none_in_turn m (held_parts net cell shape read v) (v + 1) (read_data cell shape read.0)
        (λ k e. none_register m net k (e.1, get_or read.1.start e.0 false) (read_element cell shape read.1 read.0 e.0) (of_vertex v e.0))
    by false = refl

none_reads : (m : ℕ) (net : Net) (memory : ℕ) (cell : Cell) (shape : MemShape) (n : ℕ) (reads : List (ℕ × ReadShape))
    → write_ports m (in_turn (read_parts net memory cell shape) n reads).pieces ≡ []
none_reads m net memory cell shape n reads =
    none_in_turn m (read_parts net memory cell shape) n reads (λ v read. none_data m net cell shape read v)

-- ---- the write ports of a memory

-- one's own
own_writes : (m : ℕ) (cell : Cell) (shape : MemShape) (ports : List ℕ)
    → write_ports m (map (write_piece m cell shape) ports) ≡ map (write_piece m cell shape) ports
own_writes m cell shape [] = refl
own_writes m cell shape (port ∷ ports) =
    let all : List Piece = map (write_piece m cell shape) ports in
    ap (λ here. cond here (write_piece m cell shape port ∷ write_ports m all) (write_ports m all)) (eq-eqb m m refl)
    ∙ ap (λ rest. write_piece m cell shape port ∷ rest) (own_writes m cell shape ports)

-- another's
other_writes : (m memory : ℕ) (cell : Cell) (shape : MemShape) (ports : List ℕ) → (memory == m) ≡ false
    → write_ports m (map (write_piece memory cell shape) ports) ≡ []
other_writes m memory cell shape [] apart = refl
other_writes m memory cell shape (port ∷ ports) apart =
    let all : List Piece = map (write_piece memory cell shape) ports in
    ap (λ here. cond here (write_piece memory cell shape port ∷ write_ports m all) (write_ports m all)) apart
    ∙ other_writes m memory cell shape ports apart

own_memory : (m : ℕ) (net : Net) (n : ℕ) (cell : Cell) (shape : MemShape)
    → write_ports m (memory_parts net n m cell (Some shape)).pieces
    ≡ map (write_piece m cell shape) (count_from 0 shape.writes)
own_memory m net n cell shape =
    let reads : List Piece = (in_turn (read_parts net m cell shape) n (enumerate_from 0 shape.reads)).pieces in
    join_ports m reads (write_parts m cell shape).pieces
    ∙ ap₂ (λ a b. a ++ b) (none_reads m net m cell shape n (enumerate_from 0 shape.reads))
    (own_writes m cell shape (count_from 0 shape.writes))

other_memory : (m : ℕ) (net : Net) (n memory : ℕ) (cell : Cell) (shape : Option MemShape)
    → ((s : MemShape) → shape ≡ Some s → (memory == m) ≡ false)
    → write_ports m (memory_parts net n memory cell shape).pieces ≡ []
other_memory m net n memory cell None apart = refl
other_memory m net n memory cell (Some shape) apart =
    none_join m (in_turn (read_parts net memory cell shape) n (enumerate_from 0 shape.reads)).pieces
    (write_parts memory cell shape).pieces (none_reads m net memory cell shape n (enumerate_from 0 shape.reads))
    (other_writes m memory cell shape (count_from 0 shape.writes) (apart shape refl))

-- ---- cells

-- a cell that isn't memory m
abbrev IsApart : ℕ → Placed → Type 0
IsApart m c = (s : MemShape) → c.shape ≡ Some s → (c.memory == m) ≡ false

other_class : (m : ℕ) (net : Net) (n : ℕ) (class : Class) (c : Placed) → IsApart m c
    → write_ports m (class_parts net n class c).pieces ≡ []
other_class m net n (GateClass kind) c apart = refl
other_class m net n (Register kind) c apart =
    none_register m net n (signal_of c.cell (codes "Q"), false) (register_of c.cell kind)
    (of_signal (signal_of c.cell (codes "D")))
other_class m net n Memory c apart = other_memory m net n c.memory c.cell c.shape apart
other_class m net n Scope c apart = refl
other_class m net n Asynchronous c apart = refl
other_class m net n NotFine c apart = refl
other_class m net n Unknown c apart = refl

own_class : (m : ℕ) (net : Net) (n : ℕ) (c : Placed) (shape : MemShape) → c.cell.class ≡ Memory → c.memory ≡ m
    → c.shape ≡ Some shape
    → write_ports m (cell_parts net n c).pieces ≡ map (write_piece m c.cell shape) (count_from 0 shape.writes)
own_class m net n c shape is place has =
    ap (λ class. write_ports m (class_parts net n class c).pieces) is
    ∙ ap₂ (λ memory s. write_ports m (memory_parts net n memory c.cell s).pieces) place has
    ∙ own_memory m net n c.cell shape

-- cells that stand before or behind memory m
other_cells : (m : ℕ) (net : Net) (n : ℕ) (cs : List Placed) → AllByRecursion (IsApart m) cs
    → write_ports m (in_turn (cell_parts net) n cs).pieces ≡ []
other_cells m net n [] apart = refl
other_cells m net n (c ∷ cs) apart =
    none_join m (cell_parts net n c).pieces (in_turn (cell_parts net) (n + length (cell_parts net n c).pieces) cs).pieces
    (other_class m net n c.cell.class c apart.0)
    (other_cells m net (n + length (cell_parts net n c).pieces) cs apart.1)

-- ---- places

numbers_differ : (a b : ℕ) → (a ≡ b → ⊥) → (a == b) ≡ false
numbers_differ a b apart = elim (cases_Bool (a == b)) [
  | inl same ↦ absurd (apart (eqb-true a b same))
  | inr other ↦ other
]

placed_from : (k : ℕ) (cells : List Cell) (shapes : List (Option MemShape)) → List Placed
placed_from k cells shapes =
    map (λ c. record { cell = c.0; shape = c.1.0; memory = c.1.1 }) (zip cells (zip shapes (places_from k shapes)))

-- places from k on aren't below k
later_apart : (m k : ℕ) (cells : List Cell) (shapes : List (Option MemShape)) → m < k
    → AllByRecursion (IsApart m) (placed_from k cells shapes)
unfolding placed_from
later_apart m k [] shapes below = tt
later_apart m k (c ∷ cells) [] below = tt
later_apart m k (c ∷ cells) (None ∷ shapes) below = (λ s is. absurd (none-some s is), later_apart m k cells shapes below)
later_apart m k (c ∷ cells) (Some shape ∷ shapes) below = (
  λ s is. numbers_differ k m (λ same. omega (arith, same, below)),
  later_apart m (k + 1) cells shapes (omega (arith, below)),
)

place_bound : (k i : ℕ) (shapes : List (Option MemShape)) (s : Option MemShape) → slice_get shapes i ≡ Some s
    → k ≤ get_or (places_from k shapes) i 0
place_bound k i [] s at = cc
place_bound k zero (None ∷ shapes) s at = omega arith
place_bound k zero (Some shape ∷ shapes) s at = omega arith
place_bound k (suc i) (None ∷ shapes) s at = place_bound k i shapes s at
place_bound k (suc i) (Some shape ∷ shapes) s at =
    let more = place_bound (k + 1) i shapes s at in omega (arith, more)

-- the cells from the k-th memory on, one of which is memory m
writes_of_cells : (m : ℕ) (net : Net) (k n i : ℕ) (cells : List Cell) (shapes : List (Option MemShape)) (cell : Cell)
    (shape : MemShape) → slice_get cells i ≡ Some cell → slice_get shapes i ≡ Some (Some shape)
    → cell.class ≡ Memory → get_or (places_from k shapes) i 0 ≡ m
    → write_ports m (in_turn (cell_parts net) n (placed_from k cells shapes)).pieces
    ≡ map (write_piece m cell shape) (count_from 0 shape.writes)
unfolding placed_from
writes_of_cells m net k n i [] shapes cell shape at is class place = cc
writes_of_cells m net k n i (c ∷ cells) [] cell shape at is class place = cc
writes_of_cells m net k n zero (c ∷ cells) (None ∷ shapes) cell shape at is class place = cc
writes_of_cells m net k n zero (c ∷ cells) (Some s ∷ shapes) cell shape at is class place =
    let here : Placed = record { cell = c; shape = Some s; memory = k } in
    let parts : Parts = cell_parts net n here in
    let rest : List Placed = placed_from (k + 1) cells shapes in
    let same : c ≡ cell = same_Some c cell at in
    let fits : s ≡ shape = same_Some s shape (same_Some (Some s) (Some shape) is) in
    join_ports m parts.pieces (in_turn (cell_parts net) (n + length parts.pieces) rest).pieces
    ∙ ap₂ (λ a b. a ++ b) (own_class m net n here s (ap (λ (x : Cell). x.class) same ∙ class) place refl)
    (other_cells m net (n + length parts.pieces) rest (later_apart m (k + 1) cells shapes (omega (arith, place))))
    ∙ append-nil (map (write_piece m c s) (count_from 0 s.writes))
    ∙ ap₂ (λ x y. map (write_piece m x y) (count_from 0 y.writes)) same fits
writes_of_cells m net k n (suc i) (c ∷ cells) (None ∷ shapes) cell shape at is class place =
    let here : Placed = record { cell = c; shape = None; memory = k } in
    let parts : Parts = cell_parts net n here in
    let rest : List Placed = placed_from k cells shapes in
    join_ports m parts.pieces (in_turn (cell_parts net) (n + length parts.pieces) rest).pieces
    ∙ ap₂ (λ a b. a ++ b) (other_class m net n c.class here (λ s none. absurd (none-some s none)))
    (writes_of_cells m net k (n + length parts.pieces) i cells shapes cell shape at is class place)
writes_of_cells m net k n (suc i) (c ∷ cells) (Some s ∷ shapes) cell shape at is class place =
    let here : Placed = record { cell = c; shape = Some s; memory = k } in
    let parts : Parts = cell_parts net n here in
    let rest : List Placed = placed_from (k + 1) cells shapes in
    let bound : k + 1 ≤ get_or (places_from (k + 1) shapes) i 0 = place_bound (k + 1) i shapes (Some shape) is in
    let apart : (k == m) ≡ false = numbers_differ k m (λ same. omega (arith, same, bound, place)) in
    join_ports m parts.pieces (in_turn (cell_parts net) (n + length parts.pieces) rest).pieces
    ∙ ap₂ (λ a b. a ++ b) (other_class m net n c.class here (λ s some. apart))
    (writes_of_cells m net (k + 1) (n + length parts.pieces) i cells shapes cell shape at is class place)

-- ---- of a netlist

none_inputs : (m : ℕ) (signals : List Signal) → write_ports m (map (λ s. piece Input []) signals) ≡ []
none_inputs m [] = refl
none_inputs m (s ∷ signals) = none_inputs m signals

none_outputs : (m : ℕ) (signals : List Signal) → write_ports m (map (λ s. piece Output (of_signal s ∷ [])) signals) ≡ []
none_outputs m [] = refl
none_outputs m (s ∷ signals) = none_outputs m signals

none_ports : (m : ℕ) (net : Net) → write_ports m (port_parts net).pieces ≡ []
none_ports m net =
    none_join m (input_parts net).pieces (output_parts net).pieces (none_inputs m (data_inputs net))
    (none_outputs m (data_outputs net))

-- the write ports of the memory that cell i is are the cell's, in their order
pub places_of_writes : (net : Net) (i : ℕ) (cell : Cell) (shape : MemShape) → slice_get net.cells i ≡ Some cell
    → slice_get net.shapes i ≡ Some (Some shape) → cell.class ≡ Memory
    → write_ports (get_or (places_from 0 net.shapes) i 0) (parts_of net).pieces
    ≡ map (write_piece (get_or (places_from 0 net.shapes) i 0) cell shape) (count_from 0 shape.writes)
unfolding parts_of placed_from
places_of_writes net i cell shape at is class =
    let m : ℕ = get_or (places_from 0 net.shapes) i 0 in
    let n : ℕ = length (port_parts net).pieces in
    join_ports m (port_parts net).pieces (in_turn (cell_parts net) n (placed_cells net)).pieces
    ∙ ap₂ (λ a b. a ++ b) (none_ports m net)
    (writes_of_cells m net 0 n i net.cells net.shapes cell shape at is class refl)
