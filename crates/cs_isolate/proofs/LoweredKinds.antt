-- The graph of a netlist has an Input for each data input and an Output for each data output; it has a Write only where
-- the netlist has a clock.
use Rattle.std.proofs.Common.{◌≡◌, ◌∙◌, ℕ, suc, ◌+◌, ◌<◌, Bool, true, false, cond, List, [], ◌∷◌, ◌++◌, Option, Some, None, length, map, flat_map, refl, sym, ap, ap₂, arith, length-append, get_or, codes}
use Rattle.std.specs.Prelude.{slice_get, if◌then◌else◌}
use Rattle.std.specs.List.{count_by, zip}
use Rattle.std.proofs.lemmas.Grind.{flat_map-append}
use Rattle.std.proofs.lemmas.List.Sums.{sum_by-append, sum_by-cons}
use Rattle.cs_base.specs.declared.signal.Signal.{Signal}
use Rattle.cs_cells.specs.declared.class.Class.{Class}
use Rattle.cs_cells.specs.declared.class.Class.TheVariants.{Asynchronous, Gate as GateClass, Memory, NotFine, Register, Scope, Unknown}
use Rattle.cs_cells.specs.declared.gate.Kind.{Kind}
use Rattle.cs_cells.specs.declared.memory.MemShape.{MemShape}
use Rattle.cs_graph.specs.declared.source.OpenVertex.{OpenVertex}
use Rattle.cs_graph.specs.declared.vertex.VertexKind.{VertexKind}
use Rattle.cs_graph.specs.declared.vertex.VertexKind.TheVariants.{Constant, Gate, Host, Input, Output, Read, Write}
use Rattle.cs_graph.specs.Draft.{open_kinds}
use Rattle.cs_graph.specs.Invariant.{kinds}
use Rattle.cs_graph.specs.Kinds.{is_input}
use Rattle.cs_graph.proofs.BuiltLemmas.{kinds_from}
use Rattle.cs_lower.specs.Cells.{Placed, placed_cells, write_piece}
use Rattle.cs_lower.specs.Lowered.{constants, draft_of, lowered, pieces_of, vertex_of}
use Rattle.cs_lower.specs.declared.taps.Piece.{Piece}
use Rattle.cs_lower.specs.declared.taps.Tap.{Tap}
use Rattle.cs_lower.specs.declared.taps.Tap.TheVariants.{Signal as of_signal}
use Rattle.cs_lower.specs.Taps.{piece}
use Rattle.cs_lower.specs.Wires.{port_parts}
use Rattle.cs_lower.proofs.PlacedCells.{placed, placed_from}
use Rattle.cs_lower.proofs.SinkPieces.{IsOfPorts, class_write_pieces, made_of_ports, write_pieces, write_pieces_of}
use Rattle.cs_modules.specs.Pins.{count_from, width_at}
use Rattle.cs_net.specs.declared.netlist.Cell.{Cell}
use Rattle.cs_net.specs.Clocks.{clocks_by, memory_clocks, of_clocked_reads}
use Rattle.cs_net.specs.Drivers.{bits_of, data_inputs, data_outputs}
use Rattle.cs_net.specs.Invariant.{IsWellFormed}
use Rattle.cs_net.specs.Netlist.{Net}
use Rattle.cs_net.specs.Widths.{widths_by}
use Rattle.cs_net.proofs.ClockFacts.{without_clock}
use Rattle.cs_net.proofs.PinWidths.{pin_is_wide}
use Rattle.cs_share.specs.Names.{is_output}
use Rattle.cs_share.specs.Shared.{is_write}

abbrev piece_kinds : List Piece → List VertexKind
piece_kinds ps = map (λ q. q.kind) ps

kinds_lowered : (net : Net) → kinds (lowered net).vertices ≡ piece_kinds (pieces_of net ++ constants net)
kinds_lowered net = kinds_from 0 (draft_of net).vertices ∙ each (pieces_of net ++ constants net)
  where
    each : (ps : List Piece) → open_kinds (map (vertex_of net) ps) ≡ piece_kinds ps
    each [] = refl
    each (q ∷ ps) = ap (λ ks. q.kind ∷ ks) (each ps)

-- the kinds of what is made of ports and write ports alone
pub record IsOfPortKinds (p : VertexKind → Bool) : Type 0 where
  pub gate : (kind : Kind) → p (Gate kind) ≡ false
  pub constant : (b : Bool) → p (Constant b) ≡ false
  pub read : (memory port : ℕ) → p (Read memory port) ≡ false

module _ (p : VertexKind → Bool) (of : IsOfPortKinds p) where
  abbrev pub chosen : Piece → List Bool
  chosen q = if p q.kind then true ∷ [] else []

  none_chosen : (q : Piece) → p q.kind ≡ false → chosen q ≡ []
  none_chosen q is = ap (λ b. if b then true ∷ [] else []) is

  of_ports : IsOfPorts chosen
  of_ports = record {
    constant = λ b. none_chosen (piece (Constant b) []) (of.constant b);
    gate = λ kind pins origin. none_chosen (record { kind = Gate kind; pins = pins; origin = origin }) (of.gate kind);
    read = λ memory port pins. none_chosen (piece (Read memory port) pins) (of.read memory port);
  }

  counted_chosen : (ps : List Piece) → count_by p (piece_kinds ps) ≡ length (flat_map chosen ps)
  counted_chosen [] = refl
  counted_chosen (q ∷ ps) =
      sum_by-cons (λ kind. cond (p kind) 1 0) q.kind (piece_kinds ps)
      ∙ ap₂ (λ a b. a + b) (one (p q.kind)) (counted_chosen ps)
      ∙ sym (length-append (chosen q) (flat_map chosen ps))
    where
      one : (b : Bool) → cond b 1 0 ≡ length (if b then true ∷ [] else [])
      one true = refl
      one false = refl

  -- as many as among the ports and the write ports
  pub counted_lowered : (net : Net) → count_by p (kinds (lowered net).vertices)
      ≡ count_by p (piece_kinds (port_parts net).pieces)
      + length (flat_map (λ c. flat_map chosen (write_pieces c)) (placed_cells net))
  counted_lowered net =
      ap (count_by p) (kinds_lowered net) ∙ counted_chosen (pieces_of net ++ constants net)
      ∙ ap length (made_of_ports chosen of_ports net)
      ∙ length-append (flat_map chosen (port_parts net).pieces) (flat_map (λ c. flat_map chosen (write_pieces c)) (placed_cells net))
      ∙ ap (λ n. n + length (flat_map (λ c. flat_map chosen (write_pieces c)) (placed_cells net)))
      (sym (counted_chosen (port_parts net).pieces))

  -- none among the write ports of cells that have none of this kind
  pub none_of_writes : (cells : List Placed) → ((i : ℕ) (c : Placed) → slice_get cells i ≡ Some c → flat_map chosen (write_pieces c) ≡ [])
      → length (flat_map (λ c. flat_map chosen (write_pieces c)) cells) ≡ 0
  none_of_writes [] each = refl
  none_of_writes (c ∷ cells) each =
      length-append (flat_map chosen (write_pieces c)) (flat_map (λ d. flat_map chosen (write_pieces d)) cells)
      ∙ ap₂ (λ a b. length a + b) (each 0 c refl) (none_of_writes cells (λ i d at. each (suc i) d at))

  module _ (no_write : (memory port : ℕ) → p (Write memory port) ≡ false) where
    none_of_shape : (memory : ℕ) (cell : Cell) (shape : Option MemShape) → flat_map chosen (write_pieces_of memory cell shape) ≡ []
    none_of_shape memory cell None = refl
    none_of_shape memory cell (Some shape) = each _
      where
        each : (ports : List ℕ) → flat_map chosen (map (write_piece memory cell shape) ports) ≡ []
        each [] = refl
        each (port ∷ ports) =
            ap₂ (λ a b. a ++ b) (none_chosen (write_piece memory cell shape port) (no_write memory port)) (each ports)

    none_of_class : (class : Class) (c : Placed) → flat_map chosen (class_write_pieces class c) ≡ []
    none_of_class (GateClass kind) c = refl
    none_of_class (Register kind) c = refl
    none_of_class Memory c = none_of_shape c.memory c.cell c.shape
    none_of_class Scope c = refl
    none_of_class Asynchronous c = refl
    none_of_class NotFine c = refl
    none_of_class Unknown c = refl

    -- as many as among the ports
    pub counted_ports : (net : Net) → count_by p (kinds (lowered net).vertices) ≡ count_by p (piece_kinds (port_parts net).pieces)
    counted_ports net =
        counted_lowered net
        ∙ (let none = none_of_writes (placed_cells net) (λ i c at. none_of_class c.cell.class c) in omega (arith, none))

-- ---- ports

module _ (p : VertexKind → Bool) where
  counted_both : (first rest : List Piece) → count_by p (piece_kinds (first ++ rest)) ≡ count_by p (piece_kinds first) + count_by p (piece_kinds rest)
  counted_both [] rest = let none : count_by p (piece_kinds []) ≡ 0 = refl in omega (arith, none)
  counted_both (q ∷ first) rest =
      let count = sum_by-cons (λ kind. cond (p kind) 1 0) q.kind (piece_kinds (first ++ rest)) in
      let one = sum_by-cons (λ kind. cond (p kind) 1 0) q.kind (piece_kinds first) in
      let others = counted_both first rest in
      omega (arith, count, one, others)

  -- each signal has one, or none has
  each_counted : (q : Signal → Piece) (b : Bool) → ((s : Signal) → p (q s).kind ≡ b) → (signals : List Signal)
      → count_by p (piece_kinds (map q signals)) ≡ (if b then length signals else 0)
  each_counted q true is [] = refl
  each_counted q false is [] = refl
  each_counted q true is (s ∷ signals) =
      let count = sum_by-cons (λ kind. cond (p kind) 1 0) (q s).kind (piece_kinds (map q signals)) in
      let one : cond (p (q s).kind) 1 0 ≡ 1 = ap {B = ℕ} (λ b. cond b 1 0) (is s) in
      let others : count_by p (piece_kinds (map q signals)) ≡ length signals = each_counted q true is signals in
      omega (arith, count, one, others)
  each_counted q false is (s ∷ signals) =
      sum_by-cons (λ kind. cond (p kind) 1 0) (q s).kind (piece_kinds (map q signals))
      ∙ ap₂ (λ b n. cond b 1 0 + n) (is s) (each_counted q false is signals)

  counted_of_ports : (input output : Bool) → p Host ≡ false → p Input ≡ input → p Output ≡ output → (net : Net)
      → count_by p (piece_kinds (port_parts net).pieces)
      ≡ (if input then length (data_inputs net) else 0) + (if output then length (data_outputs net) else 0)
  counted_of_ports input output host is is' net =
      let inputs = map (λ (s : Signal). piece Input []) (data_inputs net) in
      let outputs = map (λ (s : Signal). piece Output (of_signal s ∷ [])) (data_outputs net) in
      let all : count_by p (piece_kinds (port_parts net).pieces) ≡ count_by p (piece_kinds (piece Host [] ∷ inputs)) + count_by p (piece_kinds outputs) =
      counted_both (piece Host [] ∷ inputs) outputs in
      let first = sum_by-cons (λ kind. cond (p kind) 1 0) Host (piece_kinds inputs) in
      let none : cond (p Host) 1 0 ≡ 0 = ap {B = ℕ} (λ b. cond b 1 0) host in
      let some = each_counted (λ s. piece Input []) input (λ s. is) (data_inputs net) in
      let shown = each_counted (λ s. piece Output (of_signal s ∷ [])) output (λ s. is') (data_outputs net) in
      omega (arith, all, first, none, some, shown)

pub inputs_counted : (net : Net) → count_by is_input (kinds (lowered net).vertices) ≡ length (data_inputs net)
inputs_counted net =
    counted_ports is_input (record { gate = λ kind. refl; constant = λ b. refl; read = λ memory port. refl }) (λ memory port. refl) net
    ∙ counted_of_ports is_input true false refl refl refl net ∙ omega arith

pub outputs_counted : (net : Net) → count_by is_output (kinds (lowered net).vertices) ≡ length (data_outputs net)
outputs_counted net =
    counted_ports is_output (record { gate = λ kind. refl; constant = λ b. refl; read = λ memory port. refl }) (λ memory port. refl) net
    ∙ counted_of_ports is_output false true refl refl refl net ∙ omega arith

-- ---- write ports

left_nil : {A : Type 0} (xs ys : List A) → xs ++ ys ≡ [] → xs ≡ []
left_nil [] ys none = refl
left_nil (x ∷ xs) ys none = absurd (cc)

right_nil : {A : Type 0} (xs ys : List A) → xs ++ ys ≡ [] → ys ≡ []
right_nil [] ys none = none
right_nil (x ∷ xs) ys none = absurd (cc)

-- each pin of these cells is as wide as its cell's class and shape give it
abbrev AreWide : List Cell → List (Option MemShape) → Type 0
AreWide cells shapes = (k : ℕ) (cell : Cell) (shape : Option MemShape) → slice_get cells k ≡ Some cell
    → slice_get shapes k ≡ Some shape → (name : List ℕ) (n : ℕ) → width_at (widths_by cell.class shape) name ≡ Some n
    → length (bits_of cell name) ≡ n

-- a memory whose write ports have no clock has none
no_ports : (memory : ℕ) (cell : Cell) (shape : MemShape) → length (bits_of cell (codes "WR_CLK")) ≡ shape.writes
    → memory_clocks cell (Some shape) ≡ [] → write_pieces_of memory cell (Some shape) ≡ []
no_ports memory cell shape wide none =
    let clocks = right_nil (of_clocked_reads (codes "RD_CLK") cell shape) (bits_of cell (codes "WR_CLK")) none in
    let zero : shape.writes ≡ 0 = sym wide ∙ ap length clocks in
    ap (λ n. map (write_piece memory cell shape) (count_from 0 n)) zero

no_class_ports : (class : Class) (shape : Option MemShape) (c : Placed) → c.shape ≡ shape
    → ((name : List ℕ) (n : ℕ) → width_at (widths_by class shape) name ≡ Some n → length (bits_of c.cell name) ≡ n)
    → clocks_by class c.cell shape ≡ [] → class_write_pieces class c ≡ []
no_class_ports (GateClass kind) shape c is wide none = refl
no_class_ports (Register kind) shape c is wide none = refl
no_class_ports Memory None c is wide none = ap (write_pieces_of c.memory c.cell) is
no_class_ports Memory (Some shape) c is wide none =
    ap (write_pieces_of c.memory c.cell) is
    ∙ no_ports c.memory c.cell shape (wide (codes "WR_CLK") shape.writes refl) none
no_class_ports Scope shape c is wide none = refl
no_class_ports Asynchronous shape c is wide none = refl
no_class_ports NotFine shape c is wide none = refl
no_class_ports Unknown shape c is wide none = refl

-- cells of which none is clocked have no write port
no_write_pieces : (j : ℕ) (cells : List Cell) (shapes : List (Option MemShape)) → AreWide cells shapes
    → flat_map (λ c. clocks_by c.0.class c.0 c.1) (zip cells shapes) ≡ []
    → flat_map write_pieces (placed_from j cells shapes) ≡ []
no_write_pieces j [] shapes wide none = refl
no_write_pieces j (cell ∷ cells) [] wide none = refl
no_write_pieces j (cell ∷ cells) (None ∷ shapes) wide none =
    let clocks = left_nil (clocks_by cell.class cell None) (flat_map (λ c. clocks_by c.0.class c.0 c.1) (zip cells shapes)) none in
    let others = right_nil (clocks_by cell.class cell None) (flat_map (λ c. clocks_by c.0.class c.0 c.1) (zip cells shapes)) none in
    ap₂ (λ a b. a ++ b)
    (no_class_ports cell.class None (placed cell None j) refl (wide 0 cell None refl refl) clocks)
    (no_write_pieces j cells shapes (λ k. wide (suc k)) others)
no_write_pieces j (cell ∷ cells) (Some shape ∷ shapes) wide none =
    let clocks = left_nil (clocks_by cell.class cell (Some shape)) (flat_map (λ c. clocks_by c.0.class c.0 c.1) (zip cells shapes)) none in
    let others = right_nil (clocks_by cell.class cell (Some shape)) (flat_map (λ c. clocks_by c.0.class c.0 c.1) (zip cells shapes)) none in
    ap₂ (λ a b. a ++ b)
    (no_class_ports cell.class (Some shape) (placed cell (Some shape) j) refl (wide 0 cell (Some shape) refl refl) clocks)
    (no_write_pieces (j + 1) cells shapes (λ k. wide (suc k)) others)

chosen_of_all : {A B C : Type 0} (f : B → List C) (g : A → List B) (xs : List A)
    → flat_map (λ x. flat_map f (g x)) xs ≡ flat_map f (flat_map g xs)
chosen_of_all f g [] = refl
chosen_of_all f g (x ∷ xs) =
    ap (λ b. flat_map f (g x) ++ b) (chosen_of_all f g xs) ∙ sym (flat_map-append f (g x) (flat_map g xs))

-- without a clock there is no Write
pub no_writes_counted : (net : Net) → IsWellFormed net → net.clock ≡ None
    → count_by is_write (kinds (lowered net).vertices) ≡ 0
no_writes_counted net w none =
    counted_lowered is_write of net
    ∙ ap₂ (λ a b. a + b)
    (counted_of_ports is_write false false refl refl refl net)
    (ap length (chosen_of_all (chosen is_write of) write_pieces (placed_cells net)
    ∙ ap (flat_map (chosen is_write of)) (no_write_pieces 0 net.cells net.shapes (pin_is_wide net w) (without_clock net w none))))
  where
    of : IsOfPortKinds is_write
    of = record { gate = λ kind. refl; constant = λ b. refl; read = λ memory port. refl }
