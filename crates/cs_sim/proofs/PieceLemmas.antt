-- The pieces of a netlist are its drivers and its elements, in order.
use Rattle.std.proofs.Common.{◌≡◌, ℕ, ◌+◌, List, [], ◌∷◌, ◌++◌, append_assoc, length, map, Option, Some, None, refl, sym, ap, ap₂, ◌∙◌, codes}
use Rattle.std.specs.Prelude.{flat_map, if◌then◌else◌}
use Rattle.std.specs.List.{enumerate_from, zip}
use Rattle.cs_base.specs.declared.signal.Signal.{Signal}
use Rattle.cs_cells.specs.declared.class.Class.{Class}
use Rattle.cs_cells.specs.declared.class.Class.TheVariants as class
use Rattle.cs_cells.specs.declared.memory.MemShape.{MemShape}
use Rattle.cs_cells.specs.declared.memory.ReadShape.{ReadShape}
use Rattle.cs_net.specs.declared.elements.Element.{Element}
use Rattle.cs_net.specs.declared.netlist.Cell.{Cell}
use Rattle.cs_net.specs.Drivers.{DrivenSignal, Driver, input, cell_drives, class_drives, data_inputs, drivers, port_part, read_driver, read_drives}
use Rattle.cs_net.specs.Elements.{cell_elements, class_elements, elements_of, read_element}
use Rattle.cs_net.specs.Netlist.{Net}
use Rattle.cs_sim.specs.Layout.{cell_outputs, class_outputs, driven_signals}
use Rattle.cs_sim.proofs.Pieces.{Cells, Piece, class_pieces, class_writes, drives, inputs_of, inputs_piece, pieces, pieces_from, read_pieces}

chained : {A B : Type 0} (f : A → List B) (xs ys : List A) → flat_map f (xs ++ ys) ≡ flat_map f xs ++ flat_map f ys
chained f [] ys = refl
chained f (x ∷ xs) ys = ap (λ rest. f x ++ rest) (chained f xs ys) ∙ sym (append_assoc (f x) (flat_map f xs) (flat_map f ys))

mapped : {A B : Type 0} (f : A → B) (xs ys : List A) → map f (xs ++ ys) ≡ map f xs ++ map f ys
mapped f [] ys = refl
mapped f (x ∷ xs) ys = ap (λ rest. f x ∷ rest) (mapped f xs ys)

-- ---- drivers

drives_of_reads : (net : Net) (m : ℕ) (cell : Cell) (shape : MemShape) (reads : List (ℕ × ReadShape))
    → flat_map (read_drives cell shape) reads ≡ flat_map (drives net) (read_pieces m cell shape reads)
drives_of_reads net m cell shape [] = refl
drives_of_reads net m cell shape (e ∷ reads) = ap (λ rest. read_drives cell shape e ++ rest) (drives_of_reads net m cell shape reads)

drives_of_class : (net : Net) (m : ℕ) (k : Class) (cell : Cell) (shape : Option MemShape)
    → class_drives k cell shape ≡ flat_map (drives net) (class_pieces k m cell shape)
drives_of_class net m (class.Gate kind) cell shape = refl
drives_of_class net m (class.Register kind) cell shape = refl
drives_of_class net m class.Memory cell None = refl
drives_of_class net m class.Memory cell (Some shape) = drives_of_reads net m cell shape (enumerate_from 0 shape.reads)
drives_of_class net m class.Scope cell shape = refl
drives_of_class net m class.Asynchronous cell shape = refl
drives_of_class net m class.NotFine cell shape = refl
drives_of_class net m class.Unknown cell shape = refl

drives_of_cells : (net : Net) (m : ℕ) (cells : Cells) → flat_map cell_drives cells ≡ flat_map (drives net) (pieces_from net m cells)
drives_of_cells net m [] = refl
drives_of_cells net m (c ∷ cells) =
    let n = m + length (class_writes net c.0.class c.0 c.1) in
    ap₂ (λ xs ys. xs ++ ys) (drives_of_class net m c.0.class c.0 c.1) (drives_of_cells net n cells)
    ∙ sym (chained (drives net) (class_pieces c.0.class m c.0 c.1) (pieces_from net n cells))

pub drivers_by_pieces : (net : Net) → drivers net ≡ flat_map (drives net) (pieces net)
unfolding pieces
drivers_by_pieces net = ap (λ rest. drives net inputs_piece ++ rest) (drives_of_cells net 0 (zip net.cells net.shapes))

-- ---- the signals that are driven

-- the signals of drivers
abbrev pub signals_of : List DrivenSignal → List Signal
signals_of ds = map (λ d. d.0) ds

numbered_signals : (by : ℕ → Driver) (i : ℕ) (signals : List Signal)
    → signals ≡ signals_of (map (λ e. (e.1, by e.0)) (enumerate_from i signals))
numbered_signals by i [] = refl
numbered_signals by i (s ∷ signals) = ap (λ rest. s ∷ rest) (numbered_signals by (i + 1) signals)

outputs_of_reads : (cell : Cell) (shape : MemShape) (reads : List (ℕ × ReadShape))
    → flat_map (λ e. port_part cell (codes "RD_DATA") shape.width e.0) reads ≡ signals_of (flat_map (read_drives cell shape) reads)
outputs_of_reads cell shape [] = refl
outputs_of_reads cell shape (e ∷ reads) =
    ap₂ (λ xs ys. xs ++ ys) (numbered_signals (read_driver cell shape e.1 e.0) 0 (port_part cell (codes "RD_DATA") shape.width e.0)) (outputs_of_reads cell shape reads)
    ∙ sym (mapped (λ (d : DrivenSignal). d.0) (read_drives cell shape e) (flat_map (read_drives cell shape) reads))

outputs_of_class : (k : Class) (cell : Cell) (shape : Option MemShape) → class_outputs k cell shape ≡ signals_of (class_drives k cell shape)
outputs_of_class (class.Gate kind) cell shape = refl
outputs_of_class (class.Register kind) cell shape = refl
outputs_of_class class.Memory cell None = refl
outputs_of_class class.Memory cell (Some shape) = outputs_of_reads cell shape (enumerate_from 0 shape.reads)
outputs_of_class class.Scope cell shape = refl
outputs_of_class class.Asynchronous cell shape = refl
outputs_of_class class.NotFine cell shape = refl
outputs_of_class class.Unknown cell shape = refl

outputs_of_cells : (cells : Cells) → flat_map cell_outputs cells ≡ signals_of (flat_map cell_drives cells)
outputs_of_cells [] = refl
outputs_of_cells (c ∷ cells) =
    ap₂ (λ xs ys. xs ++ ys) (outputs_of_class c.0.class c.0 c.1) (outputs_of_cells cells)
    ∙ sym (mapped (λ (d : DrivenSignal). d.0) (cell_drives c) (flat_map cell_drives cells))

pub driven_by_pieces : (net : Net) → driven_signals net ≡ signals_of (flat_map (drives net) (pieces net))
driven_by_pieces net =
    ap₂ (λ xs ys. xs ++ ys) (numbered_signals (λ i. input i) 0 (data_inputs net)) (outputs_of_cells (zip net.cells net.shapes))
    ∙ sym (mapped (λ (d : DrivenSignal). d.0) (drives net inputs_piece) (flat_map cell_drives (zip net.cells net.shapes)))
    ∙ ap signals_of (drivers_by_pieces net)

-- ---- elements

-- the outputs and the inputs of elements and of pieces, in order
abbrev Wires : Type 0
Wires = List (List Signal × List Signal)

abbrev pub element_wires : Element → List Signal × List Signal
element_wires e = (e.outputs, e.inputs)

abbrev pub piece_wires : Net → Piece → List Signal × List Signal
piece_wires net p = (signals_of (drives net p), inputs_of p)

wires_of_reads : (net : Net) (i m : ℕ) (cell : Cell) (shape : MemShape) (reads : List (ℕ × ReadShape))
    → map element_wires (map (read_element i cell shape) reads) ≡ map (piece_wires net) (read_pieces m cell shape reads)
wires_of_reads net i m cell shape [] = refl
wires_of_reads net i m cell shape (e ∷ reads) =
    ap₂ (λ outputs rest. (outputs, if e.1.clocked then [] else port_part cell (codes "RD_ADDR") shape.abits e.0) ∷ rest)
    (numbered_signals (read_driver cell shape e.1 e.0) 0 (port_part cell (codes "RD_DATA") shape.width e.0))
    (wires_of_reads net i m cell shape reads)

wires_of_class : (net : Net) (i m : ℕ) (k : Class) (cell : Cell) (shape : Option MemShape)
    → map element_wires (class_elements k i cell shape) ≡ map (piece_wires net) (class_pieces k m cell shape)
wires_of_class net i m (class.Gate kind) cell shape = refl
wires_of_class net i m (class.Register kind) cell shape = refl
wires_of_class net i m class.Memory cell None = refl
wires_of_class net i m class.Memory cell (Some shape) = wires_of_reads net i m cell shape (enumerate_from 0 shape.reads)
wires_of_class net i m class.Scope cell shape = refl
wires_of_class net i m class.Asynchronous cell shape = refl
wires_of_class net i m class.NotFine cell shape = refl
wires_of_class net i m class.Unknown cell shape = refl

wires_of_cells : (net : Net) (i m : ℕ) (cells : Cells)
    → map element_wires (flat_map cell_elements (enumerate_from i cells)) ≡ map (piece_wires net) (pieces_from net m cells)
wires_of_cells net i m [] = refl
wires_of_cells net i m (c ∷ cells) =
    let n = m + length (class_writes net c.0.class c.0 c.1) in
    mapped element_wires (cell_elements (i, c)) (flat_map cell_elements (enumerate_from (i + 1) cells))
    ∙ ap₂ (λ xs ys. xs ++ ys) (wires_of_class net i m c.0.class c.0 c.1) (wires_of_cells net (i + 1) n cells)
    ∙ sym (mapped (piece_wires net) (class_pieces c.0.class m c.0 c.1) (pieces_from net n cells))

pub elements_by_pieces : (net : Net) → map element_wires (elements_of net) ≡ map (piece_wires net) (pieces net)
unfolding pieces
elements_by_pieces net =
    ap₂ (λ outputs rest. (outputs, []) ∷ rest) (numbered_signals (λ i. input i) 0 (data_inputs net))
    (wires_of_cells net 0 0 (zip net.cells net.shapes))
