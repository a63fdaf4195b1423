-- The pins of a netlist's cells are as wide as their types have them: a memory's by its shape.
use Rattle.std.proofs.Common.{◌≡◌, ◌∙◌, ℕ, zero, suc, ◌+◌, List, [], ◌∷◌, true, false, codes, cond, Option, Some, ap, ap₂, find, length, map, option_map, refl, subst, sym}
use Rattle.std.specs.Prelude.{bytes_eq, slice_get}
use Rattle.std.specs.List.{AllByRecursion, list_all}
use Rattle.std.proofs.lemmas.Slice.Eq.{bytes_eq-Decides}
use Rattle.cs_cells.specs.declared.class.Class.{Class}
use Rattle.cs_cells.specs.declared.class.Class.TheVariants.{Gate, Register, Memory, Scope, Asynchronous, NotFine, Unknown}
use Rattle.cs_cells.specs.declared.memory.MemShape.{MemShape}
use Rattle.cs_json.specs.declared.document.CellDecl.{CellDecl}
use Rattle.cs_json.specs.declared.document.PinDecl.{PinDecl}
use Rattle.cs_net.specs.declared.netlist.Cell.{Cell}
use Rattle.cs_modules.specs.Memories.{read_shape, shape_by, shape_of}
use Rattle.cs_net.specs.Build.{cell_of, net_of}
use Rattle.cs_modules.specs.Modules.{cells_of}
use Rattle.cs_modules.specs.Pins.{has_right_pins, Widths, class_at, count_from, has_pin, has_pins, has_sizes, is_pin_of, memory_widths, number_at, width_at, widths_of}
use Rattle.cs_net.specs.Drivers.{bits_of}
use Rattle.cs_net.specs.Invariant.{IsWellFormed}
use Rattle.cs_net.specs.Netlist.{Net}
use Rattle.cs_net.specs.Widths.{widths_by}
use Rattle.cs_modules.proofs.GatePins.{all_pass, both}
use Rattle.cs_net.proofs.Members.{of_all}
use Rattle.cs_net.proofs.MemoryPlaces.{at_map, map_at}
use Rattle.cs_net.proofs.PinLemmas.{pin_width, right_pins, same_bits}

-- a pin of a type is there where all are
pin_there : (pins : List PinDecl) (widths : Widths) (name : List ℕ) (n : ℕ) → AllByRecursion (λ w. has_pin pins w.0 ≡ true) widths → width_at widths name ≡ Some n →
    has_pin pins name ≡ true
pin_there pins [] name n all is = absurd (cc)
pin_there pins (w ∷ widths) name n all is =
    elim (bytes_eq w.0 name) as (λ t. bytes_eq w.0 name ≡ t → option_map (λ (v : List ℕ × ℕ). v.1) (cond t (Some w) (find (λ v. bytes_eq v.0 name) widths)) ≡ Some n → has_pin pins name ≡ true) [
      | true ↦ λ same h. subst (λ x. has_pin pins x ≡ true) ((bytes_eq-Decides w.0 name).0 same) all.0
      | false ↦ λ other h. pin_there pins widths name n all.1 h
    ] refl is

-- as many as are counted
pub length-count_from : (from count : ℕ) → length (count_from from count) ≡ count
length-count_from from zero = refl
length-count_from from (suc count) = ap suc (length-count_from (from + 1) count)

pub length-map-count : {A : Type 0} (f : ℕ → A) (xs : List ℕ) → length (map f xs) ≡ length xs
length-map-count f [] = refl
length-map-count f (x ∷ xs) = ap suc (length-map-count f xs)

-- the widths by the shape are those by the parameters
same_widths : (d : CellDecl) (k : Class) → widths_by k (shape_by k d) ≡ widths_of k d
same_widths d (Gate kind) = refl
same_widths d (Register kind) = refl
same_widths d Memory =
    ap (λ reads. memory_widths reads (number_at d (codes "WR_PORTS")) (number_at d (codes "ABITS")) (number_at d (codes "WIDTH")))
    (length-map-count (read_shape d (number_at d (codes "WIDTH"))) (count_from 0 (number_at d (codes "RD_PORTS"))) ∙ length-count_from 0 (number_at d (codes "RD_PORTS")))
same_widths d Scope = refl
same_widths d Asynchronous = refl
same_widths d NotFine = refl
same_widths d Unknown = refl

pub wide_decl : (d : CellDecl) → has_right_pins d ≡ true → (name : List ℕ) (n : ℕ) → width_at (widths_by (class_at d) (shape_of d)) name ≡ Some n → length (bits_of (cell_of d) name) ≡ n
wide_decl d right name n is =
    let widths = widths_of (class_at d) d in
    let parts = both (list_all (is_pin_of widths) d.pins) (list_all (λ w. has_pin d.pins w.0) widths) (both (has_sizes (class_at d) d) (has_pins widths d.pins) right).1 in
    let there = all_pass (λ (w : List ℕ × ℕ). has_pin d.pins w.0) widths parts.1 in
    let is_width : width_at widths name ≡ Some n = sym (ap (λ ws. width_at ws name) (same_widths d (class_at d))) ∙ is in
    ap length (same_bits d name) ∙ pin_width widths d.pins name n (all_pass (is_pin_of widths) d.pins parts.0) is_width (pin_there d.pins widths name n there is_width)

-- a pin of a cell has the width that the cell's class and shape give it
pub pin_is_wide : (net : Net) → IsWellFormed net → (i : ℕ) (cell : Cell) (shape : Option MemShape) → slice_get net.cells i ≡ Some cell → slice_get net.shapes i ≡ Some shape →
    (name : List ℕ) (n : ℕ) → width_at (widths_by cell.class shape) name ≡ Some n → length (bits_of cell name) ≡ n
unfolding net_of
pin_is_wide net w i cell shape at is name n wide =
    let ds = cells_of w.«module» in
    let cells : net.cells ≡ map cell_of ds = ap (λ (x : Net). x.cells) w.is in
    let shapes : net.shapes ≡ map shape_of ds = ap (λ (x : Net). x.shapes) w.is in
    let found = map_at cell_of ds i cell (sym (ap (λ xs. slice_get xs i) cells) ∙ at) in
    let d = found.0 in
    let same : Some (shape_of d) ≡ Some shape = sym (at_map shape_of ds i d found.1) ∙ sym (ap (λ xs. slice_get xs i) shapes) ∙ is in
    let shape_is : shape_of d ≡ shape = cc in
    let right = of_all (λ e. has_right_pins e ≡ true) ds i d (right_pins w.«module» w.early) found.1 in
    let wide_here : width_at (widths_by (class_at d) (shape_of d)) name ≡ Some n =
    ap₂ (λ (c : Cell) s. width_at (widths_by c.class s) name) found.2 shape_is ∙ wide in
    ap (λ (c : Cell). length (bits_of c name)) (sym found.2) ∙ wide_decl d right name n wide_here
