-- The walk through the cells of a loop of elements: the cell of an element is fed by the cells of those that
-- it depends on.
use Rattle.std.proofs.Common.{◌≡◌, ℕ, zero, suc, ◌<◌, List, [], ◌∷◌, length, map, true, Some, refl, sym, ap, ap₂, subst, ◌∙◌, arith}
use Rattle.std.specs.Prelude.{option_map, slice_get, unwrap_or}
use Rattle.std.specs.List.{list_any}
use Rattle.std.proofs.lemmas.Bool.{eqb-true}
use Rattle.std.proofs.lemmas.List.{length-map}
use Rattle.std.proofs.lemmas.Option.{slice_get_within}
use Rattle.cs_base.specs.declared.signal.Signal.{Signal}
use Rattle.cs_base.specs.declared.signal.Signal.TheVariants.{Zero, One, Unknown, HighZ, Bit}
use Rattle.cs_json.specs.Readable.{AreInOrder}
use Rattle.cs_order.specs.Graphs.{DependsOn, IsLoop as IsLoopOfVertices}
use Rattle.cs_order.proofs.CallerLemmas.{loop_last, loop_next}
use Rattle.cs_base.proofs.ListLemmas.{same_element}
use Rattle.cs_net.specs.declared.elements.Element.{Element}
use Rattle.cs_net.specs.declared.netlist.Cell.{Cell}
use Rattle.cs_net.specs.Accept.{combinational_outputs, drives_one_of, feeds}
use Rattle.cs_modules.specs.Signals.{is_bit_of, holds_bit, is_bit}
use Rattle.cs_net.specs.Drivers.{DrivenSignal, fanin}
use Rattle.cs_net.specs.Elements.{elements_of, graph_of}
use Rattle.cs_net.specs.Loops.{AreNext, IsAtEnd, name_at, place_of_cell}
use Rattle.cs_net.specs.Netlist.{Net}
use Rattle.cs_net.proofs.CellNames.{zip_first}
use Rattle.cs_net.proofs.ElementDrivers.{HasDriver, cell_of_element, driven_by_name}
use Rattle.cs_net.proofs.LoopBits.{IsLinked, LoopBits, depends_by_bit}
use Rattle.cs_net.proofs.Members.{Has, any_of, has_of_map}

-- the names of the cells of a netlist are in order
abbrev pub HasNamesInOrder : Net → Type 0
HasNamesInOrder net = AreInOrder (λ (c : Cell). c.name) net.cells

-- the place of the cell of an element of a netlist, and its name
abbrev pub cell_of : Net → ℕ → ℕ
cell_of net x = place_of_cell (elements_of net) x

abbrev pub name_of : Net → ℕ → List ℕ
name_of net p = name_at net.cells p

-- ---- one element of a loop

place_is : (net : Net) (x : ℕ) (e : Element) → slice_get (elements_of net) x ≡ Some e → cell_of net x ≡ e.cell
place_is net x e stands = ap (λ found. unwrap_or (option_map (λ (e : Element). e.cell) found) 0) stands

-- its cell drives each of its outputs
linked_driver : (net : Net) (bits : List ℕ) (x b : ℕ) → HasNamesInOrder net → (h : IsLinked net bits x)
    → holds_bit b h.element.outputs ≡ true
    → HasDriver (combinational_outputs net (name_of net (cell_of net x))) b h.element.inputs
linked_driver net bits x b order h drives =
    let P : ℕ → Type 0 = λ p. HasDriver (combinational_outputs net (name_of net p)) b h.element.inputs in
    subst P (sym (place_is net x h.element h.stands))
    (driven_by_name net h.element h.read_bit b order (x, h.stands) h.reads drives)

-- its cell is one of the netlist's
linked_within : (net : Net) (bits : List ℕ) (x : ℕ) → IsLinked net bits x → cell_of net x < length net.cells
linked_within net bits x h =
    let cell = cell_of_element net h.element h.read_bit h.driven_bit (x, h.stands) h.reads h.drives in
    let stands = zip_first net.cells net.shapes h.element.cell cell.cell cell.stands in
    let below = slice_get_within net.cells h.element.cell cell.cell.0 stands in
    omega (arith, below, place_is net x h.element h.stands)

-- its cell drives one of the loop's bits
linked_drives : (net : Net) (bits : List ℕ) (x : ℕ) → HasNamesInOrder net → IsLinked net bits x
    → drives_one_of net bits (name_of net (cell_of net x)) ≡ true
linked_drives net bits x order h =
    let d = linked_driver net bits x h.driven_bit order h h.drives in
    any_of (λ (d : DrivenSignal). list_any (λ b. is_bit b d.0) bits)
    (combinational_outputs net (name_of net (cell_of net x))) d.driven d.has
    (any_of (λ b. is_bit b d.driven.0) bits h.driven_bit h.has d.drives)

held_bit : (b : ℕ) (s : Signal) (signals : List Signal) → is_bit b s ≡ true → holds_bit b signals ≡ true
    → is_bit_of signals s ≡ true
held_bit b Zero signals is holds = cc
held_bit b One signals is holds = cc
held_bit b Unknown signals is holds = cc
held_bit b HighZ signals is holds = cc
held_bit b (Bit a) signals is holds = ap (λ b. holds_bit b signals) (eqb-true a b is) ∙ holds

-- the cell of what it depends on feeds its cell
linked_feeds : (net : Net) (bits : List ℕ) (x y : ℕ) → HasNamesInOrder net → IsLinked net bits x
    → IsLinked net bits y
    → DependsOn (graph_of (elements_of net)) x y
    → feeds net (name_of net (cell_of net y)) (name_of net (cell_of net x)) ≡ true
linked_feeds net bits x y order of_x of_y depends =
    let bit = depends_by_bit (elements_of net) x y depends in
    let same_y = same_element (elements_of net) y bit.2.element of_y.element bit.2.stands of_y.stands in
    let same_x = same_element (elements_of net) x bit.1.element of_x.element bit.1.stands of_x.stands in
    let drives : holds_bit bit.0 of_y.element.outputs ≡ true =
    ap (λ (e : Element). holds_bit bit.0 e.outputs) (sym same_y) ∙ bit.2.drives in
    let reads : holds_bit bit.0 of_x.element.inputs ≡ true =
    ap (λ (e : Element). holds_bit bit.0 e.inputs) (sym same_x) ∙ bit.1.reads in
    let from = linked_driver net bits y bit.0 order of_y drives in
    let to = linked_driver net bits x of_x.driven_bit order of_x of_x.drives in
    let held : holds_bit bit.0 (fanin to.driven.1) ≡ true = ap (holds_bit bit.0) to.depends ∙ reads in
    any_of
    (λ (e : DrivenSignal). list_any (λ (d : DrivenSignal). is_bit_of (fanin e.1) d.0)
    (combinational_outputs net (name_of net (cell_of net y))))
    (combinational_outputs net (name_of net (cell_of net x))) to.driven to.has
    (any_of (λ (d : DrivenSignal). is_bit_of (fanin to.driven.1) d.0)
    (combinational_outputs net (name_of net (cell_of net y))) from.driven from.has
    (held_bit bit.0 from.driven.0 (fanin to.driven.1) from.drives held))

-- ---- the walk through the cells of a loop

-- a walk of cells each of which is fed by the next, and the last by the first
pub record IsFedWalk (net : Net) (bits : List ℕ) (walk : List ℕ) : Type 0 where
  pub within : (p : ℕ) → Has walk p → p < length net.cells
  pub drives : (p : ℕ) → Has walk p → drives_one_of net bits (name_of net p) ≡ true
  pub next : (p q : ℕ) → AreNext walk p q → feeds net (name_of net q) (name_of net p) ≡ true
  pub closed : (p q : ℕ) → slice_get walk 0 ≡ Some p → IsAtEnd walk q
      → feeds net (name_of net p) (name_of net q) ≡ true

pub at_mapped : (f : ℕ → ℕ) (xs : List ℕ) (i p : ℕ) → slice_get (map f xs) i ≡ Some p
    → (x : ℕ) × (slice_get xs i ≡ Some x) × (p ≡ f x)
at_mapped f [] i p stands = cc
at_mapped f (x ∷ xs) zero p stands = (x, refl, cc)
at_mapped f (x ∷ xs) (suc i) p stands = at_mapped f xs i p stands

-- so goes a loop of elements
pub fed_walk : (net : Net) (vs : List ℕ) → HasNamesInOrder net
    → (closed : IsLoopOfVertices (graph_of (elements_of net)) vs)
    → (h : LoopBits net vs) → IsFedWalk net h.bits (map (cell_of net) vs)
fed_walk net [] order closed h = absurd closed
fed_walk net (v ∷ vs) order closed h = record {
  within = λ p has.
      let x = has_of_map (cell_of net) (v ∷ vs) p has in
      omega (arith, x.2, linked_within net h.bits x.0 (h.linked x.0 x.1));
  drives = λ p has.
      let x = has_of_map (cell_of net) (v ∷ vs) p has in
      ap (λ p. drives_one_of net h.bits (name_of net p)) x.2
      ∙ linked_drives net h.bits x.0 order (h.linked x.0 x.1);
  next = λ p q there. next p q there;
  closed = λ p q first at_end. ends p q first at_end;
}
  where
    feeds_mapped : (x y p q : ℕ) → Has (v ∷ vs) x → Has (v ∷ vs) y → p ≡ cell_of net x → q ≡ cell_of net y
        → DependsOn (graph_of (elements_of net)) x y → feeds net (name_of net q) (name_of net p) ≡ true
    feeds_mapped x y p q has_x has_y is_p is_q depends =
        ap₂ (λ p q. feeds net (name_of net q) (name_of net p)) is_p is_q
        ∙ linked_feeds net h.bits x y order (h.linked x has_x) (h.linked y has_y) depends

    next : (p q : ℕ) → AreNext (map (cell_of net) (v ∷ vs)) p q
        → feeds net (name_of net q) (name_of net p) ≡ true
    next p q (i, first, second) =
        let x = at_mapped (cell_of net) (v ∷ vs) i p first in
        let y = at_mapped (cell_of net) (v ∷ vs) (suc i) q second in
        feeds_mapped x.0 y.0 p q (i, x.1) (suc i, y.1) x.2 y.2
        (loop_next (graph_of (elements_of net)) (v ∷ vs) closed i x.0 y.0 x.1 y.1)

    ends : (p q : ℕ) → slice_get (map (cell_of net) (v ∷ vs)) 0 ≡ Some p
        → IsAtEnd (map (cell_of net) (v ∷ vs)) q
        → feeds net (name_of net p) (name_of net q) ≡ true
    ends p q first (i, last, long) =
        let x = at_mapped (cell_of net) (v ∷ vs) i q last in
        let same : i ≡ length vs = omega (arith, long, length-map vs (cell_of net)) in
        let at_last : slice_get (v ∷ vs) (length vs) ≡ Some x.0 = ap (slice_get (v ∷ vs)) (sym same) ∙ x.1 in
        let is_first : p ≡ cell_of net v = cc in
        feeds_mapped x.0 v q p (i, x.1) (zero, refl) x.2 is_first
        (loop_last (graph_of (elements_of net)) v vs closed x.0 at_last)
