-- From a loop of elements to a loop of cells: a cell that a walk comes to twice is passed once.
use Rattle.std.specs.Prelude.{◌≡◌, ℕ, suc, ◌⊎◌, ◌+◌, ◌≤◌, ◌<◌, ◌==◌, List, [], ◌∷◌, length, if◌then◌else◌, Option, Some, None, option_map, unwrap_or, slice_get}
use Rattle.std.specs.Option.{option_or}
use Rattle.cs_order.specs.Graphs.{HasNoRepeat}
use Rattle.cs_net.specs.declared.elements.Element.{Element}
use Rattle.cs_net.specs.declared.netlist.Cell.{Cell}
use Rattle.cs_net.specs.Elements.{elements_of}
use Rattle.cs_net.specs.Netlist.{Net}

-- these are the elements and the cells of a netlist
pub record AreOf (net : Net) (elements : List Element) (cells : List Cell) : Type 0 where
  pub elements_are : elements ≡ elements_of net
  pub cells_are : cells ≡ net.cells

-- the place of the cell of an element, 0 where there is no such element
abbrev pub place_of_cell : List Element → ℕ → ℕ
place_of_cell elements v = unwrap_or (option_map (λ e. e.cell) (slice_get elements v)) 0

-- the name of the cell at a place
abbrev pub name_at : List Cell → ℕ → List ℕ
name_at cells i = unwrap_or (option_map (λ c. c.name) (slice_get cells i)) []

-- no number of the list is less than the one at this place
pub record IsLeastAt (numbers : List ℕ) (place : ℕ) : Type 0 where
  pub within : place < length numbers
  pub least : (i x y : ℕ) → slice_get numbers place ≡ Some x → slice_get numbers i ≡ Some y → x ≤ y

-- the last place of a number, in a list whose places begin at i
abbrev pub last_place_from : ℕ → ℕ → List ℕ → Option ℕ
last_place_from x i [] = None
last_place_from x i (y ∷ ys) = option_or (last_place_from x (i + 1) ys) (if y == x then Some i else None)

-- the last place of a number
abbrev pub last_place : ℕ → List ℕ → Option ℕ
last_place x xs = last_place_from x 0 xs

-- y stands right behind x
abbrev pub AreNext : List ℕ → ℕ → ℕ → Type 0
AreNext walk x y = (i : ℕ) × (slice_get walk i ≡ Some x) × (slice_get walk (suc i) ≡ Some y)

-- x stands at the end
abbrev pub IsAtEnd : List ℕ → ℕ → Type 0
IsAtEnd walk x = (i : ℕ) × (slice_get walk i ≡ Some x) × (length walk ≡ suc i)

-- a shortcut of a walk begins and ends as the walk does, goes on as it does, and comes nowhere twice
pub record IsShortcut (walk short : List ℕ) : Type 0 where
  pub start : slice_get short 0 ≡ slice_get walk 0
  pub next : (x y : ℕ) → AreNext short x y → AreNext walk x y
  pub end : (x : ℕ) → IsAtEnd short x → IsAtEnd walk x
  pub once : HasNoRepeat short

-- a shortcut as far as to the place before `next`, where it goes on
pub record IsShortcutTo (walk short : List ℕ) (next : ℕ) : Type 0 where
  pub start : ((short ≡ []) × (next ≡ 0)) ⊎ (slice_get short 0 ≡ slice_get walk 0)
  pub steps : (x y : ℕ) → AreNext short x y → AreNext walk x y
  pub end : (x : ℕ) → IsAtEnd short x → (i : ℕ) × (slice_get walk i ≡ Some x) × (next ≡ suc i)
  pub once : HasNoRepeat short
  pub passed : (i j x : ℕ) → slice_get short i ≡ Some x → slice_get walk j ≡ Some x → j < next
