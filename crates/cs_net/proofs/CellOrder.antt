-- The cells of a netlist are in order of their names, as those of its module are.
use Rattle.std.proofs.Common.{List, [], ◌∷◌, ℕ, map, Bool, true, false, not}
use Rattle.std.specs.Prelude.{IsTrue, if◌then◌else◌}
use Rattle.std.specs.List.{AllByRecursion}
use Rattle.cs_json.specs.declared.document.CellDecl.{CellDecl}
use Rattle.cs_json.specs.declared.document.Module.{Module}
use Rattle.cs_json.specs.Readable.{AreInOrder, is_below}
use Rattle.cs_net.specs.declared.netlist.Cell.{Cell}
use Rattle.cs_net.specs.Build.{cell_of, net_of}
use Rattle.cs_modules.specs.Modules.{cells_in, is_scope}
use Rattle.cs_modules.specs.Pins.{class_at}

-- what is below all of the cells is below those that are kept
kept_above : (name : List ℕ) (cells : List CellDecl)
    → AllByRecursion (λ (d : CellDecl). IsTrue (is_below name d.name)) cells
    → AllByRecursion (λ (c : Cell). IsTrue (is_below name c.name)) (map cell_of (cells_in cells))
kept_above name [] above = tt
kept_above name (d ∷ cells) (first, rest) = here (not (is_scope (class_at d))) (kept_above name cells rest)
  where
    here : (t : Bool)
        → AllByRecursion (λ (c : Cell). IsTrue (is_below name c.name)) (map cell_of (cells_in cells))
        → AllByRecursion (λ (c : Cell). IsTrue (is_below name c.name))
        (map cell_of (if t then d ∷ cells_in cells else cells_in cells))
    here true h = (first, h)
    here false h = h

kept_in_order : (cells : List CellDecl) → AreInOrder (λ (d : CellDecl). d.name) cells
    → AreInOrder (λ (c : Cell). c.name) (map cell_of (cells_in cells))
kept_in_order [] order = tt
kept_in_order (d ∷ cells) (first, rest) =
    here (not (is_scope (class_at d))) (kept_above d.name cells first) (kept_in_order cells rest)
  where
    here : (t : Bool)
        → AllByRecursion (λ (c : Cell). IsTrue (is_below d.name c.name)) (map cell_of (cells_in cells))
        → AreInOrder (λ (c : Cell). c.name) (map cell_of (cells_in cells))
        → AreInOrder (λ (c : Cell). c.name) (map cell_of (if t then d ∷ cells_in cells else cells_in cells))
    here true above order = (above, order)
    here false above order = order

pub cells_in_order : (m : Module) → AreInOrder (λ (d : CellDecl). d.name) m.cells
    → AreInOrder (λ (c : Cell). c.name) (net_of m).cells
unfolding net_of
cells_in_order m order = kept_in_order m.cells order
