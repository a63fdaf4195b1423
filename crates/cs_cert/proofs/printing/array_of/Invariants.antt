-- The values of a list.
use Rattle.std.proofs.Common.{◌≡◌, map, take}
use Rattle.std.specs.List.{AllByRecursion}
use Rattle.serde_json.specs.View.{view}
use Rattle.cs_cert.proofs.printing.array_of.Given as goal

-- the values of the items so far, whose numbers fit
abbrev pub invariant-loop-item : goal.invariant-loop-item
invariant-loop-item g l =
    (map view l.values.items ≡ map g.T.Printing.shown (take l.item-index l.items))
    × AllByRecursion g.T.Printing.fits (take l.item-index l.items)
