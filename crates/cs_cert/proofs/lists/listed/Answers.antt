-- The items of a list are its elements.
use Rattle.std.proofs.Common.{map, sym, ap, ◌∙◌}
use Rattle.serde_json.specs.View.{view}
use Rattle.serde_json.proofs.Views.{view-Array}
use Rattle.cs_json.specs.Walk.{each_item}
use Rattle.cs_json.proofs.Giving.{gives_same}
use Rattle.cs_json.proofs.Views.{elements-items_view}
use Rattle.cs_cert.specs.PaperShape.{items}
use Rattle.cs_cert.proofs.lists.listed.Goals as goal

pub returns-in-Array : goal.returns-in-Array
returns-in-Array g c =
    let read_from = g.T.Readable.read_from in
    gives_same c.each.result _ _
    (ap (λ v. items read_from (view v)) c.in-Array.is
    ∙ ap (items read_from) (view-Array c.in-Array.items)
    ∙ ap (each_item read_from 0)
    (elements-items_view c.in-Array.items.items ∙ ap (map view) (sym c.as_slice.ensures.value)))
    c.each.ensures
