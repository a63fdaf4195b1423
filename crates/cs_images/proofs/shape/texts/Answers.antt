-- The items of a list are its elements.
use Rattle.std.proofs.Common.{map, sym, ap, ◌∙◌}
use Rattle.serde_json.specs.View.{view}
use Rattle.serde_json.proofs.Views.{view-Array}
use Rattle.cs_json.specs.Walk.{each_item}
use Rattle.cs_json.proofs.Giving.{gives_same}
use Rattle.cs_json.proofs.Views.{elements-items_view}
use Rattle.cs_images.specs.Shape.{image, texts}
use Rattle.cs_images.proofs.shape.texts.Goals as goal

pub returns-in-Array : goal.returns-in-Array
returns-in-Array c =
    gives_same c.each_image.result _ _
    (ap (λ v. texts (view v)) c.in-Array.is
    ∙ ap texts (view-Array c.in-Array.items)
    ∙ ap (each_item image 0)
    (elements-items_view c.in-Array.items.items ∙ ap (map view) (sym c.as_slice.ensures.value)))
    c.each_image.ensures
