use Rattle.std.proofs.Common.{ap, ◌∙◌, ◌++◌}
use Rattle.std.specs.Prelude.{flat_map}
use Rattle.std.specs.List.{enumerate_from, zip}
use Rattle.cs_net.specs.Elements.{cell_elements}
use Rattle.cs_net.proofs.ElementLists.{all_made, elements_of_parts, first_made}
use Rattle.cs_net.proofs.elements.elements.Goals as goal

pub returns : goal.returns
returns c = λ net ports clock cells shapes.
    let rest = flat_map cell_elements (enumerate_from 0 (zip c.args.cells.now c.args.shapes.now)) in
    all_made c.loop-place.place c.args.cells.now c.args.shapes.now c.loop-place.elements
    (c.push.new.self ++ rest)
    c.loop-place-test.false c.loop-place.invariant
    ∙ ap (λ made. made ++ rest)
    (first_made c.new-elements.result c.push.new.self c.from_vec.result c.new.result _
    c.new-elements.ensures
    (c.from_vec.ensures ∙ c.in_ok-data_inputs.ensures) c.new.ensures c.in_ok-push.ensures.ok)
    ∙ elements_of_parts net c.args.ports.now c.args.clock c.args.cells.now c.args.shapes.now
    ports clock cells shapes
