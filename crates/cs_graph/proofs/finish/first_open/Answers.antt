-- Vertex by vertex.
use Rattle.std.proofs.Common.{Option, List, length, is_none, refl, sym, ap, ◌∙◌, arith}
use Rattle.std.specs.List.{position_from}
use Rattle.std.proofs.lemmas.Option.{slice_get_read}
use Rattle.cs_graph.specs.declared.source.Source.{Source}
use Rattle.cs_graph.specs.declared.source.OpenVertex.{OpenVertex}
use Rattle.cs_graph.proofs.OpenLemmas.{open_first, fed_next, fed_all, pin_within}
use Rattle.cs_graph.proofs.finish.first_open.Goals as goal

pub loop-v-preserved : goal.loop-v-preserved
loop-v-preserved c =
    let xs = c.args.vertices.now in
    let x = c.index-vertices-v.result in
    let found = slice_get_read xs (length xs) c.loop-v.v x refl c.loop-v-test.true c.index-vertices-v.is in
    let none = sym (c.in_default.ensures ∙ ap (λ (ss : List (Option Source)). position_from is_none 0 ss)
    (c.as_slice.ensures ∙ ap (λ (y : OpenVertex). y.pins) (sym c.index-vertices-v.is))) in
    fed_next xs c.loop-v.v x c.loop-v.invariant found none

pub returns-in-Some-clause-some : goal.returns-in-Some-clause-some
returns-in-Some-clause-some c =
    let xs = c.args.vertices.now in
    let x = c.index-vertices-v.result in
    let found = slice_get_read xs (length xs) c.loop-v.v x refl c.loop-v-test.true c.index-vertices-v.is in
    let some = sym (c.in-Some.ensures ∙ ap (λ (ss : List (Option Source)). position_from is_none 0 ss)
    (c.as_slice.ensures ∙ ap (λ (y : OpenVertex). y.pins) (sym c.index-vertices-v.is))) in
    rw c.new.ensures (open_first xs c.loop-v.v c.in-Some.pin x c.loop-v.invariant found some)

pub returns-clause-none : goal.returns-clause-none
returns-clause-none c = fed_all c.args.vertices.now c.loop-v.v c.loop-v-test.false c.loop-v.invariant

pub overflow_cast-result : goal.overflow_cast-result
overflow_cast-result c =
    let xs = c.args.vertices.now in
    let x = c.index-vertices-v.result in
    let found = slice_get_read xs (length xs) c.loop-v.v x refl c.loop-v-test.true c.index-vertices-v.is in
    let some = sym (c.in-Some.ensures ∙ ap (λ (ss : List (Option Source)). position_from is_none 0 ss)
    (c.as_slice.ensures ∙ ap (λ (y : OpenVertex). y.pins) (sym c.index-vertices-v.is))) in
    let within = pin_within x.pins c.in-Some.pin some in
    let few = c.requires.pins c.loop-v.v x found in
    omega (arith, within, few)
