-- Reading the images under all names.
use Rattle.std.proofs.Common.{◌≡◌, [], ◌∷◌, ◌++◌, Ok, sym, ap, ap₂, ◌∙◌, string_bytes}
use Rattle.std.specs.Map.Iter.{deref_pair}
use Rattle.std.proofs.lemmas.Map.Iter.{rest_more}
use Rattle.serde_json.specs.View.{view, members_view}
use Rattle.cs_json.specs.Walk.{each_member, entries, under, to_key}
use Rattle.cs_json.proofs.Loops.{one_more_member, with_front}
use Rattle.cs_images.specs.Shape.{named}
use Rattle.cs_images.proofs.shape.each_named.Goals as goal

pub loop-name-preserved : goal.loop-name-preserved
loop-name-preserved c =
    let name = string_bytes c.in-Some.name.now in
    let value = view c.in-Some.value.now in
    let left : c.loop-name.name-iterator ≡ (c.in-Some.name.now, c.in-Some.value.now)
    ∷ c.next.new.self =
    rest_more deref_pair _ _ _ (c.in-Some.name, c.in-Some.value)
    c.in-Some.is c.next.ensures.steps in
    let key : c.as_str.result.now ≡ name = c.as_str.ensures.value in
    let given : c.as_str-in-loop-name.result.now ≡ name = c.as_str-in-loop-name.ensures.value in
    let asked = named c.as_str-in-loop-name.result.now value in
    let read : under (to_key name) (named name value) ≡ Ok c.in_ok-at_key.field-0 =
    ap₂ (λ k n. under (to_key k) (named n value)) (sym key) (sym given)
    ∙ c.in_ok-at_key.ensures asked c.named.ensures in
    let pushed : c.push.new.self ≡ c.loop-name.found ++ c.in_ok-at_key.field-0 ∷ [] =
    c.in_ok-push.ensures.ok in
    ap (λ front. with_front front (each_member named (entries (members_view c.next.new.self))))
    pushed
    ∙ one_more_member named c.loop-name.found c.in_ok-at_key.field-0
    c.loop-name.name-iterator c.next.new.self
    (c.in-Some.name.now, c.in-Some.value.now) left read
    ∙ c.loop-name.invariant
