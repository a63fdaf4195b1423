-- Reading the delays of all types.
use Rattle.std.proofs.Common.{◌≡◌, [], ◌∷◌, ◌++◌, Ok, sym, ap, ap₂, ◌∙◌, string_bytes, List, ℕ}
use Rattle.std.specs.Map.Iter.{deref_pair}
use Rattle.std.proofs.lemmas.Map.Iter.{rest_more}
use Rattle.serde_json.specs.Data.{Data}
use Rattle.serde_json.specs.View.{view, members_view}
use Rattle.cs_json.specs.Walk.{Read, each_member, entries, under, to_key}
use Rattle.cs_json.proofs.Loops.{one_more_member, with_front}
use Rattle.cs_delay.specs.declared.entry.DelayEntry.{DelayEntry}
use Rattle.cs_delay.specs.Shape.{entry}
use Rattle.cs_delay.proofs.shape.listed.Goals as goal

pub loop-kind-preserved : goal.loop-kind-preserved
loop-kind-preserved c =
    let read_from : List ℕ → Data → Read DelayEntry = entry c.args.is_second in
    let kind = string_bytes c.in-Some.kind.now in
    let value = view c.in-Some.value.now in
    let left : c.loop-kind.kind-iterator ≡ (c.in-Some.kind.now, c.in-Some.value.now)
    ∷ c.next.new.self =
    rest_more deref_pair _ _ _ (c.in-Some.kind, c.in-Some.value)
    c.in-Some.is c.next.ensures.steps in
    let named : c.as_str.result.now ≡ kind = c.as_str.ensures.value in
    let key : c.as_str-in-loop-kind.result.now ≡ kind = c.as_str-in-loop-kind.ensures.value in
    let asked = read_from c.as_str.result.now value in
    let read : under (to_key kind) (read_from kind value) ≡ Ok c.in_ok-at_key.field-0 =
    ap₂ (λ k n. under (to_key k) (read_from n value)) (sym key) (sym named)
    ∙ c.in_ok-at_key.ensures asked c.entry-read.ensures in
    let pushed : c.push.new.self ≡ c.loop-kind.found ++ c.in_ok-at_key.field-0 ∷ [] =
    c.in_ok-push.ensures.ok in
    ap (λ front. with_front front (each_member read_from (entries (members_view c.next.new.self))))
    pushed
    ∙ one_more_member read_from c.loop-kind.found c.in_ok-at_key.field-0
    c.loop-kind.kind-iterator c.next.new.self
    (c.in-Some.kind.now, c.in-Some.value.now) left read
    ∙ c.loop-kind.invariant
