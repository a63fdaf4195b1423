-- Keeping the attributes or parameters among some members.
use Rattle.std.proofs.Common.{◌≡◌, Some, None, sym, ◌∙◌, map, rules}
use Rattle.std.specs.Prelude.{string_bytes}
use Rattle.std.proofs.lemmas.Map.Iter.{iter_end}
use Rattle.std.specs.Map.Iter.{deref_pair}
use Rattle.serde_json.specs.View.{view}
use Rattle.cs_json.specs.Shape.{datum_of}
use Rattle.cs_json.proofs.EntryLemmas.{kept_of, kept_more, kept_same, kept_all}
use Rattle.cs_json.proofs.entries.entries.Goals as goal

pub loop-name-preserved-in_ok-push-in-Some-2 : goal.loop-name-preserved-in_ok-push-in-Some-2
loop-name-preserved-in_ok-push-in-Some-2 c =
    let some : datum_of (view c.in-Some.value.now) ≡ Some c.in-Some-2.datum =
    sym c.in_ok-datum.ensures
    ∙ c.in-Some-2.is in
    let name : c.in_ok-from_str-in-Some-2.field-0 ≡ string_bytes c.in-Some.name.now =
    c.in_ok-from_str-in-Some-2.ensures
    ∙ c.as_str.ensures.value in
    let pushed = c.in_ok-push-in-Some-2.ensures.ok in
    let before : c.loop-name.found ≡ kept_of c.loop-name.yielded = c.loop-name.invariant in
    let more =
    kept_more c.loop-name.yielded (c.in-Some.name, c.in-Some.value) c.in-Some-2.datum some in
    cc

pub loop-name-preserved : goal.loop-name-preserved
loop-name-preserved c =
    let none : datum_of (view c.in-Some.value.now) ≡ None = sym c.in_ok-datum.ensures
    ∙ c.in-None-2.is in
    c.loop-name.invariant
    ∙ sym (kept_same c.loop-name.yielded (c.in-Some.name, c.in-Some.value) none)

pub returns : goal.returns
returns c =
    let all : map deref_pair c.loop-name.yielded ≡ c.args.map.now.entries =
    search (rules, iter_end) in
    c.loop-name.invariant ∙ kept_all c.loop-name.yielded c.args.map.now.entries all
