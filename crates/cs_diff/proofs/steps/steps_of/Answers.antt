-- From the root alone the steps show all labels.
use Rattle.std.proofs.Common.{◌≡◌, ℕ, ◌<◌, Bool, true, false, List, [], Some, set, replicate, ◌∙◌, Result, Ok, Err, rules}
use Rattle.std.specs.Prelude.{pos, neg_ℤ, OnOk, IfOk}
use Rattle.std.specs.Option.{option_map}
use Rattle.cs_diff.specs.declared.system.System.{System}
use Rattle.cs_diff.specs.declared.reading.Reading.TheVariants.{Lower}
use Rattle.cs_diff.specs.Floors.{Shows, root_alone}
use Rattle.cs_diff.specs.Labels.{Labels, at, AreReached}
use Rattle.cs_diff.specs.Steps.{known_of, NoStep, IsExtended, root_label}
use Rattle.cs_diff.proofs.StepLemmas.{known_all, shows_same, root_in, shows_root}
use Rattle.cs_diff.proofs.steps.steps_of.Goals as goal

shows_all : {E : Type 0} (s : System) (root : ℕ) (labels : Labels) (old reached : List Bool)
    (r : Result (List ℕ) E)
    → root < s.vertices → at labels root ≡ Some (pos 0)
    → AreReached Lower s.constraints (root_label s.vertices root) labels
    → old ≡ replicate s.vertices false
    → IfOk r (λ steps. IsExtended s labels (set old root true) [] reached steps)
    → OnOk r (NoStep s labels reached)
    → IfOk r (λ steps. Shows s (root_alone root) steps (λ v. option_map neg_ℤ (at labels v)))
shows_all s root labels old reached (Ok steps) within label from fresh extended done =
    let start = shows_root s.vertices root labels within label s in
    let shows = extended.shows (root_alone root) (rw fresh start) in
    let begins = extended.keeps root (rw fresh (root_in s.vertices root labels within label)) in
    shows_same s steps (root_alone root) (known_of labels reached)
    (λ v. option_map neg_ℤ (at labels v)) shows (known_all s labels root reached from begins
    done)
shows_all s root labels old reached (Err e) within label from fresh extended done = search rules

pub returns : goal.returns
returns c =
    shows_all c.args.sys.now c.args.root c.args.labels.now c.as_mut_slice.result.now
    c.steps_from.new.reached c.steps_from.result c.requires.within c.requires.root
    c.requires.reached
    (c.as_mut_slice.ensures.value ∙ c.in_ok-reached.ensures.items_if_clones_equal (λ y h. h))
    c.steps_from.ensures.extended c.steps_from.ensures.done
