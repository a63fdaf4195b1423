use Rattle.std.proofs.Common.{◌≡◌, drop, fold, map}
use Rattle.clap.specs.Words.{app_of, with_rule}
use Rattle.cs_words.specs.Forms.{form, named}
use Rattle.cs_words.proofs.forms.named_form.Given as goal

-- the places that are left make the whole form of the one so far
abbrev pub invariant-loop-place : goal.invariant-loop-place
invariant-loop-place l =
    fold with_rule (app_of l.form) (map (λ place. named place.now) (drop l.place-index l.places))
    ≡ form l.name (map (λ place. named place.now) l.places)
