use Rattle.std.proofs.Common.{◌∙◌, ap, inl, inr, rules, subst, ◌≡◌, ◌≢◌, []}
use Rattle.clap.specs.Words.{App, app_of, fault_of, is_simple_and_free, kind_of, matches_of}
use Rattle.clap.specs.declared.error.kind.ErrorKind.TheVariants.{OutOfMemory}
use Rattle.cs_words.specs.Commands.{texts}
use Rattle.cs_words.proofs.ReadLemmas.{app_is_simple, form_is_simple, some_fault}
use Rattle.cs_words.proofs.TextLemmas.{named_texts}
use Rattle.cs_words.proofs.read.matched.Goals as goal

pub returns-in-Ok-clause-taken : goal.returns-in-Ok-clause-taken
returns-in-Ok-clause-taken c =
    let simple = ap is_simple_and_free c.in_ok-form.ensures ∙ form_is_simple c.args.verb in
    subst (λ (a : App). fault_of a (texts c.args.words.now) ≡ []) c.in_ok-form.ensures
    (c.in-Ok.ensures.kinds simple)

pub returns-in-Ok-clause-rows : goal.returns-in-Ok-clause-rows
returns-in-Ok-clause-rows c =
    let simple = ap is_simple_and_free c.in_ok-form.ensures ∙ form_is_simple c.args.verb in
    (c.in-Ok.ensures.matches (app_is_simple (app_of c.in_ok-form.form) simple)).0
    ∙ ap (λ (a : App). matches_of a (texts c.args.words.now)) c.in_ok-form.ensures

pub returns-in-Ok-clause-named : goal.returns-in-Ok-clause-named
returns-in-Ok-clause-named c = named_texts c.args.verb c.in_ok-form.form c.in-Ok.matches
    c.in_ok-form.ensures c.in-Ok.ensures.parsed

pub returns-clause-err : goal.returns-clause-err
returns-clause-err c =
    let simple = ap is_simple_and_free c.in_ok-form.ensures ∙ form_is_simple c.args.verb in
    let other : kind_of c.in-Err-2.field-0 ≢ OutOfMemory = search rules in
    let fault = some_fault (fault_of (app_of c.in_ok-form.form) (texts c.args.words.now)) c.in-Err-2.field-0
    (c.in-Err-2.ensures.kinds simple) other in
    elim c.bad_words.ensures [
      | inl memory ↦ inl memory
      | inr bad ↦ inr (
        bad,
        subst (λ (a : App). fault_of a (texts c.args.words.now) ≢ [])
            c.in_ok-form.ensures fault,
      )
    ]
