use Rattle.std.proofs.Common.{subst}
use Rattle.cs_words.specs.Commands.{HasTexts, texts}
use Rattle.cs_words.specs.Forms.{form_of}
use Rattle.cs_words.proofs.ReadLemmas.{always, said_where_refused, said_where_taken}
use Rattle.cs_words.proofs.read.read_form.Goals as goal

pub returns-in_err-matches-clause-said : goal.returns-in_err-matches-clause-said
returns-in_err-matches-clause-said c =
    said_where_refused c.args.verb c.args.name.now
    (texts c.args.words.now) c.in_err-matches.field-0.0 c.from_residual.result
    c.from_residual.ensures.1 c.in_err-matches.ensures.err

pub returns-clause-said : goal.returns-clause-said
returns-clause-said c =
    said_where_taken c.args.verb c.args.name.now (texts c.args.words.now) _ c.said_of.result
    c.in_ok-matches.ensures.taken c.in_ok-matches.ensures.rows c.said_of.ensures.said

pub returns-clause-named : goal.returns-clause-named
returns-clause-named c =
    always c.said_of.result (subst (λ rows. HasTexts (form_of c.args.verb).top.rules rows)
    c.in_ok-matches.ensures.rows c.in_ok-matches.ensures.named)
