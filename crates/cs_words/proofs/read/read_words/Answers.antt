use Rattle.std.proofs.Common.{◌≡◌, rules}
use Rattle.std.specs.Prelude.{Some}
use Rattle.cs_words.specs.Forms.{verb_of}
use Rattle.cs_words.proofs.ReadLemmas.{named_where_said}
use Rattle.cs_words.proofs.read.read_words.Goals as goal

pub returns-in-Some-clause-named : goal.returns-in-Some-clause-named
returns-in-Some-clause-named c =
    let is : verb_of c.as_str-in-Some.result.now ≡ Some c.in-Some.verb = search rules in
    named_where_said c.args.words.now c.name-item.result c.as_str-in-Some.result.now c.in-Some.verb
    c.read_form.result
    c.in-len1-up.len_at_least c.name-item.is c.as_str-in-Some.ensures.value is c.read_form.ensures.named
