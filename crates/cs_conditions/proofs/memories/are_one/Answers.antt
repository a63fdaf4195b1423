use Rattle.std.proofs.Common.{◌∙◌, ◌&&◌, ap, length, sym, take}
use Rattle.std.specs.Prelude.{◌==◌}
use Rattle.std.specs.List.{list_all}
use Rattle.std.proofs.lemmas.Bool.{le-leb, lt-leb}
use Rattle.cs_conditions.proofs.MemoryRules.{ones}
use Rattle.cs_conditions.proofs.memories.are_one.Goals as goal

pub returns-then-count-digits : goal.returns-then-count-digits
returns-then-count-digits c =
    let digits = c.args.digits.now in
    let count = c.args.count in
    c.all_one.ensures
    ∙ ap (list_all (λ d. d == 49)) c.first_digits.ensures
    ∙ ap (λ t. t && list_all (λ d. d == 49) (take count digits)) (sym (le-leb count (length digits) c.if-count-digits.true))
    ∙ ones digits count

pub returns-else-count-digits : goal.returns-else-count-digits
returns-else-count-digits c =
    let digits = c.args.digits.now in
    let count = c.args.count in
    let less = lt-leb count (length digits) c.if-count-digits.false in
    less ∙ ap (λ t. t && list_all (λ d. d == 49) (take count digits)) (sym less) ∙ ones digits count
