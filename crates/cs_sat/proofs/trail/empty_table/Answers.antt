-- One variable more.
use Rattle.std.proofs.Common.{◌≡◌, ◌++◌, [], ◌∷◌, None, length, get_or, arith, ap, ◌∙◌}
use Rattle.std.proofs.lemmas.List.{length-append}
use Rattle.cs_sat.proofs.Trails.{none_more}
use Rattle.cs_sat.proofs.trail.empty_table.Goals as goal

pub loop-preserved : goal.loop-preserved
loop-preserved c =
    let pushed : c.push.new.self.items ≡ c.loop.table.items ++ None ∷ [] = c.in_ok-push.ensures.items in
    record {
      size = omega (arith, ap length pushed, length-append c.loop.table.items (None ∷ []));
      none = λ var. ap (λ xs. get_or xs var None) pushed ∙ none_more c.loop.table.items c.loop.invariant.none var;
    }
