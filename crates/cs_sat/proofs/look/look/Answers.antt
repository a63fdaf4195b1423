-- The literal at the place is one of the clause.
use Rattle.std.proofs.Common.{arith}
use Rattle.std.proofs.lemmas.List.{get_or_default}
use Rattle.cs_sat.proofs.look.look.Goals as goal

pub look_beside-requires : goal.look_beside-requires
look_beside-requires c =
    (c.args.place, omega arith, get_or_default c.args.lits.now c.args.place _ _ (omega arith))
