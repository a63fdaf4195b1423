use Rattle.std.proofs.Common.{◌≡◌, ℕ, Bool, subst}
use Rattle.std.specs.Prelude.{IfOk, filter}
use mathlib.Core.Path.{fun_ext}
use Rattle.cs_conditions.proofs.starts.given_among.Goals as goal

pub returns : goal.returns
returns c =
    subst (λ (test : ℕ → Bool). IfOk c.in_set.result (λ found. found.items ≡ filter test c.args.numbers.now))
    (fun_ext c.in_ok-given.ensures) c.in_set.ensures
