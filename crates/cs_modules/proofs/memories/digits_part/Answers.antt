use Rattle.std.proofs.Common.{◌+◌, ◌*◌, rules}
use Rattle.cs_modules.specs.Digits.{is_one}
use Rattle.cs_modules.proofs.Pushed.{one_more_counted}
use Rattle.cs_modules.proofs.memories.digits_part.Goals as goal

pub loop-j-preserved : goal.loop-j-preserved
loop-j-preserved c =
    one_more_counted (λ j. is_one c.args.digits.now (c.args.i * c.args.width + j)) c.loop-j.j
    _ c.loop-j.part c.push.new.self (search rules) c.loop-j.invariant c.in_ok-push.ensures.ok
