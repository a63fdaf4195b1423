-- At most 2^20.
use Rattle.std.proofs.Common.{◌≡◌, ◌*◌, ◌^◌, ◌≤◌, ◌%◌, arith}
use Rattle.std.proofs.Math.Pow.{pow_mono}
use Rattle.cs_net.proofs.LimitLemmas.{shifted_one}
use Rattle.cs_bank_tests.proofs.checks.addresses.Goals as goal

pub returns-clause-few : goal.returns-clause-few
returns-clause-few c =
    let most : 2 ^ c.args.address_bits ≤ 2 ^ 20 = pow_mono c.requires in
    let is = shifted_one c.args.address_bits c.requires in
    omega (arith, most, is)
