-- A label in its range has a negation that fits.
use Rattle.std.proofs.Common.{ℕ, ◌*◌, ◌^◌, ◌<◌, arith}
use Rattle.std.specs.Prelude.{ℤ, pos, ◌+ℤ◌, ◌≤ℤ◌, ◌-◌}
use Rattle.std.proofs.lemmas.Int.{ints}
use Rattle.cs_diff.proofs.least.least_of.Goals as goal

low_fits : (z : ℤ) (n : ℕ) → n < 2 ^ 32 → pos 0 ≤ℤ (z +ℤ pos (2 ^ 31 * n))
    → pos 0 ≤ℤ (z +ℤ pos (2 ^ 63 - 1))
low_fits z n few low = omega (arith, ints)

pub negated-requires : goal.negated-requires
negated-requires c z is = low_fits z c.args.sys.now.vertices (omega arith)
    (c.requires.low c.loop-label.label-index z is)
