-- The labels so far are negated.
use Rattle.std.proofs.Common.{◌≡◌, neg_ℤ, map, take}
use Rattle.std.specs.Option.{option_map}
use Rattle.cs_diff.proofs.least.least_of.Given as goal

abbrev pub invariant-loop-label : goal.invariant-loop-label
invariant-loop-label l = l.least ≡ map (option_map neg_ℤ) (take l.label-index l.labels)
