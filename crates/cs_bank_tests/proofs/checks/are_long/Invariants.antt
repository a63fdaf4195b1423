-- All images are long where those that are left are.
use Rattle.std.proofs.Common.{◌≡◌, drop, length}
use Rattle.std.specs.List.{AllByRecursion}
use Rattle.cs_bank_tests.proofs.checks.are_long.Given as goal

abbrev pub invariant-loop-image : goal.invariant-loop-image
invariant-loop-image l =
    AllByRecursion (λ image. length image ≡ l.bits) (drop l.image-index l.images)
    → AllByRecursion (λ image. length image ≡ l.bits) l.images
