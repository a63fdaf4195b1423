-- Solutions are closed under the pointwise least and greatest.
use Rattle.std.proofs.Common.{ℕ, arith}
use Rattle.std.specs.Prelude.{ℤ, ◌-ℤ◌, ◌≤ℤ◌}
use Rattle.std.specs.Int.{int_min, int_max}
use Rattle.std.proofs.lemmas.Int.{ints, clamps}
use Rattle.cs_diff.specs.declared.system.System.{System}
use Rattle.cs_diff.specs.Systems.{IsSolution}

least_holds : (a b a' b' m : ℤ) → (a -ℤ b) ≤ℤ m → (a' -ℤ b') ≤ℤ m
    → (int_min a a' -ℤ int_min b b') ≤ℤ m
least_holds a b a' b' m h h' = omega (arith, ints, clamps)

greatest_holds : (a b a' b' m : ℤ) → (a -ℤ b) ≤ℤ m → (a' -ℤ b') ≤ℤ m
    → (int_max a a' -ℤ int_max b b') ≤ℤ m
greatest_holds a b a' b' m h h' = omega (arith, ints, clamps)

pub least_solves : (s : System) (r r' : ℕ → ℤ) → IsSolution s r → IsSolution s r'
    → IsSolution s (λ v. int_min (r v) (r' v))
least_solves s r r' h h' i c is = least_holds (r c.from) (r c.to) (r' c.from) (r' c.to) c.most
    (h i c is) (h' i c is)

pub greatest_solves : (s : System) (r r' : ℕ → ℤ) → IsSolution s r → IsSolution s r'
    → IsSolution s (λ v. int_max (r v) (r' v))
greatest_solves s r r' h h' i c is = greatest_holds (r c.from) (r c.to) (r' c.from) (r' c.to) c.most
    (h i c is) (h' i c is)
