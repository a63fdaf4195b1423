-- What is read of a list within it is the same whatever stands for what is past its end.
use Rattle.std.proofs.Common.{◌≡◌, ℕ, zero, suc, ◌<◌, List, [], ◌∷◌, length, get_or, refl, arith}

pub get_or_default : {A : Type 0} (xs : List A) (i : ℕ) (d c : A) → i < length xs → get_or xs i d ≡ get_or xs i c
get_or_default [] i d c low = absurd (omega (arith, low))
get_or_default (x ∷ xs) zero d c low = refl
get_or_default (x ∷ xs) (suc i) d c low = get_or_default xs i d c (omega (arith, low))
