-- What an empty set chooses.
use Rattle.std.proofs.Common.{◌≡◌, ℕ, List, [], ◌∷◌, length, filter, nat_eq, refl, arith}
use Rattle.std.specs.List.{list_any}

-- nothing is chosen where no key is
pub none_chosen : (keys numbers : List ℕ) → length keys ≡ 0 → [] ≡ filter (λ b. list_any (nat_eq b) keys) numbers
none_chosen [] [] none = refl
none_chosen [] (n ∷ numbers) none = none_chosen [] numbers none
none_chosen (k ∷ keys) numbers none = absurd (omega (arith, none))
