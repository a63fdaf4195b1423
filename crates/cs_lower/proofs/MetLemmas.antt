-- The list of what is met, bit by bit.
use Rattle.std.specs.Prelude.{slice_get}
use Rattle.std.proofs.Common.{◌≡◌, ℕ, zero, suc, ◌+◌, ◌≤◌, List, [], ◌∷◌, ◌++◌, drop, length, Option, Some, None, refl, sym, ap, arith}
use Rattle.std.proofs.lemmas.Option.{none-some, same_Some}
use Rattle.cs_base.specs.declared.signal.Signal.{Signal}
use Rattle.cs_lower.specs.Rings.{bit_behind, met}
use Rattle.cs_lower.specs.declared.taps.Wire.{Wire}
use Rattle.cs_lower.specs.Walks.{back}
use Rattle.cs_lower.specs.Wires.{wire_in}

-- what is met last
pub met_push : (wires : List (Signal × Wire)) (n c : ℕ) (b : Option ℕ) → back wires n b ≡ Some c
    → met wires (suc n) b ≡ met wires n b ++ c ∷ []
met_push wires zero c None at = absurd (none-some c at)
met_push wires zero c (Some b) at = ap (λ x. x ∷ []) (same_Some b c at)
met_push wires (suc n) c None at = absurd (none-some c at)
met_push wires (suc n) c (Some b) at = ap (λ xs. b ∷ xs) (met_push wires n c (bit_behind (wire_in wires b)) at)

-- what stands at a place is reached in as many steps
pub met_get : (wires : List (Signal × Wire)) (n i c : ℕ) (b : Option ℕ) → slice_get (met wires n b) i ≡ Some c
    → back wires i b ≡ Some c
met_get wires zero i c b at = absurd (none-some c at)
met_get wires (suc n) i c None at = absurd (none-some c at)
met_get wires (suc n) zero c (Some b) at = at
met_get wires (suc n) (suc i) c (Some b) at = met_get wires n i c (bit_behind (wire_in wires b)) at

none_met : (wires : List (Signal × Wire)) (n : ℕ) → met wires n None ≡ []
none_met wires zero = refl
none_met wires (suc n) = refl

-- what is met from a place on
pub met_drop : (wires : List (Signal × Wire)) (n i k : ℕ) (b : Option ℕ) → n ≡ i + k
    → drop i (met wires n b) ≡ met wires k (back wires i b)
met_drop wires n zero k b sum = let same : n ≡ k = omega (arith, sum) in ap (λ m. met wires m b) same
met_drop wires zero (suc i) k b sum = absurd (omega (arith, sum))
met_drop wires (suc n) (suc i) k None sum = sym (none_met wires k)
met_drop wires (suc n) (suc i) k (Some b) sum =
    met_drop wires n i k (bit_behind (wire_in wires b)) (omega (arith, sum))

-- no more are met than steps are taken
pub met_length : (wires : List (Signal × Wire)) (n : ℕ) (b : Option ℕ) → length (met wires n b) ≤ n
met_length wires zero b = omega arith
met_length wires (suc n) None = omega arith
met_length wires (suc n) (Some b) = omega (arith, met_length wires n (bit_behind (wire_in wires b)))

-- as many are met, where one gets so far
pub met_all : (wires : List (Signal × Wire)) (n c : ℕ) (b : Option ℕ) → back wires n b ≡ Some c
    → length (met wires n b) ≡ n
met_all wires zero c b at = refl
met_all wires (suc n) c None at = absurd (none-some c at)
met_all wires (suc n) c (Some b) at = ap suc (met_all wires n c (bit_behind (wire_in wires b)) at)

-- what there is behind what is reached
pub back_more : (wires : List (Signal × Wire)) (n c : ℕ) (b : Option ℕ) → back wires n b ≡ Some c
    → back wires (suc n) b ≡ bit_behind (wire_in wires c)
back_more wires zero c None at = absurd (none-some c at)
back_more wires zero c (Some b) at = ap (λ x. bit_behind (wire_in wires x)) (same_Some b c at)
back_more wires (suc n) c None at = absurd (none-some c at)
back_more wires (suc n) c (Some b) at = back_more wires n c (bit_behind (wire_in wires b)) at
