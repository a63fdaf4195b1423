-- The number that digits spell, read from the greatest digit down.
use Rattle.std.proofs.Common.{◌≡◌, ℕ, zero, suc, ◌+◌, ◌*◌, ◌<◌, ◌≤◌, List, [], ◌∷◌, length, ap, ◌∙◌, arith, drop, get_or}
use Rattle.std.specs.Prelude.{◌==◌, if◌then◌else◌}
use Rattle.std.proofs.Math.Seq.{drop-cons}
use Rattle.cs_modules.specs.Digits.{value_of}

pub value_of-drop : (ds : List ℕ) (i : ℕ) → i < length ds → value_of (drop i ds) ≡ (if get_or ds i 0 == 49 then 1 else 0) + 2 * value_of (drop (i + 1) ds)
value_of-drop ds i below =
    let next : suc i ≡ i + 1 = omega arith in
    ap value_of (drop-cons ds i 0 below) ∙ ap (λ j. (if get_or ds i 0 == 49 then 1 else 0) + 2 * value_of (drop j ds)) next

-- leaving digits out makes it no greater
pub value_of-drop-le : (ds : List ℕ) (i : ℕ) → value_of (drop i ds) ≤ value_of ds
value_of-drop-le [] zero = omega arith
value_of-drop-le [] (suc i) = omega arith
value_of-drop-le (d ∷ ds) zero = omega arith
value_of-drop-le (d ∷ ds) (suc i) = let rest = value_of-drop-le ds i in omega arith

-- once the digits above place i spell 2^31, one more digit makes 2^32
pub too_great : (ds : List ℕ) (i value : ℕ) → 0 < i → i ≤ length ds → value ≡ value_of (drop i ds) → 2147483648 ≤ value → value_of ds < 4294967296 → ⊥
too_great ds zero value some within is great small = omega arith
too_great ds (suc j) value some within is great small =
    let next : j + 1 ≡ suc j = omega arith in
    let spelt : value_of (drop j ds) ≡ (if get_or ds j 0 == 49 then 1 else 0) + 2 * value_of (drop (suc j) ds) =
    value_of-drop ds j (omega arith) ∙ ap (λ i. (if get_or ds j 0 == 49 then 1 else 0) + 2 * value_of (drop i ds)) next in
    let most : value_of (drop j ds) ≤ value_of ds = value_of-drop-le ds j in
    omega arith
