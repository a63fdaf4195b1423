-- What stands in the slots once bits are put into some of them.
use Rattle.std.proofs.Common.{◌≡◌, ℕ, zero, suc, ◌+◌, ◌<◌, ◌≤◌, ◌≢◌, List, [], ◌∷◌, length, get_or, map, set, Bool, false, refl, ap, ◌∙◌, arith}
use Rattle.std.proofs.lemmas.List.{get_or-set_same, get_or-set_other, length-set}
use Rattle.cs_modules.specs.Pins.{count_from}
use Rattle.cs_sim.specs.Slots.{bits_from, stored}

pub length-stored : (values : List Bool) (first : ℕ) (bits : List Bool) → length (stored values first bits) ≡ length values
unfolding stored
length-stored values first [] = refl
length-stored values first (b ∷ bits) = length-stored (set values first b) (first + 1) bits ∙ length-set values first b

pub stored_before : (values : List Bool) (first : ℕ) (bits : List Bool) (i : ℕ) → i < first
    → get_or (stored values first bits) i false ≡ get_or values i false
unfolding stored
stored_before values first [] i h = refl
stored_before values first (b ∷ bits) i h =
    let other : i ≢ first = omega arith in
    stored_before (set values first b) (first + 1) bits i (omega arith) ∙ get_or-set_other values first i b false other

pub stored_behind : (values : List Bool) (first : ℕ) (bits : List Bool) (i : ℕ) → first + length bits ≤ i
    → get_or (stored values first bits) i false ≡ get_or values i false
unfolding stored
stored_behind values first [] i h = refl
stored_behind values first (b ∷ bits) i h =
    let other : i ≢ first = omega arith in
    stored_behind (set values first b) (first + 1) bits i (omega arith) ∙ get_or-set_other values first i b false other

pub stored_there : (values : List Bool) (first : ℕ) (bits : List Bool) (p : ℕ) → p < length bits
    → first + length bits ≤ length values → get_or (stored values first bits) (first + p) false ≡ get_or bits p false
unfolding stored
stored_there values first [] p h room = absurd (omega arith)
stored_there values first (b ∷ bits) zero h room =
    let here : first + 0 ≡ first = omega arith in
    ap (λ i. get_or (stored (set values first b) (first + 1) bits) i false) here
    ∙ stored_before (set values first b) (first + 1) bits first (omega arith)
    ∙ get_or-set_same values first b false (omega arith)
stored_there values first (b ∷ bits) (suc p) h room =
    let next : first + suc p ≡ (first + 1) + p = omega arith in
    ap (λ i. get_or (stored (set values first b) (first + 1) bits) i false) next
    ∙ stored_there (set values first b) (first + 1) bits p (omega arith) (omega (arith, length-set values first b))

-- ---- counting

pub length-counts : {A : Type 0} (f : ℕ → A) (from count : ℕ) → length (map f (count_from from count)) ≡ count
length-counts f from zero = refl
length-counts f from (suc count) = ap suc (length-counts f (from + 1) count)

pub get_or-counts : {A : Type 0} (f : ℕ → A) (from count i : ℕ) (d : A) → i < count
    → get_or (map f (count_from from count)) i d ≡ f (from + i)
get_or-counts f from zero i d below = absurd (omega arith)
get_or-counts f from (suc count) zero d below = ap f (omega arith)
get_or-counts f from (suc count) (suc i) d below = get_or-counts f (from + 1) count i d (omega arith) ∙ ap f (omega arith)

pub length-bits_from : (bits : List Bool) (from width : ℕ) → length (bits_from bits from width) ≡ width
length-bits_from bits from width = length-counts (λ p. get_or bits (from + p) false) 0 width

pub bits_from_at : (bits : List Bool) (width p : ℕ) → p < width → get_or (bits_from bits 0 width) p false ≡ get_or bits p false
bits_from_at bits width p h =
    get_or-counts (λ q. get_or bits (0 + q) false) 0 width p false h ∙ ap (λ i. get_or bits i false) (omega arith)
