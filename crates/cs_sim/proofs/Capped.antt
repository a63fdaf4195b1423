-- Places that are capped by a number that no list reaches, and bits that are stored one by one.
use Rattle.std.proofs.Common.{◌≡◌, ℕ, zero, suc, ◌+◌, ◌-◌, ◌<◌, ◌≤◌, List, [], ◌∷◌, length, map, get_or, take, min, Bool, false, refl, sym, ap, ◌∙◌, ⊎_elim, arith}
use Rattle.std.specs.Prelude.{slice_set}
use Rattle.std.proofs.lemmas.Bool.{cases_lt}
use Rattle.std.proofs.lemmas.List.{get_or_past, set_past}
use Rattle.cs_cells.specs.declared.gate.Kind.{Kind}
use Rattle.cs_cells.specs.declared.gate.Kind.TheVariants.{Buf, Not, And, Nand, Or, Nor, Xor, Xnor, AndNot, OrNot, Mux, Nmux, Aoi3, Oai3, Aoi4, Oai4, Mux4, Mux8, Mux16}
use Rattle.cs_cells.specs.Gates.{pin_count}
use Rattle.cs_modules.specs.Pins.{count_from}
use Rattle.cs_sim.specs.Slots.{stored}

-- a place past the cap holds nothing, and neither does the cap
pub capped_get : {A : Type 0} (xs : List A) (n top : ℕ) (d : A) → length xs ≤ top → get_or xs (min n top) d ≡ get_or xs n d
capped_get xs n top d few =
    ⊎_elim (λ (lt : n < top). let e : min n top ≡ n = omega arith in ap (λ k. get_or xs k d) e)
    (λ (ge : top ≤ n). get_or_past xs (min n top) d (omega arith) ∙ sym (get_or_past xs n d (omega arith)))
    (cases_lt n top)

pub capped_set : {A : Type 0} (xs : List A) (n top : ℕ) (x : A) → length xs ≤ top → slice_set xs (min n top) x ≡ slice_set xs n x
capped_set xs n top x few =
    ⊎_elim (λ (lt : n < top). let e : min n top ≡ n = omega arith in ap (λ k. slice_set xs k x) e)
    (λ (ge : top ≤ n). set_past xs (min n top) x (omega arith) ∙ sym (set_past xs n x (omega arith)))
    (cases_lt n top)

-- the first bit of those that are left
stored_first : (f : ℕ → Bool) (values : List Bool) (first p left : ℕ) →
    stored values (first + p) (map f (count_from p (suc left)))
    ≡ stored (slice_set values (first + p) (f p)) (first + (p + 1)) (map f (count_from (p + 1) left))
unfolding stored
stored_first f values first p left =
    let e : first + p + 1 ≡ first + (p + 1) = omega arith in
    ap (λ n. stored (slice_set values (first + p) (f p)) n (map f (count_from (p + 1) left))) e

-- one bit more
pub stored_more : (bits values new : List Bool) (first from width p place slot top : ℕ) (bit : Bool) → p < width →
    place ≡ min (from + p) top → slot ≡ min (first + p) top → length bits ≤ top → length values ≤ top →
    bit ≡ get_or bits place false → new ≡ slice_set values slot bit →
    stored new (first + (p + 1)) (map (λ q. get_or bits (from + q) false) (count_from (p + 1) (width - (p + 1))))
    ≡ stored values (first + p) (map (λ q. get_or bits (from + q) false) (count_from p (width - p)))
stored_more bits values new first from width p place slot top bit within at to few few' read write =
    let f = λ (q : ℕ). get_or bits (from + q) false in
    let left = width - (p + 1) in
    let e : width - p ≡ suc left = omega arith in
    let b : bit ≡ f p = read ∙ ap (λ k. get_or bits k false) at ∙ capped_get bits (from + p) top false few in
    let n : new ≡ slice_set values (first + p) (f p)
    = write ∙ ap (λ k. slice_set values k bit) to ∙ capped_set values (first + p) top bit few' ∙ ap (λ x. slice_set values (first + p) x) b in
    ap (λ vs. stored vs (first + (p + 1)) (map f (count_from (p + 1) left))) n
    ∙ sym (stored_first f values first p left)
    ∙ sym (ap (λ k. stored values (first + p) (map f (count_from p k))) e)

-- none is left
pub stored_all : (f : ℕ → Bool) (values : List Bool) (first p left : ℕ) → left ≡ 0 → stored values first (map f (count_from p left)) ≡ values
unfolding stored
stored_all f values first p left none = ap (λ k. stored values first (map f (count_from p k))) none

-- ---- lists that are filled place by place

pub filled : (f : ℕ → Bool) (xs : List Bool) (from n : ℕ) → n ≤ length xs → ((k : ℕ) → k < n → get_or xs k false ≡ f (from + k)) →
    take n xs ≡ map f (count_from from n)
filled f xs from zero within is = refl
filled f [] from (suc n) within is = absurd (omega arith)
filled f (x ∷ xs) from (suc n) within is =
    let first : x ≡ f from = is 0 (omega arith) ∙ ap f (omega arith) in
    ap (λ y. y ∷ take n xs) first
    ∙ ap (λ rest. f from ∷ rest) (filled f xs (from + 1) n (omega arith) (λ k lt. is (suc k) (omega arith) ∙ ap f (omega arith)))

-- a gate has at most 20 pins
pub few_pins : (kind : Kind) → pin_count kind ≤ 20
few_pins Buf = omega arith
few_pins Not = omega arith
few_pins And = omega arith
few_pins Nand = omega arith
few_pins Or = omega arith
few_pins Nor = omega arith
few_pins Xor = omega arith
few_pins Xnor = omega arith
few_pins AndNot = omega arith
few_pins OrNot = omega arith
few_pins Mux = omega arith
few_pins Nmux = omega arith
few_pins Aoi3 = omega arith
few_pins Oai3 = omega arith
few_pins Aoi4 = omega arith
few_pins Oai4 = omega arith
few_pins Mux4 = omega arith
few_pins Mux8 = omega arith
few_pins Mux16 = omega arith
