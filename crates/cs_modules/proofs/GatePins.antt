-- No input pin of a gate is named Y.
use Rattle.std.proofs.Common.{◌≡◌, List, [], ◌∷◌, Bool, true, false, not, ◌&&◌, refl, codes}
use Rattle.std.specs.Prelude.{bytes_eq}
use Rattle.std.specs.List.{AllByRecursion, list_all}
use Rattle.cs_cells.specs.declared.gate.Kind.{Kind}
use Rattle.cs_cells.specs.declared.gate.Kind.TheVariants.{Buf, Not, And, Nand, Or, Nor, Xor, Xnor, AndNot, OrNot, Mux, Nmux, Aoi3, Oai3, Aoi4, Oai4, Mux4, Mux8, Mux16}
use Rattle.cs_cells.specs.Gates.{pin_count, pin_name}
use Rattle.cs_modules.specs.Pins.{count_from}

pub both : (a b : Bool) → a && b ≡ true → (a ≡ true) × (b ≡ true)
both true b h = (refl, h)
both false b h = absurd (cc)

pub all_pass : {A : Type 0} (test : A → Bool) (xs : List A) → list_all test xs ≡ true → AllByRecursion (λ x. test x ≡ true) xs
all_pass test [] h = tt
all_pass test (x ∷ xs) h = let parts = both (test x) (list_all test xs) h in (parts.0, all_pass test xs parts.1)

none_is_y : (kind : Kind) → list_all (λ i. not (bytes_eq (pin_name kind i) (codes "Y"))) (count_from 0 (pin_count kind)) ≡ true
none_is_y Buf = refl
none_is_y Not = refl
none_is_y And = refl
none_is_y Nand = refl
none_is_y Or = refl
none_is_y Nor = refl
none_is_y Xor = refl
none_is_y Xnor = refl
none_is_y AndNot = refl
none_is_y OrNot = refl
none_is_y Mux = refl
none_is_y Nmux = refl
none_is_y Aoi3 = refl
none_is_y Oai3 = refl
none_is_y Aoi4 = refl
none_is_y Oai4 = refl
none_is_y Mux4 = refl
none_is_y Mux8 = refl
none_is_y Mux16 = refl

pub inputs_are_not_y : (kind : Kind) → AllByRecursion (λ i. not (bytes_eq (pin_name kind i) (codes "Y")) ≡ true) (count_from 0 (pin_count kind))
inputs_are_not_y kind = all_pass _ (count_from 0 (pin_count kind)) (none_is_y kind)
