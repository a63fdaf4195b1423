-- The names of the pins of gates: in order, and apart from Y.
use Rattle.std.proofs.Common.{◌≡◌, ℕ, List, [], ◌∷◌, ◌++◌, map, Bool, true, ◌&&◌, refl, ap, ap₂, ◌∙◌, codes}
use Rattle.std.specs.Prelude.{IsTrue}
use Rattle.std.specs.List.{AllByRecursion, list_all}
use Rattle.cs_json.specs.Readable.{is_below, AreInOrder}
use Rattle.cs_cells.specs.declared.gate.Kind.{Kind}
use Rattle.cs_cells.specs.declared.gate.Kind.TheVariants.{Buf, Not, And, Nand, Or, Nor, Xor, Xnor, AndNot, OrNot, Mux, Nmux, Aoi3, Oai3, Aoi4, Oai4, Mux4, Mux8, Mux16}
use Rattle.cs_cells.specs.declared.class.Class.TheVariants.{Gate}
use Rattle.cs_cells.specs.Classes.{class_of}
use Rattle.cs_cells.specs.Gates.{row_of, pin_count, pin_name}
use Rattle.cs_modules.specs.Pins.{count_from, gate_widths}
use Rattle.cs_modules.proofs.GatePins.{both}

-- input pins, and then Y
abbrev pub gate_names : Kind → List (List ℕ)
gate_names kind = map (pin_name kind) (count_from 0 (pin_count kind)) ++ codes "Y" ∷ []

-- each name is before all later ones
abbrev pub in_order : List (List ℕ) → Bool
in_order [] = true
in_order (a ∷ names) = list_all (is_below a) names && in_order names

all_after : {A : Type 0} (name : A → List ℕ) (a : List ℕ) (xs : List A) → list_all (is_below a)
    (map name xs) ≡ true → AllByRecursion (λ x. IsTrue (is_below a (name x))) xs
all_after name a [] h = tt
all_after name a (x ∷ xs) h = let parts = both (is_below a (name x))
    (list_all (is_below a) (map name xs)) h in (parts.0, all_after name a xs parts.1)

pub order_of_names : {A : Type 0} (name : A → List ℕ) (xs : List A) → in_order (map name xs) ≡ true
    → AreInOrder name xs
order_of_names name [] h = tt
order_of_names name (x ∷ xs) h =
    let parts = both (list_all (is_below (name x)) (map name xs)) (in_order (map name xs)) h in
    (all_after name (name x) xs parts.0, order_of_names name xs parts.1)

pub gate_names_in_order : (kind : Kind) → in_order (gate_names kind) ≡ true
gate_names_in_order Buf = refl
gate_names_in_order Not = refl
gate_names_in_order And = refl
gate_names_in_order Nand = refl
gate_names_in_order Or = refl
gate_names_in_order Nor = refl
gate_names_in_order Xor = refl
gate_names_in_order Xnor = refl
gate_names_in_order AndNot = refl
gate_names_in_order OrNot = refl
gate_names_in_order Mux = refl
gate_names_in_order Nmux = refl
gate_names_in_order Aoi3 = refl
gate_names_in_order Oai3 = refl
gate_names_in_order Aoi4 = refl
gate_names_in_order Oai4 = refl
gate_names_in_order Mux4 = refl
gate_names_in_order Mux8 = refl
gate_names_in_order Mux16 = refl

-- the name of a gate's type has the gate's class
pub class_of_gate : (kind : Kind) → class_of (row_of kind).name ≡ Gate kind
unfolding class_of
class_of_gate Buf = refl
class_of_gate Not = refl
class_of_gate And = refl
class_of_gate Nand = refl
class_of_gate Or = refl
class_of_gate Nor = refl
class_of_gate Xor = refl
class_of_gate Xnor = refl
class_of_gate AndNot = refl
class_of_gate OrNot = refl
class_of_gate Mux = refl
class_of_gate Nmux = refl
class_of_gate Aoi3 = refl
class_of_gate Oai3 = refl
class_of_gate Aoi4 = refl
class_of_gate Oai4 = refl
class_of_gate Mux4 = refl
class_of_gate Mux8 = refl
class_of_gate Mux16 = refl

-- ---- images

pub map-append : {A B : Type 0} (f : A → B) (xs ys : List A) → map f (xs ++ ys) ≡ map f xs ++ map f ys
map-append f [] ys = refl
map-append f (x ∷ xs) ys = ap (λ rest. f x ∷ rest) (map-append f xs ys)

pub image_of_image : {A B C : Type 0} (g : B → C) (f : A → B) (xs : List A) → map g (map f xs) ≡ map
    (λ x. g (f x)) xs
image_of_image g f [] = refl
image_of_image g f (x ∷ xs) = ap (λ rest. g (f x) ∷ rest) (image_of_image g f xs)

pub same_images : {A B : Type 0} (f g : A → B) (xs : List A) → AllByRecursion (λ x. f x ≡ g x) xs
    → map f xs ≡ map g xs
same_images f g [] h = refl
same_images f g (x ∷ xs) h = ap₂ (λ y ys. y ∷ ys) h.0 (same_images f g xs h.1)

pub names_of_widths : (kind : Kind) → map (λ w. w.0) (gate_widths kind) ≡ gate_names kind
names_of_widths kind =
    map-append (λ w. w.0) (map (λ i. (pin_name kind i, 1)) (count_from 0 (pin_count kind)))
    ((codes "Y", 1) ∷ [])
    ∙ ap (λ names. names ++ codes "Y" ∷ [])
    (image_of_image (λ (w : List ℕ × ℕ). w.0) (λ i. (pin_name kind i, 1))
    (count_from 0 (pin_count kind)))
