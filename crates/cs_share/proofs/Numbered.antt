-- Lists that are made place by place.
use Rattle.std.proofs.Common.{◌≡◌, ◌∙◌, Bool, true, false, ℕ, zero, suc, ◌+◌, ◌<◌, ◌≤◌, List, [], ◌∷◌, ◌++◌, length, map, take, refl, sym, ap, ap₂, append_assoc, arith}
use Rattle.std.specs.Prelude.{get_or, slice_get, Option, Some, filter_map, flat_map, if◌then◌else◌}
use Rattle.std.specs.List.{enumerate_from, sum_by, zip}
use Rattle.std.proofs.lemmas.List.{map-append}
use Rattle.std.proofs.lemmas.List.Elements.{filter_map-append}
use Rattle.std.proofs.lemmas.List.Sums.{sum_by-cons}
use Rattle.std.proofs.lemmas.Option.{none-some, same_Some}
use Rattle.cs_graph.specs.declared.graph.Graph.{Graph}
use Rattle.cs_graph.specs.declared.vertex.Vertex.{Vertex}
use Rattle.cs_graph.specs.Kinds.{is_input}
use Rattle.cs_graph.specs.Run.{inputs_before}
use Rattle.cs_share.specs.Planned.{number_by}
use Rattle.cs_share.specs.Shared.{all_logic_bits}

-- one place more of a list with its places
pub enumerated_more : {A : Type 0} (from : ℕ) (xs : List A) (i : ℕ) (x : A) → slice_get xs i ≡ Some x
    → enumerate_from from (take (i + 1) xs) ≡ enumerate_from from (take i xs) ++ (from + i, x) ∷ []
enumerated_more from [] i x at = absurd (none-some x at)
enumerated_more {A = A} from (y ∷ xs) zero x at =
    let here : from ≡ from + 0 = omega arith in
    let next : 0 + 1 ≡ 1 = omega arith in
    ap (λ k. enumerate_from from (take k (y ∷ xs))) next
    ∙ ap₂ (λ (n : ℕ) (z : A). (n, z) ∷ []) here (same_Some y x at)
enumerated_more {A = A} from (y ∷ xs) (suc i) x at =
    let next : suc i + 1 ≡ suc (i + 1) = omega arith in
    let place : from + 1 + i ≡ from + suc i = omega arith in
    let rest : enumerate_from (from + 1) (take (i + 1) xs) ≡ enumerate_from (from + 1) (take i xs) ++ (from + suc i, x) ∷ [] =
    enumerated_more (from + 1) xs i x at
    ∙ ap (λ (n : ℕ). enumerate_from (from + 1) (take i xs) ++ (n, x) ∷ []) place in
    ap (λ k. enumerate_from from (take k (y ∷ xs))) next
    ∙ ap (λ (ys : List (ℕ × A)). (from, y) ∷ ys) rest

pub taken_none : {A : Type 0} (xs : List A) → take 0 xs ≡ []
taken_none [] = refl
taken_none (x ∷ xs) = refl

-- all of a list
pub taken_all : {A : Type 0} (xs : List A) (n : ℕ) → length xs ≤ n → take n xs ≡ xs
taken_all [] zero all = refl
taken_all [] (suc n) all = refl
taken_all (x ∷ xs) zero all = absurd (omega (arith, all))
taken_all (x ∷ xs) (suc n) all = ap (λ ys. x ∷ ys) (taken_all xs n (omega (arith, all)))

-- a function of places and items, for one place more
pub mapped_more : {A B : Type 0} (f : ℕ × A → B) (xs : List A) (i : ℕ) (x : A) → slice_get xs i ≡ Some x
    → map f (enumerate_from 0 (take (i + 1) xs)) ≡ map f (enumerate_from 0 (take i xs)) ++ f (i, x) ∷ []
mapped_more f xs i x at =
    ap (map f) (enumerated_more 0 xs i x at)
    ∙ map-append f (enumerate_from 0 (take i xs)) ((0 + i, x) ∷ [])
    ∙ ap (λ n. map f (enumerate_from 0 (take i xs)) ++ f (n, x) ∷ []) (omega arith)

-- a function of items, for one item more
pub taken_more : {A B : Type 0} (f : A → B) (xs : List A) (i : ℕ) (x : A) → slice_get xs i ≡ Some x
    → map f (take (i + 1) xs) ≡ map f (take i xs) ++ f x ∷ []
taken_more f [] i x at = absurd (none-some x at)
taken_more {A = A} f (y ∷ xs) zero x at =
    let next : 0 + 1 ≡ 1 = omega arith in
    ap (λ k. map f (take k (y ∷ xs))) next ∙ ap (λ (z : A). f z ∷ []) (same_Some y x at)
taken_more {B = B} f (y ∷ xs) (suc i) x at =
    let next : suc i + 1 ≡ suc (i + 1) = omega arith in
    ap (λ k. map f (take k (y ∷ xs))) next ∙ ap (λ (ys : List B). f y ∷ ys) (taken_more f xs i x at)

pub append_none : {A : Type 0} (xs : List A) → xs ++ [] ≡ xs
append_none [] = refl
append_none (x ∷ xs) = ap (λ ys. x ∷ ys) (append_none xs)

-- lists of items one after the other, for one item more
pub chained_more : {A B : Type 0} (f : A → List B) (xs : List A) (i : ℕ) (x : A) → slice_get xs i ≡ Some x
    → flat_map f (take (i + 1) xs) ≡ flat_map f (take i xs) ++ f x
chained_more f [] i x at = absurd (none-some x at)
chained_more {A = A} f (y ∷ xs) zero x at =
    let next : 0 + 1 ≡ 1 = omega arith in
    ap (λ k. flat_map f (take k (y ∷ xs))) next ∙ append_none (f y) ∙ ap f (same_Some y x at)
chained_more {B = B} f (y ∷ xs) (suc i) x at =
    let next : suc i + 1 ≡ suc (i + 1) = omega arith in
    ap (λ k. flat_map f (take k (y ∷ xs))) next
    ∙ ap (λ (ys : List B). f y ++ ys) (chained_more f xs i x at)
    ∙ sym (append_assoc (f y) (flat_map f (take i xs)) (f x))

-- what a function gives of places and items, for one place more
pub given_more : {A B : Type 0} (f : ℕ × A → Option B) (xs : List A) (i : ℕ) (x : A) → slice_get xs i ≡ Some x
    → filter_map f (enumerate_from 0 (take (i + 1) xs))
    ≡ filter_map f (enumerate_from 0 (take i xs)) ++ filter_map f ((i, x) ∷ [])
given_more {A = A} f xs i x at =
    let place : 0 + i ≡ i = omega arith in
    ap (filter_map f) (enumerated_more 0 xs i x at)
    ∙ filter_map-append f (enumerate_from 0 (take i xs)) ((0 + i, x) ∷ [])
    ∙ ap (λ (n : ℕ). filter_map f (enumerate_from 0 (take i xs)) ++ filter_map f ((n, x) ∷ [])) place

-- the item at a place that is there
pub got_at : {A : Type 0} (xs : List A) (i : ℕ) (z : A) → i < length xs → slice_get xs i ≡ Some (get_or xs i z)
got_at [] i z low = absurd (omega (arith, low))
got_at (x ∷ xs) zero z low = refl
got_at (x ∷ xs) (suc i) z low = got_at xs i z (omega (arith, low))

-- two lists side by side
pub zipped_at : {A B : Type 0} (xs : List A) (ys : List B) (i : ℕ) (x : A) (y : B) → slice_get xs i ≡ Some x
    → slice_get ys i ≡ Some y → slice_get (zip xs ys) i ≡ Some (x, y)
zipped_at [] ys i x y at there = absurd (none-some x at)
zipped_at (a ∷ xs) [] i x y at there = absurd (none-some y there)
zipped_at {A = A} {B = B} (a ∷ xs) (b ∷ ys) zero x y at there =
    ap₂ (λ (u : A) (w : B). Some (u, w)) (same_Some a x at) (same_Some b y there)
zipped_at (a ∷ xs) (b ∷ ys) (suc i) x y at there = zipped_at xs ys i x y at there

pub length-zipped : {A B : Type 0} (xs : List A) (ys : List B) → length xs ≡ length ys → length (zip xs ys) ≡ length ys
length-zipped [] [] same = refl
length-zipped [] (y ∷ ys) same = absurd (omega (arith, same))
length-zipped (x ∷ xs) [] same = absurd (omega (arith, same))
length-zipped (x ∷ xs) (y ∷ ys) same = ap suc (length-zipped xs ys (omega (arith, same)))

-- a sum over one item more
pub summed_more : {A : Type 0} (f : A → ℕ) (xs : List A) (i : ℕ) (x : A) → slice_get xs i ≡ Some x
    → sum_by f (take (i + 1) xs) ≡ sum_by f (take i xs) + f x
summed_more f [] i x at = absurd (none-some x at)
summed_more f (y ∷ xs) zero x at =
    let next : 0 + 1 ≡ 1 = omega arith in
    let same = ap f (same_Some y x at) in
    ap (λ k. sum_by f (take k (y ∷ xs))) next ∙ sum_by-cons f y [] ∙ omega (arith, same)
summed_more f (y ∷ xs) (suc i) x at =
    let next : suc i + 1 ≡ suc (i + 1) = omega arith in
    let all = ap (λ k. sum_by f (take k (y ∷ xs))) next ∙ sum_by-cons f y (take (i + 1) xs) in
    let some = sum_by-cons f y (take i xs) in
    let rest = summed_more f xs i x at in
    omega (arith, all, some, rest)

abbrev pub one_input : Vertex → ℕ
one_input x = if is_input x.kind then 1 else 0

pub inputs_none : (xs : List Vertex) → inputs_before xs 0 ≡ 0
inputs_none [] = refl
inputs_none (x ∷ xs) = refl

-- the Inputs before one vertex more
pub inputs_more : (xs : List Vertex) (v : ℕ) (x : Vertex) → slice_get xs v ≡ Some x
    → inputs_before xs (v + 1) ≡ inputs_before xs v + (if is_input x.kind then 1 else 0)
inputs_more [] v x at = absurd (none-some x at)
inputs_more (y ∷ xs) zero x at =
    let next : 0 + 1 ≡ 1 = omega arith in
    let none = inputs_none xs in
    let same = ap one_input (same_Some y x at) in
    ap (inputs_before (y ∷ xs)) next ∙ omega (arith, same, none)
inputs_more (y ∷ xs) (suc v) x at =
    let next : suc v + 1 ≡ suc (v + 1) = omega arith in
    let rest = inputs_more xs v x at in
    ap (inputs_before (y ∷ xs)) next ∙ omega (arith, rest)

pub one_at_most : (x : Vertex) → one_input x ≤ 1
one_at_most x = by (is_input x.kind)
  where
    by : (b : Bool) → (if b then 1 else 0) ≤ 1
    by true = omega arith
    by false = omega arith

pub inputs_few : (xs : List Vertex) (v : ℕ) → inputs_before xs v ≤ v
inputs_few [] v = omega arith
inputs_few (x ∷ xs) zero = omega arith
inputs_few (x ∷ xs) (suc v) =
    let rest = inputs_few xs v in
    let one = one_at_most x in
    omega (arith, rest, one)

-- the number of a vertex's first output
abbrev pub number_of : Graph → List ℕ → ℕ → ℕ × Vertex → ℕ
number_of g inputs first e =
    number_by inputs (inputs_before g.vertices e.0) (first + all_logic_bits g.memories (take e.0 g.vertices)) e.1.kind
