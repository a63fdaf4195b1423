-- Lists: what stands in a permutation, what a search finds, parts of joined lists, images by place.
use Rattle.std.proofs.Common.{◌≡◌, ℕ, zero, suc, ◌+◌, ◌-◌, ◌*◌, ◌<◌, List, [], ◌∷◌, ◌++◌, length, map, get_or, take, drop, Bool, true, false, cond, Some, IsTrue, IsPermutation, Contains, find, filter, flat_map, zip, option_map, slice_get, slice_range, refl, sym, ap, ap₂, subst, ◌∙◌, arith}
use Rattle.std.specs.List.{AllByRecursion, enumerate_from}
use Rattle.std.specs.Ordering.{is_lt}
use Rattle.std.proofs.lemmas.Cmp.{nat_list_cmp_total, tied_itself}
use Rattle.std.proofs.lemmas.List.Sorted.{Contains-permutation}
use Rattle.cs_json.specs.Readable.{AreInOrder, is_below}
use Rattle.cs_modules.specs.Pins.{count_from}
use Rattle.cs_net.proofs.Members.{Has, of_all}

-- ---- what stands in a list

contains_has : {A : Type 0} (xs : List A) (x : A) → Contains xs x → Has xs x
contains_has [] x (i, below, is) = absurd (omega arith)
contains_has (y ∷ xs) x (zero, below, is) = (zero, ap (λ z. Some z) is)
contains_has (y ∷ xs) x (suc i, below, is) =
    let rest = contains_has xs x (i, omega arith, is) in (suc rest.0, rest.1)

has_contains : {A : Type 0} (xs : List A) (x : A) → Has xs x → Contains xs x
has_contains [] x (i, stands) = cc
has_contains (y ∷ xs) x (zero, stands) = (zero, omega arith, cc)
has_contains (y ∷ xs) x (suc i, stands) =
    let rest = has_contains xs x (i, stands) in (suc rest.0, omega (arith, rest.1), rest.2)

-- what stands in a list stands in each order of it
pub has_permuted : {A : Type 0} (xs ys : List A) (x : A) → IsPermutation xs ys → Has xs x → Has ys x
has_permuted xs ys x same has =
    contains_has ys x (Contains-permutation xs ys x same (has_contains xs x has))

pub stands_within : {A : Type 0} (xs : List A) (i : ℕ) (x : A) → slice_get xs i ≡ Some x → i < length xs
stands_within [] i x stands = cc
stands_within (y ∷ xs) zero x stands = omega arith
stands_within (y ∷ xs) (suc i) x stands = let rest = stands_within xs i x stands in omega arith

-- what holds of whatever stands in a list holds of all
pub all_by_has : {A : Type 0} (P : A → Type 0) (xs : List A) → ((x : A) → Has xs x → P x)
    → AllByRecursion P xs
all_by_has P [] each = tt
all_by_has P (x ∷ xs) each = (each x (zero, refl), all_by_has P xs (λ y has. each y (suc has.0, has.1)))

-- what a filter keeps stands in the list
pub has_of_filter : {A : Type 0} (test : A → Bool) (xs : List A) (x : A) → Has (filter test xs) x → Has xs x
has_of_filter test [] x (i, stands) = cc
has_of_filter test (y ∷ xs) x has =
    elim (test y) as (λ t. Has (cond t (y ∷ filter test xs) (filter test xs)) x → Has (y ∷ xs) x) [
      | true ↦ λ here. first (λ rest. has_of_filter test xs x rest) here
      | false ↦ λ later. let rest = has_of_filter test xs x later in (suc rest.0, rest.1)
    ] has
  where
    first : (Has (filter test xs) x → Has xs x) → Has (y ∷ filter test xs) x → Has (y ∷ xs) x
    first others (zero, stands) = (zero, stands)
    first others (suc i, stands) = let rest = others (i, stands) in (suc rest.0, rest.1)

-- a filter that all pass keeps all
pub filter_all : {A : Type 0} (test : A → Bool) (xs : List A) → AllByRecursion (λ x. test x ≡ true) xs
    → filter test xs ≡ xs
filter_all test [] all = refl
filter_all test (x ∷ xs) all =
    ap₂ (λ t rest. cond t (x ∷ rest) rest) all.0 (filter_all test xs all.1)

-- the first of a list that has one value alone
pub first_of_same : {A : Type 0} (xs : List A) (v d : A) → Has xs v → ((w : A) → Has xs w → w ≡ v)
    → get_or xs 0 d ≡ v
first_of_same [] v d (i, stands) only = cc
first_of_same (x ∷ xs) v d has only = only x (zero, refl)

-- ---- searches

later : {A : Type 0} (test : A → Bool) (y : A) (xs : List A) (x : A) → test y ≡ false → test x ≡ true
    → Has (y ∷ xs) x
    → Has xs x
later test y xs x fails passes (zero, stands) =
    let same : y ≡ x = cc in
    let clash : false ≡ true = sym fails ∙ ap test same ∙ passes in
    cc
later test y xs x fails passes (suc i, stands) = (i, stands)

-- where all that pass a test have one image, a search finds it
pub found_image : {A B : Type 0} (f : A → B) (test : A → Bool) (xs : List A) (x : A) → Has xs x
    → test x ≡ true → ((y : A) → Has xs y → test y ≡ true → f y ≡ f x)
    → option_map f (find test xs) ≡ Some (f x)
found_image f test [] x (i, stands) passes only = cc
found_image f test (y ∷ xs) x has passes only =
    elim (test y) as (λ t. test y ≡ t → option_map f (cond t (Some y) (find test xs)) ≡ Some (f x)) [
      | true ↦ λ is. ap (λ z. Some z) (only y (zero, refl) is)
      | false ↦ λ is.
          found_image f test xs x (later test y xs x is passes has) passes
          (λ z there. only z (suc there.0, there.1))
    ] refl

-- what is found stands in the list and passes
pub found_stands : {A : Type 0} (test : A → Bool) (xs : List A) (x : A) → find test xs ≡ Some x
    → Has xs x × (test x ≡ true)
found_stands test [] x found = cc
found_stands test (y ∷ xs) x found =
    elim (test y) as (λ t. test y ≡ t → cond t (Some y) (find test xs) ≡ Some x
    → Has (y ∷ xs) x × (test x ≡ true)) [
      | true ↦ λ is here. let same : y ≡ x = cc in ((zero, here), subst (λ z. test z ≡ true) same is)
      | false ↦ λ is rest.
          let found = found_stands test xs x rest in ((suc found.0.0, found.0.1), found.1)
    ] refl found

-- ---- names

never_below_itself : (a : List ℕ) → IsTrue (is_below a a) → ⊥
never_below_itself a h =
    let tied : is_below a a ≡ false = ap is_lt (tied_itself nat_list_cmp_total a) in
    let clash : true ≡ false = sym h ∙ tied in
    cc

never_same : (a b : List ℕ) → IsTrue (is_below a b) → a ≡ b → ⊥
never_same a b below same = never_below_itself b (subst (λ n. IsTrue (is_below n b)) same below)

-- in the order of names no two things have one name
pub one_of_name : {A : Type 0} (name : A → List ℕ) (xs : List A) (x y : A) → AreInOrder name xs → Has xs x
    → Has xs y → name x ≡ name y → x ≡ y
one_of_name name [] x y order (i, first) has same = cc
one_of_name name (z ∷ xs) x y order (zero, first) (zero, second) same = cc
one_of_name name (z ∷ xs) x y order (zero, first) (suc j, second) same =
    let is : z ≡ x = cc in
    let below = of_all (λ v. IsTrue (is_below (name z) (name v))) xs j y order.0 second in
    absurd (never_same (name z) (name y) below (ap name is ∙ same))
one_of_name name (z ∷ xs) x y order (suc i, first) (zero, second) same =
    let is : z ≡ y = cc in
    let below = of_all (λ v. IsTrue (is_below (name z) (name v))) xs i x order.0 first in
    absurd (never_same (name z) (name x) below (ap name is ∙ sym same))
one_of_name name (z ∷ xs) x y order (suc i, first) (suc j, second) same =
    one_of_name name xs x y order.1 (i, first) (j, second) same

-- ---- places

pub mapped_at : {A B : Type 0} (f : A → B) (xs : List A) (i : ℕ) (x : A) → slice_get xs i ≡ Some x
    → slice_get (map f xs) i ≡ Some (f x)
mapped_at f [] i x stands = cc
mapped_at f (y ∷ xs) zero x stands = let same : y ≡ x = cc in ap (λ z. Some (f z)) same
mapped_at f (y ∷ xs) (suc i) x stands = mapped_at f xs i x stands

pub at_mapped : {A B : Type 0} (f : A → B) (xs : List A) (i : ℕ) (y : B) → slice_get (map f xs) i ≡ Some y
    → (x : A) × (slice_get xs i ≡ Some x) × (y ≡ f x)
at_mapped f [] i y stands = cc
at_mapped f (x ∷ xs) zero y stands = (x, refl, cc)
at_mapped f (x ∷ xs) (suc i) y stands = at_mapped f xs i y stands

pub has_numbered : {A : Type 0} (n : ℕ) (xs : List A) (i j : ℕ) (x : A) → slice_get xs i ≡ Some x → n + i ≡ j
    → Has (enumerate_from n xs) (j, x)
has_numbered n [] i j x stands is = cc
has_numbered n (y ∷ xs) zero j x stands is =
    let same : y ≡ x = cc in
    let place : n ≡ j = omega (arith, is) in
    (zero, ap₂ (λ m z. Some (m, z)) place same)
has_numbered n (y ∷ xs) (suc i) j x stands is =
    let rest = has_numbered (n + 1) xs i j x stands (omega (arith, is)) in (suc rest.0, rest.1)

pub counted_at : (from count i : ℕ) → i < count → slice_get (count_from from count) i ≡ Some (from + i)
counted_at from zero i below = absurd (omega arith)
counted_at from (suc count) zero below = ap (λ n. Some n) (omega arith)
counted_at from (suc count) (suc i) below =
    let same : from + 1 + i ≡ from + suc i = omega arith in
    counted_at (from + 1) count i (omega arith) ∙ ap (λ n. Some n) same

pub counted : (from count i n : ℕ) → slice_get (count_from from count) i ≡ Some n
    → (i < count) × (n ≡ from + i)
counted from zero i n stands = cc
counted from (suc count) zero n stands =
    let same : from ≡ n = cc in (omega arith, omega (arith, same))
counted from (suc count) (suc i) n stands =
    let rest = counted (from + 1) count i n stands in (omega (arith, rest.0), omega (arith, rest.1))

image_from : {A B : Type 0} (f : ℕ → B) (g : A → B) (from : ℕ) (xs : List A)
    → ((i : ℕ) (x : A) → slice_get xs i ≡ Some x → f (from + i) ≡ g x)
    → map f (count_from from (length xs)) ≡ map g xs
image_from f g from [] same = refl
image_from f g from (x ∷ xs) same =
    let here : from ≡ from + 0 = omega arith in
    let next : (i : ℕ) → from + 1 + i ≡ from + suc i = λ i. omega arith in
    ap₂ (λ y ys. y ∷ ys) (ap f here ∙ same 0 x refl)
    (image_from f g (from + 1) xs (λ i y stands. ap f (next i) ∙ same (suc i) y stands))

-- an image of the places of a list is the image of the list where they agree
pub image_by_place : {A B : Type 0} (f : ℕ → B) (g : A → B) (xs : List A)
    → ((i : ℕ) (x : A) → slice_get xs i ≡ Some x → f i ≡ g x)
    → map f (count_from 0 (length xs)) ≡ map g xs
image_by_place f g xs same =
    image_from f g 0 xs (λ i x stands. let place : 0 + i ≡ i = omega arith in ap f place ∙ same i x stands)

same_list : {A : Type 0} (xs : List A) → map (λ (x : A). x) xs ≡ xs
same_list [] = refl
same_list (x ∷ xs) = ap (λ rest. x ∷ rest) (same_list xs)

get_at : {A : Type 0} (xs : List A) (i : ℕ) (x d : A) → slice_get xs i ≡ Some x → get_or xs i d ≡ x
get_at [] i x d stands = cc
get_at (y ∷ xs) zero x d stands = cc
get_at (y ∷ xs) (suc i) x d stands = get_at xs i x d stands

-- a list is what stands at each of its places
pub each_by_place : {A : Type 0} (d : A) (xs : List A) (n : ℕ) → length xs ≡ n
    → map (λ i. get_or xs i d) (count_from 0 n) ≡ xs
each_by_place {A = A} d xs n size =
    ap (λ m. map (λ i. get_or xs i d) (count_from 0 m)) (sym size)
    ∙ image_by_place (λ i. get_or xs i d) (λ (x : A). x) xs (λ i x stands. get_at xs i x d stands)
    ∙ same_list xs

pub length_counted : (from count : ℕ) → length (count_from from count) ≡ count
length_counted from zero = refl
length_counted from (suc count) = ap suc (length_counted (from + 1) count)

pub length_mapped : {A B : Type 0} (f : A → B) (xs : List A) → length (map f xs) ≡ length xs
length_mapped f [] = refl
length_mapped f (x ∷ xs) = ap suc (length_mapped f xs)

pub zip_images : {A B C : Type 0} (f : A → B) (g : A → C) (xs : List A)
    → zip (map f xs) (map g xs) ≡ map (λ x. (f x, g x)) xs
zip_images f g [] = refl
zip_images f g (x ∷ xs) = ap (λ rest. (f x, g x) ∷ rest) (zip_images f g xs)

-- ---- parts of joined lists

take_front : {A : Type 0} (xs ys : List A) → take (length xs) (xs ++ ys) ≡ xs
take_front [] ys = refl
take_front (x ∷ xs) ys = ap (λ rest. x ∷ rest) (take_front xs ys)

drop_front : {A : Type 0} (xs ys : List A) (n : ℕ) → drop (length xs + n) (xs ++ ys) ≡ drop n ys
drop_front [] ys n = let none : 0 + n ≡ n = omega arith in ap (λ m. drop m ys) none
drop_front (x ∷ xs) ys n =
    let more : suc (length xs) + n ≡ suc (length xs + n) = omega arith in
    ap (λ m. drop m (x ∷ (xs ++ ys))) more ∙ drop_front xs ys n

part_from : {A B : Type 0} (f : A → List B) (width : ℕ) (xs : List A)
    → AllByRecursion (λ x. length (f x) ≡ width) xs → (i : ℕ) (x : A)
    → slice_get xs i ≡ Some x
    → take width (drop (i * width) (flat_map f xs)) ≡ f x
part_from f width [] sizes i x stands = cc
part_from f width (y ∷ xs) sizes zero x stands =
    let same : y ≡ x = cc in
    let none : 0 * width ≡ 0 = omega arith in
    ap (λ n. take width (drop n (f y ++ flat_map f xs))) none
    ∙ ap (λ n. take n (f y ++ flat_map f xs)) (sym sizes.0)
    ∙ take_front (f y) (flat_map f xs) ∙ ap f same
part_from f width (y ∷ xs) sizes (suc i) x stands =
    let size : length (f y) ≡ width = sizes.0 in
    let past : suc i * width ≡ length (f y) + i * width = omega (arith, size) in
    ap (λ n. take width (drop n (f y ++ flat_map f xs))) past
    ∙ ap (take width) (drop_front (f y) (flat_map f xs) (i * width))
    ∙ part_from f width xs sizes.1 i x stands

-- part i of joined lists of one length is list i
pub joined_part : {A B : Type 0} (f : A → List B) (width : ℕ) (xs : List A)
    → AllByRecursion (λ x. length (f x) ≡ width) xs → (i : ℕ) (x : A)
    → slice_get xs i ≡ Some x
    → slice_range (flat_map f xs) (i * width) (i * width + width) ≡ f x
joined_part f width xs sizes i x stands =
    let size : i * width + width - i * width ≡ width = omega arith in
    ap (λ n. take n (drop (i * width) (flat_map f xs))) size ∙ part_from f width xs sizes i x stands
