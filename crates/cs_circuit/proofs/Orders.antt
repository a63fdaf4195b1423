-- Lists that stand in the byte order of names: what a sort gives, and that things have one such list.
use Rattle.std.proofs.Common.{◌≡◌, ℕ, zero, suc, ◌<◌, ◌⊎◌, List, [], ◌∷◌, length, get_or, Bool, true, false, Some, Ordering, Less, Equal, Greater, refl, sym, ap, ap₂, subst, ◌∙◌, arith, inl, inr}
use Rattle.std.specs.Prelude.{IsTrue, slice_get, bytes_eq, Contains}
use Rattle.std.specs.List.{AllByRecursion, swap}
use Rattle.std.specs.List.Sorted.{IsPermutation, IsSortedBy}
use Rattle.std.specs.Ordering.{is_lt, is_eq, nat_cmp, ordering_reverse}
use Rattle.std.specs.Cmp.Lexicographic.{slice_cmp, texts_ties}
use Rattle.std.proofs.lemmas.Cmp.{nat_list_cmp_total, tied_itself}
use Rattle.std.specs.Cmp.{IsStrictWeakOrder}
use Rattle.std.specs.Fn.{Called, ComparesAs}
use denote.Ref.{Bor}
use denote.Param.Members.{Mut}
use Rattle.std.proofs.lemmas.Bool.{cases_eq}
use Rattle.std.proofs.lemmas.Fn.{always_returns_same}
use Rattle.std.proofs.lemmas.Slice.Eq.{bytes_eq-Decides}
use Rattle.std.proofs.lemmas.List.Edits.{swapped_from_swap, length-swap}
use Rattle.std.proofs.lemmas.List.Sorted.{ranks_by, sorted_far, IsPermutation-keeps, IsPermutation-sym, Contains-permutation}
use Rattle.cs_json.specs.Readable.{AreInOrder, is_below}
use Rattle.cs_net.proofs.Members.{Has, of_all}
use Rattle.cs_circuit.specs.Order.{AreDistinct, IsInNameOrder}

-- ---- names

pub same_bytes : (a : List ℕ) → bytes_eq a a ≡ true
same_bytes a = (bytes_eq-Decides a a).1 refl

pub same_name : (a b : List ℕ) → bytes_eq a b ≡ true → a ≡ b
same_name a b h = (bytes_eq-Decides a b).0 h

pub never_below_itself : (a : List ℕ) → IsTrue (is_below a a) → ⊥
never_below_itself a h =
    let tied : is_below a a ≡ false = ap is_lt (tied_itself nat_list_cmp_total a) in
    let both : true ≡ false = sym h ∙ tied in absurd (cc)

-- names in order are not the same
pub below_differs : (a b : List ℕ) → IsTrue (is_below a b) → a ≡ b → ⊥
below_differs a b below same = never_below_itself b (subst (λ n. IsTrue (is_below n b)) same below)

less_of : (o : Ordering) → IsTrue (is_lt o) → o ≡ Less
less_of Less h = refl
less_of Equal h = absurd (cc)
less_of Greater h = absurd (cc)

pub below_trans : (a b c : List ℕ) → IsTrue (is_below a b) → IsTrue (is_below b c) → IsTrue (is_below a c)
below_trans a b c ab bc = ap is_lt (nat_list_cmp_total.trans a b c (less_of _ ab) (less_of _ bc))

-- equal in the order is equal
tied_names : (a b : List ℕ) → slice_cmp nat_cmp a b ≡ Equal → a ≡ b
tied_names a b tied = (bytes_eq-Decides a b).0 (texts_ties a b ∙ ap is_eq tied)

-- what is not above and not the same is below
strictly_below : (a b : List ℕ) → is_below b a ≡ false → (a ≡ b → ⊥) → IsTrue (is_below a b)
strictly_below a b not_above differ = by_order (slice_cmp nat_cmp a b) refl
  where
    by_order : (o : Ordering) → slice_cmp nat_cmp a b ≡ o → IsTrue (is_below a b)
    by_order Less is = ap is_lt is
    by_order Equal is = absurd (differ (tied_names a b is))
    by_order Greater is =
        let above : is_below b a ≡ true = ap is_lt (nat_list_cmp_total.antisymm b a ∙ ap ordering_reverse is) in
        let both : true ≡ false = sym above ∙ not_above in absurd (cc)

-- ---- places

all_at : {A : Type 0} (P : A → Type 0) (xs : List A) → AllByRecursion P xs → (i : ℕ) (d : A) → i < length xs
    → P (get_or xs i d)
all_at P [] h i d below = absurd (omega arith)
all_at P (x ∷ xs) h zero d below = h.0
all_at P (x ∷ xs) h (suc i) d below = all_at P xs h.1 i d (omega arith)

from_places : {A : Type 0} (P : A → Type 0) (xs : List A)
    → ((i : ℕ) (d : A) → i < length xs → P (get_or xs i d))
    → AllByRecursion P xs
from_places P [] h = tt
from_places P (x ∷ xs) h = (h 0 x (omega arith), from_places P xs (λ i d below. h (suc i) d (omega arith)))

module _ {A : Type 0} (name : A → List ℕ) where
  -- names at different places differ
  AreApart : List A → Type 0
  AreApart xs = (i j : ℕ) (d : A) → i < length xs → j < length xs → (i ≡ j → ⊥)
      → name (get_or xs i d) ≡ name (get_or xs j d) → ⊥

  apart_from_distinct : (xs : List A) → AreDistinct name xs → AreApart xs
  unfolding AreApart
  apart_from_distinct [] distinct i j d low high differ = absurd (omega arith)
  apart_from_distinct (x ∷ xs) distinct zero zero d low high differ = absurd (differ refl)
  apart_from_distinct (x ∷ xs) distinct zero (suc j) d low high differ =
      all_at (λ y. name x ≡ name y → ⊥) xs distinct.0 j d (omega arith)
  apart_from_distinct (x ∷ xs) distinct (suc i) zero d low high differ =
      λ same. all_at (λ y. name x ≡ name y → ⊥) xs distinct.0 i d (omega arith) (sym same)
  apart_from_distinct (x ∷ xs) distinct (suc i) (suc j) d low high differ =
      apart_from_distinct xs distinct.1 i j d (omega arith) (omega arith) (λ same. differ (ap suc same))

  -- ---- exchanges

  -- after places a and b are exchanged, what stands at m came from s
  data Source (a b m s : ℕ) : Type 0 where
    as_first : m ≡ a → s ≡ b → Source a b m s
    as_second : m ≡ b → s ≡ a → Source a b m s
    as_other : (m ≡ a → ⊥) → (m ≡ b → ⊥) → s ≡ m → Source a b m s

  same_source : (a b i j s t : ℕ) → Source a b i s → Source a b j t → s ≡ t → i ≡ j
  same_source a b i j s t (as_first ia sb) (as_first ja tb) same = omega arith
  same_source a b i j s t (as_first ia sb) (as_second jb ta) same = omega arith
  same_source a b i j s t (as_first ia sb) (as_other nja njb tj) same = absurd (njb (omega arith))
  same_source a b i j s t (as_second ib sa) (as_first ja tb) same = omega arith
  same_source a b i j s t (as_second ib sa) (as_second jb ta) same = omega arith
  same_source a b i j s t (as_second ib sa) (as_other nja njb tj) same = absurd (nja (omega arith))
  same_source a b i j s t (as_other nia nib si) (as_first ja tb) same = absurd (nib (omega arith))
  same_source a b i j s t (as_other nia nib si) (as_second jb ta) same = absurd (nia (omega arith))
  same_source a b i j s t (as_other nia nib si) (as_other nja njb tj) same = omega arith

  module _ (l : List A) (a b : ℕ) (in_a : a < length l) (in_b : b < length l) where
    -- where it came from
    record CameFrom (m : ℕ) (d : A) : Type 0 where
      from : ℕ
      source : Source a b m from
      within : from < length l
      same : get_or (swap l a b) m d ≡ get_or l from d

    came_from : (m : ℕ) (d : A) → m < length l → CameFrom m d
    came_from m d below = by_first (cases_eq m a) (cases_eq m b)
      where
        by_first : (m ≡ a) ⊎ (m ≡ a → ⊥) → (m ≡ b) ⊎ (m ≡ b → ⊥) → CameFrom m d
        by_first (inl is) q = record {
          from = b;
          source = as_first is refl;
          within = in_b;
          same = ap (λ n. get_or (swap l a b) n d) is
              ∙ (swapped_from_swap l (swap l a b) a b d in_a in_b refl).0;
        }
        by_first (inr not_a) (inl is) = record {
          from = a;
          source = as_second is refl;
          within = in_a;
          same = ap (λ n. get_or (swap l a b) n d) is
              ∙ (swapped_from_swap l (swap l a b) a b d in_a in_b refl).1;
        }
        by_first (inr not_a) (inr not_b) = record {
          from = m;
          source = as_other not_a not_b refl;
          within = below;
          same = (swapped_from_swap l (swap l a b) a b d in_a in_b refl).2 m not_a not_b;
        }

    still_apart : AreApart l → AreApart (swap l a b)
    unfolding AreApart
    still_apart apart i j d low high differ same =
        let long = length-swap l a b in
        let p = came_from i d (omega arith) in
        let q = came_from j d (omega arith) in
        apart p.from q.from d p.within q.within
        (λ one. differ (same_source a b i j p.from q.from p.source q.source one))
        (sym (ap name p.same) ∙ same ∙ ap name q.same)

  -- ---- what a sort gives

  in_order : (xs : List A) → ((i j : ℕ) (d : A) → i < j → j < length xs
      → IsTrue (is_below (name (get_or xs i d)) (name (get_or xs j d)))) → AreInOrder name xs
  in_order [] rises = tt
  in_order (x ∷ xs) rises = (
    from_places (λ y. IsTrue (is_below (name x) (name y))) xs
        (λ j d below. rises 0 (suc j) d (omega arith) (omega arith)),
    in_order xs (λ i j d low high. rises (suc i) (suc j) d (omega arith) (omega arith)),
  )

  -- a sort by name of things whose names differ has them in name order
  pub name_order_from_sort : (xs made : List A) → AreDistinct name xs → IsPermutation xs made
      → IsSortedBy (λ x y. is_below (name x) (name y)) made → IsInNameOrder name xs made
  unfolding AreApart
  name_order_from_sort xs made distinct same sorted = record {
    order = in_order made (λ i j d low high. strictly_below (name (get_or made i d)) (name (get_or made j d))
        (sorted_far (λ x y. is_below (name x) (name y))
        (ranks_by nat_list_cmp_total name) made sorted i j d (omega arith) high)
        (apart i j d (omega arith) high (λ equal. absurd (omega arith))));
    same = same;
  }
    where
      apart : AreApart made
      apart = IsPermutation-keeps xs AreApart (apart_from_distinct xs distinct)
          (λ l a b in_a in_b before. still_apart l a b in_a in_b before) made same

-- ---- what stands in a list stands in another order of it

contains_from_has : {A : Type 0} (xs : List A) (x : A) → Has xs x → Contains xs x
contains_from_has [] x (i, stands) = cc
contains_from_has (y ∷ xs) x (zero, stands) = let same : y ≡ x = cc in (0, omega arith, same)
contains_from_has (y ∷ xs) x (suc i, stands) =
    let more = contains_from_has xs x (i, stands) in (suc more.0, omega arith, more.2)

has_from_contains : {A : Type 0} (xs : List A) (x : A) → Contains xs x → Has xs x
has_from_contains [] x (i, below, is) = absurd (omega arith)
has_from_contains (y ∷ xs) x (zero, below, is) = (0, ap Some is)
has_from_contains (y ∷ xs) x (suc i, below, is) =
    let more = has_from_contains xs x (i, omega arith, is) in (suc more.0, more.1)

pub has_permuted : {A : Type 0} (xs ys : List A) (x : A) → IsPermutation xs ys → Has xs x → Has ys x
has_permuted xs ys x same has =
    has_from_contains ys x (Contains-permutation xs ys x same (contains_from_has xs x has))

all_from_has : {A : Type 0} (P : A → Type 0) (ys : List A) → ((y : A) → Has ys y → P y) → AllByRecursion P ys
all_from_has P [] each = tt
all_from_has P (y ∷ ys) each =
    (each y (0, refl), all_from_has P ys (λ z has. each z (suc has.0, has.1)))

pub all_permuted : {A : Type 0} (P : A → Type 0) (xs ys : List A) → IsPermutation xs ys → AllByRecursion P xs
    → AllByRecursion P ys
all_permuted P xs ys same all =
    all_from_has P ys (λ y has.
    let back = has_permuted ys xs y (IsPermutation-sym xs ys same) has in
    of_all P xs back.0 y all back.1)

-- ---- there is one list of things in name order

module _ {A : Type 0} (name : A → List ℕ) where
  same_head : (x y : A) (xs ys : List A) → AreInOrder name (x ∷ xs) → AreInOrder name (y ∷ ys) → Has (y ∷ ys) x
      → Has (x ∷ xs) y → x ≡ y
  same_head x y xs ys first second (zero, stands) there = let same : y ≡ x = cc in sym same
  same_head x y xs ys first second (suc i, stands) (zero, back) = let same : x ≡ y = cc in same
  same_head x y xs ys first second (suc i, stands) (suc j, back) =
      absurd (never_below_itself (name x) (below_trans (name x) (name y) (name x)
      (of_all (λ z. IsTrue (is_below (name x) (name z))) xs j y first.0 back)
      (of_all (λ z. IsTrue (is_below (name y) (name z))) ys i x second.0 stands)))

  in_rest : (x y z : A) (xs ys : List A) (i : ℕ) → x ≡ y → AreInOrder name (x ∷ xs) → slice_get xs i ≡ Some z
      → Has (y ∷ ys) z → Has ys z
  in_rest x y z xs ys i equal first stands (zero, there) =
      let same : y ≡ z = cc in
      absurd (below_differs (name x) (name z)
      (of_all (λ w. IsTrue (is_below (name x) (name w))) xs i z first.0 stands)
      (ap name (equal ∙ same)))
  in_rest x y z xs ys i equal first stands (suc j, there) = (j, there)

  same_list : (xs ys : List A) → AreInOrder name xs → AreInOrder name ys → ((z : A) → Has xs z → Has ys z)
      → ((z : A) → Has ys z → Has xs z) → xs ≡ ys
  same_list [] [] first second there back = refl
  same_list [] (y ∷ ys) first second there back = let (i, stands) = back y (0, refl) in absurd (cc)
  same_list (x ∷ xs) [] first second there back = let (i, stands) = there x (0, refl) in absurd (cc)
  same_list (x ∷ xs) (y ∷ ys) first second there back =
      let equal = same_head x y xs ys first second (there x (0, refl)) (back y (0, refl)) in
      let rest = same_list xs ys first.1 second.1
      (λ z has. in_rest x y z xs ys has.0 equal first has.1 (there z (suc has.0, has.1)))
      (λ z has. in_rest y x z ys xs has.0 (sym equal) second has.1 (back z (suc has.0, has.1))) in
      ap₂ (λ w ws. w ∷ ws) equal rest

  -- two lists of the same things in name order are one
  pub one_order : (xs ys zs : List A) → IsInNameOrder name xs ys → IsInNameOrder name xs zs → ys ≡ zs
  one_order xs ys zs first second =
      same_list ys zs first.order second.order
      (λ z has. has_permuted xs zs z second.same
      (has_permuted ys xs z (IsPermutation-sym xs ys first.same) has))
      (λ z has. has_permuted xs ys z first.same
      (has_permuted zs xs z (IsPermutation-sym xs zs second.same) has))

-- from the clause `sorted` of a sort, where each call compares the names of the two things
module _ {A : Type 0} (name : A → List ℕ) where
  pub name_order_from_sort_by : {F : Type 0} {g : Mut F (Bor A × (Bor A × Unit {0})) Ordering} {f : F}
      (xs made : List A) → AreDistinct name xs → IsPermutation xs made
      → ((lt : A → A → Bool) → IsStrictWeakOrder lt → ComparesAs g lt f → IsSortedBy lt made)
      → ((a : Bor A × (Bor A × Unit {0})) (r : Ordering) (f' : F) → Called g f a r f'
      → (r ≡ slice_cmp nat_cmp (name a.0.now) (name a.1.0.now)) × (f' ≡ f))
      → IsInNameOrder name xs made
  name_order_from_sort_by {g = g} {f = f} xs made distinct same sorted compares =
      name_order_from_sort name xs made distinct same
      (sorted (λ x y. is_below (name x) (name y)) (ranks_by nat_list_cmp_total name)
      (always_returns_same g (λ a r. is_lt r ≡ is_below (name a.0.now) (name a.1.0.now)) f
      (λ a r f' k. (ap is_lt (compares a r f' k).0, (compares a r f' k).1))))
