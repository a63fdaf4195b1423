-- An object that is built from a list in order has the list's members.
use Rattle.std.proofs.Common.{◌≡◌, ℕ, zero, suc, ◌+◌, ◌<◌, ◌≤◌, List, [], ◌∷◌, ◌++◌, length, take, get_or, map, Greater, BTreeMap, String, Global, refl, sym, ap, ◌∙◌, subst, arith}
use Rattle.std.specs.Prelude.{IsTrue}
use Rattle.std.specs.List.{AllByRecursion}
use Rattle.std.specs.Ordering.{nat_cmp, ordering_reverse}
use Rattle.std.specs.Cmp.Lexicographic.{slice_cmp}
use Rattle.std.proofs.lemmas.Cmp.{nat_list_cmp_total}
use Rattle.std.proofs.lemmas.List.{take_more, take_all}
use Rattle.serde_json.specs.Data.{Data, object, Members, member, put}
use Rattle.serde_json.specs.View.{view, members_view}
use Rattle.serde_json.specs.declared.value.Value.{Value, Object}
use Rattle.serde_json.proofs.Views.{view-Object}
use Rattle.cs_json.specs.Printed.{Member, members_from, object_from}
use Rattle.cs_json.specs.Readable.{is_below, AreInOrder}
use Rattle.cs_json.proofs.Ordered.{less_of}

-- a key that is above those before it goes last
put_last : {A : Type 0} (f : A → Member) (xs : List A) (x : A)
    → AllByRecursion (λ y. IsTrue (is_below (f y).0 (f x).0)) xs
    → put (f x).0 (f x).1 (members_from (map f xs)) ≡ members_from (map f (xs ++ x ∷ []))
put_last f [] x below = refl
put_last f (y ∷ ys) x below =
    let above : slice_cmp nat_cmp (f x).0 (f y).0 ≡ Greater =
    nat_list_cmp_total.antisymm (f x).0 (f y).0
    ∙ ap ordering_reverse (less_of (slice_cmp nat_cmp (f y).0 (f x).0) below.0) in
    rw above (ap (member (f y).0 (f y).1) (put_last f ys x below.1))

all_at : {A : Type 0} (P : A → Type 0) (xs : List A) (i : ℕ) (x : A) → AllByRecursion P xs
    → i < length xs → P (get_or xs i x)
all_at P [] i x all lt = absurd (omega arith)
all_at P (y ∷ ys) zero x all lt = all.0
all_at P (y ∷ ys) (suc i) x all lt = all_at P ys i x all.1 (omega arith)

-- those before a place are below the one at it
all_before : {A : Type 0} (name : A → List ℕ) (xs : List A) (i : ℕ) (x : A) → AreInOrder name xs
    → i < length xs
    → AllByRecursion (λ y. IsTrue (is_below (name y) (name (get_or xs i x)))) (take i xs)
all_before name [] i x order lt = absurd (omega arith)
all_before name (y ∷ ys) zero x order lt = tt
all_before name (y ∷ ys) (suc i) x order lt = (
  all_at (λ z. IsTrue (is_below (name y) (name z))) ys i x order.0 (omega arith),
  all_before name ys i x order.1 (omega arith),
)

-- one more member is put
pub one_more_put : {A : Type 0} (f : A → Member) (xs : List A) (i : ℕ) (x : A) (old new : Members)
    (k : List ℕ) (d : Data)
    → AreInOrder (λ y. (f y).0) xs → i < length xs → x ≡ get_or xs i x
    → k ≡ (f x).0 → d ≡ (f x).1 → old ≡ members_from
    (map f (take i xs)) → new ≡ put k d old → new ≡ members_from (map f (take (i + 1) xs))
one_more_put f xs i x old new k d order lt at key value before step =
    let here = get_or xs i x in
    step
    ∙ (λ j. put (key j) (value j) (before j))
    ∙ ap (λ y. put (f y).0 (f y).1 (members_from (map f (take i xs)))) at
    ∙ put_last f (take i xs) here (all_before (λ y. (f y).0) xs i x order lt)
    ∙ ap (λ ys. members_from (map f ys)) (sym (take_more xs i x lt))

-- all members were put
pub all_put : {A : Type 0} (f : A → Member) (xs : List A) (i : ℕ)
    (m : BTreeMap (String Global) Value)
    → length xs ≤ i → members_view m.entries ≡ members_from (map f (take i xs))
    → view (Object m) ≡ object_from f xs
all_put f xs i m whole is =
    view-Object m ∙ ap object (is ∙ ap (λ ys. members_from (map f ys)) (take_all i xs whole))

pub map_twice : {A B C : Type 0} (f : B → C) (g : A → B) (xs : List A)
    → map (λ x. f (g x)) xs ≡ map f (map g xs)
map_twice f g [] = refl
map_twice f g (x ∷ xs) = ap (λ rest. f (g x) ∷ rest) (map_twice f g xs)
