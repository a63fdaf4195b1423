-- Back from what was read to the steps that read it.
use Rattle.std.proofs.Common.{◌≡◌, ℕ, ◌+◌, List, [], ◌∷◌, Option, Some, None, Ok, Err, refl, subst}
use Rattle.std.specs.Prelude.{IsTrue}
use Rattle.std.specs.List.{AllByRecursion}
use Rattle.serde_json.specs.Data.{Data, null, boolean, number, string, array, object, Members, no_members}
use Rattle.serde_json.specs.Find.{get_member}
use Rattle.serde_json.specs.Read.{read}
use Rattle.cs_json.specs.Readable.{is_below, AreInOrder}
use Rattle.cs_json.specs.Walk.{Read, Path, ◌>>=◌, under, found, members, members_or_none, required, optional, each_member, each_item, each_of, entries, to_key, to_item}
use Rattle.cs_json.proofs.Ordered.{IsOrdered, HasOrder, Holds, member_ordered, entries_in_order, entries_ordered}

-- both steps of a sequence succeeded
pub bound : {A B : Type 0} (a : Read A) (f : A → Read B) (b : B) → a >>= f ≡ Ok b
    → (x : A) × (a ≡ Ok x) × (f x ≡ Ok b)
bound (Ok x) f b h = (x, refl, h)
bound (Err at) f b h = absurd (cc)

-- at the end of a path
pub through : {A : Type 0} (path : Path) (a : Read A) (x : A) → under path a ≡ Ok x → a ≡ Ok x
through path (Ok y) x h = h
through path (Err at) x h = absurd (cc)

-- it was there
pub there : {A : Type 0} (o : Option A) (x : A) → found o ≡ Ok x → o ≡ Some x
there None x h = absurd (cc)
there (Some y) x h = cc

-- one reading, one value
pub ok_same : {A : Type 0} (x y : A) (read : Read A) → read ≡ Ok x → read ≡ Ok y → x ≡ y
ok_same x y read a b = cc

-- a member that had to be there
pub required_from : {A : Type 0} (f : Data → Read A) (key : List ℕ) (ms : Members) (x : A) → HasOrder ms
    → required f key ms ≡ Ok x
    → (d : Data) × IsOrdered d × (get_member key ms ≡ Some d) × (f d ≡ Ok x)
required_from f key ms x order h =
    let steps =
    bound (found (get_member key ms)) f x
    (through (to_key key) (found (get_member key ms) >>= f) x h) in
    let some = there (get_member key ms) steps.0 steps.1 in
    (steps.0, member_ordered key steps.0 ms order some, some, steps.2)

-- an object
pub object_from : (d : Data) (ms : Members) → IsOrdered d → members d ≡ Ok ms → HasOrder ms
object_from null ms ordered h = absurd (cc)
object_from (boolean b) ms ordered h = absurd (cc)
object_from (number n) ms ordered h = absurd (cc)
object_from (string s) ms ordered h = absurd (cc)
object_from (array ds) ms ordered h = absurd (cc)
object_from (object given) ms ordered h = let same : given ≡ ms = cc in subst HasOrder same ordered

maybe_object : (o : Option Data) (ms : Members) → Holds IsOrdered o → members_or_none o ≡ Ok ms
    → HasOrder ms
maybe_object None ms ordered h = let same : no_members ≡ ms = cc in subst HasOrder same tt
maybe_object (Some d) ms ordered h = object_from d ms ordered h

member_holds : (key : List ℕ) (ms : Members) (o : Option Data) → get_member key ms ≡ o → HasOrder ms
    → Holds IsOrdered o
member_holds key ms None is order = tt
member_holds key ms (Some d) is order = member_ordered key d ms order is

-- an object that may be missing
pub optional_from : (key : List ℕ) (ms there : Members) → HasOrder ms → optional key ms ≡ Ok there
    → HasOrder there
optional_from key ms there order h =
    maybe_object (get_member key ms) there (member_holds key ms (get_member key ms) refl order)
    (through (to_key key) (members_or_none (get_member key ms)) there h)

-- ---- lists of what is read

all_from : {A : Type 0} (f : List ℕ → Data → Read A) (R : A → Type 0) (S : List ℕ × Data → Type 0)
    → ((e : List ℕ × Data) (a : A) → S e → f e.0 e.1 ≡ Ok a → R a)
    → (es : List (List ℕ × Data))
    (xs : List A) → AllByRecursion S es → each_member f es ≡ Ok xs → AllByRecursion R xs
all_from {A = A} f R S step [] xs all h =
    let same : [] ≡ xs = cc in let P : List A → Type 0 = AllByRecursion R in subst P same tt
all_from {A = A} f R S step (e ∷ es) xs all h =
    let first =
    bound (under (to_key e.0) (f e.0 e.1)) (λ a. each_member f es >>= λ rest. Ok (a ∷ rest)) xs h in
    let rest = bound (each_member f es) (λ rest. Ok (first.0 ∷ rest)) xs first.2 in
    let same : first.0 ∷ rest.0 ≡ xs =
    ok_same (first.0 ∷ rest.0) xs (Ok (first.0 ∷ rest.0)) refl rest.2 in
    let P : List A → Type 0 = AllByRecursion R in
    subst P same (
      step e first.0 all.0 (through (to_key e.0) (f e.0 e.1) first.0 first.1),
      all_from f R S step es rest.0 all.1 rest.1,
    )

both : {A : Type 0} (S T : A → Type 0) (xs : List A) → AllByRecursion S xs → AllByRecursion T xs
    → AllByRecursion (λ x. S x × T x) xs
both S T [] s t = tt
both S T (x ∷ xs) s t = ((s.0, t.0), both S T xs s.1 t.1)

order_from : {A : Type 0} (f : List ℕ → Data → Read A) (name : A → List ℕ)
    (S : List ℕ × Data → Type 0)
    → ((e : List ℕ × Data) (a : A) → S e → f e.0 e.1 ≡ Ok a → name a ≡ e.0)
    → (es : List (List ℕ × Data)) (xs : List A) → AllByRecursion S es → AreInOrder (λ e. e.0)
    es → each_member f es ≡ Ok xs → AreInOrder name xs
order_from {A = A} f name S named [] xs all order h =
    let same : [] ≡ xs = cc in let P : List A → Type 0 = AreInOrder name in subst P same tt
order_from {A = A} f name S named (e ∷ es) xs all order h =
    let first =
    bound (under (to_key e.0) (f e.0 e.1)) (λ a. each_member f es >>= λ rest. Ok (a ∷ rest)) xs h in
    let rest = bound (each_member f es) (λ rest. Ok (first.0 ∷ rest)) xs first.2 in
    let same : first.0 ∷ rest.0 ≡ xs =
    ok_same (first.0 ∷ rest.0) xs (Ok (first.0 ∷ rest.0)) refl rest.2 in
    let is : name first.0 ≡ e.0 =
    named e first.0 all.0 (through (to_key e.0) (f e.0 e.1) first.0 first.1) in
    let below =
    all_from f (λ y. IsTrue (is_below (name first.0) (name y)))
    (λ d. IsTrue (is_below e.0 d.0) × S d)
    (λ d a h read. rw (is, named d a h.1 read) h.0) es rest.0 (both _ S es order.0 all.1) rest.1 in
    let P : List A → Type 0 = AreInOrder name in
    subst P same (below, order_from f name S named es rest.0 all.1 order.1 rest.1)

-- what holds of each item of a list that was read
pub items_from : {A : Type 0} (f : Data → Read A) (R : A → Type 0)
    → ((d : Data) (a : A) → f d ≡ Ok a → R a) → (i : ℕ) (ds : List Data) (xs : List A)
    → each_item f i ds ≡ Ok xs → AllByRecursion R xs
items_from {A = A} f R step i [] xs h =
    let same : [] ≡ xs = cc in let P : List A → Type 0 = AllByRecursion R in subst P same tt
items_from {A = A} f R step i (d ∷ ds) xs h =
    let first =
    bound (under (to_item i) (f d)) (λ a. each_item f (i + 1) ds >>= λ rest. Ok (a ∷ rest)) xs h in
    let rest = bound (each_item f (i + 1) ds) (λ rest. Ok (first.0 ∷ rest)) xs first.2 in
    let same : first.0 ∷ rest.0 ≡ xs =
    ok_same (first.0 ∷ rest.0) xs (Ok (first.0 ∷ rest.0)) refl rest.2 in
    let P : List A → Type 0 = AllByRecursion R in
    subst P same (
      step d first.0 (through (to_item i) (f d) first.0 first.1),
      items_from f R step (i + 1) ds rest.0 rest.1,
    )

-- what the members of an object hold
pub members_from : {A : Type 0} (f : List ℕ → Data → Read A) (name : A → List ℕ) (P : A → Type 0)
    → ((k : List ℕ) (d : Data) (a : A) → IsOrdered d → f k d ≡ Ok a → (name a ≡ k) × P a)
    → (ms : Members) (xs : List A) → HasOrder ms → each_member f
    (entries ms) ≡ Ok xs → AllByRecursion P xs × AreInOrder name xs
members_from f name P step ms xs order h =
    let all = entries_ordered ms order in (
      all_from f P (λ e. IsOrdered e.1) (λ e a ordered read. (step e.0 e.1 a ordered read).1)
          (entries ms) xs all h,
      order_from f name (λ e. IsOrdered e.1) (λ e a ordered read. (step e.0 e.1 a ordered read).0)
          (entries ms) xs all (entries_in_order ms order) h,
    )

pub each_of_from : {A : Type 0} (f : List ℕ → Data → Read A) (name : A → List ℕ) (P : A → Type 0)
    → ((k : List ℕ) (d : Data) (a : A) → IsOrdered d → f k d ≡ Ok a → (name a ≡ k) × P a)
    → (key : List ℕ) (ms : Members)
    (xs : List A) → HasOrder ms → each_of f key ms ≡ Ok xs → AllByRecursion P xs × AreInOrder name xs
each_of_from f name P step key ms xs order h =
    let there =
    bound (optional key ms) (λ found. under (to_key key) (each_member f (entries found))) xs h in
    members_from f name P step there.0 xs (optional_from key ms there.0 order there.1)
    (through (to_key key) (each_member f (entries there.0)) xs there.2)
