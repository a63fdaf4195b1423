-- Keys in order, and the places of keys in order.
use Rattle.std.proofs.Common.{Ordering, Less, Equal, ◌≡◌, ℕ, zero, suc, ◌+◌, ◌*◌, ◌<◌, ◌≤◌, ◌⊎◌, inl, inr, List, [], ◌∷◌, ◌++◌, length, map, get_or, Bool, true, false, bytes_eq, Some, None, refl, sym, subst, ap, ◌∙◌, ⊎_elim, arith}
use Rattle.std.specs.Prelude.{slice_get}
use Rattle.std.specs.List.{AllByRecursion, position_from}
use Rattle.std.specs.List.Sorted.{IsStrictlySortedBy}
use Rattle.std.specs.Ordering.{ordering_then, nat_cmp}
use Rattle.std.specs.Cmp.{nat_cmp_is}
use Rattle.std.specs.Cmp.Lexicographic.{slice_cmp}
use Rattle.std.proofs.lemmas.Slice.Eq.{bytes_eq-Decides}
use Rattle.std.proofs.lemmas.Bool.{cases_lt}
use Rattle.cs_prefix.specs.declared.plan.DriverId.{DriverId}
use Rattle.cs_prefix.specs.Prefixes.{RegisterKey, digit, edge_key, key_code, place_of_key}
use Rattle.cs_prefix.proofs.Beginnings.{is_less}
use Rattle.cs_prefix.proofs.Partly.{AreOrdered, Comes}

-- ---- the order of keys

abbrev pub code_cmp : List ℕ → List ℕ → Ordering
code_cmp = slice_cmp nat_cmp

abbrev pub AreInOrder : List RegisterKey → Type 0
AreInOrder keys = IsStrictlySortedBy code_cmp (map key_code keys)

abbrev pub ComesBefore : RegisterKey → RegisterKey → Type 0
ComesBefore a b = code_cmp (key_code a) (key_code b) ≡ Less

nat_less : (x y : ℕ) → x < y → nat_cmp x y ≡ Less
nat_less x y less = sym (nat_cmp_is x y Less less)

nat_same : (x y : ℕ) → x ≡ y → nat_cmp x y ≡ Equal
nat_same x y same = sym (nat_cmp_is x y Equal same)

then_less : (r s : Ordering) → r ≡ Less → ordering_then r s ≡ Less
then_less r s is = ap (λ t. ordering_then t s) is

then_equal : (r s t : Ordering) → r ≡ Equal → s ≡ t → ordering_then r s ≡ t
then_equal r s t is rest = ap (λ x. ordering_then x s) is ∙ rest

less_digits : (p q : List Bool) → length p ≡ length q → is_less p q ≡ true
    → code_cmp (map digit p) (map digit q) ≡ Less
less_digits [] q long less = absurd (cc)
less_digits (a ∷ p) [] long less = absurd (cc)
less_digits (true ∷ p) (true ∷ q) long less = less_digits p q (omega arith) less
less_digits (true ∷ p) (false ∷ q) long less = absurd (cc)
less_digits (false ∷ p) (true ∷ q) long less = refl
less_digits (false ∷ p) (false ∷ q) long less = less_digits p q (omega arith) less

-- of one driver by length and digits
starts_less : (driver : DriverId) (p q : List Bool) → Comes p q
    → ComesBefore (edge_key driver p) (edge_key driver q)
starts_less driver p q comes =
    then_equal (nat_cmp driver.vertex driver.vertex) _ Less (nat_same driver.vertex driver.vertex refl)
    (then_equal (nat_cmp driver.output driver.output) _ Less (nat_same driver.output driver.output refl)
    (⊎_elim (λ shorter. then_less (nat_cmp (length p) (length q)) _ (nat_less (length p) (length q) shorter))
    (λ both. then_equal (nat_cmp (length p) (length q)) _ Less (nat_same (length p) (length q) both.0)
    (less_digits p q both.0 both.1))
    comes))

-- the numbers of a key's driver as one
abbrev pub key_driver : RegisterKey → ℕ
key_driver key = key.vertex * 16777216 + key.output

-- of several drivers by these
pub drivers_less : (a b : RegisterKey) → a.output < 16777216 → b.output < 16777216
    → key_driver a < key_driver b → ComesBefore a b
drivers_less a b small_a small_b less = by (cases_lt a.vertex b.vertex)
  where
    by : (a.vertex < b.vertex) ⊎ (b.vertex ≤ a.vertex) → ComesBefore a b
    by (inl lower) = then_less (nat_cmp a.vertex b.vertex) _ (nat_less a.vertex b.vertex lower)
    by (inr upper) =
        let same : a.vertex ≡ b.vertex = omega (arith, less, upper, small_a, small_b) in
        let lower : a.output < b.output = omega (arith, less, same) in
        then_equal (nat_cmp a.vertex b.vertex) _ Less (nat_same a.vertex b.vertex same)
        (then_less (nat_cmp a.output b.output) _ (nat_less a.output b.output lower))

-- ---- lists in order

all_codes_at : (P : List ℕ → Type 0) (keys : List RegisterKey)
    → ((n : ℕ) (key : RegisterKey) → slice_get keys n ≡ Some key → P (key_code key))
    → AllByRecursion P (map key_code keys)
all_codes_at P [] each = tt
all_codes_at P (key ∷ keys) each = (each 0 key refl, all_codes_at P keys (λ n x h. each (suc n) x h))

code_at : (P : List ℕ → Type 0) (keys : List RegisterKey) → AllByRecursion P (map key_code keys)
    → (n : ℕ) (key : RegisterKey)
    → slice_get keys n ≡ Some key → P (key_code key)
code_at P [] all n key h = absurd (cc)
code_at P (x ∷ keys) all zero key h = let same : x ≡ key = cc in subst (λ k. P (key_code k)) same all.0
code_at P (x ∷ keys) all (suc n) key h = code_at P keys all.1 n key h

codes_append : (P : List ℕ → Type 0) (xs ys : List RegisterKey) → AllByRecursion P (map key_code xs)
    → AllByRecursion P (map key_code ys)
    → AllByRecursion P (map key_code (xs ++ ys))
codes_append P [] ys front behind = behind
codes_append P (x ∷ xs) ys front behind = (front.0, codes_append P xs ys front.1 behind)

pub order_nil : AreInOrder []
unfolding IsStrictlySortedBy
order_nil = tt

pub order_append : (xs ys : List RegisterKey) → AreInOrder xs → AreInOrder ys
    → ((m n : ℕ) (a b : RegisterKey) → slice_get xs m ≡ Some a → slice_get ys n ≡ Some b → ComesBefore a b)
    → AreInOrder (xs ++ ys)
unfolding IsStrictlySortedBy
order_append [] ys front behind less = behind
order_append (x ∷ xs) ys front behind less = (
  codes_append (λ c. code_cmp (key_code x) c ≡ Less) xs ys front.0
      (all_codes_at (λ c. code_cmp (key_code x) c ≡ Less) ys (λ n b h. less 0 n x b refl h)),
  order_append xs ys front.1 behind (λ m n a b h i. less (suc m) n a b h i),
)

pub order_of_starts : (driver : DriverId) (ps : List (List Bool)) → AreOrdered ps
    → AreInOrder (map (edge_key driver) ps)
unfolding IsStrictlySortedBy
order_of_starts driver [] ordered = tt
order_of_starts driver (p ∷ ps) ordered = (each ps ordered.0, order_of_starts driver ps ordered.1)
  where
    each : (qs : List (List Bool)) → AllByRecursion (Comes p) qs
        → AllByRecursion (λ c. code_cmp (key_code (edge_key driver p)) c ≡ Less)
        (map key_code (map (edge_key driver) qs))
    each [] all = tt
    each (q ∷ qs) all = (starts_less driver p q all.0, each qs all.1)

order_head : (x : RegisterKey) (xs : List RegisterKey) → AreInOrder (x ∷ xs)
    → AllByRecursion (λ c. code_cmp (key_code x) c ≡ Less) (map key_code xs)
unfolding IsStrictlySortedBy
order_head x xs order = order.0

order_tail : (x : RegisterKey) (xs : List RegisterKey) → AreInOrder (x ∷ xs) → AreInOrder xs
unfolding IsStrictlySortedBy
order_tail x xs order = order.1

-- ---- places

code_itself : (c : List ℕ) → code_cmp c c ≡ Equal
code_itself [] = refl
code_itself (x ∷ c) = then_equal (nat_cmp x x) (code_cmp c c) Equal (nat_same x x refl) (code_itself c)

itself : (c : List ℕ) → bytes_eq c c ≡ true
itself c = (bytes_eq-Decides c c).1 refl

differs : (c d : List ℕ) → (c ≡ d → ⊥) → bytes_eq c d ≡ false
differs c d other = by (bytes_eq c d) refl
  where
    by : (t : Bool) → bytes_eq c d ≡ t → bytes_eq c d ≡ false
    by true is = absurd (other ((bytes_eq-Decides c d).0 is))
    by false is = is

less_differs : (c d : List ℕ) → code_cmp c d ≡ Less → c ≡ d → ⊥
less_differs c d less same =
    let equal = sym (ap (code_cmp c) (sym same) ∙ code_itself c) ∙ less in absurd (cc)

pub place_found_from : (k : ℕ) (keys : List RegisterKey) (m : ℕ) (key : RegisterKey) → AreInOrder keys
    → slice_get keys m ≡ Some key
    → position_from (λ other. bytes_eq (key_code other) (key_code key)) k keys ≡ Some (k + m)
place_found_from k [] m key order h = absurd (cc)
place_found_from k (x ∷ keys) zero key order h =
    let same : x ≡ key = cc in
    let here : bytes_eq (key_code x) (key_code key) ≡ true = ap (λ y. bytes_eq (key_code x) (key_code y))
    (sym same) ∙ itself (key_code x) in
    rw here (ap Some (let e : k ≡ k + 0 = omega arith in e))
place_found_from k (x ∷ keys) (suc m) key order h =
    let other : bytes_eq (key_code x) (key_code key) ≡ false = differs (key_code x) (key_code key)
    (less_differs (key_code x) (key_code key) (code_at (λ c. code_cmp (key_code x) c
    ≡ Less) keys (order_head x keys order) m key h)) in
    rw other (place_found_from (k + 1) keys m key (order_tail x keys order) h ∙ ap Some (let e : k + 1 + m ≡ k + suc m = omega arith in e))

-- a key that is there has its place
pub place_found : (keys : List RegisterKey) (m : ℕ) (key : RegisterKey) → AreInOrder keys
    → slice_get keys m ≡ Some key
    → place_of_key keys key ≡ Some m
place_found keys m key order h =
    place_found_from 0 keys m key order h ∙ ap Some (let e : 0 + m ≡ m = omega arith in e)

pub place_none_from : (k : ℕ) (keys : List RegisterKey) (key : RegisterKey) → key.starts ≡ []
    → ((n : ℕ) (x : RegisterKey) → slice_get keys n ≡ Some x → 0 < length x.starts)
    → position_from (λ other. bytes_eq (key_code other) (key_code key)) k keys ≡ None
place_none_from k [] key none each = refl
place_none_from k (x ∷ keys) key none each =
    let other : bytes_eq (key_code x) (key_code key) ≡ false = differs (key_code x) (key_code key) (λ same.
    let long : length x.starts ≡ length key.starts = ap (λ c. get_or c 2 0) same in
    let some = each 0 x refl in
    let nothing = ap length none in absurd (omega (arith, long, some, nothing))) in
    rw other (place_none_from (k + 1) keys key none (λ n y h. each (suc n) y h))

-- what begins with nothing has none
pub place_none : (keys : List RegisterKey) (key : RegisterKey) → key.starts ≡ []
    → ((n : ℕ) (x : RegisterKey) → slice_get keys n ≡ Some x → 0 < length x.starts)
    → place_of_key keys key ≡ None
place_none keys key none each = place_none_from 0 keys key none each
