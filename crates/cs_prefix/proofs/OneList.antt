-- Keys that are in order, each once, are one list where they are the same keys; so the registers of some edges are one list.
use Rattle.std.proofs.Common.{Ordering, Less, Equal, Greater, ◌≡◌, ◌∙◌, ℕ, zero, suc, List, [], ◌∷◌, map, Option, Some, refl, sym, ap, ap₂, subst}
use Rattle.std.specs.Prelude.{slice_get, Bool}
use Rattle.std.specs.List.{AllByRecursion}
use Rattle.std.specs.List.Sorted.{IsStrictlySortedBy}
use Rattle.std.specs.Cmp.Lexicographic.{slice_cmp}
use Rattle.std.specs.Ordering.{nat_cmp, ordering_reverse}
use Rattle.std.proofs.lemmas.Cmp.{nat_list_cmp_total}
use Rattle.std.proofs.lemmas.Option.{none-some, same_Some}
use Rattle.cs_prefix.specs.declared.plan.DriverId.{DriverId}
use Rattle.cs_prefix.specs.Prefixes.{AreKeys, RegisterKey, key_code}

abbrev code_cmp : List ℕ → List ℕ → Ordering
code_cmp = slice_cmp nat_cmp

-- no code is below itself, and of two codes one alone is below the other
not_both : (a b : List ℕ) → code_cmp a b ≡ Less → code_cmp b a ≡ Less → ⊥
not_both a b low high =
    let both : Less ≡ Greater = sym low ∙ nat_list_cmp_total.antisymm a b ∙ ap ordering_reverse high in absurd (cc)

-- each key behind the first is above it
later : (code : List ℕ) (keys : List RegisterKey) → AllByRecursion (λ y. code_cmp code y ≡ Less) (map key_code keys)
    → (n : ℕ) (key : RegisterKey) → slice_get keys n ≡ Some key → code_cmp code (key_code key) ≡ Less
later code [] all n key at = absurd (none-some key at)
later code (x ∷ keys) all zero key at = subst (λ k. code_cmp code (key_code k) ≡ Less) (same_Some x key at) all.0
later code (x ∷ keys) all (suc n) key at = later code keys all.1 n key at

-- each of these keys is one of those
abbrev AreAmong : List RegisterKey → List RegisterKey → Type 0
AreAmong keys others = (n : ℕ) (key : RegisterKey) → slice_get keys n ≡ Some key → (m : ℕ) × (slice_get others m ≡ Some key)

same_first : (x y : RegisterKey) (xs ys : List RegisterKey) → AllByRecursion (λ k. code_cmp (key_code x) k ≡ Less) (map key_code xs)
    → AllByRecursion (λ k. code_cmp (key_code y) k ≡ Less) (map key_code ys)
    → (m : ℕ) → slice_get (y ∷ ys) m ≡ Some x → (n : ℕ) → slice_get (x ∷ xs) n ≡ Some y → x ≡ y
same_first x y xs ys above above' zero at n at' = sym (same_Some y x at)
same_first x y xs ys above above' (suc m) at zero at' = same_Some x y at'
same_first x y xs ys above above' (suc m) at (suc n) at' =
    absurd (not_both (key_code x) (key_code y) (later (key_code x) xs above n y at') (later (key_code y) ys above' m x at))

-- behind the same first key they are among those behind it
rest_among : (x : RegisterKey) (xs ys : List RegisterKey) → AllByRecursion (λ k. code_cmp (key_code x) k ≡ Less) (map key_code xs)
    → AreAmong (x ∷ xs) (x ∷ ys) → AreAmong xs ys
rest_among x xs ys above among n key at = by (among (suc n) key at).0 (among (suc n) key at).1
  where
    by : (m : ℕ) → slice_get (x ∷ ys) m ≡ Some key → (k : ℕ) × (slice_get ys k ≡ Some key)
    by zero there =
        let same : x ≡ key = same_Some x key there in
        let below = subst (λ k. code_cmp (key_code x) (key_code k) ≡ Less) (sym same) (later (key_code x) xs above n key at) in
        absurd (not_both (key_code x) (key_code x) below below)
    by (suc m) there = (m, there)

one_list : (keys others : List RegisterKey) → IsStrictlySortedBy code_cmp (map key_code keys)
    → IsStrictlySortedBy code_cmp (map key_code others) → AreAmong keys others → AreAmong others keys → keys ≡ others
unfolding IsStrictlySortedBy
one_list [] [] order order' among among' = refl
one_list [] (y ∷ ys) order order' among among' = absurd (none-some y (among' 0 y refl).1)
one_list (x ∷ xs) [] order order' among among' = absurd (none-some x (among 0 x refl).1)
one_list (x ∷ xs) (y ∷ ys) order order' among among' =
    let first = among 0 x refl in
    let first' = among' 0 y refl in
    let same : x ≡ y = same_first x y xs ys order.0 order'.0 first.0 first.1 first'.0 first'.1 in
    let here = rest_among x xs ys order.0 (subst (λ k. AreAmong (x ∷ xs) (k ∷ ys)) (sym same) among) in
    let there = rest_among y ys xs order'.0 (subst (λ k. AreAmong (y ∷ ys) (k ∷ xs)) same among') in
    ap₂ (λ k ks. k ∷ ks) same (one_list xs ys order.1 order'.1 here there)

-- the registers of some edges are one list
pub one_keys : (drivers : List DriverId) (contents : List (List Bool)) (keys others : List RegisterKey)
    → AreKeys drivers contents keys → AreKeys drivers contents others → keys ≡ others
one_keys drivers contents keys others a b =
    one_list keys others a.order b.order
    (λ n key at. b.there key (a.needed n key at))
    (λ n key at. a.there key (b.needed n key at))
