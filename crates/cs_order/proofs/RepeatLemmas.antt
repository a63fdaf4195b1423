-- A list in which nothing stands twice, and two parts of which change places.
use Rattle.std.proofs.Common.{◌≡◌, ℕ, zero, suc, ◌+◌, ◌⊎◌, List, [], ◌∷◌, ◌++◌, length, Some, refl, ap, ◌∙◌, arith, inl, inr}
use Rattle.std.specs.Prelude.{slice_get}
use Rattle.std.proofs.lemmas.Option.{slice_get_within}
use Rattle.cs_order.specs.Graphs.{HasNoRepeat}

at_left : (xs ys : List ℕ) (i v : ℕ) → slice_get xs i ≡ Some v → slice_get (xs ++ ys) i ≡ Some v
at_left [] ys i v is = cc
at_left (x ∷ xs) ys zero v is = is
at_left (x ∷ xs) ys (suc i) v is = at_left xs ys i v is

-- what stands in the second part stands behind the first
pub record StandsBehind (xs ys : List ℕ) (i v : ℕ) : Type 0 where
  pub place : ℕ
  pub sum : i ≡ length xs + place
  pub found : slice_get ys place ≡ Some v

at_right : (xs ys : List ℕ) (i k v : ℕ) → i ≡ length xs + k → slice_get ys k ≡ Some v
    → slice_get (xs ++ ys) i ≡ Some v
at_right [] ys i k v sum is = let same : i ≡ k = omega arith in ap (slice_get ys) same ∙ is
at_right (x ∷ xs) ys zero k v sum is = absurd (omega arith)
at_right (x ∷ xs) ys (suc i) k v sum is = at_right xs ys i k v (omega arith) is

at_parts : (xs ys : List ℕ) (i v : ℕ) → slice_get (xs ++ ys) i ≡ Some v
    → (slice_get xs i ≡ Some v) ⊎ StandsBehind xs ys i v
at_parts [] ys i v is = inr (record { place = i; sum = omega arith; found = is })
at_parts (x ∷ xs) ys zero v is = inl is
at_parts (x ∷ xs) ys (suc i) v is = elim (at_parts xs ys i v is) [
  | inl left ↦ inl left
  | inr right ↦ inr (record { place = right.place; sum = omega (arith, right.sum); found = right.found })
]

pub no_repeat_turned : (xs ys : List ℕ) → HasNoRepeat (xs ++ ys) → HasNoRepeat (ys ++ xs)
no_repeat_turned xs ys once i j v first second = elim (at_parts ys xs i v first) [
  | inl left ↦ elim (at_parts ys xs j v second) [
    | inl left' ↦
        let one = once (length xs + i) (length xs + j) v (at_right xs ys _ i v refl left)
        (at_right xs ys _ j v refl left') in
        omega arith
    | inr right' ↦
        let one = once (length xs + i) right'.place v (at_right xs ys _ i v refl left)
        (at_left xs ys right'.place v right'.found) in
        absurd (omega (arith, slice_get_within xs right'.place v right'.found))
  ]
  | inr right ↦ elim (at_parts ys xs j v second) [
    | inl left' ↦
        let one = once right.place (length xs + j) v (at_left xs ys right.place v right.found)
        (at_right xs ys _ j v refl left') in
        absurd (omega (arith, slice_get_within xs right.place v right.found))
    | inr right' ↦
        let one = once right.place right'.place v (at_left xs ys right.place v right.found)
        (at_left xs ys right'.place v right'.found) in
        omega (arith, right.sum, right'.sum)
  ]
]
