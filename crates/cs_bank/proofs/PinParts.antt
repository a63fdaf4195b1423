-- The address, the word and the enable bits among a Write's pins.
use Rattle.std.proofs.Common.{◌≡◌, ℕ, zero, suc, ◌+◌, ◌-◌, ◌*◌, List, [], ◌∷◌, ◌++◌, length, map, take, drop, refl, sym, ap, ◌∙◌, arith, append_assoc, length-drop, length-take}
use Rattle.std.proofs.lemmas.List.{drop-map, take-map}

module _ {A B : Type 0} (f : A → B) (a w : ℕ) (xs : List A) where
  pub address_part : take a (map f xs) ≡ map f (take a xs)
  address_part = take-map f a xs

  pub word_part : take w (drop a (map f xs)) ≡ map f (take (a + w - a) (drop a xs))
  word_part =
      let same : w ≡ a + w - a = omega arith in
      ap (take w) (drop-map f a xs)
      ∙ take-map f w (drop a xs)
      ∙ ap (λ n. map f (take n (drop a xs))) same

  pub enable_part : drop w (drop a (map f xs)) ≡ map f (take (length xs - (a + w)) (drop (a + w) xs))
  enable_part =
      ap (drop w) (drop-map f a xs)
      ∙ drop-map f w (drop a xs)
      ∙ ap (map f) (dropped w a xs)
      ∙ ap (map f) (sym (all (drop (a + w) xs) (length xs - (a + w)) (sym (length-drop (a + w) xs))))
    where
      all : (ys : List A) (n : ℕ) → n ≡ length ys → take n ys ≡ ys
      all [] zero same = refl
      all [] (suc n) same = refl
      all (y ∷ ys) zero same = absurd (omega (arith, same))
      all (y ∷ ys) (suc n) same = ap (λ zs. y ∷ zs) (all ys n (omega (arith, same)))

      dropped : (w a : ℕ) (ys : List A) → drop w (drop a ys) ≡ drop (a + w) ys
      dropped w zero ys =
          let same : w ≡ 0 + w = omega arith in ap (drop w) (drop_none ys) ∙ ap (λ n. drop n ys) same
        where
          drop_none : (zs : List A) → drop 0 zs ≡ zs
          drop_none [] = refl
          drop_none (z ∷ zs) = refl
      dropped w (suc a) [] = none w ∙ sym (none (suc a + w))
        where
          none : (n : ℕ) → drop {A = A} n [] ≡ []
          none zero = refl
          none (suc n) = refl
      dropped w (suc a) (y ∷ ys) =
          let same : suc a + w ≡ suc (a + w) = omega arith in
          dropped w a ys ∙ sym (ap (λ n. drop n (y ∷ ys)) same)

-- three pushes and a fourth
pub four_parts : {A : Type 0} (old a b c d : List A) → (((old ++ a) ++ b) ++ c) ++ d ≡ old ++ (((a ++ b) ++ c) ++ d)
four_parts old a b c d =
    ap (λ xs. (xs ++ c) ++ d) (append_assoc old a b)
    ∙ ap (λ xs. xs ++ d) (append_assoc old (a ++ b) c)
    ∙ append_assoc old ((a ++ b) ++ c) d

-- an address that is taken whole has its length
pub address_long : {A : Type 0} (a w : ℕ) (xs : List A) → length xs ≡ a + 2 * w → length (take a xs) ≡ a
address_long a w xs are = let count = length-take a xs in omega (arith, are, count)
