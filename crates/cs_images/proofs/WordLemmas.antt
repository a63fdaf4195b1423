-- An image cut into words: word i has the digits from i times the width on.
use Rattle.std.proofs.Common.{◌≡◌, ℕ, zero, suc, ◌+◌, ◌-◌, ◌*◌, ◌≤◌, [], ◌∷◌, length, map, take, drop, Bool, refl, ap, ap₂, ◌∙◌, arith}
use Rattle.std.specs.Prelude.{slice_range}
use Rattle.std.specs.List.{AllByRecursion, enumerate_from}
use Rattle.std.proofs.lemmas.List.{drop-map, take-map}
use Rattle.std.proofs.lemmas.List.Sums.{sum_by-cons}
use Rattle.cs_json.specs.declared.document.Datum.{Datum}
use Rattle.cs_cells.specs.Memories.{Words}
use Rattle.cs_modules.specs.Digits.{digits_of, is_one}
use Rattle.cs_modules.specs.Pins.{count_from}
use Rattle.cs_modules.specs.Words.{image_words}
use Rattle.cs_images.specs.Images.{bit_count, image_bits, words_of_digits}

-- ---- parts of numbers that are counted up

drop-counts : (a from n : ℕ) → drop a (count_from from n) ≡ count_from (from + a) (n - a)
drop-counts zero from n =
    let start : from ≡ from + 0 = omega arith in
    let all : n ≡ n - 0 = omega arith in
    ap₂ count_from start all
drop-counts (suc a) from zero =
    let none : 0 ≡ 0 - suc a = omega arith in
    ap (count_from (from + suc a)) none
drop-counts (suc a) from (suc n) =
    let start : from + 1 + a ≡ from + suc a = omega arith in
    let left : n - a ≡ suc n - suc a = omega arith in
    drop-counts a (from + 1) n ∙ ap₂ count_from start left

take-counts : (b from n : ℕ) → b ≤ n → take b (count_from from n) ≡ count_from from b
take-counts zero from n within = refl
take-counts (suc b) from zero within = absurd (omega arith)
take-counts (suc b) from (suc n) within = ap (λ xs. from ∷ xs) (take-counts b (from + 1) n (omega arith))

shifted : (f : ℕ → Bool) (s t n : ℕ) → map f (count_from (s + t) n) ≡ map (λ j. f (s + j)) (count_from t n)
shifted f s t zero = refl
shifted f s t (suc n) =
    let next : s + t + 1 ≡ s + (t + 1) = omega arith in
    ap (λ xs. f (s + t) ∷ xs) (ap (λ m. map f (count_from m n)) next ∙ shifted f s (t + 1) n)

-- the part of so many bits from a place on
part_from : (f : ℕ → Bool) (n a w : ℕ) → a + w ≤ n
    → slice_range (map f (count_from 0 n)) a (a + w) ≡ map (λ j. f (a + j)) (count_from 0 w)
part_from f n a w within =
    ap (λ k. take k (drop a (map f (count_from 0 n)))) wide
    ∙ ap (take w) (drop-map f a (count_from 0 n))
    ∙ take-map f w (drop a (count_from 0 n))
    ∙ ap (λ xs. map f (take w xs)) (drop-counts a 0 n)
    ∙ ap (map f) (take-counts w (0 + a) (n - a) (omega arith))
    ∙ ap (λ k. map f (count_from k w)) start
    ∙ shifted f a 0 w
  where
    wide : a + w - a ≡ w
    wide = omega arith

    start : 0 + a ≡ a + 0
    start = omega arith

-- ---- word by word

fits : (place whole long width rest n : ℕ) → place + whole ≤ n → whole ≡ long + rest → long ≡ width → place + width ≤ n
fits place whole long width rest n within split same = omega arith

fits_next : (k whole long width rest n : ℕ) → k * width + whole ≤ n → whole ≡ long + rest → long ≡ width
    → (k + 1) * width + rest ≤ n
fits_next k whole long width rest n within split same =
    let next : (k + 1) * width ≡ k * width + width = omega arith in
    omega arith

words_from : (f : ℕ → Bool) (width n : ℕ) (words : Words) (k : ℕ) → AllByRecursion (λ word. length word ≡ width) words
    → k * width + bit_count words ≤ n
    → map (λ e. slice_range (map f (count_from 0 n)) (e.0 * length e.1) (e.0 * length e.1 + length e.1))
    (enumerate_from k words)
    ≡ map (λ i. map (λ j. f (i * width + j)) (count_from 0 width)) (count_from k (length words))
words_from f width n [] k alike within = refl
words_from f width n (word ∷ words) k (here, alike) within =
    let split : bit_count (word ∷ words) ≡ length word + bit_count words =
    sum_by-cons (λ n. n) (length word) (map length words) in
    ap₂ (λ first rest. first ∷ rest)
    (ap (λ w. slice_range (map f (count_from 0 n)) (k * w) (k * w + w)) here
    ∙ part_from f n (k * width) width
    (fits (k * width) (bit_count (word ∷ words)) (length word) width (bit_count words) n within split here))
    (words_from f width n words (k + 1) alike
    (fits_next k (bit_count (word ∷ words)) (length word) width (bit_count words) n within split here))

pub words_of_an_image : (words : Words) (width : ℕ) (text : Datum) → AllByRecursion (λ word. length word ≡ width) words
    → image_words words (image_bits words text) ≡ words_of_digits (digits_of text) width (length words)
words_of_an_image words width text alike =
    words_from (is_one (digits_of text)) width (bit_count words) words 0 alike (omega arith)
