-- Bits as words of one width.
use Rattle.std.proofs.Common.{◌≡◌, ◌∙◌, ℕ, zero, suc, ◌+◌, ◌-◌, ◌*◌, ◌<◌, ◌≤◌, List, [], ◌∷◌, ◌++◌, Bool, ap, ap₂, arith, drop, flat_map, get_or, length, map, refl, replicate, set, sym, take}
use Rattle.std.specs.Prelude.{slice_range, slice_set}
use Rattle.std.specs.List.{enumerate_from, sum}
use Rattle.std.proofs.lemmas.List.{drop-drop, drop-set-add, drop-set-lt, length-drop, length-map, length-take, length-take-le, set-get_or, set_past, take-append-drop, take-set-le}
use Rattle.std.proofs.lemmas.List.Sums.{sum_by-cons}
use Rattle.std.proofs.Math.Seq.{take-set-lt}
use Rattle.cs_cells.specs.Memories.{Words}
use Rattle.cs_modules.specs.Pins.{count_from}
use Rattle.cs_modules.specs.Words.{image_words, words_in}

-- ---- how many, how wide

pub length-words_in : (n w : ℕ) (bits : List Bool) → length (words_in n w bits) ≡ n
length-words_in zero w bits = refl
length-words_in (suc n) w bits = ap suc (length-words_in n w (drop w bits))

-- what is left has the bits of the other words
left : (n w : ℕ) (bits : List Bool) → length bits ≡ suc n * w → length (drop w bits) ≡ n * w
left n w bits long =
    let whole : suc n * w ≡ w + n * w = omega arith in
    length-drop w bits ∙ omega (arith, long, whole)

first_wide : (n w : ℕ) (bits : List Bool) → length bits ≡ suc n * w → length (take w bits) ≡ w
first_wide n w bits long =
    let whole : suc n * w ≡ w + n * w = omega arith in
    length-take-le w bits (omega (arith, long, whole))

bit_count : (n w : ℕ) (bits : List Bool) → length bits ≡ n * w → sum (map length (words_in n w bits)) ≡ length bits
bit_count zero w bits long = omega arith
bit_count (suc n) w bits long =
    let whole : suc n * w ≡ w + n * w = omega arith in
    sum_by-cons (λ k. k) (length (take w bits)) (map length (words_in n w (drop w bits)))
    ∙ ap₂ (λ a b. a + b) (first_wide n w bits long) (bit_count n w (drop w bits) (left n w bits long) ∙ left n w bits long)
    ∙ sym (long ∙ whole)

pub all_bits : (n w : ℕ) (bits : List Bool) → length bits ≡ n * w → flat_map (λ word. word) (words_in n w bits) ≡ bits
all_bits zero w [] long = refl
all_bits zero w (b ∷ bits) long = absurd (omega arith)
all_bits (suc n) w bits long =
    ap (λ rest. take w bits ++ rest) (all_bits n w (drop w bits) (left n w bits long)) ∙ take-append-drop w bits

-- ---- one word

pub word_there : (n w i : ℕ) (bits : List Bool) → i < n → get_or (words_in n w bits) i [] ≡ slice_range bits (i * w) (i * w + w)
word_there zero w i bits within = absurd (omega arith)
word_there (suc n) w zero bits within =
    let wide : w ≡ 0 * w + w - 0 * w = omega arith in
    let start : 0 ≡ 0 * w = omega arith in
    ap₂ (λ k s. take k (drop s bits)) wide start
word_there (suc n) w (suc i) bits within =
    let wide : i * w + w - i * w ≡ suc i * w + w - suc i * w = omega arith in
    let start : w + i * w ≡ suc i * w = omega arith in
    word_there n w i (drop w bits) (omega arith)
    ∙ ap (λ xs. take (i * w + w - i * w) xs) (drop-drop (i * w) w bits)
    ∙ ap₂ (λ k s. take k (drop s bits)) wide start

pub word_missing : (n w i : ℕ) (bits : List Bool) → n ≤ i → get_or (words_in n w bits) i [] ≡ []
word_missing zero w i bits past = refl
word_missing (suc n) w zero bits past = absurd (omega arith)
word_missing (suc n) w (suc i) bits past = word_missing n w i (drop w bits) (omega arith)

-- ---- a bit that is put

pub bit_put : (n w i j : ℕ) (bits : List Bool) (b : Bool) → i < n → j < w
    → words_in n w (set bits (i * w + j) b) ≡ slice_set (words_in n w bits) i (slice_set (get_or (words_in n w bits) i []) j b)
bit_put zero w i j bits b within narrow = absurd (omega arith)
bit_put (suc n) w zero j bits b within narrow =
    let place : 0 * w + j ≡ j = omega arith in
    ap (λ k. words_in (suc n) w (set bits k b)) place
    ∙ ap₂ (λ x rest. x ∷ words_in n w rest) (take-set-lt w bits j b narrow) (drop-set-lt w bits j b narrow)
bit_put (suc n) w (suc i) j bits b within narrow =
    let place : suc i * w + j ≡ w + (i * w + j) = omega arith in
    ap (λ k. words_in (suc n) w (set bits k b)) place
    ∙ ap₂ (λ x rest. x ∷ words_in n w rest) (take-set-le w bits (w + (i * w + j)) b (omega arith))
    (drop-set-add w bits (i * w + j) b)
    ∙ ap (λ rest. take w bits ∷ rest) (bit_put n w i j (drop w bits) b (omega arith) narrow)

-- no word is wider
narrow : (n w i : ℕ) (bits : List Bool) → length (get_or (words_in n w bits) i []) ≤ w
narrow zero w i bits = omega arith
narrow (suc n) w zero bits = omega (arith, length-take w bits)
narrow (suc n) w (suc i) bits = narrow n w i (drop w bits)

-- nothing is put past the words, or past the end of one
pub past_the_words : (n w i j : ℕ) (bits : List Bool) (b : Bool) → n ≤ i
    → words_in n w bits ≡ slice_set (words_in n w bits) i (slice_set (get_or (words_in n w bits) i []) j b)
past_the_words n w i j bits b past =
    let words = words_in n w bits in
    sym (set_past words i (slice_set (get_or words i []) j b) (omega (arith, length-words_in n w bits)))

pub past_the_word : (n w i j : ℕ) (bits : List Bool) (b : Bool) → w ≤ j
    → words_in n w bits ≡ slice_set (words_in n w bits) i (slice_set (get_or (words_in n w bits) i []) j b)
past_the_word n w i j bits b past =
    let words = words_in n w bits in
    sym (ap (set words i) (set_past (get_or words i []) j b (omega (arith, narrow n w i bits))) ∙ set-get_or words i [])

-- ---- other bits

-- an image of these words has as many bits
pub image_long : (n w : ℕ) (bits image : List Bool) (words : Words) → words_in n w bits ≡ words → length bits ≡ n * w
    → length image ≡ sum (map length words) → length image ≡ n * w
image_long n w bits image words are long same =
    same ∙ sym (ap (λ (ws : Words). sum (map length ws)) are) ∙ bit_count n w bits long ∙ long

pub cut_alike : (n w : ℕ) (bits image : List Bool) → length bits ≡ n * w → length image ≡ n * w
    → words_in n w image ≡ image_words (words_in n w bits) image
cut_alike n w bits image long same =
    let start : 0 ≡ 0 * w = omega arith in
    ap (λ s. words_in n w (drop s image)) start ∙ from n 0 bits long
  where
    from : (m k : ℕ) (bits : List Bool) → length bits ≡ m * w
        → words_in m w (drop (k * w) image)
        ≡ map (λ e. slice_range image (e.0 * length e.1) (e.0 * length e.1 + length e.1)) (enumerate_from k (words_in m w bits))
    from zero k bits long = refl
    from (suc m) k bits long =
        let wide : w ≡ k * w + w - k * w = omega arith in
        let next : k * w + w ≡ (k + 1) * w = omega arith in
        ap₂ (λ x rest. x ∷ rest)
        (ap (λ l. take l (drop (k * w) image)) wide
        ∙ ap (λ l. slice_range image (k * l) (k * l + l)) (sym (first_wide m w bits long)))
        (ap (words_in m w) (drop-drop w (k * w) image ∙ ap (λ s. drop s image) next)
        ∙ from m (k + 1) (drop w bits) (left m w bits long))

-- ---- bits by number

-- so many bits by number, the first and the others
counted_split : (f : ℕ → Bool) (from w m : ℕ)
    → (take w (map f (count_from from (w + m))) ≡ map f (count_from from w))
    × (drop w (map f (count_from from (w + m))) ≡ map f (count_from (from + w) m))
counted_split f from zero m =
    let all : 0 + m ≡ m = omega arith in
    let start : from ≡ from + 0 = omega arith in
    (refl, ap₂ (λ s l. map f (count_from s l)) start all)
counted_split f from (suc w) m =
    let split = counted_split f (from + 1) w m in
    let whole : suc w + m ≡ suc (w + m) = omega arith in
    let next : from + 1 + w ≡ from + suc w = omega arith in (
      ap (λ l. take (suc w) (map f (count_from from l))) whole ∙ ap (λ xs. f from ∷ xs) split.0,
      ap (λ l. drop (suc w) (map f (count_from from l))) whole ∙ split.1 ∙ ap (λ s. map f (count_from s m)) next,
    )

shifted : (f : ℕ → Bool) (s t n : ℕ) → map f (count_from (s + t) n) ≡ map (λ j. f (s + j)) (count_from t n)
shifted f s t zero = refl
shifted f s t (suc n) =
    let next : s + t + 1 ≡ s + (t + 1) = omega arith in
    ap (λ xs. f (s + t) ∷ xs) (ap (λ m. map f (count_from m n)) next ∙ shifted f s (t + 1) n)

pub counted_words : (f : ℕ → Bool) (n w : ℕ)
    → words_in n w (map f (count_from 0 (n * w))) ≡ map (λ i. map (λ j. f (i * w + j)) (count_from 0 w)) (count_from 0 n)
counted_words f n w =
    let start : 0 ≡ 0 * w = omega arith in
    ap (λ s. words_in n w (map f (count_from s (n * w)))) start ∙ from n 0
  where
    from : (m k : ℕ) → words_in m w (map f (count_from (k * w) (m * w)))
        ≡ map (λ i. map (λ j. f (i * w + j)) (count_from 0 w)) (count_from k m)
    from zero k = refl
    from (suc m) k =
        let whole : suc m * w ≡ w + m * w = omega arith in
        let next : k * w + w ≡ (k + 1) * w = omega arith in
        let start : k * w ≡ k * w + 0 = omega arith in
        let split = counted_split f (k * w) w (m * w) in
        ap (λ l. words_in (suc m) w (map f (count_from (k * w) l))) whole
        ∙ ap₂ (λ x rest. x ∷ words_in m w rest)
        (split.0 ∙ ap (λ s. map f (count_from s w)) start ∙ shifted f (k * w) 0 w)
        (split.1 ∙ ap (λ s. map f (count_from s (m * w))) next)
        ∙ ap (λ rest. map (λ j. f (k * w + j)) (count_from 0 w) ∷ rest) (from m (k + 1))

-- a loop made them all
pub all_counted : (f : ℕ → Bool) (bits : List Bool) (i a b n w : ℕ) → bits ≡ map f (count_from 0 i) → i ≤ a * b → a * b ≤ i
    → a ≡ n → b ≡ w → bits ≡ map f (count_from 0 (n * w))
all_counted f bits i a b n w are low high rows columns =
    let whole : i ≡ a * b = omega arith in
    are ∙ ap (λ k. map f (count_from 0 k)) (whole ∙ ap₂ (λ x y. x * y) rows columns)

pub counted_long : (f : ℕ → Bool) (bits : List Bool) (k : ℕ) → bits ≡ map f (count_from 0 k) → length bits ≡ k
counted_long f bits k are = ap length are ∙ length-map (count_from 0 k) f ∙ length-counts 0 k
  where
    length-counts : (from count : ℕ) → length (count_from from count) ≡ count
    length-counts from zero = refl
    length-counts from (suc count) = ap suc (length-counts (from + 1) count)
