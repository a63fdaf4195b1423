-- The bank of context k starts as the memory does in context k.
use Rattle.std.proofs.Common.{◌≡◌, ℕ, zero, suc, ◌+◌, ◌-◌, ◌*◌, ◌^◌, ◌<◌, ◌≤◌, Bool, false, List, [], ◌∷◌, ◌++◌, length, get_or, take, drop, replicate, refl, sym, ap, ap₂, ◌∙◌, arith, length-append, length-drop, mul-le-mul_right}
use Rattle.std.specs.Prelude.{flat_map, min, slice_get, slice_index_or, Option, Some, None}
use Rattle.std.specs.List.{AllByRecursion, range_with_len}
use Rattle.std.proofs.lemmas.List.{length-replicate}
use Rattle.std.proofs.lemmas.Option.{none-some, same_Some, slice_get-get_or}
use Rattle.cs_graph.specs.declared.memory.Memory.{Memory}
use Rattle.cs_graph.specs.Run.{start_words, words_from}
use Rattle.cs_net.specs.Contexts.{Image}
use Rattle.cs_bank.specs.Bank.{FitsMemory, IsWhole, banked_start}
use Rattle.cs_bank.specs.Starts.{filled, memory_in, start_in, with_entries}
use Rattle.cs_bank.proofs.BankWords.{bank_words}

-- ---- entries

abbrev pub entry_at : List (Option (List Image)) → ℕ → Option (List Image)
entry_at entries i = get_or entries i None

pub get_entry : (entries : List (Option (List Image))) (i : ℕ) → i < length entries
    → slice_get entries i ≡ Some (entry_at entries i)
get_entry entries i h = slice_get-get_or entries i None h

pub get_with_entry : (f : Memory → Option (List Image) → Memory) (ms : List Memory)
    (entries : List (Option (List Image)))
    (i : ℕ) (m : Memory) → length entries ≡ length ms → slice_get ms i ≡ Some m
    → slice_get (with_entries f ms entries) i ≡ Some (f m (entry_at entries i))
get_with_entry f [] entries i m same found = absurd (none-some m found)
get_with_entry f (n ∷ ms) [] i m same found = absurd (omega (arith, same))
get_with_entry f (n ∷ ms) (e ∷ entries) zero m same found = ap (λ x. Some (f x e)) (same_Some n m found)
get_with_entry f (n ∷ ms) (e ∷ entries) (suc i) m same found = get_with_entry f ms entries i m (omega (arith, same))
    found

pub get_without : (f : Memory → Option (List Image) → Memory) (ms : List Memory) (entries : List (Option (List Image)))
    (i : ℕ) → slice_get ms i ≡ None → slice_get (with_entries f ms entries) i ≡ None
get_without f [] entries i none = refl
get_without f (n ∷ ms) [] i none = refl
get_without f (n ∷ ms) (e ∷ entries) zero none = absurd (none-some n (sym none))
get_without f (n ∷ ms) (e ∷ entries) (suc i) none = get_without f ms entries i none

-- ---- lengths

length-filled : (n : ℕ) (image : Image) → length image ≤ n → length (filled n image) ≡ n
length-filled n image h =
    length-append image (replicate (n - length image) false)
    ∙ ap (λ m. length image + m) (length-replicate (n - length image) false)
    ∙ omega (arith, h)

image_within : (n : ℕ) (images : List Image) (k : ℕ) → AllByRecursion (λ image. length image ≡ n) images
    → length (slice_index_or images k []) ≤ n
image_within n [] k are = omega arith
image_within n (image ∷ images) zero are = let is = are.0 in omega (arith, is)
image_within n (image ∷ images) (suc k) are = image_within n images k are.1

fewer_words : (size words width : ℕ) → min size words * width ≤ words * width
fewer_words size words width = mul-le-mul_right width (min_below size words)
  where
    min_below : (a b : ℕ) → min a b ≤ b
    min_below a b = omega arith

pub length-start : (c k : ℕ) (m : Memory) (entry : Option (List Image)) → IsWhole m → length m.start ≡ m.words * m.width
    → FitsMemory c m entry → length (start_in k m entry) ≡ m.words * m.width
length-start c k m None whole long fits = long
length-start c k m (Some images) whole long fits =
    let within = image_within (min m.size (2 ^ m.abits) * m.width) images k fits.1 in
    let few = fewer_words m.size (2 ^ m.abits) m.width in
    let all = ap (λ n. n * m.width) whole.words in
    length-filled (m.words * m.width) (slice_index_or images k []) (omega (arith, within, few, all))

-- ---- words

pub drop_none : {A : Type 0} (zs : List A) → drop 0 zs ≡ zs
drop_none [] = refl
drop_none (z ∷ zs) = refl

pub take_none : {A : Type 0} (zs : List A) → take 0 zs ≡ []
take_none [] = refl
take_none (z ∷ zs) = refl

pub take_front : {A : Type 0} (xs ys : List A) (n : ℕ) → n ≡ length xs → take n (xs ++ ys) ≡ xs
take_front [] ys n h = rw h (take_none ys)
take_front (x ∷ xs) ys n h = rw h (ap (λ zs. x ∷ zs) (take_front xs ys (length xs) refl))

pub drop_front : {A : Type 0} (xs ys : List A) (n : ℕ) → n ≡ length xs → drop n (xs ++ ys) ≡ ys
drop_front [] ys n h = rw h (drop_none ys)
drop_front (x ∷ xs) ys n h = rw h (drop_front xs ys (length xs) refl)

drop_past : {A : Type 0} (xs ys : List A) (n m : ℕ) → n ≡ length xs + m → drop n (xs ++ ys) ≡ drop m ys
drop_past [] ys n m h = let same : n ≡ m = omega arith in ap (λ i. drop i ys) same
drop_past (x ∷ xs) ys zero m h = absurd (omega arith)
drop_past (x ∷ xs) ys (suc n) m h = drop_past xs ys n m (omega arith)

take_within : {A : Type 0} (n : ℕ) (xs ys : List A) → n ≤ length xs → take n (xs ++ ys) ≡ take n xs
take_within zero xs ys h = take_none (xs ++ ys) ∙ sym (take_none xs)
take_within (suc n) [] ys h = absurd (omega arith)
take_within (suc n) (x ∷ xs) ys h = ap (λ zs. x ∷ zs) (take_within n xs ys (omega arith))

drop_within : {A : Type 0} (n : ℕ) (xs ys : List A) → n ≤ length xs → drop n (xs ++ ys) ≡ drop n xs ++ ys
drop_within zero xs ys h = drop_none (xs ++ ys) ∙ ap (λ zs. zs ++ ys) (sym (drop_none xs))
drop_within (suc n) [] ys h = absurd (omega arith)
drop_within (suc n) (x ∷ xs) ys h = drop_within n xs ys (omega arith)

length-words : (count width : ℕ) (start : List Bool) → length (words_from count width start) ≡ count
length-words zero width start = refl
length-words (suc count) width start = ap suc (length-words count width (drop width start))

words_over : (n more width : ℕ) (s rest : List Bool) → length s ≡ n * width
    → words_from (n + more) width (s ++ rest) ≡ words_from n width s ++ words_from more width rest
words_over zero more width [] rest h = let place : 0 + more ≡ more = omega arith in ap (λ m. words_from m width rest)
    place
words_over zero more width (x ∷ s) rest h = absurd (omega arith)
words_over (suc n) more width s rest h =
    let place : suc n + more ≡ suc (n + more) = omega arith in
    let enough : width ≤ length s = omega arith in
    ap (λ m. words_from m width (s ++ rest)) place
    ∙ ap₂ (λ x xs. x ∷ xs) (take_within width s rest enough)
    (ap (words_from (n + more) width) (drop_within width s rest enough)
    ∙ words_over n more width (drop width s) rest (omega (arith, length-drop width s)))

bank_of_starts : (f : ℕ → List Bool) (n width : ℕ) → ((k : ℕ) → length (f k) ≡ n * width) → (c a k : ℕ) → k < c
    → bank_words n k (words_from (c * n) width (flat_map f (range_with_len a c))) ≡ words_from n width (f (a + k))
bank_of_starts f n width long zero a k below = absurd (omega arith)
bank_of_starts f n width long (suc c) a zero below =
    let place : suc c * n ≡ n + c * n = omega arith in
    let none : 0 * n ≡ 0 = omega arith in
    let here : a ≡ a + 0 = omega arith in
    let rest = flat_map f (range_with_len (a + 1) c) in
    ap (λ m. bank_words n 0 (words_from m width (f a ++ rest))) place
    ∙ ap (bank_words n 0) (words_over n (c * n) width (f a) rest (long a))
    ∙ ap (λ m. take n (drop m (words_from n width (f a) ++ words_from (c * n) width rest))) none
    ∙ ap (take n) (drop_none (words_from n width (f a) ++ words_from (c * n) width rest))
    ∙ take_front (words_from n width (f a)) (words_from (c * n) width rest) n (sym (length-words n width (f a)))
    ∙ ap (λ i. words_from n width (f i)) here
bank_of_starts f n width long (suc c) a (suc k) below =
    let place : suc c * n ≡ n + c * n = omega arith in
    let next : (a + 1) + k ≡ a + suc k = omega arith in
    let many = length-words n width (f a) in
    let rest = flat_map f (range_with_len (a + 1) c) in
    ap (λ m. bank_words n (suc k) (words_from m width (f a ++ rest))) place
    ∙ ap (bank_words n (suc k)) (words_over n (c * n) width (f a) rest (long a))
    ∙ ap (take n) (drop_past (words_from n width (f a)) (words_from (c * n) width rest) (suc k * n) (k * n)
    (omega (arith, many)))
    ∙ bank_of_starts f n width long c (a + 1) k (omega arith)
    ∙ ap (λ i. words_from n width (f i)) next

pub bank_start : (c k : ℕ) (m : Memory) (entry : Option (List Image)) → IsWhole m → length m.start ≡ m.words * m.width
    → FitsMemory c m entry → k < c
    → bank_words m.words k (words_from (c * m.words) m.width (banked_start c m entry)) ≡ start_words
    (Some (memory_in k m entry))
bank_start c k m entry whole long fits below =
    let here : 0 + k ≡ k = omega arith in
    bank_of_starts (λ j. start_in j m entry) m.words m.width (λ j. length-start c j m entry whole long fits) c 0 k below
    ∙ ap (λ j. words_from m.words m.width (start_in j m entry)) here

pub bank_none : (size k : ℕ) → bank_words size k [] ≡ []
bank_none size k = ap (take size) (drop_empty (k * size)) ∙ take_empty size
  where
    drop_empty : (n : ℕ) → drop {A = List Bool} n [] ≡ []
    drop_empty zero = refl
    drop_empty (suc n) = refl

    take_empty : (n : ℕ) → take {A = List Bool} n [] ≡ []
    take_empty zero = refl
    take_empty (suc n) = refl
