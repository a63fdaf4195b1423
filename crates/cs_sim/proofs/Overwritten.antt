-- Lists that loops write over, place by place.
use Rattle.std.proofs.Common.{◌≡◌, ℕ, zero, suc, ◌+◌, ◌<◌, ◌≤◌, List, [], ◌∷◌, ◌++◌, cond, length, map, get_or, take, drop, min, Bool, false, refl, sym, ap, ◌∙◌, add-one, arith}
use Rattle.std.specs.Prelude.{slice_set}
use Rattle.std.specs.List.{enumerate_from, zip}
use Rattle.std.proofs.lemmas.List.{map-set, take-append-drop}
use Rattle.cs_cells.specs.Memories.{merged_word}

-- the old list with the first places of the new one
abbrev pub written : {A : Type 0} → List A → ℕ → List A → List A
written new i old = take i new ++ drop i old

-- one place more
pub written_more : {A : Type 0} (new old : List A) (i : ℕ) (d x : A) → length new ≡ length old → i < length old →
    x ≡ get_or new i d → slice_set (written new i old) i x ≡ written new (i + 1) old
written_more new old i d x same within is =
    ap (λ y. slice_set (written new i old) i y) is ∙ at i new old same within ∙ ap (λ n. written new n old) (sym (add-one i))
  where
    at : (i : ℕ) (new old : List _) → length new ≡ length old → i < length old →
        slice_set (written new i old) i (get_or new i d) ≡ written new (suc i) old
    at i [] [] same within = absurd (omega arith)
    at i [] (o ∷ old) same within = absurd (omega arith)
    at i (n ∷ new) [] same within = absurd (omega arith)
    at zero (n ∷ new) (o ∷ old) same within = refl
    at (suc i) (n ∷ new) (o ∷ old) same within = ap (λ rest. n ∷ rest) (at i new old (omega arith) (omega arith))

-- what is not yet written over
pub written_at : {A : Type 0} (new old : List A) (i : ℕ) (d : A) → length new ≡ length old →
    get_or (written new i old) i d ≡ get_or old i d
written_at [] [] zero d same = refl
written_at [] [] (suc i) d same = refl
written_at [] (o ∷ old) i d same = absurd (omega arith)
written_at (n ∷ new) [] i d same = absurd (omega arith)
written_at (n ∷ new) (o ∷ old) zero d same = refl
written_at (n ∷ new) (o ∷ old) (suc i) d same = written_at new old i d (omega arith)

-- all places
pub written_all : {A : Type 0} (new old : List A) (i : ℕ) → length new ≡ length old → length old ≤ i → written new i old ≡ new
written_all [] [] zero same past = refl
written_all [] [] (suc i) same past = refl
written_all [] (o ∷ old) i same past = absurd (omega arith)
written_all (n ∷ new) [] i same past = absurd (omega arith)
written_all (n ∷ new) (o ∷ old) zero same past = absurd (omega arith)
written_all (n ∷ new) (o ∷ old) (suc i) same past = ap (λ rest. n ∷ rest) (written_all new old i (omega arith) (omega arith))

pub length-written : {A : Type 0} (new old : List A) (i : ℕ) → length new ≡ length old → length (written new i old) ≡ length old
length-written [] [] zero same = refl
length-written [] [] (suc i) same = refl
length-written [] (o ∷ old) i same = absurd (omega arith)
length-written (n ∷ new) [] i same = absurd (omega arith)
length-written (n ∷ new) (o ∷ old) zero same = refl
length-written (n ∷ new) (o ∷ old) (suc i) same = ap suc (length-written new old i (omega arith))

-- ---- a map over pairs

pub length-zipped : {A B C : Type 0} (f : A × B → C) (xs : List A) (ys : List B) → length ys ≡ length xs → length (map f (zip xs ys)) ≡ length ys
length-zipped f [] [] same = refl
length-zipped f [] (y ∷ ys) same = absurd (omega arith)
length-zipped f (x ∷ xs) [] same = absurd (omega arith)
length-zipped f (x ∷ xs) (y ∷ ys) same = ap suc (length-zipped f xs ys (omega arith))

pub zipped_at : {A B C : Type 0} (f : A × B → C) (xs : List A) (ys : List B) (i : ℕ) (a : A) (b : B) (c : C) →
    i < length xs → i < length ys → get_or (map f (zip xs ys)) i c ≡ f (get_or xs i a, get_or ys i b)
zipped_at f [] ys i a b c first second = absurd (omega arith)
zipped_at f (x ∷ xs) [] i a b c first second = absurd (omega arith)
zipped_at f (x ∷ xs) (y ∷ ys) zero a b c first second = refl
zipped_at f (x ∷ xs) (y ∷ ys) (suc i) a b c first second = zipped_at f xs ys i a b c (omega arith) (omega arith)

-- the same with each pair's place
pub length-numbered : {A B C : Type 0} (f : ℕ × (A × B) → C) (n : ℕ) (xs : List A) (ys : List B) → length ys ≡ length xs →
    length (map f (enumerate_from n (zip xs ys))) ≡ length ys
length-numbered f n [] [] same = refl
length-numbered f n [] (y ∷ ys) same = absurd (omega arith)
length-numbered f n (x ∷ xs) [] same = absurd (omega arith)
length-numbered f n (x ∷ xs) (y ∷ ys) same = ap suc (length-numbered f (n + 1) xs ys (omega arith))

pub numbered_at : {A B C : Type 0} (f : ℕ × (A × B) → C) (n : ℕ) (xs : List A) (ys : List B) (i k : ℕ) (a : A) (b : B) (c : C) →
    n + i ≡ k → i < length xs → i < length ys → get_or (map f (enumerate_from n (zip xs ys))) i c ≡ f (k, (get_or xs i a, get_or ys i b))
numbered_at f n [] ys i k a b c is first second = absurd (omega arith)
numbered_at f n (x ∷ xs) [] i k a b c is first second = absurd (omega arith)
numbered_at f n (x ∷ xs) (y ∷ ys) zero k a b c is first second = let e : n ≡ k = omega arith in ap (λ k. f (k, (x, y))) e
numbered_at f n (x ∷ xs) (y ∷ ys) (suc i) k a b c is first second =
    numbered_at f (n + 1) xs ys i k a b c (omega arith) (omega arith) (omega arith)

-- ---- merged words

pub length-merged : (old new enable : List Bool) → length (merged_word old new enable) ≡ length old
length-merged [] new enable = refl
length-merged (o ∷ old) [] enable = refl
length-merged (o ∷ old) (n ∷ new) [] = refl
length-merged (o ∷ old) (n ∷ new) (e ∷ enable) = ap suc (length-merged old new enable)

pub merged_at : (old new enable : List Bool) (i : ℕ) → i < length old → i < length new → i < length enable →
    get_or (merged_word old new enable) i false
    ≡ cond (get_or enable i false) (get_or new i false) (get_or old i false)
merged_at [] new enable i a b c = absurd (omega arith)
merged_at (o ∷ old) [] enable i a b c = absurd (omega arith)
merged_at (o ∷ old) (n ∷ new) [] i a b c = absurd (omega arith)
merged_at (o ∷ old) (n ∷ new) (e ∷ enable) zero a b c = refl
merged_at (o ∷ old) (n ∷ new) (e ∷ enable) (suc i) a b c = merged_at old new enable i (omega arith) (omega arith) (omega arith)

-- no further place is merged where one of the lists has ended
pub merged_all : (old new enable : List Bool) (i : ℕ) → min (min (length old) (length new)) (length enable) ≤ i →
    written (merged_word old new enable) i old ≡ merged_word old new enable
merged_all [] new enable zero past = refl
merged_all [] new enable (suc i) past = refl
merged_all (o ∷ old) [] enable i past = take-append-drop i (o ∷ old)
merged_all (o ∷ old) (n ∷ new) [] i past = take-append-drop i (o ∷ old)
merged_all (o ∷ old) (n ∷ new) (e ∷ enable) zero past = absurd (omega arith)
merged_all (o ∷ old) (n ∷ new) (e ∷ enable) (suc i) past =
    ap (λ rest. cond e n o ∷ rest) (merged_all old new enable i (omega arith))

-- ---- a map

pub map_at : {A B : Type 0} (f : A → B) (xs : List A) (i : ℕ) (a : A) (b : B) → i < length xs → get_or (map f xs) i b ≡ f (get_or xs i a)
map_at f [] i a b within = absurd (omega arith)
map_at f (x ∷ xs) zero a b within = refl
map_at f (x ∷ xs) (suc i) a b within = map_at f xs i a b (omega arith)

-- ---- lists that are seen through a function

-- what is not yet written over
pub seen_at : {A B : Type 0} (f : A → B) (vs : List A) (new old : List B) (i : ℕ) (a : A) (b : B) → length new ≡ length old →
    map f vs ≡ written new i old → i < length vs → f (get_or vs i a) ≡ get_or old i b
seen_at f vs new old i a b same is within =
    sym (map_at f vs i a b within) ∙ ap (λ xs. get_or xs i b) is ∙ written_at new old i b same

-- one place more
pub seen_more : {A B : Type 0} (f : A → B) (vs : List A) (new old : List B) (i : ℕ) (x : A) (b : B) → length new ≡ length old →
    map f vs ≡ written new i old → i < length old → f x ≡ get_or new i b → map f (slice_set vs i x) ≡ written new (i + 1) old
seen_more f vs new old i x b same is within read =
    map-set f vs i x ∙ ap (λ xs. slice_set xs i (f x)) is ∙ written_more new old i b (f x) same within read

-- the length at a place
pub lengths_at : {A B : Type 0} (size : A → ℕ) (xs : List A) (ys : List (List B)) (i : ℕ) (x : A) →
    map (λ bits. length bits) ys ≡ map size xs → i < length ys → i < length xs → x ≡ get_or xs i x →
    length (get_or ys i []) ≡ size x
lengths_at size xs ys i x same first second is =
    sym (map_at length ys i [] 0 first) ∙ ap (λ ns. get_or ns i 0) same ∙ map_at size xs i x 0 second ∙ sym (ap size is)
