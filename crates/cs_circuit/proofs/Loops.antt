-- Lists that loops make.
use Rattle.std.proofs.Common.{◌≡◌, ℕ, zero, suc, ◌+◌, ◌-◌, ◌/◌, ◌%◌, ◌<◌, ◌≤◌, List, [], ◌∷◌, ◌++◌, map, length, take, drop, get_or, reverse, Bool, refl, sym, ap, ◌∙◌, arith, add-one, append_assoc}
use Rattle.std.specs.Prelude.{flat_map, ◌==◌}
use Rattle.std.specs.List.{enumerate_from}
use Rattle.std.proofs.lemmas.List.{append-nil, drop_more, map-append, take_more, take_all, length-reverse, length-map, get_or-reverse, get_or-map}
use Rattle.cs_modules.specs.Pins.{count_from}
use Rattle.cs_circuit.specs.Cells.{digit}
use Rattle.cs_circuit.specs.MemoryCells.{bits_of_number, some_digits}

-- ---- numbers counted up

counted_more : (from count : ℕ) → count_from from (suc count) ≡ count_from from count ++ (from + count) ∷ []
counted_more from zero = ap (λ n. n ∷ []) (omega arith)
counted_more from (suc count) =
    ap (λ xs. from ∷ xs)
    (counted_more (from + 1) count ∙ ap (λ n. count_from (from + 1) count ++ n ∷ []) (omega arith))

one_counted : (i : ℕ) → count_from 0 (i + 1) ≡ count_from 0 i ++ i ∷ []
one_counted i = ap (count_from 0) (add-one i) ∙ counted_more 0 i ∙ ap (λ n. count_from 0 i ++ n ∷ [])
    (omega arith)

-- what is made for one number more is pushed
pub one_more_behind : {A : Type 0} (f : ℕ → A) (i : ℕ) (front old new : List A) (item : A) → item ≡ f i
    → old ≡ front ++ map f (count_from 0 i) → new ≡ old ++ item ∷ [] → new ≡ front ++ map f
    (count_from 0 (i + 1))
one_more_behind f i front old new item is so_far pushed =
    pushed ∙ ap (λ xs. xs ++ item ∷ []) so_far ∙ ap (λ x. (front ++ map f (count_from 0 i)) ++ x ∷ []) is
    ∙ append_assoc front (map f (count_from 0 i)) (f i ∷ [])
    ∙ ap (λ xs. front ++ xs) (sym (map-append f (count_from 0 i) (i ∷ [])) ∙ ap (map f) (sym (one_counted i)))

flat-append : {A B : Type 0} (f : A → List B) (xs ys : List A) → flat_map f (xs ++ ys) ≡ flat_map f xs
    ++ flat_map f ys
flat-append f [] ys = refl
flat-append f (x ∷ xs) ys = ap (λ rest. f x ++ rest) (flat-append f xs ys) ∙ sym
    (append_assoc (f x) (flat_map f xs) (flat_map f ys))

-- a row for one number more is put behind the others
pub one_more_row : {A : Type 0} (f : ℕ → List A) (i : ℕ) (old new : List A)
    → old ≡ flat_map f (count_from 0 i) → new ≡ old ++ f i → new ≡ flat_map f (count_from 0 (i + 1))
one_more_row f i old new so_far put =
    put ∙ ap (λ xs. xs ++ f i) so_far
    ∙ ap (λ ys. flat_map f (count_from 0 i) ++ ys) (sym (append-nil (f i)))
    ∙ sym (flat-append f (count_from 0 i) (i ∷ [])) ∙ ap (flat_map f) (sym (one_counted i))

-- ---- digits

-- one digit more, from the end of the bits
pub one_more_digit : (bits : List Bool) (place : ℕ) (bit : Bool) (old new : List ℕ) → place < length bits
    → bit ≡ get_or bits (length bits - 1 - place) bit
    → old ≡ take place (reverse (map digit bits)) → new ≡ old ++ digit bit ∷ []
    → new ≡ take (place + 1) (reverse (map digit bits))
one_more_digit bits place bit old new below is so_far pushed =
    let long : length (map digit bits) ≡ length bits = length-map bits digit in
    let long_reverse : length (reverse (map digit bits)) ≡ length bits = length-reverse (map digit bits)
    ∙ long in
    pushed ∙ ap (λ xs. xs ++ digit bit ∷ []) so_far
    ∙ ap (λ d. take place (reverse (map digit bits)) ++ d ∷ [])
    (ap digit is
    ∙ sym (get_or-map digit bits (length bits - 1 - place) bit (digit bit) (omega arith))
    ∙ ap (λ n. get_or (map digit bits) (n - 1 - place) (digit bit)) (sym long)
    ∙ sym (get_or-reverse (map digit bits) place (digit bit) (omega arith)))
    ∙ sym (take_more (reverse (map digit bits)) place (digit bit) (omega arith))

-- some bits have their digits alone
pub all_digits : (bits : List Bool) (place : ℕ) (text : List ℕ) → (length bits ≡ 0 → ⊥) → length bits ≤ place
    → text ≡ take place (reverse (map digit bits)) → text ≡ some_digits (reverse (map digit bits))
all_digits bits place text some past is =
    let long : length (reverse (map digit bits)) ≡ length bits = length-reverse (map digit bits)
    ∙ length-map bits digit in
    is ∙ take_all place (reverse (map digit bits)) (omega arith)
    ∙ not_empty (reverse (map digit bits)) (λ none. some (sym long ∙ none))
  where
    not_empty : (ds : List ℕ) → (length ds ≡ 0 → ⊥) → ds ≡ some_digits ds
    not_empty [] some = absurd (some refl)
    not_empty (d ∷ ds) some = refl

-- one bit more of a number
pub one_more_bit : (place rest : ℕ) (bits whole : List Bool) → place < 32
    → bits ++ bits_of_number (32 - place) rest ≡ whole
    → (bits ++ (rest % 2 == 1) ∷ []) ++ bits_of_number (32 - (place + 1)) (rest / 2) ≡ whole
unfolding bits_of_number
one_more_bit place rest bits whole below so_far =
    let left : 32 - place ≡ suc (32 - (place + 1)) = omega arith in
    append_assoc bits ((rest % 2 == 1) ∷ []) (bits_of_number (32 - (place + 1)) (rest / 2))
    ∙ ap (λ n. bits ++ bits_of_number n rest) (sym left) ∙ so_far

pub all_bits : (place rest number : ℕ) (bits : List Bool) → 32 ≤ place
    → bits ++ bits_of_number (32 - place) rest ≡ bits_of_number 32 number → bits ≡ bits_of_number 32 number
unfolding bits_of_number
all_bits place rest number bits past so_far =
    let none : 32 - place ≡ 0 = omega arith in
    sym (append-nil bits) ∙ ap (λ n. bits ++ bits_of_number n rest) (sym none) ∙ so_far

-- ---- things put behind a list one after the other

pub behind : {A : Type 0} (old mid new : List A) (x : A) (rest : List A) → mid ≡ old ++ x ∷ [] → new ≡ mid
    ++ rest
    → new ≡ old ++ x ∷ rest
behind old mid new x rest put later = later ∙ ap (λ xs. xs ++ rest) put ∙ append_assoc old (x ∷ []) rest

-- the thing is known by another name
pub behind_as : {A : Type 0} (old mid new : List A) (x y : A) (rest : List A) → x ≡ y → mid ≡ old ++ x ∷ []
    → new ≡ mid ++ rest → new ≡ old ++ y ∷ rest
behind_as old mid new x y rest same put later = behind old mid new y rest
    (put ∙ ap (λ z. old ++ z ∷ []) same) later

-- ---- things made in turn

-- one thing more, where those that are left come after those that are made
pub one_more_listed : {A B : Type 0} (f : ℕ → A → B) (i : ℕ) (x : A) (y : B) (xs : List A)
    (old new whole : List B)
    → i < length xs → x ≡ get_or xs i x → y ≡ f i x
    → old ++ map (λ e. f e.0 e.1) (enumerate_from i (drop i xs)) ≡ whole → new ≡ old ++ y ∷ []
    → new ++ map (λ e. f e.0 e.1) (enumerate_from (i + 1) (drop (i + 1) xs)) ≡ whole
one_more_listed f i x y xs old new whole below is made so_far pushed =
    let rest = map (λ e. f e.0 e.1) (enumerate_from (i + 1) (drop (i + 1) xs)) in
    ap (λ ys. ys ++ rest) pushed ∙ append_assoc old (y ∷ []) rest
    ∙ ap (λ z. old ++ z ∷ rest) (made ∙ ap (f i) is)
    ∙ sym (ap (λ ys. old ++ map (λ e. f e.0 e.1) (enumerate_from i ys)) (drop_more xs i x below))
    ∙ so_far
