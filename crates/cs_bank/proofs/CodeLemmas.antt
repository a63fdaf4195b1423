-- Steps of the loops that bank a machine.
use Rattle.std.proofs.Common.{◌≡◌, ℕ, zero, suc, ◌+◌, ◌-◌, ◌*◌, ◌/◌, ◌%◌, ◌<◌, Bool, true, false, List, [], ◌∷◌, ◌++◌, length, drop, refl, sym, ap, ap₂, ◌∙◌, arith, append_assoc}
use Rattle.std.specs.Prelude.{flat_map, slice_get, Option, Some, ◌==◌}
use Rattle.std.specs.List.{range_with_len, sum_by}
use Rattle.std.proofs.lemmas.Bool.Decides.{nat_tests}
use Rattle.std.proofs.lemmas.List.Sums.{sum_by-cons}
use Rattle.std.proofs.lemmas.Nat.{mod-mul-add}
use Rattle.cs_graph.specs.declared.memory.Memory.{Memory}
use Rattle.cs_graph.specs.Past.{context_of}
use Rattle.cs_net.specs.Contexts.{Image}
use Rattle.cs_bank.specs.Bank.{banked_memory, banked_start}
use Rattle.cs_bank.specs.BankFaults.{memory_bits}
use Rattle.cs_bank.specs.ContextBits.{digit, digits}
use Rattle.cs_bank.specs.Guards.{test_count}
use Rattle.cs_bank.specs.Starts.{start_in, with_entries}
use Rattle.cs_bank.proofs.Lists.{append_none, drop_at}
use Rattle.cs_bank.proofs.SizeTests.{length-digits}

-- ---- digits

pub digit_more : (j k n : ℕ) → k < j → digit (j - k) n ≡ digit (j - (k + 1)) (n / 2)
digit_more j k n low =
    let left : j - k ≡ suc (j - (k + 1)) = omega (arith, low) in ap (λ m. digit m n) left

-- within one turn the context is counted back
pub context_small : (c i : ℕ) → i < c → c - 1 - i ≡ context_of c i
context_small c i low =
    let none : 0 * c + i ≡ i = omega arith in
    let small : i % c ≡ i = ap (λ m. m % c) (sym none) ∙ mod-mul-add 0 c i low in
    omega (arith, small)

equal_number : (a b : ℕ) → a ≡ b → (a == b) ≡ true
equal_number a b h = grind (arith, nat_tests)

other_number : (a b : ℕ) → (a ≡ b → ⊥) → (a == b) ≡ false
other_number a b h = grind (arith, nat_tests)

pub test_count_found : (b place rest whole : ℕ) → place < b → rest % 2 ≡ 1
    → test_count (digits (b - place) rest) ≡ whole → b - place ≡ whole
test_count_found b place rest whole low one so_far =
    let left : b - place ≡ suc (b - (place + 1)) = omega (arith, low) in
    let long = length-digits (b - (place + 1)) (rest / 2) in
    left
    ∙ ap suc (sym long)
    ∙ ap (λ d. test_count (d ∷ digits (b - (place + 1)) (rest / 2))) (sym (equal_number (rest % 2) 1 one))
    ∙ ap (λ n. test_count (digits n rest)) (sym left)
    ∙ so_far

pub test_count_goes_on : (b place rest whole : ℕ) → place < b → (rest % 2 ≡ 1 → ⊥)
    → test_count (digits (b - place) rest) ≡ whole → test_count (digits (b - (place + 1)) (rest / 2)) ≡ whole
test_count_goes_on b place rest whole low none so_far =
    let left : b - place ≡ suc (b - (place + 1)) = omega (arith, low) in
    ap (λ d. test_count (d ∷ digits (b - (place + 1)) (rest / 2))) (sym (other_number (rest % 2) 1 none))
    ∙ ap (λ n. test_count (digits n rest)) (sym left)
    ∙ so_far

-- ---- starts

flat_more : {B : Type 0} (f : ℕ → List B) (a n : ℕ)
    → flat_map f (range_with_len a (n + 1)) ≡ flat_map f (range_with_len a n) ++ f (a + n)
flat_more f a zero = let here : a ≡ a + 0 = omega arith in append_none (f a) ∙ ap f here
flat_more f a (suc n) =
    let more : suc n + 1 ≡ suc (n + 1) = omega arith in
    let next : (a + 1) + n ≡ a + suc n = omega arith in
    ap (λ m. flat_map f (range_with_len a m)) more
    ∙ ap (λ ys. f a ++ ys) (flat_more f (a + 1) n)
    ∙ sym (append_assoc (f a) (flat_map f (range_with_len (a + 1) n)) (f ((a + 1) + n)))
    ∙ ap (λ j. (f a ++ flat_map f (range_with_len (a + 1) n)) ++ f j) next

pub start_more : (k : ℕ) (m : Memory) (entry : Option (List Image)) (items items' : List Bool)
    → items ≡ banked_start k m entry → items' ≡ items ++ start_in k m entry → items' ≡ banked_start (k + 1) m entry
start_more k m entry items items' so_far pushed =
    let here : 0 + k ≡ k = omega arith in
    pushed
    ∙ ap₂ (λ ys j. ys ++ start_in j m entry) so_far (sym here)
    ∙ sym (flat_more (λ j. start_in j m entry) 0 k)

pub entries_more : (f : Memory → Option (List Image) → Memory) (ms : List Memory) (es : List (Option (List Image)))
    (i : ℕ) (m : Memory) (e : Option (List Image)) (items items' : List Memory) (whole : List Memory)
    → slice_get ms i ≡ Some m → slice_get es i ≡ Some e
    → items ++ with_entries f (drop i ms) (drop i es) ≡ whole → items' ≡ items ++ f m e ∷ []
    → items' ++ with_entries f (drop (i + 1) ms) (drop (i + 1) es) ≡ whole
entries_more f ms es i m e items items' whole found entry so_far pushed =
    ap (λ ys. ys ++ with_entries f (drop (i + 1) ms) (drop (i + 1) es)) pushed
    ∙ append_assoc items (f m e ∷ []) (with_entries f (drop (i + 1) ms) (drop (i + 1) es))
    ∙ ap₂ (λ xs ys. items ++ with_entries f xs ys) (sym (drop_at ms i m found)) (sym (drop_at es i e entry))
    ∙ so_far

-- the bits of banked memories
pub banked_bits : (c : ℕ) (ms : List Memory) (es : List (Option (List Image))) → length es ≡ length ms
    → memory_bits (with_entries (banked_memory c) ms es) ≡ sum_by (λ (m : Memory). (c * m.words) * m.width) ms
banked_bits c [] [] same = refl
banked_bits c [] (e ∷ es) same = refl
banked_bits c (m ∷ ms) [] same = absurd (omega (arith, same))
banked_bits c (m ∷ ms) (e ∷ es) same =
    sum_by-cons (λ (y : Memory). y.words * y.width) (banked_memory c m e) (with_entries (banked_memory c) ms es)
    ∙ ap (λ n. (c * m.words) * m.width + n) (banked_bits c ms es (omega (arith, same)))
    ∙ sym (sum_by-cons (λ (y : Memory). (c * y.words) * y.width) m ms)
