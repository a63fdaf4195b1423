-- The words of one context in the memory of all.
use Rattle.std.proofs.Common.{◌≡◌, ℕ, zero, suc, ◌+◌, ◌-◌, ◌*◌, ◌%◌, ◌^◌, ◌<◌, ◌≤◌, Bool, true, false, not, ◌&&◌, List, [], ◌∷◌, ◌++◌, length, map, get_or, set, take, drop, fold, refl, sym, ap, ap₂, ◌∙◌, arith, inl, inr, get_or-take, get_or-drop, drop-set-lt, mul-le-mul_right}
use Rattle.std.proofs.lemmas.List.{drop-set-add, take-set-le}
use Rattle.std.proofs.Math.Seq.{take-set-lt}
use Rattle.std.proofs.lemmas.Nat.{mod-mul-add}
use Rattle.std.specs.Prelude.{if◌then◌else◌, nat_lt}
use Rattle.std.proofs.lemmas.Bool.{cases_lt, le-ltb, lt-ltb}
use Rattle.cs_cells.specs.Memories.{Word, Words, Write, number_of, word_at, merged_word, after_write, read_bit}
use Rattle.cs_graph.specs.declared.memory.Memory.{Memory}
use Rattle.cs_graph.specs.Run.{taken_in}
use Rattle.cs_bank.proofs.GuardLemmas.{number_below}

-- ---- addresses

pub number_of-append : (bs cs : List Bool) → number_of (bs ++ cs) ≡ number_of bs + 2 ^ length bs * number_of cs
number_of-append [] cs = omega arith
number_of-append (b ∷ bs) cs =
    let rest = number_of-append bs cs in
    let power : 2 ^ suc (length bs) ≡ 2 * 2 ^ length bs = omega arith in
    rw (rest, power) (omega arith)

-- ---- the bank of context k

-- its words, where a bank has so many
abbrev pub bank_words : ℕ → ℕ → Words → Words
bank_words size k ws = take size (drop (k * size) ws)

set_same : (ws : Words) (size k i : ℕ) (x : Word) → i < size
    → bank_words size k (set ws (k * size + i) x) ≡ set (bank_words size k ws) i x
set_same ws size k i x h = ap (take size) (drop-set-add (k * size) ws i x) ∙ take-set-lt size (drop (k * size) ws) i x h

lower : (size q k i : ℕ) → i < size → q < k → q * size + i < k * size
lower size q k i h less = let most = mul-le-mul_right size less in omega arith

set_other : (ws : Words) (size k q i : ℕ) (x : Word) → i < size → (q ≡ k → ⊥)
    → bank_words size k (set ws (q * size + i) x) ≡ bank_words size k ws
set_other ws size k q i x h other = elim (cases_lt q k) [
  | inl less ↦ ap (take size) (drop-set-lt (k * size) ws (q * size + i) x (lower size q k i h less))
  | inr more ↦ elim (cases_lt k q) [
    | inl above ↦
        let d = q - suc k in
        let is : q ≡ k + suc d = omega (arith, above) in
        let place : q * size + i ≡ k * size + (size + (d * size + i)) = ap (λ n. n * size + i) is ∙ omega arith in
        rw place (ap (take size) (drop-set-add (k * size) ws (size + (d * size + i)) x)
        ∙ take-set-le size (drop (k * size) ws) (size + (d * size + i)) x (omega arith))
    | inr most ↦ absurd (other (omega (arith, more, most)))
  ]
]

word_same : (ws : Words) (size k i : ℕ) → i < size → get_or ws (k * size + i) [] ≡ get_or (bank_words size k ws) i []
word_same ws size k i h = grind (arith, get_or-take, get_or-drop)

-- what a read sees
pub read_same : (ws : Words) (size k : ℕ) (address context : List Bool) (place : ℕ) → size ≡ 2 ^ length address
    → number_of context ≡ k → read_bit ws (address ++ context) place ≡ read_bit (bank_words size k ws) address place
unfolding read_bit
read_same ws size k address context place is at =
    let below = number_below address in
    let sum : number_of (address ++ context) ≡ k * size + number_of address = number_of-append address context
    ∙ rw (at, is) (omega arith) in
    ap (λ i. get_or (get_or ws i []) place false) sum
    ∙ ap (λ (word : Word). get_or word place false) (word_same ws size k (number_of address) (omega arith))

-- ---- writes of a context

-- where no bit is enabled a word stays
merged_off : (old new : Word) (enable : List Bool) → merged_word old new (map (λ e. e && false) enable) ≡ old
merged_off [] new enable = refl
merged_off (b ∷ bs) [] enable = refl
merged_off (b ∷ bs) (n ∷ ns) [] = refl
merged_off (b ∷ bs) (n ∷ ns) (true ∷ es) = ap (λ xs. b ∷ xs) (merged_off bs ns es)
merged_off (b ∷ bs) (n ∷ ns) (false ∷ es) = ap (λ xs. b ∷ xs) (merged_off bs ns es)

all_on : (bs : List Bool) → map (λ e. e && true) bs ≡ bs
all_on [] = refl
all_on (true ∷ bs) = ap (λ xs. true ∷ xs) (all_on bs)
all_on (false ∷ bs) = ap (λ xs. false ∷ xs) (all_on bs)

set_again : (ws : Words) (i : ℕ) → set ws i (get_or ws i []) ≡ ws
set_again [] i = refl
set_again (w ∷ ws) zero = refl
set_again (w ∷ ws) (suc i) = ap (λ xs. w ∷ xs) (set_again ws i)

-- w' is a write by context q of the write w, with its enable bits off from an address of `limit` on
pub record Banked (size limit q : ℕ) (w w' : Write) : Type 0 where
  pub address : number_of w'.address ≡ q * size + number_of w.address
  pub inside : number_of w.address < size
  pub word : w'.word ≡ w.word
  pub enable : w'.enable ≡ map (λ e. e && nat_lt (number_of w.address) limit) w.enable

merged_at : (ws : Words) (size k : ℕ) (w w' : Write) (enable : List Bool)
    → number_of w'.address ≡ k * size + number_of w.address
    → number_of w.address < size → w'.word ≡ w.word → w'.enable ≡ enable
    → bank_words size k (after_write ws w') ≡ set (bank_words size k ws) (number_of w.address)
    (merged_word (word_at (bank_words size k ws) w.address) w.word enable)
unfolding after_write
merged_at ws size k w w' enable address inside word on =
    let x' = merged_word (word_at ws w'.address) w'.word w'.enable in
    let x = merged_word (word_at (bank_words size k ws) w.address) w.word enable in
    let alike : x' ≡ x = ap (λ i. merged_word (get_or ws i []) w'.word w'.enable) address
    ∙ ap (λ y. merged_word y w'.word w'.enable) (word_same ws size k (number_of w.address) inside)
    ∙ ap₂ (λ y e. merged_word (word_at (bank_words size k ws) w.address) y e) word on in
    ap₂ (λ i y. bank_words size k (set ws i y)) address alike ∙ set_same ws size k (number_of w.address) x inside

-- in the context's own bank it does what the write does where that from `size` on is dropped
written_same : (ws : Words) (size k : ℕ) (m : Memory) (w w' : Write) → Banked size m.size k w w'
    → bank_words size k (after_write ws w') ≡ taken_in true m (bank_words size k ws) w
unfolding after_write
written_same ws size k m w w' b = elim (cases_lt (number_of w.address) m.size) [
  | inl less ↦
      let on = lt-ltb (number_of w.address) m.size less in
      merged_at ws size k w w' w.enable b.address b.inside b.word (b.enable ∙ ap (λ t. map (λ e. e && t) w.enable) on
      ∙ all_on w.enable)
      ∙ sym (ap (λ t. if not t then bank_words size k ws else after_write (bank_words size k ws) w) on)
  | inr more ↦
      let off = le-ltb (number_of w.address) m.size more in
      merged_at ws size k w w' (map (λ e. e && false) w.enable) b.address b.inside b.word (b.enable
      ∙ ap (λ t. map (λ e. e && t) w.enable) off)
      ∙ ap (set (bank_words size k ws) (number_of w.address))
      (merged_off (word_at (bank_words size k ws) w.address) w.word w.enable)
      ∙ set_again (bank_words size k ws) (number_of w.address)
      ∙ sym (ap (λ t. if not t then bank_words size k ws else after_write (bank_words size k ws) w) off)
]

-- and it leaves all others
written_other : (ws : Words) (size limit k q : ℕ) (w w' : Write) → Banked size limit q w w' → (q ≡ k → ⊥)
    → bank_words size k (after_write ws w') ≡ bank_words size k ws
unfolding after_write
written_other ws size limit k q w w' b other =
    ap (λ i. bank_words size k (set ws i (merged_word (word_at ws w'.address) w'.word w'.enable))) b.address
    ∙ set_other ws size k q (number_of w.address) (merged_word (word_at ws w'.address) w'.word w'.enable) b.inside other

-- lists of writes, one of them by context q
pub data AllBanked (size limit q : ℕ) : List Write → List Write → Type 0 where
  none : AllBanked size limit q [] []
  more : {w w' : Write} {rest rest' : List Write} → Banked size limit q w w' → AllBanked size limit q rest rest'
      → AllBanked size limit q (w ∷ rest) (w' ∷ rest')

all_same : (size k : ℕ) (m : Memory) (writes writes' : List Write) (ws : Words) → AllBanked size m.size k writes writes'
    → bank_words size k (fold after_write ws writes') ≡ fold (taken_in true m) (bank_words size k ws) writes
all_same size k m [] [] ws none = refl
all_same size k m [] (w' ∷ rest') ws x = elim x [ ]
all_same size k m (w ∷ rest) [] ws x = elim x [ ]
all_same size k m (w ∷ rest) (w' ∷ rest') ws (more b bs) =
    all_same size k m rest rest' (after_write ws w') bs
    ∙ ap (λ now. fold (taken_in true m) now rest) (written_same ws size k m w w' b)

all_other : (size limit k q : ℕ) (writes writes' : List Write) (ws : Words) → AllBanked size limit q writes writes'
    → (q ≡ k → ⊥) → bank_words size k (fold after_write ws writes') ≡ bank_words size k ws
all_other size limit k q [] [] ws none other = refl
all_other size limit k q [] (w' ∷ rest') ws x other = elim x [ ]
all_other size limit k q (w ∷ rest) [] ws x other = elim x [ ]
all_other size limit k q (w ∷ rest) (w' ∷ rest') ws (more b bs) other =
    all_other size limit k q rest rest' (after_write ws w') bs other ∙ written_other ws size limit k q w w' b other

-- ---- between two turns of a context its bank stays

-- the bank of context k after its turns before n
unfoldable pub words_alone : ℕ → ℕ → (ℕ → Words) → ℕ → ℕ → Words
words_alone c size words k zero = bank_words size k (words 0)
words_alone c size words k (suc n) = bank_words size k (words (suc (n * c + k)))

module _ (c size : ℕ) (m : Memory) (words : ℕ → Words) (writes writes' : ℕ → List Write) (clocks : ℕ)
    (goes_on : (t : ℕ) → t < clocks → words (suc t) ≡ fold after_write (words t) (writes' t))
    (banked : (t : ℕ) → t < clocks → AllBanked size m.size (t % c) (writes t) (writes' t)) where
  stays : (k d t : ℕ) → ((i : ℕ) → i < d → (t + i) % c ≡ k → ⊥) → t + d ≤ clocks
      → bank_words size k (words (t + d)) ≡ bank_words size k (words t)
  stays k zero t apart h = ap (λ n. bank_words size k (words n)) (omega arith)
  stays k (suc d) t apart h =
      let place : t + suc d ≡ suc (t + d) = omega arith in
      ap (λ n. bank_words size k (words n)) place
      ∙ ap (bank_words size k) (goes_on (t + d) (omega arith))
      ∙ all_other size m.size k ((t + d) % c) (writes (t + d)) (writes' (t + d)) (words (t + d))
      (banked (t + d) (omega arith)) (apart d (omega arith))
      ∙ stays k d t (λ i low. apart i (omega arith)) (omega arith)

  turn_is : (n k i : ℕ) → k < c → i < c → (n * c + k + i) % c ≡ k → i ≡ 0
  turn_is n k i h low is = elim (cases_lt (k + i) c) [
    | inl inside ↦ let at : (n * c + k + i) % c ≡ k + i = ap (λ m. m % c) (omega arith)
        ∙ mod-mul-add n c (k + i) inside in omega arith
    | inr past ↦ let at : (n * c + k + i) % c ≡ k + i - c = ap (λ m. m % c) (omega arith)
        ∙ mod-mul-add (suc n) c (k + i - c) (omega arith) in omega arith
  ]

  pub at_turn : (n k : ℕ) → k < c → n * c + k < clocks
      → bank_words size k (words (n * c + k)) ≡ words_alone c size words k n
  unfolding words_alone
  at_turn zero k below h =
      let place : 0 * c + k ≡ 0 + k = omega arith in
      ap (λ m. bank_words size k (words m)) place
      ∙ stays k k 0 (λ i low is. let here : (0 + i) % c ≡ i = ap (λ m. m % c) (omega arith)
      ∙ mod-mul-add 0 c i (omega arith) in absurd (omega arith)) (omega arith)
  at_turn (suc n) k below h =
      let place : suc n * c + k ≡ suc (n * c + k) + (c - 1) = omega arith in
      ap (λ m. bank_words size k (words m)) place
      ∙ stays k (c - 1) (suc (n * c + k))
      (λ i low is. let first = turn_is n k (suc i) below (omega arith) (ap (λ m. m % c) (omega arith)
      ∙ is) in absurd (omega arith)) (omega arith)

  -- a context's turn
  pub next_turn : (n k : ℕ) → k < c → n * c + k < clocks → words_alone c size words k (suc n)
      ≡ fold (taken_in true m) (words_alone c size words k n) (writes (n * c + k))
  unfolding words_alone
  next_turn n k below h =
      let t = n * c + k in
      let turn : t % c ≡ k = mod-mul-add n c k below in
      ap (bank_words size k) (goes_on t h)
      ∙ all_same size k m (writes t) (writes' t) (words t) (rw turn at (banked t h))
      ∙ ap (λ now. fold (taken_in true m) now (writes t)) (at_turn n k below h)
