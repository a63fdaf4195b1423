-- Sets of places, in words of 64 bits.
use Rattle.std.specs.Prelude.{◌≡◌, ℕ, ◌<◌, ◌≤◌, ◌/◌, ◌%◌, ◌⊎◌, List, length, get_or}
use Rattle.std.specs.Int.{bit_at}

-- place p is marked
abbrev pub IsMarked : List ℕ → ℕ → Type 0
IsMarked words p = bit_at (get_or words (p / 64) 0) (p % 64) ≡ 1

-- 64 words, and a number whose bits tell which of them aren't 0
pub record AreFilled (words : List ℕ) (filled : ℕ) : Type 0 where
  pub count : length words ≡ 64
  pub told : (b : ℕ) → 0 < get_or words b 0 → bit_at filled b ≡ 1
  pub only : (b : ℕ) → bit_at filled b ≡ 1 → 0 < get_or words b 0

-- one place more is marked
pub record AddsMark (p : ℕ) (before after : List ℕ) : Type 0 where
  pub marked : IsMarked after p
  pub stays : (q : ℕ) → IsMarked before q → IsMarked after q
  pub only : (q : ℕ) → IsMarked after q → (q ≡ p) ⊎ IsMarked before q

-- the first place that is marked is taken
pub record TakesMark (p : ℕ) (before after : List ℕ) : Type 0 where
  pub low : p < 4096
  pub marked : IsMarked before p
  pub first : (q : ℕ) → IsMarked before q → p ≤ q
  pub gone : IsMarked after p → ⊥
  pub left : (q : ℕ) → IsMarked after q → IsMarked before q
  pub rest : (q : ℕ) → IsMarked before q → (q ≡ p) ⊎ IsMarked after q

-- the lowest bit that is set
pub record IsLowest (word bit : ℕ) : Type 0 where
  pub within : bit < 64
  pub set : bit_at word bit ≡ 1
  pub none : (i : ℕ) → i < bit → bit_at word i ≡ 0
