-- Memories in this project's profile of Yosys `$mem_v2`: words, the value of a read, the effect of the writes.
use Rattle.std.specs.Prelude.{ℕ, ◌+◌, ◌*◌, ◌^◌, Bool, true, false, if◌then◌else◌, min, List, [], ◌∷◌, slice_set, slice_index_or, fold, Some}
use Rattle.cs_cells.specs.declared.memory.MemShape.{MemShape}
use Rattle.cs_cells.specs.declared.register.FfKind.{FfKind}

-- a word is a list of bits, least first
abbrev pub Word : Type 0
Word = List Bool

-- the words of a memory, word 0 first
abbrev pub Words : Type 0
Words = List Word

-- a memory has as many words as the lesser of SIZE and 2^ABITS
abbrev pub word_count : MemShape → ℕ
word_count m = min m.size (2 ^ m.abits)

-- the number of a list of bits, least first
abbrev pub number_of : List Bool → ℕ
number_of [] = 0
number_of (b ∷ bs) = (if b then 1 else 0) + 2 * number_of bs

-- the word at an address, empty where that is no word
abbrev pub word_at : Words → List Bool → Word
word_at words address = slice_index_or words (number_of address) []

-- a bit of the word at an address, 0 where that is no word
unfoldable pub read_bit : Words → List Bool → ℕ → Bool
read_bit words address place = slice_index_or (word_at words address) place false

-- what a write port is given in one clock
pub record Write : Type 0 where
  pub address : List Bool
  pub word : Word
  pub enable : List Bool

-- the old word with those bits of the new one that are enabled
abbrev pub merged_word : Word → Word → List Bool → Word
merged_word [] new enable = []
merged_word (b ∷ bs) [] enable = b ∷ bs
merged_word (b ∷ bs) (n ∷ ns) [] = b ∷ bs
merged_word (b ∷ bs) (n ∷ ns) (e ∷ es) = (if e then n else b) ∷ merged_word bs ns es

-- the words after one write; a write at an address that is no word is dropped
unfoldable pub after_write : Words → Write → Words
after_write words w =
    slice_set words (number_of w.address) (merged_word (word_at words w.address) w.word w.enable)

-- the write ports act in rising order, so the higher one wins
abbrev pub after_writes : List Write → Words → Words
after_writes ports words = fold after_write words ports

-- a data bit of a clocked read is a register with active high enable and reset
abbrev pub read_register : Bool → Bool → FfKind
read_register value over = record {
  rising = true;
  reset = Some (record { high = true; value = value });
  enable = Some true;
  enable_over_reset = over;
}
