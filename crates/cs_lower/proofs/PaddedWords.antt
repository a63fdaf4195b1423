-- Words with words of 0 behind them: reads past the words give 0 in both, and the writes of a bounded run are the same.
use Rattle.std.specs.Prelude.{min, not, if◌then◌else◌}
use Rattle.std.proofs.Common.{◌≡◌, ℕ, zero, suc, ◌+◌, ◌-◌, ◌*◌, ◌^◌, ◌<◌, ◌≤◌, Bool, true, false, List, [], ◌∷◌, ◌++◌, length, map, get_or, set, fold, take, drop, replicate, flat_map, Some, refl, sym, ap, ap₂, ◌∙◌, arith, inl, inr}
use Rattle.std.proofs.Math.Seq.{drop-append_seam, take-append_seam}
use Rattle.std.proofs.lemmas.Bool.{cases_lt, le-ltb, lt-ltb}
use Rattle.std.proofs.lemmas.Int.{clamps, ints}
use Rattle.std.proofs.lemmas.List.{append_assoc, get_or-append_right, get_or-replicate, get_or_append_left, get_or_past, length-append, length-map, length-replicate, length-set, replicate-append-replicate, set-append_left, set_past}
use Rattle.cs_cells.specs.declared.memory.MemShape.{MemShape}
use Rattle.cs_cells.specs.Memories.{Word, Words, Write, after_write, after_writes, merged_word, number_of, read_bit, word_at, word_count}
use Rattle.cs_graph.specs.declared.memory.Memory.{Memory}
use Rattle.cs_graph.specs.Run.{start_words, taken_in, words_from}
use Rattle.cs_net.specs.declared.state.MemoryWords.{MemoryWords}
use Rattle.cs_lower.specs.Lowered.{filled, memory_of}

-- words, and so many more behind them, each of so many bits of 0
abbrev pub padded : ℕ → ℕ → Words → Words
padded more width words = words ++ replicate more (replicate width false)

length-padded : (more width : ℕ) (words : Words) → length (padded more width words) ≡ length words + more
length-padded more width words =
    length-append words (replicate more (replicate width false))
    ∙ ap (λ n. length words + n) (length-replicate more (replicate width false))

-- ---- reads

bit_of_zeros : (width place : ℕ) → get_or (replicate width false) place false ≡ false
bit_of_zeros width place = elim (cases_lt place width) [
  | inl within ↦ get_or-replicate width place false false within
  | inr past ↦ get_or_past (replicate width false) place false (omega (arith, past, length-replicate width false))
]

-- no word behind the others has a bit of 1
bit_of_more : (more width k place : ℕ) → get_or (get_or (replicate more (replicate width false)) k []) place false ≡ false
bit_of_more more width k place = elim (cases_lt k more) [
  | inl within ↦
      ap (λ (w : Word). get_or w place false) (get_or-replicate more k (replicate width false) [] within)
      ∙ bit_of_zeros width place
  | inr past ↦
      ap (λ (w : Word). get_or w place false)
      (get_or_past (replicate more (replicate width false)) k []
      (omega (arith, past, length-replicate more (replicate width false))))
]

read_padded : (more width : ℕ) (words : Words) (address : List Bool) (place : ℕ)
    → read_bit (padded more width words) address place ≡ read_bit words address place
unfolding read_bit
read_padded more width words address place = elim (cases_lt (number_of address) (length words)) [
  | inl within ↦
      ap (λ (w : Word). get_or w place false)
      (get_or_append_left words (replicate more (replicate width false)) [] (number_of address) within)
  | inr past ↦
      ap (λ (w : Word). get_or w place false)
      (get_or-append_right words (replicate more (replicate width false)) (length words) (number_of address) [] refl past)
      ∙ bit_of_more more width (number_of address - length words) place
      ∙ sym (ap (λ (w : Word). get_or w place false) (get_or_past words (number_of address) [] past))
]

-- ---- writes

length-after_write : (words : Words) (w : Write) → length (after_write words w) ≡ length words
unfolding after_write
length-after_write words w =
    length-set words (number_of w.address) (merged_word (word_at words w.address) w.word w.enable)

-- a write at an address that is no word is dropped
no_write : (words : Words) (w : Write) → length words ≤ number_of w.address → after_write words w ≡ words
unfolding after_write
no_write words w past = set_past words (number_of w.address) (merged_word (word_at words w.address) w.word w.enable) past

-- a write within the words is one in them
write_within : (more width : ℕ) (words : Words) (w : Write) → number_of w.address < length words
    → after_write (padded more width words) w ≡ padded more width (after_write words w)
unfolding after_write
write_within more width words w within =
    ap (λ old. set (padded more width words) (number_of w.address) (merged_word old w.word w.enable))
    (get_or_append_left words (replicate more (replicate width false)) [] (number_of w.address) within)
    ∙ set-append_left words (replicate more (replicate width false)) (number_of w.address)
    (merged_word (word_at words w.address) w.word w.enable) within

-- there are as many words as the lesser of a memory's size and its words, and as many more as it has
pub record HasRoom (m : Memory) (more : ℕ) (words : Words) : Type 0 where
  pub own : length words ≡ min m.size m.words
  pub all : length words + more ≡ m.words

-- past the lesser of both it is the words that end
all_words : (size words n own more : ℕ) → own ≡ min size words → own + more ≡ words → n < size → own ≤ n → words ≤ n
all_words size words n own more is sum small past = omega (arith, ints, clamps, is, sum, small, past)

few_words : (size words n own : ℕ) → own ≡ min size words → size ≤ n → own ≤ n
few_words size words n own is past = omega (arith, ints, clamps, is, past)

write_padded : (m : Memory) (more width : ℕ) (words : Words) (w : Write) → HasRoom m more words
    → taken_in true m (padded more width words) w ≡ padded more width (after_write words w)
write_padded m more width words w room = elim (cases_lt (number_of w.address) m.size) [
  | inl small ↦
      ap (λ t. if not t then padded more width words else after_write (padded more width words) w)
      (lt-ltb (number_of w.address) m.size small) ∙ reached small
  | inr past ↦
      let none = few_words m.size m.words (number_of w.address) (length words) room.own past in
      ap (λ t. if not t then padded more width words else after_write (padded more width words) w)
      (le-ltb (number_of w.address) m.size past) ∙ sym (ap (padded more width) (no_write words w none))
]
  where
    reached : number_of w.address < m.size → after_write (padded more width words) w ≡ padded more width (after_write words w)
    reached small = elim (cases_lt (number_of w.address) (length words)) [
      | inl within ↦ write_within more width words w within
      | inr past ↦
          let beyond = all_words m.size m.words (number_of w.address) (length words) more room.own room.all small past in
          no_write (padded more width words) w (omega (arith, beyond, length-padded more width words, room.all))
          ∙ sym (ap (padded more width) (no_write words w past))
    ]

room_after : (m : Memory) (more : ℕ) (words : Words) (w : Write) → HasRoom m more words
    → HasRoom m more (after_write words w)
room_after m more words w room = record {
  own = length-after_write words w ∙ room.own;
  all = ap (λ n. n + more) (length-after_write words w) ∙ room.all;
}

room_after_all : (m : Memory) (more : ℕ) (words : Words) (ws : List Write) → HasRoom m more words
    → HasRoom m more (after_writes ws words)
room_after_all m more words [] room = room
room_after_all m more words (w ∷ ws) room =
    room_after_all m more (after_write words w) ws (room_after m more words w room)

-- the writes of a bounded run are the same to both
writes_padded : (m : Memory) (more width : ℕ) (words : Words) (ws : List Write) → HasRoom m more words
    → fold (taken_in true m) (padded more width words) ws ≡ padded more width (after_writes ws words)
writes_padded m more width words [] room = refl
writes_padded m more width words (w ∷ ws) room =
    ap (λ now. fold (taken_in true m) now ws) (write_padded m more width words w room)
    ∙ writes_padded m more width (after_write words w) ws (room_after m more words w room)

-- ---- starts

word_cut : (count width : ℕ) (word rest : List Bool) → length word ≡ width
    → words_from (suc count) width (word ++ rest) ≡ word ∷ words_from count width rest
word_cut count width word rest is =
    ap₂ (λ w ws. w ∷ ws) (ap (λ n. take n (word ++ rest)) (sym is) ∙ take-append_seam word rest)
    (ap (words_from count width) (ap (λ n. drop n (word ++ rest)) (sym is) ∙ drop-append_seam word rest))

zeros_cut : (more width : ℕ)
    → words_from more width (replicate (more * width) false) ≡ replicate more (replicate width false)
zeros_cut zero width = refl
zeros_cut (suc more) width =
    let parted : replicate (suc more * width) false ≡ replicate width false ++ replicate (more * width) false =
    ap (λ n. replicate n false) {x = suc more * width} {y = width + more * width} (omega arith)
    ∙ sym (replicate-append-replicate width (more * width) false) in
    ap (words_from (suc more) width) parted
    ∙ word_cut more width (replicate width false) (replicate (more * width) false) (length-replicate width false)
    ∙ ap (λ ws. replicate width false ∷ ws) (zeros_cut more width)

words_cut : (count k more width : ℕ) (words : Words) → map length words ≡ replicate k width → count ≡ k + more
    → words_from count width (flat_map (λ w. w) words ++ replicate (more * width) false) ≡ padded more width words
words_cut count zero more width [] same sum =
    let all : count ≡ more = omega (arith, sum) in
    ap (λ n. words_from n width (replicate (more * width) false)) all ∙ zeros_cut more width
words_cut count (suc k) more width [] same sum = absurd (cc)
words_cut count zero more width (w ∷ words) same sum = absurd (cc)
words_cut zero (suc k) more width (w ∷ words) same sum = absurd (omega (arith, sum))
words_cut (suc count) (suc k) more width (w ∷ words) same sum =
    let first : length w ≡ width = cc in
    let rest : map length words ≡ replicate k width = cc in
    ap (words_from (suc count) width) (append_assoc w (flat_map (λ w. w) words) (replicate (more * width) false))
    ∙ word_cut count width w (flat_map (λ w. w) words ++ replicate (more * width) false) first
    ∙ ap (λ ws. w ∷ ws) (words_cut count k more width words rest (omega (arith, sum)))

many_words : (k width : ℕ) (words : Words) → map length words ≡ replicate k width → length words ≡ k
many_words k width words same =
    sym (length-map words length) ∙ ap length same ∙ length-replicate k width

-- the start of a memory is its words, and words of 0 behind them
start_padded : (count k more width : ℕ) (words : Words) → map length words ≡ replicate k width → count ≡ k + more
    → words_from count width (filled count width words) ≡ padded more width words
start_padded count k more width words same sum =
    let rest : count - length words ≡ more = omega (arith, sum, many_words k width words same) in
    ap (λ n. words_from count width (flat_map (λ w. w) words ++ replicate (n * width) false)) rest
    ∙ words_cut count k more width words same sum

-- ---- the memories of the graph of a netlist

-- a memory holds these words, and words of 0 behind them
pub record IsPadded (m : Memory) (held words : Words) : Type 0 where
  pub more : ℕ
  pub room : HasRoom m more words
  pub is : held ≡ padded more m.width words

-- it starts so
pub starts_padded : (own : MemoryWords) (shape : MemShape)
    → map length own.words ≡ replicate (word_count shape) shape.width
    → IsPadded (memory_of (own, shape)) (start_words (Some (memory_of (own, shape)))) own.words
starts_padded own shape wide =
    let more : ℕ = 2 ^ shape.abits - word_count shape in
    let many : length own.words ≡ word_count shape = many_words (word_count shape) shape.width own.words wide in
    let sum : 2 ^ shape.abits ≡ word_count shape + more = omega (arith, ints, clamps) in
    record {
      more = more;
      room = record { own = many; all = ap (λ n. n + more) many ∙ sym sum };
      is = start_padded (2 ^ shape.abits) (word_count shape) more shape.width own.words wide sum;
    }

-- reads see the words alone
pub reads_padded : (m : Memory) (held words : Words) → IsPadded m held words → (address : List Bool) (place : ℕ)
    → read_bit held address place ≡ read_bit words address place
reads_padded m held words is address place =
    ap (λ now. read_bit now address place) is.is ∙ read_padded is.more m.width words address place

-- and it goes on so
pub stays_padded : (m : Memory) (held words : Words) (ws : List Write) → IsPadded m held words
    → IsPadded m (fold (taken_in true m) held ws) (after_writes ws words)
stays_padded m held words ws is = record {
  more = is.more;
  room = room_after_all m is.more words ws is.room;
  is = ap (λ now. fold (taken_in true m) now ws) is.is ∙ writes_padded m is.more m.width words ws is.room;
}
