-- Marks: one more, and the first of them.
use Rattle.std.proofs.Common.{◌≡◌, ◌≢◌, ℕ, zero, suc, ◌+◌, ◌*◌, ◌/◌, ◌%◌, ◌<◌, ◌≤◌, ◌^◌, List, [], ◌∷◌, length, set, get_or, replicate, refl, sym, ap, subst, ◌∙◌, inl, inr, arith}
use Rattle.std.specs.Int.{bit_at, bit_not, w64}
use Rattle.std.specs.Int.RustNames.{bit_or}
use Rattle.std.specs.Prelude.{bit_and}
use Rattle.std.proofs.lemmas.Bool.{cases_eq, cases_lt}
use Rattle.std.proofs.lemmas.List.{get_or-set_same, get_or-set_other, length-set}
use Rattle.std.proofs.lemmas.Nat.Bits.{bit_at-zero, bit_at-lt, bit_at_and, bit_at_set_same, bit_at_set_other, bit_at_clear_same, bit_at_clear_other}
use Rattle.cs_paths.specs.Marks.{IsMarked, AreFilled, AddsMark, TakesMark, IsLowest}

-- ---- numbers

parts_same : (p q : ℕ) → q / 64 ≡ p / 64 → q % 64 ≡ p % 64 → q ≡ p
parts_same p q same other = omega (arith, same, other)

rest_low : (p : ℕ) → p % 64 < 64
rest_low p = omega arith

block_low : (p : ℕ) → p < 4096 → p / 64 < 64
block_low p low = omega (arith, low)

-- a number with a bit isn't 0
bit_some : (n i : ℕ) → bit_at n i ≡ 1 → 0 < n
bit_some zero i is = let none = bit_at-zero i in absurd (omega (arith, none, is))
bit_some (suc n) i is = omega arith

-- what both have, the first has
and_bit : (a b i : ℕ) → bit_at (bit_and a b) i ≡ 1 → bit_at a i ≡ 1
and_bit a b i has =
    let both = bit_at_and a b i in
    let low = bit_at-lt a i in
    omega (arith, both, low, has)

none_past : (words : List ℕ) (b : ℕ) → length words ≤ b → get_or words b 0 ≡ 0
none_past [] b past = refl
none_past (w ∷ words) zero past = absurd (omega (arith, past))
none_past (w ∷ words) (suc b) past = none_past words b (omega (arith, past))

-- ---- no marks

none_at : (n k : ℕ) → get_or (replicate n zero) k zero ≡ zero
none_at zero k = refl
none_at (suc n) zero = refl
none_at (suc n) (suc k) = none_at n k

pub none_filled : AreFilled (replicate 64 0) 0
none_filled = record {
  count = refl;
  told = λ k some. let none = none_at 64 k in absurd (omega (arith, none, some));
  only = λ k bit. let none = bit_at-zero k in absurd (omega (arith, none, bit));
}

pub none_marked : (n p : ℕ) → IsMarked (replicate n 0) p → ⊥
none_marked n p is =
    let none = ap (λ k. bit_at k (p % 64)) (none_at n (p / 64)) in
    let zero_bit = bit_at-zero (p % 64) in
    omega (arith, none, zero_bit, is)

-- ---- a word that is replaced

module _ (words : List ℕ) (b new : ℕ) (count : length words ≡ 64) (low : b < 64) where
  word_now : get_or (set words b new) b 0 ≡ new
  word_now = get_or-set_same words b new 0 (omega (arith, count, low))

  word_other : (k : ℕ) → k ≢ b → get_or (set words b new) k 0 ≡ get_or words k 0
  word_other k away = get_or-set_other words b k new 0 away

  -- where all bits of the word but one stay, all marks but one stay
  bit_other : (p q : ℕ) → p / 64 ≡ b
      → ((i : ℕ) → i < 64 → i ≢ p % 64 → bit_at new i ≡ bit_at (get_or words b 0) i) → q ≢ p
      → bit_at (get_or (set words b new) (q / 64) 0) (q % 64) ≡ bit_at (get_or words (q / 64) 0) (q % 64)
  bit_other p q block bits away = elim (cases_eq (q / 64) b) [
    | inl same ↦
        ap (λ k. bit_at (get_or (set words b new) k 0) (q % 64)) same
        ∙ ap (λ n. bit_at n (q % 64)) word_now
        ∙ bits (q % 64) (rest_low q) (λ rest. away (parts_same p q (same ∙ sym block) rest))
        ∙ ap (λ k. bit_at (get_or words k 0) (q % 64)) (sym same)
    | inr other ↦ ap (λ n. bit_at n (q % 64)) (word_other (q / 64) other)
  ]

-- ---- one place more

abbrev pub with_mark : List ℕ → ℕ → List ℕ
with_mark words p = set words (p / 64) (bit_or (get_or words (p / 64) 0) (1 * 2 ^ (p % 64) % 2 ^ 64))

pub adds_mark : (words : List ℕ) (p old new : ℕ) → length words ≡ 64 → p < 4096 → old ≡ get_or words (p / 64) 0
    → new ≡ bit_or old (1 * 2 ^ (p % 64) % 2 ^ 64) → AddsMark p words (set words (p / 64) new)
adds_mark words p old new count low was is = record {
  marked = marked;
  stays = λ q before. elim (cases_eq q p) [
    | inl same ↦ subst (IsMarked (set words (p / 64) new)) (sym same) marked
    | inr away ↦ other q away ∙ before
  ];
  only = λ q after. elim (cases_eq q p) [
    | inl same ↦ inl same
    | inr away ↦ inr (sym (other q away) ∙ after)
  ];
}
  where
    marked : IsMarked (set words (p / 64) new) p
    marked = ap (λ n. bit_at n (p % 64)) (word_now words (p / 64) new count (block_low p low) ∙ is)
        ∙ bit_at_set_same w64 old (p % 64) (rest_low p)

    bits : (i : ℕ) → i < 64 → i ≢ p % 64 → bit_at new i ≡ bit_at (get_or words (p / 64) 0) i
    bits i within away = ap (λ n. bit_at n i) is ∙ bit_at_set_other w64 old (p % 64) (rest_low p) i away
        ∙ ap (λ n. bit_at n i) was

    other : (q : ℕ) → q ≢ p → bit_at (get_or (set words (p / 64) new) (q / 64) 0) (q % 64)
        ≡ bit_at (get_or words (q / 64) 0) (q % 64)
    other q away = bit_other words (p / 64) new count (block_low p low) p q refl bits away

pub filled_more : (words : List ℕ) (filled filled' p new : ℕ) → AreFilled words filled → p < 4096
    → IsMarked (set words (p / 64) new) p → filled' ≡ bit_or filled (1 * 2 ^ (p / 64) % 2 ^ 64)
    → AreFilled (set words (p / 64) new) filled'
filled_more words filled filled' p new are low marked is = record {
  count = length-set words (p / 64) new ∙ are.count;
  told = λ k some. elim (cases_eq k (p / 64)) [
    | inl same ↦ ap (bit_at filled') same ∙ ap (λ n. bit_at n (p / 64)) is
        ∙ bit_at_set_same w64 filled (p / 64) (block_low p low)
    | inr away ↦ stays k away ∙ are.told k (subst (λ n. 0 < n) (word k away) some)
  ];
  only = λ k bit. elim (cases_eq k (p / 64)) [
    | inl same ↦ subst (λ n. 0 < get_or (set words (p / 64) new) n 0) (sym same)
        (bit_some _ (p % 64) marked)
    | inr away ↦ subst (λ n. 0 < n) (sym (word k away)) (are.only k (sym (stays k away) ∙ bit))
  ];
}
  where
    stays : (k : ℕ) → k ≢ p / 64 → bit_at filled' k ≡ bit_at filled k
    stays k away = ap (λ n. bit_at n k) is ∙ bit_at_set_other w64 filled (p / 64) (block_low p low) k away

    word : (k : ℕ) → k ≢ p / 64 → get_or (set words (p / 64) new) k 0 ≡ get_or words k 0
    word k away = word_other words (p / 64) new are.count (block_low p low) k away

-- ---- the first place

-- the words without bit t of word b
abbrev pub without_mark : List ℕ → ℕ → ℕ → List ℕ
without_mark words b t = set words b (bit_and (get_or words b 0) (bit_not w64 (1 * 2 ^ t % 2 ^ 64)))

module _ (words : List ℕ) (filled : ℕ) (are : AreFilled words filled) where
  pub none_without : filled ≡ 0 → (p : ℕ) → IsMarked words p → ⊥
  none_without empty p is =
      let told = are.told (p / 64) (bit_some _ (p % 64) is) in
      let none = ap (λ n. bit_at n (p / 64)) empty in
      let zero_bit = bit_at-zero (p / 64) in
      omega (arith, told, none, zero_bit)

  block_within : (b : ℕ) → bit_at filled b ≡ 1 → b < 64
  block_within b has = elim (cases_lt b 64) [
    | inl low ↦ low
    | inr high ↦
        let count = are.count in
        let none = none_past words b (omega (arith, count, high)) in
        let some = are.only b has in
        absurd (omega (arith, none, some))
  ]

  pub word_some : (b word : ℕ) → IsLowest filled b → word ≡ get_or words b 0 → 0 < word
  word_some b word block was = subst (λ n. 0 < n) (sym was) (are.only b block.set)

  module _ (b t word rest : ℕ) (block : IsLowest filled b) (was : word ≡ get_or words b 0) (bit : IsLowest word t)
      (is : rest ≡ bit_and word (bit_not w64 (1 * 2 ^ t % 2 ^ 64))) where
    block_low' : b < 64
    block_low' = block.within

    bit_within : t < 64
    bit_within = bit.within

    abbrev place : ℕ
    place = b * 64 + t

    place_block : place / 64 ≡ b
    place_block = let low = bit_within in omega (arith, low)

    place_bit : place % 64 ≡ t
    place_bit = let low = bit_within in omega (arith, low)

    no_block_before : (k : ℕ) → bit_at filled k ≡ 1 → b ≤ k
    no_block_before k has = elim (cases_lt k b) [
      | inl less ↦
          let none = block.none k less in
          absurd (omega (arith, none, has))
      | inr more ↦ more
    ]

    no_bit_before : (i : ℕ) → bit_at word i ≡ 1 → t ≤ i
    no_bit_before i has = elim (cases_lt i t) [
      | inl less ↦
          let none = bit.none i less in
          absurd (omega (arith, none, has))
      | inr more ↦ more
    ]

    first : (q : ℕ) → IsMarked words q → place ≤ q
    first q marked =
        let later = no_block_before (q / 64) (are.told (q / 64) (bit_some _ (q % 64) marked)) in
        let low = bit_within in
        elim (cases_eq (q / 64) b) [
          | inl same ↦
              let less = no_bit_before (q % 64)
              (ap (λ n. bit_at n (q % 64)) (was ∙ ap (λ k. get_or words k 0) (sym same)) ∙ marked) in
              omega (arith, same, less)
          | inr away ↦ omega (arith, later, away, low)
        ]

    cleared : bit_at rest t ≡ 0
    cleared = ap (λ n. bit_at n t) is ∙ bit_at_clear_same w64 word t bit_within

    bits : (i : ℕ) → i < 64 → i ≢ place % 64 → bit_at rest i ≡ bit_at (get_or words b 0) i
    bits i within away = ap (λ n. bit_at n i) is
        ∙ bit_at_clear_other w64 word t bit_within i within (λ same. away (same ∙ sym place_bit))
        ∙ ap (λ n. bit_at n i) was

    other : (q : ℕ) → q ≢ place → bit_at (get_or (set words b rest) (q / 64) 0) (q % 64)
        ≡ bit_at (get_or words (q / 64) 0) (q % 64)
    other q away = bit_other words b rest are.count block_low' place q place_block bits away

    gone : IsMarked (set words b rest) place → ⊥
    gone marked =
        let here = ap (λ k. bit_at (get_or (set words b rest) k 0) (place % 64)) place_block in
        let now = ap (λ n. bit_at n (place % 64)) (word_now words b rest are.count block_low') in
        let bit_here = ap (bit_at rest) place_bit in
        let none = cleared in
        omega (arith, marked, here, now, bit_here, none)

    pub takes_mark : TakesMark (b * 64 + t) words (set words b rest)
    takes_mark = record {
      low = let low = block_low' in let within = bit_within in omega (arith, low, within);
      marked = ap (λ k. bit_at (get_or words k 0) (place % 64)) place_block
          ∙ ap (bit_at (get_or words b 0)) place_bit ∙ ap (λ n. bit_at n t) (sym was) ∙ bit.set;
      first = first;
      gone = gone;
      left = λ q after. elim (cases_eq q place) [
        | inl same ↦ absurd (gone (subst (IsMarked (set words b rest)) same after))
        | inr away ↦ sym (other q away) ∙ after
      ];
      rest = λ q before. elim (cases_eq q place) [
        | inl same ↦ inl same
        | inr away ↦ inr (other q away ∙ before)
      ];
    }

    kept_other : (k : ℕ) → k ≢ b → get_or (set words b rest) k 0 ≡ get_or words k 0
    kept_other k away = word_other words b rest are.count block_low' k away

    -- the word still has a bit
    pub filled_stays : 0 < rest → AreFilled (set words b rest) filled
    filled_stays more = record {
      count = length-set words b rest ∙ are.count;
      told = λ k has. elim (cases_eq k b) [
        | inl same ↦ ap (bit_at filled) same ∙ block.set
        | inr away ↦ are.told k (subst (λ n. 0 < n) (kept_other k away) has)
      ];
      only = λ k has. elim (cases_eq k b) [
        | inl same ↦ subst (λ n. 0 < n)
            (sym (ap (λ n. get_or (set words b rest) n 0) same ∙ word_now words b rest are.count block_low')) more
        | inr away ↦ subst (λ n. 0 < n) (sym (kept_other k away)) (are.only k has)
      ];
    }

    -- it has none
    pub filled_less : (filled' : ℕ) → rest ≡ 0 → filled' ≡ bit_and filled (bit_not w64 (1 * 2 ^ b % 2 ^ 64))
        → AreFilled (set words b rest) filled'
    filled_less filled' empty less = record {
      count = length-set words b rest ∙ are.count;
      told = λ k has. elim (cases_eq k b) [
        | inl same ↦
            let here = ap (λ n. get_or (set words b rest) n 0) same in
            let now = word_now words b rest are.count block_low' in
            absurd (omega (arith, has, here, now, empty))
        | inr away ↦
            let told = are.told k (subst (λ n. 0 < n) (kept_other k away) has) in stays k away (block_within k told) ∙ told
      ];
      only = λ k has. elim (cases_eq k b) [
        | inl same ↦
            let none = ap (bit_at filled') same ∙ ap (λ n. bit_at n b) less
            ∙ bit_at_clear_same w64 filled b block_low' in
            absurd (omega (arith, none, has))
        | inr away ↦ subst (λ n. 0 < n) (sym (kept_other k away))
            (are.only k (sym (stays k away (block_within k (had k has))) ∙ has))
      ];
    }
      where
        stays : (k : ℕ) → k ≢ b → k < 64 → bit_at filled' k ≡ bit_at filled k
        stays k away low = ap (λ n. bit_at n k) less ∙ bit_at_clear_other w64 filled b block_low' k low away

        had : (k : ℕ) → bit_at filled' k ≡ 1 → bit_at filled k ≡ 1
        had k has = and_bit filled (bit_not w64 (1 * 2 ^ b % 2 ^ 64)) k (ap (λ n. bit_at n k) (sym less) ∙ has)
