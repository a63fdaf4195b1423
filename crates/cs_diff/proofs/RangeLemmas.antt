-- Labels in their range: how high and how low they are, and how far they may still fall.
use Rattle.std.proofs.Common.{◌≡◌, ℕ, ◌+◌, ◌*◌, ◌^◌, ◌<◌, ◌≤◌, length, Option, Some, None, is_some, set, sym, ap, ◌∙◌, subst, cond, arith, inl, inr, refl}
use Rattle.std.specs.Prelude.{ℤ, pos, ◌+ℤ◌, ◌≤ℤ◌, ◌<ℤ◌, unsigned_abs}
use Rattle.std.specs.List.{count_by}
use Rattle.std.specs.Option.{option_map}
use Rattle.std.proofs.lemmas.Int.{ints, by_lt_z}
use Rattle.std.proofs.lemmas.Bool.{cases_eq}
use Rattle.std.proofs.lemmas.List.{get_or-set_same, get_or-set_other, length-set}
use Rattle.std.proofs.lemmas.List.Sums.{sum_by-set, count_by-le-length}
use Rattle.cs_base.specs.Ranges.{IsSmall}
use Rattle.cs_diff.specs.Labels.{Labels, at, AreInRange, gap, slack, slack_of}
use Rattle.cs_diff.proofs.LabelLemmas.{IsViolated}

-- a vertex that gets a label is one more, or it had one
count_set : (labels : Labels) (v : ℕ) (z : ℤ) → v < length labels
    → count_by is_some (set labels v (Some z)) + cond (is_some (at labels v)) 1 0 ≡ count_by is_some
    labels + 1
count_set labels v z h = sum_by-set (λ x. cond (is_some x) 1 0) labels v (Some z) None h

slack_set : (n : ℕ) (labels : Labels) (v : ℕ) (z : ℤ) → v < length labels
    → slack_of n (set labels v (Some z)) + slack n (at labels v) ≡ slack_of n labels + slack n
    (Some z)
slack_set n labels v z h = sum_by-set (slack n) labels v (Some z) None h

-- ---- plain numbers

-- a first label, one step above another
high_first : (z b m : ℤ) (e k k' : ℕ) → z ≡ b +ℤ m → (b +ℤ pos e) ≤ℤ pos (2 ^ 31 * k)
    → m ≤ℤ pos (2 ^ 31) → k' + 0 ≡ k + 1 → (z +ℤ pos e) ≤ℤ pos (2 ^ 31 * k')
high_first z b m e k k' is low small more = omega (arith, ints)

-- a label that fell
high_next : (z y : ℤ) (e k k' : ℕ) → z <ℤ y → (y +ℤ pos e) ≤ℤ pos (2 ^ 31 * k) → k' + 1 ≡ k + 1
    → (z +ℤ pos e) ≤ℤ pos (2 ^ 31 * k')
high_next z y e k k' less high same = omega (arith, ints)

high_more : (z : ℤ) (e k k' d : ℕ) → (z +ℤ pos e) ≤ℤ pos (2 ^ 31 * k) → k' + d ≡ k + 1 → d ≤ 1
    → (z +ℤ pos e) ≤ℤ pos (2 ^ 31 * k')
high_more z e k k' d high more one = omega (arith, ints)

slack_first : (z : ℤ) (n e k : ℕ) → pos 0 ≤ℤ (z +ℤ pos (2 ^ 31 * n))
    → (z +ℤ pos e) ≤ℤ pos (2 ^ 31 * k) → k ≤ n
    → unsigned_abs (z +ℤ pos (2 ^ 31 * n)) < 2 ^ 32 * n + 1
slack_first z n e k low high few = omega (arith, ints)

slack_next : (z y : ℤ) (n : ℕ) → pos 0 ≤ℤ (z +ℤ pos (2 ^ 31 * n)) → z <ℤ y
    → unsigned_abs (z +ℤ pos (2 ^ 31 * n)) < unsigned_abs (y +ℤ pos (2 ^ 31 * n))
slack_next z y n low less = omega (arith, ints)

falls : (a a' s s' : ℕ) → a' + s ≡ a + s' → s' < s → a' < a
falls a a' s s' is less = omega arith

at_most_one : (o : Option ℤ) → cond (is_some o) 1 0 ≤ 1
at_most_one None = omega arith
at_most_one (Some z) = omega arith

module _ (n : ℕ) (labels : Labels) (count : length labels ≡ n) (range : AreInRange n labels) (v : ℕ)
    (below : v < length labels) (b m : ℤ) (low : pos 0 ≤ℤ ((b +ℤ m) +ℤ pos (2 ^ 31 * n)))
    (high : (b +ℤ pos (gap n)) ≤ℤ pos (2 ^ 31 * count_by is_some labels))
    (small : m ≤ℤ pos (2 ^ 31)) (violated : IsViolated labels v (b +ℤ m)) where
  labels' : Labels
  labels' = set labels v (Some (b +ℤ m))

  here : at labels' v ≡ Some (b +ℤ m)
  unfolding labels'
  here = get_or-set_same labels v (Some (b +ℤ m)) None below

  other : (u : ℕ) → (u ≡ v → ⊥) → at labels' u ≡ at labels u
  unfolding labels'
  other u h = get_or-set_other labels v u (Some (b +ℤ m)) None h

  count_here : count_by is_some labels' + cond (is_some (at labels v)) 1 0 ≡ count_by is_some labels
      + 1
  unfolding labels'
  count_here = count_set labels v (b +ℤ m) below

  few : count_by is_some labels' ≤ n
  unfolding labels'
  few = omega (
    arith,
    count_by-le-length is_some (set labels v (Some (b +ℤ m))),
    length-set labels v
        (Some (b +ℤ m)),
  )

  high_here : (o : Option ℤ) → at labels v ≡ o
      → ((b +ℤ m) +ℤ pos (gap n)) ≤ℤ pos (2 ^ 31 * count_by is_some labels')
  high_here None is = high_first (b +ℤ m) b m (gap n) (count_by is_some labels)
      (count_by is_some labels') refl high small (let P : Option ℤ → Type 0 = λ x. count_by is_some
      labels' + cond (is_some x) 1 0 ≡ count_by is_some labels + 1 in subst P is count_here)
  high_here (Some y) is = high_next (b +ℤ m) y (gap n) (count_by is_some labels)
      (count_by is_some labels') (violated y is) (range.high v y is)
      (let P : Option ℤ → Type 0 = λ x. count_by is_some labels' + cond (is_some x) 1 0 ≡ count_by
      is_some labels + 1 in subst P is count_here)

  in_range : AreInRange n labels'
  in_range = record {
    low = λ u z is. elim (cases_eq u v) [
      | inl same ↦ let value : b +ℤ m ≡ z = cc (here, ap (at labels') same) in rw (← value) low
      | inr apart ↦ range.low u z (sym (other u apart) ∙ is)
    ];
    high = λ u z is. elim (cases_eq u v) [
      | inl same ↦ let value : b +ℤ m ≡ z = cc (here, ap (at labels') same) in rw (← value)
          (high_here (at labels v) refl)
      | inr apart ↦ high_more z (gap n) (count_by is_some labels) (count_by is_some labels')
          (cond (is_some (at labels v)) 1 0) (range.high u z (sym (other u apart) ∙ is)) count_here
          (at_most_one (at labels v))
    ];
  }

  slack_here : (o : Option ℤ) → at labels v ≡ o → slack n (Some (b +ℤ m)) < slack n o
  slack_here None is = slack_first (b +ℤ m) n (gap n) (count_by is_some labels') low
      (high_here None is) few
  slack_here (Some y) is = slack_next (b +ℤ m) y n low (violated y is)

  slack_falls : slack_of n labels' < slack_of n labels
  unfolding labels'
  slack_falls = falls (slack_of n labels) (slack_of n labels') (slack n (at labels v))
      (slack n (Some (b +ℤ m))) (slack_set n labels v (b +ℤ m) below)
      (slack_here (at labels v) refl)

-- a label that fell and isn't too low is in the range, and the slack fell
pub range_by : (n : ℕ) (labels : Labels) (v : ℕ) (b m : ℤ) → length labels ≡ n → AreInRange n labels
    → v < length labels → pos 0 ≤ℤ ((b +ℤ m) +ℤ pos (2 ^ 31 * n))
    → (b +ℤ pos (gap n)) ≤ℤ pos (2 ^ 31 * count_by is_some labels) → IsSmall m
    → IsViolated labels v (b +ℤ m)
    → AreInRange n (set labels v (Some (b +ℤ m))) × (slack_of n (set labels v (Some (b +ℤ m))) <
    slack_of n labels)
unfolding labels'
range_by n labels v b m count range below low high small violated = (
  in_range n labels count range v below b m low high small.high violated,
  slack_falls n labels
      count range v below b m low high small.high violated,
)

-- the same, as the code finds the new label
pub range_relaxed : (n : ℕ) (labels : Labels) (h t : ℕ) (z m : ℤ) → length labels ≡ n
    → AreInRange n labels → h < length labels → ((z +ℤ pos (2 ^ 31 * n)) <ℤ pos 0 → ⊥)
    → Some z ≡ option_map (λ b. b +ℤ m) (at labels t) → IsSmall m → IsViolated labels h z
    → AreInRange n (set labels h (Some z)) × (slack_of n (set labels h (Some z)) < slack_of n
    labels)
range_relaxed n labels h t z m count range below above allows small violated = range_at
    (at labels t) refl allows where
      not_below : (a : ℤ) → (a <ℤ pos 0 → ⊥) → pos 0 ≤ℤ a
      not_below a above_zero = by_lt_z a (pos 0) (λ less. absurd (above_zero less)) (λ h. h)

      range_at : (o : Option ℤ) → at labels t ≡ o → Some z ≡ option_map (λ b. b +ℤ m) o
          → AreInRange n (set labels h (Some z)) × (slack_of n (set labels h (Some z)) < slack_of n
          labels)
      range_at None is bad = cc
      range_at (Some b) is good =
          let sum : z ≡ b +ℤ m = cc in
          let low : pos 0 ≤ℤ ((b +ℤ m) +ℤ pos (2 ^ 31 * n)) = rw (← sum)
          (not_below (z +ℤ pos (2 ^ 31 * n)) above) in
          rw sum (range_by n labels h b m count range below low (range.high t b is) small
          (rw (← sum) violated))
