-- Heights of n vertices, one of them above n * a, leave a gap: none is above some k * a and at most k * a + a.
use Rattle.std.proofs.Common.{◌≡◌, ℕ, zero, suc, ◌+◌, ◌*◌, ◌<◌, ◌≤◌, ◌⊎◌, ap, arith, inl, inr}
use Rattle.std.specs.Prelude.{ℤ, pos, ◌≤ℤ◌, ◌<ℤ◌}
use Rattle.std.proofs.lemmas.Int.{ints, by_lt_z}
use Rattle.std.proofs.lemmas.Bool.{cases_lt, cases_eq}
use Rattle.cs_diff.proofs.Pigeons.{pigeons}

-- no height of the first m vertices is above k * a and at most k * a + a
pub record IsGap (m a : ℕ) (height : ℕ → ℤ) (k : ℕ) : Type 0 where
  pub none : (v : ℕ) → v < m → (height v ≤ℤ pos (k * a)) ⊎ (pos (k * a + a) <ℤ height v)

-- one of them is
record IsHit (m a : ℕ) (height : ℕ → ℤ) (k : ℕ) : Type 0 where
  vertex : ℕ
  among : vertex < m
  above : pos (k * a) <ℤ height vertex
  most : height vertex ≤ℤ pos (k * a + a)

wider : (m a : ℕ) (height : ℕ → ℤ) (k : ℕ) → IsGap m a height k
    → (height m ≤ℤ pos (k * a)) ⊎ (pos (k * a + a) <ℤ height m) → IsGap (suc m) a height k
wider m a height k g here = record {
  none = λ v below. elim (cases_eq v m) [ inl is ↦ rw is here | inr apart ↦ g.none v (omega arith) ];
}

gap_or_hit : (m a : ℕ) (height : ℕ → ℤ) (k : ℕ) → IsGap m a height k ⊎ IsHit m a height k
gap_or_hit zero a height k = inl (record { none = λ v below. absurd (omega arith) })
gap_or_hit (suc m) a height k = elim (gap_or_hit m a height k) [
  | inr h ↦ inr (record { vertex = h.vertex; among = omega (arith, h.among); above = h.above; most = h.most })
  | inl g ↦
      by_lt_z (pos (k * a)) (height m)
      (λ above. by_lt_z (pos (k * a + a)) (height m)
      (λ past. inl (wider m a height k g (inr past)))
      (λ most. inr (record { vertex = m; among = omega arith; above = above; most = most })))
      (λ low. inl (wider m a height k g (inl low)))
]

gap_or_hits : (n a : ℕ) (height : ℕ → ℤ) (m : ℕ)
    → ((k : ℕ) × (k < m) × IsGap n a height k) ⊎ ((k : ℕ) → k < m → IsHit n a height k)
gap_or_hits n a height zero = inr (λ k below. absurd (omega arith))
gap_or_hits n a height (suc m) = elim (gap_or_hits n a height m) [
  | inl (k, below, gap) ↦ inl (k, omega arith, gap)
  | inr hits ↦ elim (gap_or_hit n a height m) [
    | inl gap ↦ inl (m, omega arith, gap)
    | inr hit ↦ inr (λ k below. elim (cases_eq k m) [ inl is ↦ rw is hit | inr apart ↦ hits k (omega arith) ])
  ]
]

pub next_multiple : (i j a : ℕ) → i < j → i * a + a ≤ j * a
next_multiple i zero a h = absurd (omega arith)
next_multiple i (suc j) a h = elim (cases_eq i j) [
  | inl is ↦ rw is (omega arith)
  | inr apart ↦ let rest : i * a + a ≤ j * a = next_multiple i j a (omega arith) in omega arith
]

-- a vertex for each k up to n: one that hits, and above them the one at the top
record IsLevel (n a : ℕ) (height : ℕ → ℤ) (k : ℕ) : Type 0 where
  vertex : ℕ
  among : vertex < n
  above : k ≤ n → pos (k * a) <ℤ height vertex
  most : k < n → height vertex ≤ℤ pos (k * a + a)

clash : (x y : ℤ) (p q : ℕ) → x ≡ y → x ≤ℤ pos p → pos q <ℤ y → p ≤ q → ⊥
clash x y p q same most above order = omega (arith, ints)

module _ (n a : ℕ) (height : ℕ → ℤ) (top : ℕ) (among : top < n) (high : pos (n * a) <ℤ height top) where
  level : ((k : ℕ) → k < n → IsHit n a height k) → (k : ℕ) → IsLevel n a height k
  level hits k = elim (cases_lt k n) [
    | inl below ↦ let h = hits k below in record {
      vertex = h.vertex;
      among = h.among;
      above = λ _. h.above;
      most = λ _. h.most;
    }
    | inr past ↦ record {
      vertex = top;
      among = among;
      above = λ most. let is : k ≡ n = omega arith in rw is high;
      most = λ below. absurd (omega arith);
    }
  ]

  crowded : ((k : ℕ) → k < n → IsHit n a height k) → ⊥
  crowded hits =
      let r = pigeons n (λ k. (level hits k).vertex) (λ k most. (level hits k).among) in
      let below : r.first < n = omega (arith, r.order, r.within) in
      clash (height (level hits r.first).vertex) (height (level hits r.second).vertex)
      (r.first * a + a) (r.second * a) (ap height r.same) ((level hits r.first).most below)
      ((level hits r.second).above r.within) (next_multiple r.first r.second a r.order)

  pub gap_below : (k : ℕ) × (k < n) × IsGap n a height k
  gap_below = elim (gap_or_hits n a height n) [ inl gap ↦ gap | inr hits ↦ absurd (crowded hits) ]
