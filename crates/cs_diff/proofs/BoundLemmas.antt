-- How low a greatest solution, and how high a least value, can be: across a gap wider than any constraint below 0 all
-- that is below it could be raised, or all that is above it lowered.
use Rattle.std.proofs.Common.{◌≡◌, ℕ, ◌+◌, ◌*◌, ◌<◌, ◌≤◌, ◌⊎◌, ap, ◌∙◌, arith, inl, inr, refl}
use Rattle.std.specs.Prelude.{ℤ, pos, ◌+ℤ◌, ◌-ℤ◌, ◌≤ℤ◌, ◌<ℤ◌}
use Rattle.std.specs.Int.{int_min, int_max}
use Rattle.std.proofs.lemmas.Int.{ints, clamps, by_lt_z}
use Rattle.cs_diff.specs.declared.system.System.{System}
use Rattle.cs_diff.specs.Systems.{AreAtLeast, IsSolution, IsUnder, IsGreatest, IsLeast}
use Rattle.cs_diff.proofs.GapLemmas.{IsGap, gap_below, next_multiple}

-- one more, where the value is below -t
raised : ℕ → ℤ → ℤ
raised t z = int_min (z +ℤ pos 1) (int_max z (pos 0 -ℤ pos t))

-- one less, where it is above t
lowered : ℕ → ℤ → ℤ
lowered t z = int_max (z -ℤ pos 1) (int_min z (pos t))

-- the value lies outside a gap of the heights
abbrev Outside : ℕ → ℕ → ℤ → Type 0
Outside low a height = (height ≤ℤ pos low) ⊎ (pos (low + a) <ℤ height)

raised_holds : (x y m : ℤ) (a low : ℕ) → (x -ℤ y) ≤ℤ m → pos 0 ≤ℤ (m +ℤ pos a) → Outside low a (pos 0 -ℤ x)
    → Outside low a (pos 0 -ℤ y) → (raised (low + a) x -ℤ raised (low + a) y) ≤ℤ m
unfolding raised
raised_holds x y m a low holds wide (inl here) (inl there) = omega (arith, ints, clamps)
raised_holds x y m a low holds wide (inl here) (inr there) = omega (arith, ints, clamps)
raised_holds x y m a low holds wide (inr here) (inl there) = omega (arith, ints, clamps)
raised_holds x y m a low holds wide (inr here) (inr there) = omega (arith, ints, clamps)

raised_under : (t : ℕ) (z cap : ℤ) → z ≤ℤ cap → pos 0 ≤ℤ cap → raised t z ≤ℤ cap
unfolding raised
raised_under t z cap under high = omega (arith, ints, clamps)

raised_above : (t : ℕ) (z : ℤ) → pos t <ℤ (pos 0 -ℤ z) → raised t z ≤ℤ z → ⊥
unfolding raised
raised_above t z low most = omega (arith, ints, clamps)

lowered_holds : (x y m : ℤ) (a low : ℕ) → (x -ℤ y) ≤ℤ m → pos 0 ≤ℤ (m +ℤ pos a) → Outside low a x
    → Outside low a y → (lowered (low + a) x -ℤ lowered (low + a) y) ≤ℤ m
unfolding lowered
lowered_holds x y m a low holds wide (inl here) (inl there) = omega (arith, ints, clamps)
lowered_holds x y m a low holds wide (inl here) (inr there) = omega (arith, ints, clamps)
lowered_holds x y m a low holds wide (inr here) (inl there) = omega (arith, ints, clamps)
lowered_holds x y m a low holds wide (inr here) (inr there) = omega (arith, ints, clamps)

lowered_zero : (t : ℕ) → lowered t (pos 0) ≡ pos 0
unfolding lowered
lowered_zero t = omega (arith, ints, clamps)

lowered_below : (t : ℕ) (z least : ℤ) → z ≡ least → pos t <ℤ z → least ≤ℤ lowered t z → ⊥
unfolding lowered
lowered_below t z least same high most = omega (arith, ints, clamps)

too_low : (z : ℤ) (m k : ℕ) → m ≡ k → (z +ℤ pos m) <ℤ pos 0 → pos k <ℤ (pos 0 -ℤ z)
too_low z m k same low = omega (arith, ints)

past : (z : ℤ) (low most : ℕ) → low ≤ most → pos most <ℤ z → pos low <ℤ z
past z low most order high = omega (arith, ints)

module _ (s : System) (a : ℕ) (wide : AreAtLeast s a) where
  raises : (caps r : ℕ → ℤ) (k : ℕ) → IsGreatest s caps r → IsGap s.vertices a (λ v. pos 0 -ℤ r v) k
      → IsSolution s (λ v. raised (k * a + a) (r v))
  raises caps r k g gap i c found =
      let among = s.in_range i c found in
      raised_holds (r c.from) (r c.to) c.most a (k * a) (g.solves i c found) (wide i c found)
      (gap.none c.from among.from) (gap.none c.to among.to)

  not_too_low : (caps r : ℕ → ℤ) → ((v : ℕ) → v < s.vertices → pos 0 ≤ℤ caps v) → IsGreatest s caps r → (v : ℕ)
      → v < s.vertices → pos (s.vertices * a) <ℤ (pos 0 -ℤ r v) → ⊥
  not_too_low caps r high g v below low =
      let (k, under, gap) = gap_below s.vertices a (λ u. pos 0 -ℤ r u) v below low in
      let t = k * a + a in
      raised_above t (r v) (past (pos 0 -ℤ r v) t (s.vertices * a) (next_multiple k s.vertices a under) low)
      (g.greatest (λ u. raised t (r u)) (raises caps r k g gap)
      (λ u among. raised_under t (r u) (caps u) (g.under u among) (high u among)) v below)

  pub greatest_is_high : (caps r : ℕ → ℤ) → ((v : ℕ) → v < s.vertices → pos 0 ≤ℤ caps v) → IsGreatest s caps r
      → (v : ℕ) → v < s.vertices → pos 0 ≤ℤ (r v +ℤ pos (s.vertices * a))
  greatest_is_high caps r high g v below =
      by_lt_z (r v +ℤ pos (s.vertices * a)) (pos 0)
      (λ low. absurd (not_too_low caps r high g v below (too_low (r v) (s.vertices * a) (s.vertices * a) refl low)))
      (λ enough. enough)

  lowers : (r : ℕ → ℤ) (k : ℕ) → IsSolution s r → IsGap s.vertices a r k
      → IsSolution s (λ v. lowered (k * a + a) (r v))
  lowers r k solves gap i c found =
      let among = s.in_range i c found in
      lowered_holds (r c.from) (r c.to) c.most a (k * a) (solves i c found) (wide i c found)
      (gap.none c.from among.from) (gap.none c.to among.to)

  not_too_high : (root v : ℕ) (least : ℤ) → v < s.vertices → IsLeast s root v least
      → pos (s.vertices * a) <ℤ least → ⊥
  not_too_high root v least below l high =
      let r = l.values in
      let top : pos (s.vertices * a) <ℤ r v = rw l.reached high in
      let (k, under, gap) = gap_below s.vertices a r v below top in
      let t = k * a + a in
      lowered_below t (r v) least l.reached (past (r v) t (s.vertices * a) (next_multiple k s.vertices a under) top)
      (l.below (λ u. lowered t (r u)) (lowers r k l.solves gap) (ap (lowered t) l.root_at_zero ∙ lowered_zero t))

  pub least_is_low : (root v : ℕ) (least : ℤ) → v < s.vertices → IsLeast s root v least
      → least ≤ℤ pos (s.vertices * a)
  least_is_low root v least below l =
      by_lt_z (pos (s.vertices * a)) least (λ high. absurd (not_too_high root v least below l high)) (λ most. most)
