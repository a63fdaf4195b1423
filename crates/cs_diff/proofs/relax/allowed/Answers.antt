-- A label in its range and what a constraint adds to it fit 64 bits.
use Rattle.std.proofs.Common.{◌≡◌, ℕ, ◌*◌, ◌^◌, ◌<◌, ◌≤◌, length, Some, is_some, ap, ◌∙◌, arith, FitsSigned, w64, to_z, of_z}
use Rattle.std.specs.Prelude.{ℤ, pos, ◌+ℤ◌, ◌≤ℤ◌}
use Rattle.std.specs.List.{count_by}
use Rattle.std.specs.Option.{option_map}
use Rattle.std.proofs.lemmas.Int.{ints, to_z-of_z}
use Rattle.std.proofs.lemmas.List.Sums.{count_by-le-length}
use Rattle.cs_base.specs.Ranges.{IsSmall}
use Rattle.cs_diff.specs.Labels.{at, Labels, gap, AreInRange}
use Rattle.cs_diff.proofs.relax.allowed.Goals as goal

fits : (z : ℤ) (n k : ℕ) → pos 0 ≤ℤ (z +ℤ pos (2 ^ 31 * n)) → (z +ℤ pos (gap n)) ≤ℤ pos (2 ^ 31 * k)
    → k ≤ n → n < 2 ^ 32 → FitsSigned w64 z
fits z n k low high few fewer = omega (arith, ints)

small_fits : (m : ℤ) → IsSmall m → FitsSigned w64 m
small_fits m small = omega (arith, ints)

sum_fits : (z m : ℤ) (n k : ℕ) → pos 0 ≤ℤ (z +ℤ pos (2 ^ 31 * n))
    → (z +ℤ pos (gap n)) ≤ℤ pos (2 ^ 31 * k) → k ≤ n → n < 2 ^ 32 → IsSmall m
    → FitsSigned w64 (z +ℤ m)
sum_fits z m n k low high few fewer small = omega (arith, ints)

module _ (n : ℕ) (labels : Labels) (v : ℕ) (z m : ℤ) (range : AreInRange n labels)
    (len : length labels ≡ n) (fewer : n < 2 ^ 32) (small : IsSmall m) (is : at labels v ≡ Some z)
  where
    few : count_by is_some labels ≤ n
    few = omega (arith, count_by-le-length is_some labels)

    label_is : to_z w64 (of_z w64 z) ≡ z
    label_is = to_z-of_z w64 z (fits z n (count_by is_some labels) (range.low v z is)
        (range.high v z is) few fewer)

    most_is : to_z w64 (of_z w64 m) ≡ m
    most_is = to_z-of_z w64 m (small_fits m small)

    fits_at : FitsSigned w64 (to_z w64 (of_z w64 z) +ℤ to_z w64 (of_z w64 m))
    fits_at = rw (label_is, most_is) (sum_fits z m n (count_by is_some labels) (range.low v z is)
        (range.high v z is) few fewer small)

    allows : Some (to_z w64 (of_z w64 (to_z w64 (of_z w64 z) +ℤ to_z w64 (of_z w64 m)))) ≡ option_map
        (λ y. y +ℤ m) (at labels v)
    allows = rw is (ap (λ y. Some y) (to_z-of_z w64 (to_z w64 (of_z w64 z) +ℤ to_z w64 (of_z w64 m))
        fits_at ∙ ap (λ y. y +ℤ to_z w64 (of_z w64 m)) label_is ∙ ap (λ y. z +ℤ y) most_is))

pub overflow_add-result : goal.overflow_add-result
overflow_add-result c =
    fits_at c.args.sys.now.vertices c.args.labels.now c.tail.result c.in_ok-label.label
    c.args.constraint.most c.requires.range c.requires.len (omega arith) c.requires.among.most
    c.in_ok-label.was

pub returns : goal.returns
returns c =
    rw (← c.tail.ensures)
    (allows c.args.sys.now.vertices c.args.labels.now c.tail.result c.in_ok-label.label
    c.args.constraint.most c.requires.range c.requires.len (omega arith) c.requires.among.most
    c.in_ok-label.was)
