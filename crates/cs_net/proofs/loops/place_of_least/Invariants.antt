use Rattle.std.proofs.Common.{◌≡◌, ◌<◌, ◌≤◌, ℕ, Some, length, slice_get}
use Rattle.cs_net.proofs.loops.place_of_least.Given as goal

-- the least so far
abbrev pub invariant-loop-place : goal.invariant-loop-place
invariant-loop-place l = record {
  within : l.least < length l.numbers;
  least : (i x y : ℕ) → i < l.place → slice_get l.numbers l.least ≡ Some x → slice_get l.numbers i ≡ Some y
      → x ≤ y;
}
