-- The places that are still marked are listed.
use Rattle.std.proofs.Common.{◌≡◌, ℕ, true, false, length, get_or, vec_len, Contains}
use Rattle.cs_sat.proofs.marks.Marks.clear.Given as goal

abbrev pub invariant-loop-place : goal.invariant-loop-place
invariant-loop-place l = record {
  size : length l.self.marked.items ≡ length l.initial.self.marked.items;
  listed : (place : ℕ) → get_or l.self.marked.items place false ≡ true → Contains l.self.touched.items place;
}

abbrev pub decreases-loop-place : goal.decreases-loop-place
decreases-loop-place l = vec_len l.self.touched
