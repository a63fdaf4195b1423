-- A system with a solution has a greatest one under any caps: values above a solution fall, one relaxation after
-- another, until all constraints hold.
use Rattle.std.proofs.Common.{◌≡◌, ℕ, zero, suc, ◌+◌, ◌<◌, ◌≤◌, ◌⊎◌, List, Some, arith, inl, inr, refl, cond, eqb, sym, ap}
use Rattle.std.specs.Prelude.{ℤ, pos, ◌+ℤ◌, ◌-ℤ◌, ◌≤ℤ◌, ◌<ℤ◌, unsigned_abs, slice_get, if◌then◌else◌, ◌==◌}
use Rattle.std.proofs.lemmas.Int.{ints}
use Rattle.std.proofs.lemmas.Bool.{cases_eq}
use Rattle.std.proofs.lemmas.Bool.Decides.{nat_tests}
use Rattle.cs_diff.specs.declared.system.Constraint.{Constraint}
use Rattle.cs_diff.specs.declared.system.System.{System}
use Rattle.cs_diff.specs.Systems.{HasSolution, IsSolution, IsUnder, IsGreatest}
use Rattle.cs_diff.proofs.DecideLemmas.{Fails, holds_or}

-- ---- a value for one vertex, the others as they were

with_value : (ℕ → ℤ) → ℕ → ℤ → ℕ → ℤ
with_value r u z v = if v == u then z else r v

value_here : (r : ℕ → ℤ) (u : ℕ) (z : ℤ) (v : ℕ) → v ≡ u → with_value r u z v ≡ z
unfolding with_value
value_here r u z v is = grind (arith, nat_tests)

value_there : (r : ℕ → ℤ) (u : ℕ) (z : ℤ) (v : ℕ) → (v ≡ u → ⊥) → with_value r u z v ≡ r v
unfolding with_value
value_there r u z v apart = grind (arith, nat_tests)

-- ---- how far the first n values stand above others

height : ℕ → (ℕ → ℤ) → (ℕ → ℤ) → ℕ
height zero q r = 0
height (suc n) q r = height n q r + unsigned_abs (r n -ℤ q n)

same_height : (n : ℕ) (q r : ℕ → ℤ) (u : ℕ) (z : ℤ) → n ≤ u → height n q (with_value r u z) ≡ height n q r
unfolding height
same_height zero q r u z past = refl
same_height (suc n) q r u z past =
    let rest = same_height n q r u z (omega arith) in
    let last = ap (λ x. unsigned_abs (x -ℤ q n)) (value_there r u z n (λ is. omega arith)) in
    omega (arith, rest, last)

nearer : (x y z : ℤ) → z ≤ℤ x → x <ℤ y → unsigned_abs (x -ℤ z) < unsigned_abs (y -ℤ z)
nearer x y z low less = omega (arith, ints)

height_falls : (n : ℕ) (q r : ℕ → ℤ) (u : ℕ) (z : ℤ) → u < n → q u ≤ℤ z → z <ℤ r u
    → height n q (with_value r u z) < height n q r
unfolding height
height_falls zero q r u z below low less = absurd (omega arith)
height_falls (suc n) q r u z below low less = elim (cases_eq u n) [
  | inl is ↦
      let rest = same_height n q r u z (omega arith) in
      let last = ap (λ x. unsigned_abs (x -ℤ q n)) (value_here r u z n (sym is)) in
      let fell = nearer z (r u) (q u) low less in
      let here = ap (λ v. unsigned_abs (z -ℤ q v)) is in
      let there = ap (λ v. unsigned_abs (r v -ℤ q v)) is in
      omega (arith, rest, last, fell, here, there)
  | inr apart ↦
      let rest = height_falls n q r u z (omega arith) low less in
      let last = ap (λ x. unsigned_abs (x -ℤ q n)) (value_there r u z n (λ is. apart (sym is))) in
      omega (arith, rest, last)
]

-- ---- a solution under the caps

record IsShift (n : ℕ) (q caps : ℕ → ℤ) (by : ℕ) : Type 0 where
  under : (v : ℕ) → v < n → (q v -ℤ pos by) ≤ℤ caps v

record Shift (n : ℕ) (q caps : ℕ → ℤ) : Type 0 where
  by : ℕ
  is : IsShift n q caps by

further : (x y : ℤ) (a b : ℕ) → (x -ℤ pos a) ≤ℤ y → (x -ℤ pos (a + b)) ≤ℤ y
further x y a b h = omega (arith, ints)

far : (x y : ℤ) (a : ℕ) → (x -ℤ pos (a + unsigned_abs (x -ℤ y))) ≤ℤ y
far x y a = omega (arith, ints)

shift : (n : ℕ) (q caps : ℕ → ℤ) → Shift n q caps
shift zero q caps = record { by = 0; is = record { under = λ v below. absurd (omega arith) } }
shift (suc n) q caps =
    let rest = shift n q caps in
    record {
      by = rest.by + unsigned_abs (q n -ℤ caps n);
      is = record {
        under = λ v below. elim (cases_eq v n) [
          | inl is ↦ rw is (far (q n) (caps n) rest.by)
          | inr apart ↦ further (q v) (caps v) rest.by (unsigned_abs (q n -ℤ caps n)) (rest.is.under v (omega arith))
        ];
      };
    }

same_difference : (x y m : ℤ) (a : ℕ) → (x -ℤ y) ≤ℤ m → ((x -ℤ pos a) -ℤ (y -ℤ pos a)) ≤ℤ m
same_difference x y m a h = omega (arith, ints)

same_value : (z : ℤ) → z ≤ℤ z
same_value z = omega (arith, ints)

-- ---- relaxation

-- values above a solution and under the caps that no solution under the caps exceeds
record IsAbove (s : System) (caps q r : ℕ → ℤ) : Type 0 where
  low : (v : ℕ) → v < s.vertices → q v ≤ℤ r v
  under : IsUnder s caps r
  bound : (other : ℕ → ℤ) → IsSolution s other → IsUnder s caps other → IsUnder s r other

allowed : (x y z m : ℤ) → (x -ℤ y) ≤ℤ m → y ≤ℤ z → x ≤ℤ (z +ℤ m)
allowed x y z m holds most = omega (arith, ints)

smaller : (x y m cap : ℤ) → m <ℤ (x -ℤ y) → x ≤ℤ cap → (y +ℤ m) ≤ℤ cap
smaller x y m cap breaks most = omega (arith, ints)

falls : (x y m : ℤ) → m <ℤ (x -ℤ y) → (y +ℤ m) <ℤ x
falls x y m breaks = omega (arith, ints)

module _ (s : System) (caps q : ℕ → ℤ) (solves : IsSolution s q) where
  relaxed : (ℕ → ℤ) → Constraint → ℕ → ℤ
  relaxed r c = with_value r c.from (r c.to +ℤ c.most)

  at_each : (P : ℕ → ℤ → Type 0) (r : ℕ → ℤ) (u : ℕ) (z : ℤ) → P u z → (v : ℕ) → P v (r v) → P v (with_value r u z v)
  at_each P r u z here v there = elim (cases_eq v u) [
    | inl is ↦ rw (value_here r u z v is, is) here
    | inr apart ↦ rw (value_there r u z v apart) there
  ]

  still_above : (r : ℕ → ℤ) (i : ℕ) (c : Constraint) → slice_get s.constraints i ≡ Some c
      → c.most <ℤ (r c.from -ℤ r c.to) → IsAbove s caps q r → IsAbove s caps q (relaxed r c)
  unfolding relaxed
  still_above r i c found breaks a =
      let among = s.in_range i c found in
      let z = r c.to +ℤ c.most in
      record {
        low = λ v below. at_each (λ u x. q u ≤ℤ x) r c.from z
            (allowed (q c.from) (q c.to) (r c.to) c.most (solves i c found) (a.low c.to among.to)) v (a.low v below);
        under = λ v below. at_each (λ u x. x ≤ℤ caps u) r c.from z
            (smaller (r c.from) (r c.to) c.most (caps c.from) breaks (a.under c.from among.from)) v (a.under v below);
        bound = λ other solution most v below. at_each (λ u x. other u ≤ℤ x) r c.from z
            (allowed (other c.from) (other c.to) (r c.to) c.most (solution i c found)
            (a.bound other solution most c.to among.to)) v (a.bound other solution most v below);
      }

  done : (r : ℕ → ℤ) → IsAbove s caps q r → IsSolution s r → (r' : ℕ → ℤ) × IsGreatest s caps r'
  done r a holds = (r, record { solves = holds; under = a.under; greatest = a.bound })

  nearer_by : (r : ℕ → ℤ) (f : Fails s.constraints r) → IsAbove s caps q r
      → height s.vertices q (relaxed r f.constraint) < height s.vertices q r
  unfolding relaxed
  nearer_by r f a =
      let c = f.constraint in
      let among = s.in_range f.place c f.found in
      height_falls s.vertices q r c.from (r c.to +ℤ c.most) among.from
      (allowed (q c.from) (q c.to) (r c.to) c.most (solves f.place c f.found) (a.low c.to among.to))
      (falls (r c.from) (r c.to) c.most f.breaks)

  settled : (fuel : ℕ) (r : ℕ → ℤ) → height s.vertices q r ≤ fuel → IsAbove s caps q r
      → (r' : ℕ → ℤ) × IsGreatest s caps r'
  settled zero r few a = elim (holds_or s.constraints r) [
    | inl holds ↦ done r a holds
    | inr f ↦ absurd (omega (arith, nearer_by r f a))
  ]
  settled (suc fuel) r few a = elim (holds_or s.constraints r) [
    | inl holds ↦ done r a holds
    | inr f ↦ settled fuel (relaxed r f.constraint) (omega (arith, nearer_by r f a))
        (still_above r f.place f.constraint f.found f.breaks a)
  ]

pub greatest_exists : (s : System) (caps : ℕ → ℤ) → HasSolution s → (r : ℕ → ℤ) × IsGreatest s caps r
greatest_exists s caps some =
    let down = shift s.vertices some.values caps in
    let q : ℕ → ℤ = λ v. some.values v -ℤ pos down.by in
    let solves : IsSolution s q = λ i c found. same_difference (some.values c.from) (some.values c.to) c.most down.by
    (some.solves i c found) in
    settled s caps q solves (height s.vertices q caps) caps (omega arith) (record {
      low = down.is.under;
      under = λ v below. same_value (caps v);
      bound = λ other solution under. under;
    })
