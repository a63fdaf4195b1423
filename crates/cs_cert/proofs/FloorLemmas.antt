-- One more known bound.
use Rattle.std.proofs.Common.{◌≡◌, Bool, true, false, IsTrue, map, if◌then◌else◌, subst, rules, ℕ, zero, suc, ◌+◌, ◌≤◌, ◌^◌, ◌⊎◌, List, [], ◌∷◌, Option, Some, None, cond, set, inl, inr, refl, sym, ap, arith}
use Rattle.std.specs.Prelude.{ℤ, pos, negsuc, ◌+ℤ◌, ◌-ℤ◌, ◌≤ℤ◌, is_none, slice_get, slice_set}
use Rattle.std.specs.List.{count_by}
use Rattle.std.proofs.lemmas.Int.{ints}
use Rattle.std.proofs.lemmas.List.Sums.{sum_by-set}
use Rattle.std.proofs.lemmas.Option.{get_or_from_slice_get, slice_get_within}
use Rattle.cs_graph.specs.declared.vertex.Vertex.{Vertex}
use Rattle.cs_graph.specs.declared.graph.Graph.{Graph}
use Rattle.cs_graph.specs.Kinds.{is_pinned}
use Rattle.cs_cert.specs.Floors.{AreNear, LowerBounds, pinned_bounds}

-- an item after one was set is that one, or stood there before
pub got_after : {A : Type 0} (xs : List A) (i : ℕ) (y : A) (k : ℕ) (x : A) → slice_get (set xs i y) k ≡ Some x
    → ((i ≡ k) × (y ≡ x)) ⊎ (slice_get xs k ≡ Some x)
got_after [] i y k x found = inr found
got_after (z ∷ zs) zero y zero x found = inl (refl, cc)
got_after (z ∷ zs) zero y (suc k) x found = inr found
got_after (z ∷ zs) (suc i) y zero x found = inr found
got_after (z ∷ zs) (suc i) y (suc k) x found = elim (got_after zs i y k x found) [
  | inl (place, value) ↦ inl (ap (λ n. suc n) place, value)
  | inr old ↦ inr old
]

low_after : (known cost z : ℤ) (far : ℕ) → known -ℤ cost ≡ z → pos 0 ≤ℤ (known +ℤ pos far) → cost ≤ℤ pos (2 ^ 98)
    → pos 0 ≤ℤ (z +ℤ pos (far + 2 ^ 98))
low_after known cost z far is low most = omega (arith, ints)

high_after : (known cost z : ℤ) (far : ℕ) → known -ℤ cost ≡ z → known ≤ℤ pos far → negsuc 0 ≤ℤ cost
    → z ≤ℤ pos (far + 2 ^ 98)
high_after known cost z far is high least = omega (arith, ints)

wider_low : (z : ℤ) (far further : ℕ) → far ≤ further → pos 0 ≤ℤ (z +ℤ pos far) → pos 0 ≤ℤ (z +ℤ pos further)
wider_low z far further wider h = omega (arith, ints)

wider_high : (z : ℤ) (far further : ℕ) → far ≤ further → z ≤ℤ pos far → z ≤ℤ pos further
wider_high z far further wider h = omega (arith, ints)

still_low : (z : ℤ) (far : ℕ) → pos 0 ≤ℤ (z +ℤ pos far) → pos 0 ≤ℤ (z +ℤ pos (far + 2 ^ 98))
still_low z far h = omega (arith, ints)

still_high : (z : ℤ) (far : ℕ) → z ≤ℤ pos far → z ≤ℤ pos (far + 2 ^ 98)
still_high z far h = omega (arith, ints)

pub near_after : (least : LowerBounds) (from to : ℕ) (known cost : ℤ) (far : ℕ) → AreNear far least
    → slice_get least from ≡ Some (Some known) → negsuc 0 ≤ℤ cost → cost ≤ℤ pos (2 ^ 98)
    → AreNear (far + 2 ^ 98) (slice_set least to (Some (known -ℤ cost)))
near_after least from to known cost far near begins lowest most = record {
  low = λ v z found. elim (got_after least to (Some (known -ℤ cost)) v (Some z) found) [
    | inl (place, value) ↦ low_after known cost z far (cc) (near.low from known begins) most
    | inr old ↦ still_low z far (near.low v z old)
  ];
  high = λ v z found. elim (got_after least to (Some (known -ℤ cost)) v (Some z) found) [
    | inl (place, value) ↦ high_after known cost z far (cc) (near.high from known begins) lowest
    | inr old ↦ still_high z far (near.high v z old)
  ];
}

pub fewer_open : (least : LowerBounds) (to : ℕ) (z : ℤ) → slice_get least to ≡ Some None
    → count_by is_none (slice_set least to (Some z)) + 1 ≡ count_by is_none least
fewer_open least to z unknown =
    let within = slice_get_within least to None unknown in
    let counts : Option ℤ → ℕ = λ o. cond (is_none o) 1 0 in
    let sums = sum_by-set counts least to (Some z) None within in
    let was = ap counts (get_or_from_slice_get least to None None unknown) in
    omega (arith, sums, was)

pub near_wider : (far further : ℕ) (least : LowerBounds) → far ≤ further → AreNear far least → AreNear further least
near_wider far further least wider near = record {
  low = λ v z found. wider_low z far further wider (near.low v z found);
  high = λ v z found. wider_high z far further wider (near.high v z found);
}

-- ---- without a step

by_test : (x : Vertex) (pinned : Bool) (z : ℤ) → is_pinned x.kind ≡ pinned
    → (if pinned then Some (pos 0) else None) ≡ Some z → IsTrue (is_pinned x.kind) × (z ≡ pos 0)
by_test x true z test is = (subst IsTrue (sym test) (search rules), cc)
by_test x false z test is = absurd (cc)

pinned_among : (xs : List Vertex) (v : ℕ) (z : ℤ)
    → slice_get (map (λ (x : Vertex). if is_pinned x.kind then Some (pos 0) else None) xs) v ≡ Some (Some z)
    → (x : Vertex) × (slice_get xs v ≡ Some x) × IsTrue (is_pinned x.kind) × (z ≡ pos 0)
pinned_among [] v z found = absurd (cc)
pinned_among (x ∷ xs) zero z found =
    let here : (if is_pinned x.kind then Some (pos 0) else None) ≡ Some z = cc in
    let is = by_test x (is_pinned x.kind) z refl here in (x, refl, is.0, is.1)
pinned_among (x ∷ xs) (suc v) z found = pinned_among xs v z found

pub pinned_zero : (g : Graph) (v : ℕ) (z : ℤ) → slice_get (pinned_bounds g) v ≡ Some (Some z)
    → (x : Vertex) × (slice_get g.vertices v ≡ Some x) × IsTrue (is_pinned x.kind) × (z ≡ pos 0)
pinned_zero g v z found = pinned_among g.vertices v z found

zero_low : (z : ℤ) → z ≡ pos 0 → pos 0 ≤ℤ (z +ℤ pos 0)
zero_low z is = omega (arith, ints)

zero_high : (z : ℤ) → z ≡ pos 0 → z ≤ℤ pos 0
zero_high z is = omega (arith, ints)

pub pinned_near : (g : Graph) → AreNear 0 (pinned_bounds g)
pinned_near g = record {
  low = λ v z found. zero_low z (pinned_zero g v z found).3;
  high = λ v z found. zero_high z (pinned_zero g v z found).3;
}
