-- The least of some bits, as they are looked at one by one.
use Rattle.std.specs.Prelude.{nat_le, ◌==◌, slice_get}
use Rattle.std.proofs.Common.{◌≡◌, ℕ, ◌+◌, ◌-◌, ◌<◌, ◌≤◌, Bool, true, List, [], ◌∷◌, ◌++◌, drop, get_or, take, length, Some, refl, sym, ap, subst, ◌∙◌, arith}
use Rattle.std.specs.List.{list_all, list_any}
use Rattle.std.proofs.lemmas.Bool.{and_from, and_parts, eq-eqb, le-leb, leb-true}
use Rattle.std.proofs.lemmas.Option.{get_or_from_slice_get}
use Rattle.cs_net.proofs.Members.{within_has}
use Rattle.cs_lower.specs.Walks.{ClosesAt, IsLeast}
use Rattle.cs_lower.proofs.BitLists.{rest_all, take_next}
use Rattle.cs_lower.proofs.Places.{any_place}

-- one of all the bits, and none of those so far is less
pub record IsLeastSoFar (m : ℕ) (bits : List ℕ) (done : List ℕ) : Type 0 where
  pub among : list_any (λ a. a == m) bits ≡ true
  pub least : list_all (λ a. nat_le m a) done ≡ true

all_append : (test : ℕ → Bool) (xs ys : List ℕ) → list_all test xs ≡ true → list_all test ys ≡ true
    → list_all test (xs ++ ys) ≡ true
all_append test [] ys first then = then
all_append test (x ∷ xs) ys first then =
    let parts = and_parts (test x) (list_all test xs) first in
    and_from (test x) (list_all test (xs ++ ys)) parts.0 (all_append test xs ys parts.1 then)

all_less : (m n : ℕ) (xs : List ℕ) → m ≤ n → list_all (λ a. nat_le n a) xs ≡ true
    → list_all (λ a. nat_le m a) xs ≡ true
all_less m n [] below all = refl
all_less m n (x ∷ xs) below all =
    let parts = and_parts (nat_le n x) (list_all (λ a. nat_le n a) xs) all in
    and_from (nat_le m x) (list_all (λ a. nat_le m a) xs)
    (le-leb m x (omega (arith, below, leb-true n x parts.0))) (all_less m n xs below parts.1)

at_place : (xs : List ℕ) (i b : ℕ) → slice_get xs i ≡ Some b → list_any (λ a. a == b) xs ≡ true
at_place xs i b at = any_place (λ a. a == b) xs i b at (eq-eqb b b refl)

-- a bit no less than the least so far
least_stays : (m b i : ℕ) (bits : List ℕ) → IsLeastSoFar m bits (take i bits) → slice_get bits i ≡ Some b → m ≤ b
    → IsLeastSoFar m bits (take (i + 1) bits)
least_stays m b i bits so_far at most = record {
  among = so_far.among;
  least = subst (λ xs. list_all (λ a. nat_le m a) xs ≡ true) (sym (take_next bits i b at))
      (all_append (λ a. nat_le m a) (take i bits) (b ∷ []) so_far.least
      (and_from (nat_le m b) true (le-leb m b most) refl));
}

-- a lesser one
least_falls : (m b i : ℕ) (bits : List ℕ) → IsLeastSoFar m bits (take i bits) → slice_get bits i ≡ Some b → b ≤ m
    → IsLeastSoFar b bits (take (i + 1) bits)
least_falls m b i bits so_far at below =
    let now : IsLeastSoFar b bits (take i bits) = record {
      among = at_place bits i b at;
      least = all_less b m (take i bits) below so_far.least;
    } in
    least_stays b b i bits now at (omega arith)

-- one more bit is looked at
pub least_next_falls : (m next i : ℕ) (bits : List ℕ) → IsLeastSoFar m bits (take i bits) → i < length bits
    → next ≡ get_or bits i 0 → get_or bits i 0 < m → IsLeastSoFar next bits (take (i + 1) bits)
least_next_falls m next i bits so_far within is less =
    let at = within_has bits i within in
    let here : next ≡ at.0 = is ∙ get_or_from_slice_get bits i at.0 0 at.1 in
    subst (λ n. IsLeastSoFar n bits (take (i + 1) bits)) (sym here)
    (least_falls m at.0 i bits so_far at.1 (omega (arith, here, is, less)))

pub least_next_stays : (m next i : ℕ) (bits : List ℕ) → IsLeastSoFar m bits (take i bits) → i < length bits
    → next ≡ m → m ≤ get_or bits i 0 → IsLeastSoFar next bits (take (i + 1) bits)
least_next_stays m next i bits so_far within is most =
    let at = within_has bits i within in
    let here : get_or bits i 0 ≡ at.0 = get_or_from_slice_get bits i at.0 0 at.1 in
    subst (λ n. IsLeastSoFar n bits (take (i + 1) bits)) (sym is)
    (least_stays m at.0 i bits so_far at.1 (omega (arith, here, most)))

-- the least from where the walk came upon a bit of its own
pub closes_at : (start stop place m : ℕ) (bits rest : List ℕ) → rest ≡ bits → start ≤ place
    → slice_get bits place ≡ Some stop → IsLeast m (take (length rest - place) (drop place rest))
    → ClosesAt start stop bits m
closes_at start stop place m bits rest same own stands least = record {
  place = place;
  own = own;
  stands = stands;
  least = subst (IsLeast m) (ap (λ xs. take (length xs - place) (drop place xs)) same ∙ rest_all place bits) least;
}
