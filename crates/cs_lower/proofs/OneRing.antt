-- Just one bit of a loop of registers stands for the ring: the least. So what is met from a bit has been found where the
-- ring is at which one ends.
use Rattle.std.specs.Prelude.{nat_le, ◌==◌, ◌||◌}
use Rattle.std.proofs.Common.{◌≡◌, ℕ, zero, suc, ◌+◌, ◌-◌, ◌<◌, ◌≤◌, Bool, true, List, [], ◌∷◌, length, Option, Some, None, refl, sym, ap, ◌∙◌, arith, inl, inr}
use Rattle.std.specs.List.{list_all, list_any}
use Rattle.std.proofs.lemmas.Bool.{and_parts, cases_Bool, cases_lt, eqb-true, leb-true}
use Rattle.std.proofs.lemmas.Option.{none-some, same_Some}
use Rattle.cs_base.specs.declared.signal.Signal.{Signal}
use Rattle.cs_lower.specs.Rings.{bit_behind, is_ring, met, met_behind}
use Rattle.cs_lower.specs.Walks.{AreFound, IsLeast, back}
use Rattle.cs_lower.specs.declared.taps.Wire.{Wire}
use Rattle.cs_lower.specs.Wires.{wire_in}
use Rattle.cs_lower.proofs.BackLemmas.{back_join, back_none, met_is_reached, reached_is_met}
use Rattle.cs_lower.proofs.FollowLemmas.{either_way}
use Rattle.cs_lower.proofs.RingLemmas.{Ring, ring_from, within_turn}

-- a bit that stands for a ring is met again
pub record Closes (wires : List (Signal × Wire)) (r : ℕ) : Type 0 where
  pub turn : ℕ
  pub short : turn < length wires
  pub closed : back wires (suc turn) (Some r) ≡ Some r

ring_closes : (wires : List (Signal × Wire)) (r : ℕ) → is_ring wires r ≡ true → Closes wires r
ring_closes wires r is =
    let bits : List ℕ = met_behind wires r in
    let parts = and_parts (list_any (λ a. a == r) bits) (list_all (λ a. nat_le r a) bits) is in
    let found = met_is_reached wires (length wires) r (bit_behind (wire_in wires r)) (sym (either_way r bits) ∙ parts.0) in
    record { turn = found.0; short = found.1; closed = found.2 }

-- none of these is less
least_below : (m a : ℕ) (xs : List ℕ) → list_all (λ c. nat_le m c) xs ≡ true
    → list_any (λ c. c == a) xs ≡ true → m ≤ a
least_below m a [] all is = cc
least_below m a (x ∷ xs) all is = elim (cases_Bool (x == a)) [
  | inl same ↦
      let first = and_parts (nat_le m x) (list_all (λ c. nat_le m c) xs) all in
      let below : m ≤ x = leb-true m x first.0 in
      let here : x ≡ a = eqb-true x a same in
      omega (arith, below, here)
  | inr other ↦
      let parts = and_parts (nat_le m x) (list_all (λ c. nat_le m c) xs) all in
      least_below m a xs parts.1 (sym (ap (λ t. t || list_any (λ c. c == a) xs) other) ∙ is)
]

-- what is met from the bit of a ring isn't less
ring_least : (wires : List (Signal × Wire)) (r : ℕ) → is_ring wires r ≡ true
    → (k a : ℕ) → back wires k (Some r) ≡ Some a → r ≤ a
ring_least wires r is k a reached = by near.0 near.1 (near.2 ∙ reached)
  where
    c : Closes wires r
    c = ring_closes wires r is

    near : (j : ℕ) × (j < suc c.turn) × (back wires j (Some r) ≡ back wires k (Some r))
    near = within_turn wires (suc c.turn) r k k (omega arith) c.closed (omega arith)

    by : (j : ℕ) → j < suc c.turn → back wires j (Some r) ≡ Some a → r ≤ a
    by zero small at = let same : r ≡ a = same_Some r a at in omega (arith, same)
    by (suc j) small at =
        let bits : List ℕ = met_behind wires r in
        let parts = and_parts (list_any (λ a. a == r) bits) (list_all (λ a. nat_le r a) bits) is in
        least_below r a bits parts.1
        (reached_is_met wires (length wires) j a (bit_behind (wire_in wires r)) (omega (arith, small, c.short)) at)

-- from what is met on a loop one comes back
loop_returns : (wires : List (Signal × Wire)) (q c k a : ℕ) → back wires (suc q) (Some c) ≡ Some c
    → back wires k (Some c) ≡ Some a → (j : ℕ) × (back wires j (Some a) ≡ Some c)
loop_returns wires q c k a closed reached =
    let near = within_turn wires (suc q) c k k (omega arith) closed (omega arith) in
    let at : back wires near.0 (Some c) ≡ Some a = near.2 ∙ reached in
    let sum : suc q ≡ near.0 + (suc q - near.0) = omega (arith, near.1) in (
      suc q - near.0,
      ap (back wires (suc q - near.0)) (sym at) ∙ sym (back_join wires near.0 (suc q - near.0) (suc q) (Some c) sum)
          ∙ closed,
    )

-- one step after another
pub goes_on : (wires : List (Signal × Wire)) (i j a b : ℕ) (c : Option ℕ) → back wires i (Some a) ≡ Some b
    → back wires j (Some b) ≡ c → back wires (i + j) (Some a) ≡ c
goes_on wires i j a b c first then = back_join wires i j (i + j) (Some a) refl ∙ ap (back wires j) first ∙ then

-- of two bits that stand for rings, one of which is met from the other, both are the same
one_ring : (wires : List (Signal × Wire)) (r s : ℕ) → is_ring wires r ≡ true → is_ring wires s ≡ true
    → (k : ℕ) → back wires k (Some r) ≡ Some s → r ≡ s
one_ring wires r s is_r is_s k reached =
    let c = ring_closes wires r is_r in
    let again = loop_returns wires c.turn r k s c.closed reached in
    let below : r ≤ s = ring_least wires r is_r k s reached in
    let above : s ≤ r = ring_least wires s is_s again.0 r again.1 in
    omega (arith, below, above)

-- ---- what is found

-- what was found from where one comes to was found from where one goes
pub found_before : (wires : List (Signal × Wire)) (least : ℕ → Bool) (n b stop : ℕ) → AreFound wires least stop
    → back wires n (Some b) ≡ Some stop → AreFound wires least b
found_before wires least n b stop found reached k r at ring = elim (cases_lt k n) [
  | inl below ↦
      let sum : n ≡ k + (n - k) = omega (arith, below) in
      let to_stop : back wires (n - k) (Some r) ≡ Some stop =
      ap (back wires (n - k)) (sym at) ∙ sym (back_join wires k (n - k) n (Some b) sum) ∙ reached in
      let c = ring_closes wires r ring in
      let again = loop_returns wires c.turn r (n - k) stop c.closed to_stop in
      found again.0 r again.1 ring
  | inr past ↦
      let sum : k ≡ n + (k - n) = omega (arith, past) in
      found (k - n) r
      (ap (back wires (k - n)) (sym reached) ∙ sym (back_join wires n (k - n) k (Some b) sum) ∙ at) ring
]

-- where no bit is behind, there is no ring
pub found_at_end : (wires : List (Signal × Wire)) (least : ℕ → Bool) (b : ℕ)
    → bit_behind (wire_in wires b) ≡ None → AreFound wires least b
found_at_end wires least b free zero r at ring =
    let same : b ≡ r = same_Some b r at in
    let c = ring_closes wires r ring in
    absurd (none-some r (sym (back_none wires c.turn)
    ∙ sym (ap (back wires c.turn) free) ∙ ap (λ s. back wires (suc c.turn) (Some s)) same ∙ c.closed))
found_at_end wires least b free (suc k) r at ring =
    absurd (none-some r (sym (back_none wires k) ∙ sym (ap (back wires k) free) ∙ at))

-- more that is found
pub found_more : (wires : List (Signal × Wire)) (old new : ℕ → Bool) → ((r : ℕ) → old r ≡ true → new r ≡ true)
    → (b : ℕ) → AreFound wires old b → AreFound wires new b
found_more wires old new more b found k r at ring = more r (found k r at ring)

-- ---- a loop

-- the least bit of a loop is the one that stands for its ring
pub record Closed (wires : List (Signal × Wire)) (s m : ℕ) : Type 0 where
  pub ring : is_ring wires m ≡ true
  pub only : (k r : ℕ) → back wires k (Some s) ≡ Some r → is_ring wires r ≡ true → r ≡ m

pub least_stands : (wires : List (Signal × Wire)) (q s m : ℕ) → q < length wires
    → back wires (suc q) (Some s) ≡ Some s → IsLeast m (met wires (suc q) (Some s)) → Closed wires s m
least_stands wires q s m short closed least = record {
  ring = ap (is_ring wires) (sym same) ∙ g.ring;
  only = λ k r at ring.
      let again = loop_returns wires q s k r closed at in
      let there = goes_on wires again.0 g.steps r s (Some g.bit) again.1 g.reached in
      one_ring wires r g.bit ring g.ring (again.0 + g.steps) there ∙ same;
}
  where
    g : Ring wires s
    g = ring_from wires s q s (omega arith) short closed

    reached : (i : ℕ) × (i < suc q) × (back wires i (Some s) ≡ Some m)
    reached = met_is_reached wires (suc q) m (Some s) (sym (either_way m (met wires (suc q) (Some s))) ∙ least.0)

    below : g.bit ≤ m
    below =
        let again = loop_returns wires q s g.steps g.bit closed g.reached in
        ring_least wires g.bit g.ring (again.0 + reached.0) m
        (goes_on wires again.0 reached.0 g.bit s (Some m) again.1 reached.2)

    above : m ≤ g.bit
    above =
        let near = within_turn wires (suc q) s g.steps g.steps (omega arith) closed (omega arith) in
        least_below m g.bit (met wires (suc q) (Some s)) least.1
        (reached_is_met wires (suc q) near.0 g.bit (Some s) near.1 (near.2 ∙ g.reached))

    same : g.bit ≡ m
    same = omega (arith, below, above)
