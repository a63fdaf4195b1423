-- Steps of the search for rings.
use Rattle.std.specs.Prelude.{nat_eq, ◌==◌, ◌||◌, ◌⊎◌, slice_get}
use Rattle.std.proofs.Common.{◌≡◌, ℕ, zero, suc, ◌+◌, ◌-◌, ◌<◌, ◌≤◌, Bool, true, false, cond, List, [], ◌∷◌, ◌++◌, drop, take, get_or, length, Some, refl, sym, ap, subst, ◌∙◌, arith, inl, inr, append_assoc, length-append}
use Rattle.std.specs.List.{IsDistinct, list_any}
use Rattle.std.proofs.lemmas.Bool.{eq-eqb, eqb-true}
use Rattle.std.proofs.lemmas.Cmp.{nat_eq_equiv}
use Rattle.std.proofs.lemmas.Grind.{common_steps}
use Rattle.std.proofs.lemmas.Map.Keys.{IsDistinct-push}
use Rattle.std.proofs.lemmas.Map.Made.{length-le_from_is_member}
use Rattle.std.proofs.lemmas.Option.{none-some}
use Rattle.cs_base.specs.declared.signal.Signal.{Signal}
use Rattle.cs_lower.specs.Rings.{bit_behind, is_ring, met}
use Rattle.cs_lower.specs.declared.taps.Wire.{Wire}
use Rattle.cs_lower.specs.declared.taps.Wire.TheVariants.{Undriven as undriven}
use Rattle.cs_lower.specs.Walks.{AreDown, AreFound, AreWired, ClosesAt, IsLeast, IsSearched, IsStopped, IsWalk, KeepsFound, back, numbers}
use Rattle.cs_lower.specs.Wires.{wire_in}
use Rattle.cs_lower.proofs.BackLemmas.{back_join, met_is_reached}
use Rattle.cs_lower.proofs.BitLists.{any_in, drop_behind, get_behind, get_below, single, take_front, take_past}
use Rattle.cs_lower.proofs.FollowLemmas.{either_way, no_more_numbers}
use Rattle.cs_lower.proofs.MetLemmas.{back_more, met_all, met_drop, met_get, met_length, met_push}
use Rattle.cs_lower.proofs.OneRing.{Closed, found_at_end, found_before, found_more, least_stands}
use Rattle.cs_lower.proofs.RingLemmas.{is_wired}

-- ---- one step of a walk

-- a bit that another is behind is driven
behind_driven : (wires : List (Signal × Wire)) (b c : ℕ) → bit_behind (wire_in wires b) ≡ Some c
    → wire_in wires b ≡ undriven → ⊥
behind_driven wires b c behind none = none-some c (sym (ap bit_behind none) ∙ behind)

-- it is of a wire
push_wired : (wires : List (Signal × Wire)) (old : List ℕ) (b c : ℕ) → AreWired wires old
    → bit_behind (wire_in wires b) ≡ Some c → AreWired wires (old ++ b ∷ [])
push_wired wires old b c wired behind q is = elim (any_in q old (b ∷ []) is) [
  | inl before ↦ wired q before
  | inr here ↦
      let same : q ≡ b = single q b here in
      subst (λ x. list_any (nat_eq x) (numbers wires) ≡ true) (sym same)
      (sym (either_way b (numbers wires)) ∙ is_wired wires b (behind_driven wires b c behind))
]

-- one bit more is passed
push_walk : (wires : List (Signal × Wire)) (old new : List ℕ) (from b c : ℕ) → IsWalk wires old from new b
    → bit_behind (wire_in wires b) ≡ Some c → IsWalk wires old from (new ++ b ∷ []) c
push_walk wires old new from b c w behind = record {
  steps = suc w.steps;
  bits = ap (λ xs. xs ++ b ∷ []) w.bits ∙ append_assoc old (met wires w.steps (Some from)) (b ∷ [])
      ∙ ap (λ xs. old ++ xs) (sym (met_push wires w.steps b (Some from) w.reached));
  reached = back_more wires w.steps b (Some from) w.reached ∙ behind;
}

-- bits of wires that differ are no more than the wires
few_wired : (wires : List (Signal × Wire)) (bits : List ℕ) → AreDown wires bits → length bits ≤ length wires
few_wired wires bits down =
    let most = length-le_from_is_member nat_eq_equiv bits (numbers wires) down.distinct down.wired in
    omega (arith, most, no_more_numbers wires)

-- ---- a walk that stopped

module _ (wires : List (Signal × Wire)) (old new : List ℕ) (from stop : ℕ) (w : IsWalk wires old from new stop) where
  -- what is met on a walk leads to where it stops
  on_walk : (q : ℕ) → list_any (nat_eq q) (met wires w.steps (Some from)) ≡ true
      → (n : ℕ) × (back wires n (Some q) ≡ Some stop)
  on_walk q is =
      let at = met_is_reached wires w.steps q (Some from) is in
      let sum : w.steps ≡ at.0 + (w.steps - at.0) = omega (arith, at.1) in (
        w.steps - at.0,
        ap (back wires (w.steps - at.0)) (sym at.2)
            ∙ sym (back_join wires at.0 (w.steps - at.0) w.steps (Some from) sum) ∙ w.reached,
      )

  -- where what is met from the stop is found, it is found from all that was passed
  walk_found : (least : ℕ → Bool) → AreFound wires least stop
      → ((b : ℕ) → list_any (nat_eq b) old ≡ true → AreFound wires least b)
      → (b : ℕ) → list_any (nat_eq b) new ≡ true → AreFound wires least b
  walk_found least found before b is =
      elim (any_in b old (met wires w.steps (Some from)) (ap (list_any (nat_eq b)) (sym w.bits) ∙ is)) [
        | inl here ↦ before b here
        | inr here ↦
            let on = on_walk b here in found_before wires least on.0 b stop found on.1
      ]

  -- where it closes a ring, the least bit of that stands for it
  walk_closes : (m : ℕ) → AreDown wires new → ClosesAt (length old) stop new m → Closed wires stop m
  walk_closes m down c = by (w.steps - i) sum
    where
      i : ℕ
      i = c.place - length old

      from_old : c.place ≡ length old + i
      from_old = omega (arith, c.own)

      stands : slice_get (met wires w.steps (Some from)) i ≡ Some stop
      stands = get_behind old (met wires w.steps (Some from)) c.place i stop from_old
          (ap (λ xs. slice_get xs c.place) (sym w.bits) ∙ c.stands)

      at : back wires i (Some from) ≡ Some stop
      at = met_get wires w.steps i stop (Some from) stands

      within : i < w.steps
      within = omega (
        arith,
        get_below (met wires w.steps (Some from)) i stop stands,
        met_length wires w.steps (Some from),
      )

      sum : w.steps ≡ i + (w.steps - i)
      sum = omega (arith, within)

      short : w.steps ≤ length wires
      short =
          let many : length new ≡ length old + length (met wires w.steps (Some from)) =
          ap length w.bits ∙ length-append old (met wires w.steps (Some from)) in
          omega (arith, many, met_all wires w.steps stop (Some from) w.reached, few_wired wires new down)

      by : (k : ℕ) → w.steps ≡ i + k → Closed wires stop m
      by zero sum = absurd (omega (arith, sum, within))
      by (suc q) sum =
          let closed : back wires (suc q) (Some stop) ≡ Some stop =
          ap (back wires (suc q)) (sym at) ∙ sym (back_join wires i (suc q) w.steps (Some from) sum) ∙ w.reached in
          let ring : drop c.place new ≡ met wires (suc q) (Some stop) =
          ap (drop c.place) w.bits ∙ drop_behind old (met wires w.steps (Some from)) c.place i from_old
          ∙ met_drop wires w.steps i (suc q) (Some from) sum ∙ ap (met wires (suc q)) at in
          least_stands wires q stop m (omega (arith, sum, short)) closed (subst (IsLeast m) ring c.least)

-- ---- what the search keeps

-- where the ring's bit is noted, what is met from the stop is found
closed_found : (wires : List (Signal × Wire)) (least : ℕ → Bool) (stop m : ℕ) → Closed wires stop m
    → least m ≡ true → AreFound wires least stop
closed_found wires least stop m c noted k r at ring = ap least (c.only k r at ring) ∙ noted

-- no ring was closed
searched_on : (wires : List (Signal × Wire)) (old new : List ℕ) (least : ℕ → Bool) (from stop : ℕ)
    → IsSearched wires old least → IsWalk wires old from new stop → AreDown wires new → AreFound wires least stop
    → IsSearched wires new least
searched_on wires old new least from stop s w down found = record {
  down = down;
  found = walk_found wires old new from stop w least found s.found;
  rings = s.rings;
}

-- where no ring was closed, what is met from the stop was found before
stop_found : (wires : List (Signal × Wire)) (old new : List ℕ) (least : ℕ → Bool) (from stop : ℕ)
    → IsSearched wires old least → IsWalk wires old from new stop → IsStopped wires new stop
    → (list_any (nat_eq stop) new ≡ true → list_any (nat_eq stop) (take (length old) new) ≡ true)
    → AreFound wires least stop
stop_found wires old new least from stop s w stopped none = elim stopped [
  | inl there ↦
      let front : take (length old) new ≡ old =
      ap (take (length old)) w.bits ∙ take_front old (met wires w.steps (Some from)) in
      s.found stop (ap (list_any (nat_eq stop)) (sym front) ∙ none there)
  | inr free ↦ found_at_end wires least stop free
]

-- a ring was closed, and its bit is noted
ring_noted : (wires : List (Signal × Wire)) (old new : List ℕ) (least more : ℕ → Bool) (from stop m : ℕ)
    → IsSearched wires old least → IsWalk wires old from new stop → AreDown wires new → Closed wires stop m
    → more m ≡ true → KeepsFound least more → ((r : ℕ) → more r ≡ true → (r ≡ m) ⊎ (least r ≡ true))
    → IsSearched wires new more
ring_noted wires old new least more from stop m s w down c noted keeps only = record {
  down = down;
  found = walk_found wires old new from stop w more (closed_found wires more stop m c noted)
      (λ b is. found_more wires least more keeps b (s.found b is));
  rings = λ r is. elim (only r is) [
    | inl same ↦ ap (is_ring wires) same ∙ c.ring
    | inr before ↦ s.rings r before
  ];
}

-- ---- the loop of a walk

-- the loop's state: the bits are down, and it is a walk so far
pub record IsWalking (wires : List (Signal × Wire)) (old : List ℕ) (from : ℕ) (new : List ℕ) (bit : ℕ) : Type 0 where
  pub down : AreDown wires new
  pub walk : IsWalk wires old from new bit

-- one more step
pub walking_on : (wires : List (Signal × Wire)) (old new next : List ℕ) (from b c : ℕ) → IsWalking wires old from new b
    → next ≡ new ++ b ∷ [] → list_any (nat_eq b) new ≡ false → bit_behind (wire_in wires b) ≡ Some c
    → IsWalking wires old from next c
walking_on wires old new next from b c w same lacks behind = record {
  down = record {
    distinct = subst (IsDistinct nat_eq) (sym same) (IsDistinct-push nat_eq_equiv new b w.down.distinct lacks);
    wired = subst (AreWired wires) (sym same) (push_wired wires new b c w.down.wired behind);
  };
  walk = subst (λ bits. IsWalk wires old from bits c) (sym same) (push_walk wires old new from b c w.walk behind);
}

-- a bit that is put down leaves fewer
pub fewer_left : (wires : List (Signal × Wire)) (new next : List ℕ) (b : ℕ) → next ≡ new ++ b ∷ []
    → AreDown wires next → length wires - length next < length wires - length new
fewer_left wires new next b same down =
    let more : length next ≡ length new + length (b ∷ []) = ap length same ∙ length-append new (b ∷ []) in
    omega (arith, more, few_wired wires next down)

-- ---- a search from one bit

-- a number more in a set
abbrev pub Adds : (ℕ → Bool) → (ℕ → Bool) → ℕ → Type 0
Adds old new m = (q : ℕ) → new q ≡ cond (nat_eq m q) true (old q)

adds_it : (old new : ℕ → Bool) (m : ℕ) → Adds old new m → new m ≡ true
adds_it old new m adds = adds m ∙ ap (λ t. cond t true (old m)) (eq-eqb m m refl)

adds_keeps : (old new : ℕ → Bool) (m : ℕ) → Adds old new m → KeepsFound old new
adds_keeps old new m adds r is = adds r ∙ by (nat_eq m r)
  where
    by : (same : Bool) → cond same true (old r) ≡ true
    by true = refl
    by false = is

adds_only : (old new : ℕ → Bool) (m : ℕ) → Adds old new m → (r : ℕ) → new r ≡ true → (r ≡ m) ⊎ (old r ≡ true)
adds_only old new m adds r is = by (nat_eq m r) refl (sym (adds r) ∙ is)
  where
    by : (same : Bool) → nat_eq m r ≡ same → cond same true (old r) ≡ true → (r ≡ m) ⊎ (old r ≡ true)
    by true same is = inl (sym (eqb-true m r same))
    by false other is = inr is

-- what a search from a bit gives
pub record HasSearched (wires : List (Signal × Wire)) (new : List ℕ) (least : ℕ → Bool) (from : ℕ) : Type 0 where
  pub searched : IsSearched wires new least
  pub found : AreFound wires least from

-- no ring was closed
pub none_closed : (wires : List (Signal × Wire)) (old new : List ℕ) (least : ℕ → Bool) (from stop start : ℕ)
    → IsSearched wires old least → IsWalk wires old from new stop → AreDown wires new → IsStopped wires new stop
    → start ≡ length old
    → (list_any (nat_eq stop) new ≡ true → list_any (nat_eq stop) (take start new) ≡ true)
    → HasSearched wires new least from
none_closed wires old new least from stop start s w down stopped begin none =
    let found = stop_found wires old new least from stop s w stopped
    (subst (λ n. list_any (nat_eq stop) new ≡ true → list_any (nat_eq stop) (take n new) ≡ true) begin none) in
    record {
      searched = searched_on wires old new least from stop s w down found;
      found = found_before wires least w.steps from stop found w.reached;
    }

-- a ring was closed, and its bit is noted
pub one_closed : (wires : List (Signal × Wire)) (old new : List ℕ) (least more : ℕ → Bool) (from stop start m : ℕ)
    → IsSearched wires old least → IsWalk wires old from new stop → AreDown wires new → start ≡ length old
    → ClosesAt start stop new m → Adds least more m → HasSearched wires new more from
one_closed wires old new least more from stop start m s w down begin closes adds =
    let closed = walk_closes wires old new from stop w m down (subst (λ n. ClosesAt n stop new m) begin closes) in
    let noted = adds_it least more m adds in
    record {
      searched = ring_noted wires old new least more from stop m s w down closed noted
          (adds_keeps least more m adds) (adds_only least more m adds);
      found = found_before wires more w.steps from stop (closed_found wires more stop m closed noted) w.reached;
    }

-- ---- the loop over the bits

-- the loop's state: what is met from these bits is found
pub record IsSearchedFor (wires : List (Signal × Wire)) (passed : List ℕ) (least : ℕ → Bool) (bits : List ℕ) : Type 0 where
  pub searched : IsSearched wires passed least
  pub found : (b : ℕ) → list_any (λ a. a == b) bits ≡ true → AreFound wires least b

-- one bit more
pub any_step : (i : ℕ) (bits : List ℕ) (b : ℕ) → i < length bits → list_any (λ a. a == b) (take (i + 1) bits)
    ≡ (list_any (λ a. a == b) (take i bits) || (get_or bits i 0 == b))
any_step i bits b below = grind (arith, common_steps)

-- what is met from one bit more is found
pub found_on : (wires : List (Signal × Wire)) (old new : ℕ → Bool) (bits : List ℕ) (x b : ℕ) → KeepsFound old new
    → ((b : ℕ) → list_any (λ a. a == b) bits ≡ true → AreFound wires old b) → AreFound wires new x
    → (list_any (λ a. a == b) bits || (x == b)) ≡ true → AreFound wires new b
found_on wires old new bits x b keeps found here is =
    by (list_any (λ a. a == b) bits) refl is
  where
    by : (before : Bool) → list_any (λ a. a == b) bits ≡ before → (before || (x == b)) ≡ true → AreFound wires new b
    by true before is = λ k r at ring. keeps r (found b before k r at ring)
    by false before is = subst (AreFound wires new) (eqb-true x b is) here

-- at last what is found are the rings
pub rings_found : (wires : List (Signal × Wire)) (passed : List ℕ) (least : ℕ → Bool) (bits : List ℕ) (i : ℕ)
    → IsSearchedFor wires passed least (take i bits) → length bits ≤ i
    → (b : ℕ) → list_any (λ a. a == b) bits ≡ true → least b ≡ is_ring wires b
rings_found wires passed least bits i so_far past b is = by (least b) refl (is_ring wires b) refl
  where
    found : AreFound wires least b
    found = so_far.found b (ap (list_any (λ a. a == b)) (take_past bits i past) ∙ is)

    by : (in_set : Bool) → least b ≡ in_set → (ring : Bool) → is_ring wires b ≡ ring → in_set ≡ ring
    by true has true ring = refl
    by false has false ring = refl
    by true has false ring = sym (so_far.searched.rings b has) ∙ ring
    by false has true ring = sym has ∙ found 0 b refl ring
