-- A bit that a ring buffer takes the place of is a register's.
use Rattle.std.specs.Prelude.{◌==◌, ◌&&◌, nat_le, slice_get}
use Rattle.std.proofs.Common.{◌≡◌, ℕ, zero, suc, ◌+◌, Bool, true, false, ◌||◌, cond, List, [], ◌∷◌, length, Some, None, filter, filter_map, refl, sym, ap, ◌∙◌, arith, eq-eqb}
use Rattle.std.specs.List.{list_all, list_any, position_from}
use Rattle.std.proofs.lemmas.Bool.{eqb-true}
use Rattle.std.proofs.lemmas.Option.{none-some, same_Some}
use Rattle.cs_base.specs.declared.signal.Signal.{Signal}
use Rattle.cs_modules.specs.Signals.{number_in}
use Rattle.cs_lower.specs.Rings.{bit_behind, is_ring, met, rings}
use Rattle.cs_lower.specs.declared.taps.Tap.{Tap}
use Rattle.cs_lower.specs.declared.taps.Wire.{Wire}
use Rattle.cs_lower.specs.declared.taps.Wire.TheVariants.{Register as from_register, Vertex as from_vertex, Undriven as undriven}
use Rattle.cs_lower.specs.Wires.{wire_in}
use Rattle.cs_lower.proofs.Places.{any_place}
use Rattle.cs_lower.proofs.RingLemmas.{ordered}

-- the number stands at a place of the list, where places are counted from k on
abbrev HoldsAt : ℕ → ℕ → ℕ → List ℕ → Type 0
HoldsAt b k i xs = (j : ℕ) × (i ≡ k + j) × (slice_get xs j ≡ Some b)

-- what stands at the place of a number is that number
place_holds : (b k i : ℕ) (xs : List ℕ) → position_from (λ a. a == b) k xs ≡ Some i → HoldsAt b k i xs
place_holds b k i [] at = absurd (none-some i at)
place_holds b k i (x ∷ xs) at = by (x == b) refl at (place_holds b (k + 1) i xs)
  where
    by : (here : Bool) → (x == b) ≡ here → cond here (Some k) (position_from (λ a. a == b) (k + 1) xs) ≡ Some i
        → (position_from (λ a. a == b) (k + 1) xs ≡ Some i → HoldsAt b (k + 1) i xs) → HoldsAt b k i (x ∷ xs)
    by true same at later =
        let first : k ≡ i = same_Some k i at in (0, omega (arith, first), ap Some (eqb-true x b same))
    by false other at later = let rest = later at in (suc rest.0, omega (arith, rest.1), rest.2)

-- what is kept passes
kept_passes : (test : ℕ → Bool) (b : ℕ) (xs : List ℕ) → list_any (λ a. a == b) (filter test xs) ≡ true → test b ≡ true
kept_passes test b [] is = cc
kept_passes test b (x ∷ xs) is = by (test x) refl is (kept_passes test b xs)
  where
    here : (first : Bool) → (x == b) ≡ first → test x ≡ true
        → (first || list_any (λ a. a == b) (filter test xs)) ≡ true
        → (list_any (λ a. a == b) (filter test xs) ≡ true → test b ≡ true) → test b ≡ true
    here true same passes is later = ap test (sym (eqb-true x b same)) ∙ passes
    here false other passes is later = later is

    by : (keep : Bool) → test x ≡ keep → list_any (λ a. a == b) (cond keep (x ∷ filter test xs) (filter test xs)) ≡ true
        → (list_any (λ a. a == b) (filter test xs) ≡ true → test b ≡ true) → test b ≡ true
    by true passes is later = here (x == b) refl passes is later
    by false fails is later = later is

-- nothing is met behind what is no register
none_met : (wires : List (Signal × Wire)) (count : ℕ) → met wires count None ≡ []
none_met wires zero = refl
none_met wires (suc count) = refl

abbrev IsRegister : Wire → Type 0
IsRegister wire = (d : Tap) × (wire ≡ from_register d)

-- a bit meets itself behind what drives it, and none that is less
abbrev meets_itself : List (Signal × Wire) → ℕ → Wire → Bool
meets_itself wires b wire =
    list_any (λ a. a == b) (met wires (length wires) (bit_behind wire))
    && list_all (λ a. nat_le b a) (met wires (length wires) (bit_behind wire))

meets_none : (wires : List (Signal × Wire)) (b : ℕ) (wire : Wire) → bit_behind wire ≡ None
    → meets_itself wires b wire ≡ true → ⊥
meets_none wires b wire free is =
    let empty : met wires (length wires) (bit_behind wire) ≡ [] =
    ap (met wires (length wires)) free ∙ none_met wires (length wires) in
    let clash : false ≡ true =
    sym (ap (λ bits. list_any (λ a. a == b) bits && list_all (λ a. nat_le b a) bits) empty) ∙ is in
    cc

ring_wire : (wires : List (Signal × Wire)) (b : ℕ) (wire : Wire) → meets_itself wires b wire ≡ true → IsRegister wire
ring_wire wires b undriven is = absurd (meets_none wires b undriven refl is)
ring_wire wires b (from_vertex v o) is = absurd (meets_none wires b (from_vertex v o) refl is)
ring_wire wires b (from_register d) is = (d, refl)

-- a bit that has a place among the rings stands there, and a register drives it
pub ring_register : (wires : List (Signal × Wire)) (b i : ℕ) → position_from (λ r. r == b) 0 (rings wires) ≡ Some i
    → (slice_get (rings wires) i ≡ Some b) × IsRegister (wire_in wires b)
ring_register wires b i at =
    let found = place_holds b 0 i (rings wires) at in
    let place : i ≡ found.0 = omega (arith, found.1) in
    let stands : slice_get (rings wires) i ≡ Some b = ap (slice_get (rings wires)) place ∙ found.2 in
    let among = any_place (λ a. a == b) (rings wires) i b stands (eq-eqb b b refl) in
    let driven : List ℕ = filter_map (λ w. number_in w.0) wires in (
      stands,
      ring_wire wires b (wire_in wires b)
          (kept_passes (is_ring wires) b driven
          (sym (ordered (λ a. a == b) (filter (is_ring wires) driven)) ∙ among)),
    )
