-- What a pin reads is settled by the fuel that there is: going back, no more registers are passed than there are wires,
-- since a bit that came again would be on a ring.
use Rattle.std.specs.Prelude.{nat_eq, ◌||◌, ◌==◌}
use Rattle.std.proofs.Common.{◌≡◌, ◌⊎◌, ℕ, zero, suc, ◌+◌, ◌-◌, ◌<◌, ◌≤◌, Bool, true, false, List, [], ◌∷◌, length, Option, Some, None, filter_map, refl, sym, ap, ap₂, subst, ◌∙◌, arith, inl, inr}
use Rattle.std.specs.List.{IsDistinct, list_any, position_from}
use Rattle.std.proofs.lemmas.Cmp.{nat_eq_equiv}
use Rattle.std.proofs.lemmas.Map.Made.{length-le_from_is_member}
use Rattle.std.proofs.lemmas.Option.{none-some, same_Some}
use Rattle.cs_base.specs.declared.signal.Signal.{Signal}
use Rattle.cs_base.specs.declared.signal.Signal.TheVariants.{Zero, One, Unknown, HighZ, Bit}
use Rattle.cs_modules.specs.Signals.{number_in}
use Rattle.cs_lower.specs.Followed.{Trail, Wiring, behind_bit, behind_wire, by_ring, ends, followed, from_tap, past}
use Rattle.cs_lower.specs.declared.taps.End.TheVariants.{Constant as at_bit, Vertex as at_vertex}
use Rattle.cs_lower.specs.Rings.{bit_at_tap, bit_behind, met, rings}
use Rattle.cs_lower.specs.declared.taps.Tap.{Tap}
use Rattle.cs_lower.specs.declared.taps.Tap.TheVariants.{Constant as of_bit, Held as of_held, Register as of_register, Signal as of_signal, Vertex as of_vertex}
use Rattle.cs_lower.specs.declared.taps.Wire.{Wire}
use Rattle.cs_lower.specs.declared.taps.Wire.TheVariants.{Register as from_register, Vertex as from_vertex, Undriven as undriven}
use Rattle.cs_lower.specs.Walks.{IsPassed, Passes, back}
use Rattle.cs_lower.specs.Wires.{wire_in}
use Rattle.cs_lower.proofs.BackLemmas.{ComesAgain, back_join, distinct_or_again, met_is_reached}
use Rattle.cs_lower.proofs.PlainWires.{ArePlain, IsPlain, plain_behind}
use Rattle.cs_lower.proofs.RingLemmas.{MeetsRing, has_place, is_wired, loop_meets_ring}

-- more fuel changes nothing
abbrev pub IsSettled : Wiring → ℕ → Tap → Type 0
IsSettled w fuel t = (more : ℕ) → fuel ≤ more → followed w more t ≡ followed w fuel t

-- ---- settled, or so many registers are passed

-- a tap that leads to one trail however one goes on
at_once : (w : Wiring) (n : ℕ) (t : Tap) (trail : Trail) → ((back : Tap → Trail) → from_tap w back t ≡ trail)
    → IsSettled w (suc n) t
unfolding followed
at_once w n t trail same zero enough = absurd (omega (arith, enough))
at_once w n t trail same (suc m) enough = same (followed w m) ∙ sym (same (followed w n))

-- a tap that leads on through one register
through_one : (w : Wiring) (n : ℕ) (t d : Tap) (start : Bool)
    → ((back : Tap → Trail) → from_tap w back t ≡ past start (back d)) → IsSettled w n d → IsSettled w (suc n) t
unfolding followed
through_one w n t d start same settled zero enough = absurd (omega (arith, enough))
through_one w n t d start same settled (suc m) enough =
    same (followed w m) ∙ ap (past start) (settled m (omega (arith, enough))) ∙ sym (same (followed w n))

one_more : (w : Wiring) (n b : ℕ) (d : Tap) → position_from (λ r. r == b) 0 w.rings ≡ None
    → wire_in w.wires b ≡ from_register d → Passes w n (bit_at_tap d) → Passes w (suc n) (Some b)
one_more w n b d free wired passes zero below = record {
  bit = b;
  reached = refl;
  free = free;
  driven = λ none. apart (sym wired ∙ none);
}
  where
    apart : from_register d ≡ undriven → ⊥
    apart same = cc
one_more w n b d free wired passes (suc k) below =
    let p = passes k (omega (arith, below)) in
    record {
      bit = p.bit;
      reached = ap (λ x. back w.wires k (bit_behind x)) wired ∙ p.reached;
      free = p.free;
      driven = p.driven;
    }

pub settled_or_passes : (w : Wiring) → ArePlain w.wires → (n : ℕ) (t : Tap) → IsPlain t
    → IsSettled w n t ⊎ Passes w n (bit_at_tap t)
settled_or_passes w plain zero t here = inr (λ k below. absurd (omega (arith, below)))
settled_or_passes w plain (suc n) (of_signal Zero) here =
    inl (at_once w n (of_signal Zero) (ends (at_bit false)) (λ back. refl))
settled_or_passes w plain (suc n) (of_signal One) here =
    inl (at_once w n (of_signal One) (ends (at_bit true)) (λ back. refl))
settled_or_passes w plain (suc n) (of_signal Unknown) here =
    inl (at_once w n (of_signal Unknown) (ends (at_bit false)) (λ back. refl))
settled_or_passes w plain (suc n) (of_signal HighZ) here =
    inl (at_once w n (of_signal HighZ) (ends (at_bit false)) (λ back. refl))
settled_or_passes w plain (suc n) (of_vertex v o) here =
    inl (at_once w n (of_vertex v o) (ends (at_vertex v o)) (λ back. refl))
settled_or_passes w plain (suc n) (of_bit b) here =
    inl (at_once w n (of_bit b) (ends (at_bit b)) (λ back. refl))
settled_or_passes w plain (suc n) (of_register b) here = absurd here
settled_or_passes w plain (suc n) (of_held v start) here = absurd here
settled_or_passes w plain (suc n) (of_signal (Bit b)) here =
    by (position_from (λ r. r == b) 0 w.rings) refl (wire_in w.wires b) refl (settled_or_passes w plain n)
  where
    by : (place : Option ℕ) → position_from (λ r. r == b) 0 w.rings ≡ place → (x : Wire) → wire_in w.wires b ≡ x
        → ((d : Tap) → IsPlain d → IsSettled w n d ⊎ Passes w n (bit_at_tap d))
        → IsSettled w (suc n) (of_signal (Bit b)) ⊎ Passes w (suc n) (Some b)
    by (Some i) at x wired rest = inl (at_once w n (of_signal (Bit b)) (ends (at_vertex (w.first_buffer + i) 0))
        (λ back. ap (by_ring w back b) at))
    by None at undriven wired rest = inl (at_once w n (of_signal (Bit b)) (ends (at_bit false))
        (λ back. ap (by_ring w back b) at ∙ ap (behind_wire (w.start b) back) wired))
    by None at (from_vertex v o) wired rest = inl (at_once w n (of_signal (Bit b)) (ends (at_vertex v o))
        (λ back. ap (by_ring w back b) at ∙ ap (behind_wire (w.start b) back) wired))
    by None at (from_register d) wired rest = elim (rest d (plain_behind w.wires b d plain wired)) [
      | inl settled ↦ inl (through_one w n (of_signal (Bit b)) d (w.start b)
          (λ back. ap (by_ring w back b) at ∙ ap (behind_wire (w.start b) back) wired) settled)
      | inr passes ↦ inr (one_more w n b d at wired passes)
    ]

-- ---- no more are passed than there are wires

-- either way round
pub either_way : (q : ℕ) (xs : List ℕ) → list_any (λ a. a == q) xs ≡ list_any (nat_eq q) xs
either_way q [] = refl
either_way q (x ∷ xs) = ap₂ (λ s t. s || t) (nat_eq_equiv.symm x q) (either_way q xs)

pub no_more_numbers : (wires : List (Signal × Wire)) → length (filter_map (λ w. number_in w.0) wires) ≤ length wires
no_more_numbers [] = omega arith
no_more_numbers ((Zero, x) ∷ wires) = omega (arith, no_more_numbers wires)
no_more_numbers ((One, x) ∷ wires) = omega (arith, no_more_numbers wires)
no_more_numbers ((Unknown, x) ∷ wires) = omega (arith, no_more_numbers wires)
no_more_numbers ((HighZ, x) ∷ wires) = omega (arith, no_more_numbers wires)
no_more_numbers ((Bit a, x) ∷ wires) = omega (arith, no_more_numbers wires)

-- as many are met as are passed
all_met : (w : Wiring) (n : ℕ) (b : Option ℕ) → Passes w n b → length (met w.wires n b) ≡ n
all_met w zero b passes = refl
all_met w (suc n) None passes =
    let p = passes 0 (omega arith) in absurd (none-some p.bit p.reached)
all_met w (suc n) (Some b) passes =
    let rest = all_met w n (bit_behind (wire_in w.wires b)) (λ k below. later k below) in
    omega (arith, rest)
  where
    later : (k : ℕ) → k < n → IsPassed w k (bit_behind (wire_in w.wires b))
    later k below =
        let p = passes (suc k) (omega (arith, below)) in
        record {
          bit = p.bit;
          reached = p.reached;
          free = p.free;
          driven = p.driven;
        }

-- bits that are passed and differ are bits of wires
few_distinct : (w : Wiring) (n : ℕ) (b : Option ℕ) → Passes w n b → IsDistinct nat_eq (met w.wires n b)
    → n ≤ length w.wires
few_distinct w n b passes distinct =
    let most = length-le_from_is_member nat_eq_equiv (met w.wires n b) (filter_map (λ x. number_in x.0) w.wires)
    distinct (λ q is. wired q is) in
    omega (arith, most, all_met w n b passes, no_more_numbers w.wires)
  where
    wired : (q : ℕ) → list_any (nat_eq q) (met w.wires n b) ≡ true
        → list_any (nat_eq q) (filter_map (λ x. number_in x.0) w.wires) ≡ true
    wired q is =
        let found = met_is_reached w.wires n q b is in
        let p = passes found.0 found.1 in
        let same : p.bit ≡ q = same_Some p.bit q (sym p.reached ∙ found.2) in
        sym (either_way q (filter_map (λ x. number_in x.0) w.wires))
        ∙ is_wired w.wires q (λ none. p.driven (ap (wire_in w.wires) same ∙ none))

-- a bit that is passed is none that a ring buffer takes the place of
passed_apart : (w : Wiring) → w.rings ≡ rings w.wires → (k : ℕ) (b : Option ℕ) (r : ℕ) → IsPassed w k b
    → back w.wires k b ≡ Some r → list_any (λ a. a == r) (rings w.wires) ≡ true → ⊥
passed_apart w is_rings k b r p there ring =
    let same : p.bit ≡ r = same_Some p.bit r (sym p.reached ∙ there) in
    let free : position_from (λ a. a == r) 0 w.rings ≡ None =
    subst (λ c. position_from (λ a. a == c) 0 w.rings ≡ None) same p.free in
    has_place r 0 w.rings (ap (list_any (λ a. a == r)) is_rings ∙ ring) free

-- from where it is first met on, a bit that comes again is on a loop
again_closes : (wires : List (Signal × Wire)) (n q : ℕ) (b : Option ℕ) (h : ComesAgain wires n b)
    → h.second ≡ h.first + q → back wires q (Some h.bit) ≡ Some h.bit
again_closes wires n q b h sum =
    ap (back wires q) (sym h.here) ∙ sym (back_join wires h.first q h.second b sum) ∙ h.again

-- so there is a ring buffer before it
none_again : (w : Wiring) → w.rings ≡ rings w.wires → (n : ℕ) (b : Option ℕ) → n ≤ suc (length w.wires)
    → Passes w n b → ComesAgain w.wires n b → ⊥
none_again w is_rings n b most passes h = by (h.second - suc h.first) (omega (arith, h.order))
  where
    meets : (q : ℕ) → h.second ≡ h.first + suc q → MeetsRing w.wires (suc q) h.bit → ⊥
    meets q sum r = passed_apart w is_rings (h.first + r.steps) b r.bit
        (passes (h.first + r.steps) (omega (arith, sum, r.turn, h.within)))
        (back_join w.wires h.first r.steps (h.first + r.steps) b refl ∙ ap (back w.wires r.steps) h.here ∙ r.reached)
        r.ring

    by : (q : ℕ) → h.second ≡ h.first + suc q → ⊥
    by q sum = meets q sum (loop_meets_ring w.wires q h.bit (omega (arith, sum, h.within, most))
        (again_closes w.wires n (suc q) b h sum))

-- no more bits are passed than there are wires
pub never_so_many : (w : Wiring) → w.rings ≡ rings w.wires → (b : Option ℕ) → Passes w (suc (length w.wires)) b → ⊥
never_so_many w is_rings b passes = elim (distinct_or_again w.wires (suc (length w.wires)) b) [
  | inl distinct ↦ absurd (omega (arith, few_distinct w (suc (length w.wires)) b passes distinct))
  | inr again ↦ none_again w is_rings (suc (length w.wires)) b (omega arith) passes again
]

-- ---- what a pin reads is settled

settled_plain : (w : Wiring) → ArePlain w.wires → w.rings ≡ rings w.wires → (t : Tap) → IsPlain t
    → IsSettled w (suc (length w.wires)) t
settled_plain w plain is_rings t here = elim (settled_or_passes w plain (suc (length w.wires)) t here) [
  | inl settled ↦ settled
  | inr passes ↦ absurd (never_so_many w is_rings (bit_at_tap t) passes)
]

later_too : (w : Wiring) (n : ℕ) (t : Tap) → IsSettled w n t → IsSettled w (suc n) t
later_too w n t settled more enough = settled more (omega (arith, enough)) ∙ sym (settled (suc n) (omega arith))

settled_register : (w : Wiring) → ArePlain w.wires → (n b : ℕ) → ((t : Tap) → IsPlain t → IsSettled w n t)
    → IsSettled w (suc n) (of_register b)
settled_register w plain n b settled = by (wire_in w.wires b) refl
  where
    by : (x : Wire) → wire_in w.wires b ≡ x → IsSettled w (suc n) (of_register b)
    by undriven wired = at_once w n (of_register b) (ends (at_bit false))
        (λ back. ap (behind_wire (w.start b) back) wired)
    by (from_vertex v o) wired = at_once w n (of_register b) (ends (at_vertex v o))
        (λ back. ap (behind_wire (w.start b) back) wired)
    by (from_register d) wired = through_one w n (of_register b) d (w.start b)
        (λ back. ap (behind_wire (w.start b) back) wired) (settled d (plain_behind w.wires b d plain wired))

two_more : (w : Wiring) → ArePlain w.wires → w.rings ≡ rings w.wires → (t : Tap)
    → IsSettled w (suc (suc (length w.wires))) t
two_more w plain is_rings (of_signal s) =
    later_too w (suc (length w.wires)) (of_signal s) (settled_plain w plain is_rings (of_signal s) tt)
two_more w plain is_rings (of_vertex v o) =
    later_too w (suc (length w.wires)) (of_vertex v o) (settled_plain w plain is_rings (of_vertex v o) tt)
two_more w plain is_rings (of_bit b) =
    later_too w (suc (length w.wires)) (of_bit b) (settled_plain w plain is_rings (of_bit b) tt)
two_more w plain is_rings (of_register b) =
    settled_register w plain (suc (length w.wires)) b (settled_plain w plain is_rings)
two_more w plain is_rings (of_held v start) =
    at_once w (suc (length w.wires)) (of_held v start) (past start (ends (at_vertex v 0))) (λ back. refl)

-- more fuel than two beyond the number of wires changes nothing
pub settled : (w : Wiring) → ArePlain w.wires → w.rings ≡ rings w.wires → (t : Tap)
    → IsSettled w (length w.wires + 2) t
settled w plain is_rings t =
    let same : suc (suc (length w.wires)) ≡ length w.wires + 2 = omega arith in
    subst (λ n. IsSettled w n t) same (two_more w plain is_rings t)

-- ---- what is followed solves its own equation

pub followed_step : (w : Wiring) → ArePlain w.wires → w.rings ≡ rings w.wires → (t : Tap)
    → followed w (length w.wires + 2) t ≡ from_tap w (followed w (length w.wires + 2)) t
unfolding followed
followed_step w plain is_rings t =
    sym (settled w plain is_rings t (suc (length w.wires + 2)) (omega arith))

-- a bit that no ring buffer takes the place of
pub followed_free : (w : Wiring) → ArePlain w.wires → w.rings ≡ rings w.wires → (b : ℕ)
    → position_from (λ r. r == b) 0 w.rings ≡ None
    → followed w (length w.wires + 2) (of_signal (Bit b)) ≡ behind_bit w (followed w (length w.wires + 2)) b
followed_free w plain is_rings b free =
    followed_step w plain is_rings (of_signal (Bit b)) ∙ ap (by_ring w (followed w (length w.wires + 2)) b) free

-- a bit that one does
pub followed_ring : (w : Wiring) → ArePlain w.wires → w.rings ≡ rings w.wires → (b i : ℕ)
    → position_from (λ r. r == b) 0 w.rings ≡ Some i
    → followed w (length w.wires + 2) (of_signal (Bit b)) ≡ ends (at_vertex (w.first_buffer + i) 0)
followed_ring w plain is_rings b i at =
    followed_step w plain is_rings (of_signal (Bit b)) ∙ ap (by_ring w (followed w (length w.wires + 2)) b) at

-- the register of a bit
pub followed_register : (w : Wiring) → ArePlain w.wires → w.rings ≡ rings w.wires → (b : ℕ)
    → followed w (length w.wires + 2) (of_register b) ≡ behind_bit w (followed w (length w.wires + 2)) b
followed_register w plain is_rings b = followed_step w plain is_rings (of_register b)
