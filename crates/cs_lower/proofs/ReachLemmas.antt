-- How far a signal reaches, step by step.
use Rattle.std.specs.Prelude.{◌==◌}
use Rattle.std.proofs.Common.{◌≡◌, ◌⊎◌, ℕ, zero, suc, ◌+◌, ◌<◌, ◌≤◌, ◌^◌, Bool, List, [], ◌∷◌, ◌++◌, length, reverse, Option, Some, None, refl, sym, ap, ap₂, subst, ◌∙◌, append_assoc, arith, inl, inr, length-append}
use Rattle.std.specs.List.{position_from}
use Rattle.std.specs.Option.{IfNone, IfSome}
use Rattle.std.proofs.lemmas.List.{reverse-append}
use Rattle.std.proofs.lemmas.Option.{none-some, same_Some}
use Rattle.cs_base.specs.declared.signal.Signal.{Signal}
use Rattle.cs_base.specs.declared.signal.Signal.TheVariants.{Zero, One, Unknown, HighZ, Bit}
use Rattle.cs_modules.specs.Signals.{number_in}
use Rattle.cs_net.specs.Netlist.{Net}
use Rattle.cs_lower.specs.Followed.{Trail, Wiring, behind_bit, behind_wire, by_ring, ends, followed, from_signal, from_tap, past}
use Rattle.cs_lower.specs.Lowered.{trail_of, wiring_of}
use Rattle.cs_lower.specs.Reaches.{IsUnheld, at_once, bit_of_tap, one_more, reach_of, short_reach, signal_end, taken_by, tap_end}
use Rattle.cs_lower.specs.Rings.{bit_at_tap, bit_behind}
use Rattle.cs_lower.specs.declared.reaches.Reach.{Reach}
use Rattle.cs_lower.specs.declared.taps.End.{End}
use Rattle.cs_lower.specs.declared.taps.End.TheVariants.{Constant as at_bit, Vertex as at_vertex}
use Rattle.cs_lower.specs.declared.taps.Tap.{Tap}
use Rattle.cs_lower.specs.declared.taps.Tap.TheVariants.{Constant as of_bit, Held as of_held, Register as of_register, Signal as of_signal, Vertex as of_vertex}
use Rattle.cs_lower.specs.declared.taps.Wire.{Wire}
use Rattle.cs_lower.specs.declared.taps.Wire.TheVariants.{Register as from_register, Vertex as from_vertex, Undriven as undriven}
use Rattle.cs_lower.specs.Walks.{bit_reach}
use Rattle.cs_lower.specs.Wires.{parts_of, wire_in}
use Rattle.cs_lower.proofs.NetWires.{plain_parts}
use Rattle.cs_lower.proofs.PlainWires.{IsPlain, IsPlainWire, plain_wire_in}
use Rattle.cs_lower.proofs.TrailLemmas.{trail_of_free, trail_of_register, trail_of_ring, trail_step}

-- a register more is passed
reach_past : (start : Bool) (t : Trail) → reach_of (past start t) ≡ one_more (reach_of t)
reach_past start t = ap (λ n. with_end n) (length-append t.contents (start ∷ []))
  where
    with_end : ℕ → Reach
    with_end n = record { registers = n; end = t.end }

-- a tap that is no bit leads there at once
end_of_tap : (net : Net) (d : Tap) → bit_at_tap d ≡ None → IsPlain d
    → reach_of (trail_of net d) ≡ at_once (tap_end d)
end_of_tap net (of_signal Zero) free plain = ap reach_of (trail_step net (of_signal Zero))
end_of_tap net (of_signal One) free plain = ap reach_of (trail_step net (of_signal One))
end_of_tap net (of_signal Unknown) free plain = ap reach_of (trail_step net (of_signal Unknown))
end_of_tap net (of_signal HighZ) free plain = ap reach_of (trail_step net (of_signal HighZ))
end_of_tap net (of_signal (Bit b)) free plain = absurd (none-some b (sym free))
end_of_tap net (of_vertex v o) free plain = ap reach_of (trail_step net (of_vertex v o))
end_of_tap net (of_bit b) free plain = ap reach_of (trail_step net (of_bit b))
end_of_tap net (of_register b) free plain = absurd plain
end_of_tap net (of_held v start) free plain = absurd plain

-- through a wire that no bit is behind
short_right : (net : Net) (start : Bool) (x : Wire) → bit_behind x ≡ None → IsPlainWire x
    → reach_of (behind_wire start (trail_of net) x) ≡ short_reach x
short_right net start undriven free plain = refl
short_right net start (from_vertex v o) free plain = refl
short_right net start (from_register d) free plain =
    reach_past start (trail_of net d) ∙ ap one_more (end_of_tap net d free plain)

-- through a register that takes a bit
long_right : (net : Net) (start : Bool) (x : Wire) (c : ℕ) → bit_behind x ≡ Some c
    → reach_of (behind_wire start (trail_of net) x) ≡ one_more (bit_reach net c)
long_right net start undriven c behind = absurd (none-some c behind)
long_right net start (from_vertex v o) c behind = absurd (none-some c behind)
long_right net start (from_register (of_signal Zero)) c behind = absurd (none-some c behind)
long_right net start (from_register (of_signal One)) c behind = absurd (none-some c behind)
long_right net start (from_register (of_signal Unknown)) c behind = absurd (none-some c behind)
long_right net start (from_register (of_signal HighZ)) c behind = absurd (none-some c behind)
long_right net start (from_register (of_vertex v o)) c behind = absurd (none-some c behind)
long_right net start (from_register (of_bit b)) c behind = absurd (none-some c behind)
long_right net start (from_register (of_register b)) c behind = absurd (none-some c behind)
long_right net start (from_register (of_held v first)) c behind = absurd (none-some c behind)
long_right net start (from_register (of_signal (Bit b))) c behind =
    reach_past start (trail_of net (of_signal (Bit b)))
    ∙ ap (λ a. one_more (bit_reach net a)) (same_Some b c behind)

-- ---- what drives a bit

-- how far one reaches through what drives a bit
abbrev pub driver_reach : Net → ℕ → Reach
driver_reach net b = reach_of (behind_bit (wiring_of net) (trail_of net) b)

pub driver_short : (net : Net) (b : ℕ) → bit_behind (wire_in (parts_of net).wires b) ≡ None
    → driver_reach net b ≡ short_reach (wire_in (parts_of net).wires b)
driver_short net b free =
    short_right net ((wiring_of net).start b) (wire_in (parts_of net).wires b) free
    (plain_wire_in (parts_of net).wires (plain_parts net) b)

pub driver_long : (net : Net) (b c : ℕ) → bit_behind (wire_in (parts_of net).wires b) ≡ Some c
    → driver_reach net b ≡ one_more (bit_reach net c)
driver_long net b c behind = long_right net ((wiring_of net).start b) (wire_in (parts_of net).wires b) c behind

-- a signal that no ring buffer takes the place of reaches as far as what drives it
pub bit_free : (net : Net) (b : ℕ) → position_from (λ r. r == b) 0 (wiring_of net).rings ≡ None
    → bit_reach net b ≡ driver_reach net b
bit_free net b free = ap reach_of (trail_of_free net b free)

pub register_reach : (net : Net) (b : ℕ) → reach_of (trail_of net (of_register b)) ≡ driver_reach net b
register_reach net b = ap reach_of (trail_of_register net b)

-- ---- how many registers there are at most

few_behind : (w : Wiring) (back : Tap → Trail) (n : ℕ) → ((t : Tap) → length (back t).contents ≤ n) → (b : ℕ)
    → length (behind_bit w back b).contents ≤ suc n
few_behind w back n each b = by (wire_in w.wires b)
  where
    by : (x : Wire) → length (behind_wire (w.start b) back x).contents ≤ suc n
    by undriven = omega arith
    by (from_vertex v o) = omega arith
    by (from_register d) =
        omega (arith, each d, length-append (back d).contents (w.start b ∷ []))

few_ring : (w : Wiring) (back : Tap → Trail) (n : ℕ) → ((t : Tap) → length (back t).contents ≤ n) → (b : ℕ)
    (place : Option ℕ) → length (by_ring w back b place).contents ≤ suc n
few_ring w back n each b None = few_behind w back n each b
few_ring w back n each b (Some i) = omega arith

few_signal : (w : Wiring) (back : Tap → Trail) (n : ℕ) → ((t : Tap) → length (back t).contents ≤ n) → (s : Signal)
    → length (from_signal w back s).contents ≤ suc n
few_signal w back n each Zero = omega arith
few_signal w back n each One = omega arith
few_signal w back n each Unknown = omega arith
few_signal w back n each HighZ = omega arith
few_signal w back n each (Bit b) = few_ring w back n each b (position_from (λ r. r == b) 0 w.rings)

few_step : (w : Wiring) (back : Tap → Trail) (n : ℕ) → ((t : Tap) → length (back t).contents ≤ n) → (t : Tap)
    → length (from_tap w back t).contents ≤ suc n
few_step w back n each (of_signal s) = few_signal w back n each s
few_step w back n each (of_vertex v o) = omega arith
few_step w back n each (of_bit b) = omega arith
few_step w back n each (of_register b) = few_behind w back n each b
few_step w back n each (of_held v start) = omega arith

few_followed : (w : Wiring) (n : ℕ) (t : Tap) → length (followed w n t).contents ≤ n
unfolding followed
few_followed w zero t = omega arith
few_followed w (suc n) t = few_step w (followed w n) n (few_followed w n) t

-- no more are passed than there are wires, and two
pub few_registers : (net : Net) (t : Tap) → length (trail_of net t).contents ≤ length (parts_of net).wires + 2
few_registers net t = few_followed (wiring_of net) (length (parts_of net).wires + 2) t

-- ---- the first register that is passed

-- a tap that is no bit and no register of its own passes none
no_bit_passes : (net : Net) (t : Tap) → IsUnheld t → bit_of_tap t ≡ None → (trail_of net t).contents ≡ []
no_bit_passes net (of_signal Zero) free none = ap (λ t. t.contents) (trail_step net (of_signal Zero))
no_bit_passes net (of_signal One) free none = ap (λ t. t.contents) (trail_step net (of_signal One))
no_bit_passes net (of_signal Unknown) free none = ap (λ t. t.contents) (trail_step net (of_signal Unknown))
no_bit_passes net (of_signal HighZ) free none = ap (λ t. t.contents) (trail_step net (of_signal HighZ))
no_bit_passes net (of_signal (Bit b)) free none = absurd (none-some b (sym none))
no_bit_passes net (of_vertex v o) free none = ap (λ t. t.contents) (trail_step net (of_vertex v o))
no_bit_passes net (of_bit b) free none = ap (λ t. t.contents) (trail_step net (of_bit b))
no_bit_passes net (of_register b) free none = absurd (none-some b (sym none))
no_bit_passes net (of_held v start) free none = absurd free

-- through what drives a bit, where a register is passed
driver_passes : (net : Net) (b : ℕ) → 0 < length (behind_bit (wiring_of net) (trail_of net) b).contents
    → behind_bit (wiring_of net) (trail_of net) b
    ≡ past ((wiring_of net).start b) (trail_of net (taken_by (wire_in (parts_of net).wires b)))
driver_passes net b some = by (wire_in (parts_of net).wires b) some
  where
    by : (x : Wire) → 0 < length (behind_wire ((wiring_of net).start b) (trail_of net) x).contents
        → behind_wire ((wiring_of net).start b) (trail_of net) x
        ≡ past ((wiring_of net).start b) (trail_of net (taken_by x))
    by undriven some = absurd (omega (arith, some))
    by (from_vertex v o) some = absurd (omega (arith, some))
    by (from_register d) some = refl

some_along : (s t : Trail) → s ≡ t → 0 < length s.contents → 0 < length t.contents
some_along s t same some =
    let many : length s.contents ≡ length t.contents = ap (λ t. length t.contents) same in omega (arith, many, some)

bit_passes : (net : Net) (b : ℕ) → 0 < length (trail_of net (of_signal (Bit b))).contents
    → trail_of net (of_signal (Bit b))
    ≡ past ((wiring_of net).start b) (trail_of net (taken_by (wire_in (parts_of net).wires b)))
bit_passes net b some = by (position_from (λ r. r == b) 0 (wiring_of net).rings) refl
  where
    by : (place : Option ℕ) → position_from (λ r. r == b) 0 (wiring_of net).rings ≡ place
        → trail_of net (of_signal (Bit b))
        ≡ past ((wiring_of net).start b) (trail_of net (taken_by (wire_in (parts_of net).wires b)))
    by (Some i) at = absurd (omega (
      arith,
      some_along (trail_of net (of_signal (Bit b)))
          (ends (at_vertex ((wiring_of net).first_buffer + i) 0)) (trail_of_ring net b i at) some,
    ))
    by None at =
        let same = trail_of_free net b at in
        same ∙ driver_passes net b (some_along (trail_of net (of_signal (Bit b)))
        (behind_bit (wiring_of net) (trail_of net) b) same some)

-- a tap that passes a register passes that of its bit first
first_is_passed : (net : Net) (t : Tap) (b r : ℕ) → r ≡ length (trail_of net t).contents → (r ≡ 0 → ⊥)
    → bit_of_tap t ≡ Some b
    → trail_of net t ≡ past ((wiring_of net).start b) (trail_of net (taken_by (wire_in (parts_of net).wires b)))
first_is_passed net (of_signal Zero) b r many some is = absurd (none-some b is)
first_is_passed net (of_signal One) b r many some is = absurd (none-some b is)
first_is_passed net (of_signal Unknown) b r many some is = absurd (none-some b is)
first_is_passed net (of_signal HighZ) b r many some is = absurd (none-some b is)
first_is_passed net (of_vertex v o) b r many some is = absurd (none-some b is)
first_is_passed net (of_bit v) b r many some is = absurd (none-some b is)
first_is_passed net (of_held v start) b r many some is = absurd (none-some b is)
first_is_passed net (of_signal (Bit c)) b r many some is =
    let same : c ≡ b = same_Some c b is in
    subst (λ a. trail_of net (of_signal (Bit c))
    ≡ past ((wiring_of net).start a) (trail_of net (taken_by (wire_in (parts_of net).wires a)))) same
    (bit_passes net c (omega (arith, many, some)))
first_is_passed net (of_register c) b r many some is =
    let same : c ≡ b = same_Some c b is in
    let step = trail_of_register net c in
    subst (λ a. trail_of net (of_register c)
    ≡ past ((wiring_of net).start a) (trail_of net (taken_by (wire_in (parts_of net).wires a)))) same
    (step ∙ driver_passes net c (some_along (trail_of net (of_register c))
    (behind_bit (wiring_of net) (trail_of net) c) step (omega (arith, many, some))))

-- ---- the starts that are collected, from the pin on

-- those that are left stand before those that are collected, in turn
pub record IsCollected (whole : List Bool) (left : List Bool) (starts : List Bool) : Type 0 where
  pub is : whole ≡ left ++ reverse starts

-- one more start is collected
pub collected_next : (whole : List Bool) (t next : Trail) (start : Bool) (starts more : List Bool)
    → IsCollected whole t.contents starts → t ≡ past start next → more ≡ starts ++ start ∷ []
    → IsCollected whole next.contents more
collected_next whole t next start starts more so_far is pushed = record {
  is = so_far.is ∙ ap (λ (t : Trail). t.contents ++ reverse starts) is
      ∙ append_assoc next.contents (start ∷ []) (reverse starts)
      ∙ ap (λ xs. next.contents ++ xs) (sym (reverse-append starts (start ∷ [])))
      ∙ ap (λ xs. next.contents ++ reverse xs) (sym pushed);
}

-- in the end they are all, turned round
pub collected_all : (whole left starts : List Bool) → IsCollected whole left starts → left ≡ [] → reverse starts ≡ whole
collected_all whole left starts so_far none = sym (so_far.is ∙ ap (λ xs. xs ++ reverse starts) none)

-- one register less is left
pub fewer_registers : (t next : Trail) (start : Bool) → t ≡ past start next
    → length next.contents < length t.contents
fewer_registers t next start is =
    let many : length t.contents ≡ length (next.contents ++ start ∷ []) = ap (λ (t : Trail). length t.contents) is in
    omega (arith, many, length-append next.contents (start ∷ []))

-- ---- taps, as they are told apart

signal_end_at_once : (net : Net) (s : Signal) → number_in s ≡ None
    → at_once (signal_end s) ≡ reach_of (trail_of net (of_signal s))
signal_end_at_once net s none = sym (end_of_tap net (of_signal s) none tt)

-- a signal that is no bit
pub constant_signal : (net : Net) (s : Signal) (r : Reach) (e : End) → number_in s ≡ None → e ≡ signal_end s
    → r ≡ at_once e → r ≡ reach_of (trail_of net (of_signal s))
constant_signal net s r e none is at = at ∙ ap at_once is ∙ signal_end_at_once net s none

-- an output of a vertex
pub vertex_tap : (net : Net) (t : Tap) (r : Reach) (v o : ℕ) → t ≡ of_vertex v o → r ≡ at_once (at_vertex v o)
    → r ≡ reach_of (trail_of net t)
vertex_tap net t r v o is at = at ∙ sym (ap (λ t. reach_of (trail_of net t)) is ∙ end_of_tap net (of_vertex v o) refl tt)

-- a bit that stands for good
pub bit_tap : (net : Net) (t : Tap) (r : Reach) (b : Bool) → t ≡ of_bit b → r ≡ at_once (at_bit b)
    → r ≡ reach_of (trail_of net t)
bit_tap net t r b is at = at ∙ sym (ap (λ t. reach_of (trail_of net t)) is ∙ end_of_tap net (of_bit b) refl tt)

-- one register more than the bit behind
pub register_long : (net : Net) (b c : ℕ) (r : Reach) → bit_behind (wire_in (parts_of net).wires b) ≡ Some c
    → r ≡ one_more (bit_reach net c) → r ≡ reach_of (trail_of net (of_register b))
register_long net b c r behind is = is ∙ sym (register_reach net b ∙ driver_long net b c behind)

-- or what drives the bit, where no bit is behind
pub register_short : (net : Net) (b : ℕ) (r : Reach) → bit_behind (wire_in (parts_of net).wires b) ≡ None
    → r ≡ short_reach (wire_in (parts_of net).wires b) → r ≡ reach_of (trail_of net (of_register b))
register_short net b r free is = is ∙ sym (register_reach net b ∙ driver_short net b free)

-- one register more fits its type
pub bit_reach_few : (net : Net) (b : ℕ) (r : Reach) → r ≡ bit_reach net b → length (parts_of net).wires < 2 ^ 63
    → r.registers + 1 < 2 ^ 64
bit_reach_few net b r is few =
    let same : r.registers ≡ length (trail_of net (of_signal (Bit b))).contents = ap (λ (r : Reach). r.registers) is in
    omega (arith, same, few_registers net (of_signal (Bit b)), few)

-- a signal of these four is no bit
pub is_constant : (s : Signal) → (s ≡ Zero) ⊎ ((s ≡ One) ⊎ ((s ≡ Unknown) ⊎ (s ≡ HighZ))) → number_in s ≡ None
is_constant s (inl is) = ap number_in is
is_constant s (inr (inl is)) = ap number_in is
is_constant s (inr (inr (inl is))) = ap number_in is
is_constant s (inr (inr (inr is))) = ap number_in is

-- ---- the first bit that is passed, if any

-- if there is none, no register is passed
pub first_none : (net : Net) (t : Tap) (bit : Option ℕ) → IsUnheld t → bit ≡ bit_of_tap t
    → IfNone bit ((trail_of net t).contents ≡ [])
first_none net t None free is = no_bit_passes net t free (sym is)
first_none net t (Some b) free is = tt

-- if there is one, its register is passed first
pub first_some : (net : Net) (t : Tap) (bit : Option ℕ) (r : ℕ) → bit ≡ bit_of_tap t
    → r ≡ length (trail_of net t).contents → (r ≡ 0 → ⊥)
    → IfSome bit (λ b. trail_of net t
    ≡ past ((wiring_of net).start b) (trail_of net (taken_by (wire_in (parts_of net).wires b))))
first_some net t None r is many some = tt
first_some net t (Some b) r is many some = first_is_passed net t b r many some (sym is)

-- the same, by the parts that a walk has at hand
pub passes_on : (net : Net) (t : Trail) (b : ℕ) (start : Bool) (x : Wire) (taken : Tap)
    → t ≡ past ((wiring_of net).start b) (trail_of net (taken_by (wire_in (parts_of net).wires b)))
    → start ≡ (wiring_of net).start b → x ≡ wire_in (parts_of net).wires b → taken ≡ taken_by x
    → t ≡ past start (trail_of net taken)
passes_on net t b start x taken is starts wired takes =
    is ∙ ap₂ (λ v d. past v (trail_of net d)) (sym starts) (sym (takes ∙ ap taken_by wired))

-- ---- registers of their own

-- what a wire's register takes is none
pub taken_unheld : (net : Net) (b : ℕ) (taken : Tap) → taken ≡ taken_by (wire_in (parts_of net).wires b) → IsUnheld taken
taken_unheld net b taken is =
    subst IsUnheld (sym is) (by (wire_in (parts_of net).wires b) (plain_wire_in (parts_of net).wires (plain_parts net) b))
  where
    of_plain : (t : Tap) → IsPlain t → IsUnheld t
    of_plain (of_signal s) plain = tt
    of_plain (of_vertex v o) plain = tt
    of_plain (of_bit b) plain = tt
    of_plain (of_register b) plain = tt
    of_plain (of_held v start) plain = absurd plain

    by : (x : Wire) → IsPlainWire x → IsUnheld (taken_by x)
    by undriven plain = tt
    by (from_vertex v o) plain = tt
    by (from_register d) plain = of_plain d plain

pub unheld_unless : (t : Tap) → ((v : ℕ) (start : Bool) → t ≡ of_held v start → ⊥) → IsUnheld t
unheld_unless (of_signal s) other = tt
unheld_unless (of_vertex v o) other = tt
unheld_unless (of_bit b) other = tt
unheld_unless (of_register b) other = tt
unheld_unless (of_held v start) other = other v start refl

-- it leads to its vertex
pub trail_of_held : (net : Net) (v : ℕ) (start : Bool) → trail_of net (of_held v start) ≡ past start (ends (at_vertex v 0))
trail_of_held net v start = trail_step net (of_held v start)

pub held_reach : (net : Net) (t : Tap) (r : Reach) (v : ℕ) (start : Bool) → t ≡ of_held v start
    → r ≡ one_more (at_once (at_vertex v 0)) → r ≡ reach_of (trail_of net t)
held_reach net t r v start is at =
    at ∙ sym (ap (λ t. reach_of (trail_of net t)) is ∙ ap reach_of (trail_of_held net v start))

pub held_contents : (net : Net) (t : Tap) (contents : List Bool) (v : ℕ) (start : Bool) → t ≡ of_held v start
    → contents ≡ start ∷ [] → contents ≡ (trail_of net t).contents
held_contents net t contents v start is at =
    at ∙ sym (ap (λ t. (trail_of net t).contents) is ∙ ap (λ (t : Trail). t.contents) (trail_of_held net v start))
