-- Steps of the table of reaches.
use Rattle.std.specs.Prelude.{nat_eq, ◌==◌}
use Rattle.std.proofs.Common.{◌≡◌, ℕ, ◌+◌, ◌<◌, ◌^◌, Bool, true, false, cond, List, [], ◌∷◌, ◌++◌, length, Option, Some, None, is_some, option_map, refl, sym, ap, subst, ◌∙◌, arith}
use Rattle.std.specs.List.{position_from}
use Rattle.std.proofs.lemmas.Bool.{eq-eqb, eqb-true}
use Rattle.std.proofs.lemmas.Option.{none-some, same_Some}
use Rattle.cs_base.specs.declared.signal.Signal.TheVariants.{Bit}
use Rattle.cs_net.specs.Netlist.{Net}
use Rattle.cs_lower.specs.Followed.{behind_wire}
use Rattle.cs_lower.specs.Lowered.{trail_of, wiring_of}
use Rattle.cs_lower.specs.Reaches.{at_once, found, one_more, reach_of, ring_reach, short_reach}
use Rattle.cs_lower.specs.Rings.{bit_behind}
use Rattle.cs_lower.specs.declared.reaches.Reach.{Reach}
use Rattle.cs_lower.specs.declared.taps.End.TheVariants.{Vertex as at_vertex}
use Rattle.cs_lower.specs.declared.taps.Tap.TheVariants.{Signal as of_signal}
use Rattle.cs_lower.specs.declared.taps.Wire.{Wire}
use Rattle.cs_lower.specs.declared.taps.Wire.TheVariants.{Register as from_register, Vertex as from_vertex, Undriven as undriven}
use Rattle.cs_lower.specs.Walks.{AreNoted, AreReaches, Grows, IsNoting, IsPath, bit_reach, numbers}
use Rattle.cs_lower.specs.Wires.{parts_of, wire_in}
use Rattle.cs_lower.proofs.PathLemmas.{IsLast, path_pop}
use Rattle.cs_lower.proofs.ReachLemmas.{bit_free, driver_long, driver_short, few_registers}
use Rattle.cs_lower.proofs.RingLemmas.{is_wired}
use Rattle.cs_lower.proofs.TrailLemmas.{trail_of_ring}

-- ---- an entry

pub is_none : {A : Type 0} (x : Option A) → is_some x ≡ false → x ≡ None
is_none None is = refl
is_none (Some x) is = cc

-- the new table has this reach for the bit, and what the old one has for the others
abbrev pub Puts : (ℕ → Option Reach) → (ℕ → Option Reach) → ℕ → Reach → Type 0
Puts old new b r = (q : ℕ) → new q ≡ cond (nat_eq b q) (Some r) (old q)

puts_it : (old new : ℕ → Option Reach) (b : ℕ) (r : Reach) → Puts old new b r → new b ≡ Some r
puts_it old new b r puts = puts b ∙ ap (λ t. cond t (Some r) (old b)) (eq-eqb b b refl)

puts_grows : (old new : ℕ → Option Reach) (b : ℕ) (r : Reach) → Puts old new b r → Grows old new
puts_grows old new b r puts q is = by (nat_eq b q) (sym (puts q) ∙ is)
  where
    by : (same : Bool) → cond same (Some r) (old q) ≡ None → old q ≡ None
    by true is = absurd (none-some r (sym is))
    by false is = is

puts_right : (net : Net) (old new : ℕ → Option Reach) (b : ℕ) (r : Reach) → AreReaches net old
    → Puts old new b r → r ≡ bit_reach net b → AreReaches net new
puts_right net old new b r reaches puts right = record {
  known = λ q s is. by q s (nat_eq b q) refl (sym (puts q) ∙ is);
  rings = λ q is. reaches.rings q (puts_grows old new b r puts q is);
}
  where
    by : (q : ℕ) (s : Reach) (same : Bool) → nat_eq b q ≡ same → cond same (Some r) (old q) ≡ Some s
        → s ≡ bit_reach net q
    by q s true same is = sym (same_Some r s is) ∙ right ∙ ap (bit_reach net) (eqb-true b q same)
    by q s false other is = reaches.known q s is

-- ---- a way back that stopped

-- where no reach is known and no bit is behind
pub stop_right : (net : Net) (table : ℕ → Option Reach) (stop : ℕ) → AreReaches net table → table stop ≡ None
    → bit_behind (wire_in (parts_of net).wires stop) ≡ None
    → short_reach (wire_in (parts_of net).wires stop) ≡ bit_reach net stop
stop_right net table stop reaches none free =
    sym (bit_free net stop (reaches.rings stop none) ∙ driver_short net stop free)

-- ---- along a path

-- one register more fits its type
pub noting_few : (net : Net) (table : ℕ → Option Reach) (from : ℕ) (path : List ℕ) (reach : Reach)
    → IsNoting net table from path reach → length (parts_of net).wires < 2 ^ 63 → reach.registers + 1 < 2 ^ 64
noting_few net table from path reach n few =
    let right = n.reaches.known n.behind reach n.noted in
    let same : reach.registers ≡ length (trail_of net (of_signal (Bit n.behind))).contents =
    ap (λ (r : Reach). r.registers) right in
    omega (arith, same, few_registers net (of_signal (Bit n.behind)), few)

noting_next : (net : Net) (old new : ℕ → Option Reach) (from b : ℕ) (longer path : List ℕ) (reach next : Reach)
    → IsNoting net old from longer reach → longer ≡ path ++ b ∷ [] → next ≡ one_more reach → Puts old new b next
    → IsNoting net new from path next
noting_next net old new from b longer path reach next n pops is puts = record {
  behind = b;
  path_to = last.path_to;
  reaches = puts_right net old new b next n.reaches puts right;
  noted = puts_it old new b next puts;
}
  where
    last : IsLast (wiring_of net) from path b n.behind
    last = path_pop (wiring_of net) from b n.behind path
        (subst (λ bits. IsPath (wiring_of net) from bits n.behind) pops n.path_to)

    right : next ≡ bit_reach net b
    right = is ∙ ap one_more (n.reaches.known n.behind reach n.noted)
        ∙ sym (bit_free net b last.free ∙ driver_long net b n.behind last.behind)

-- the loop along a path
pub record IsNotingFrom (net : Net) (old new : ℕ → Option Reach) (from : ℕ) (path : List ℕ) (reach : Reach) : Type 0 where
  pub noting : IsNoting net new from path reach
  pub grows : Grows old new

pub noting_step : (net : Net) (first old new : ℕ → Option Reach) (from b : ℕ) (longer path : List ℕ)
    (reach next : Reach) → IsNotingFrom net first old from longer reach → longer ≡ path ++ b ∷ []
    → next ≡ one_more reach → Puts old new b next → IsNotingFrom net first new from path next
noting_step net first old new from b longer path reach next n pops is puts = record {
  noting = noting_next net old new from b longer path reach next n.noting pops is puts;
  grows = λ q none. n.grows q (puts_grows old new b next puts q none);
}

-- ---- the loop over the bits

pub record AreNotedFor (net : Net) (table : ℕ → Option Reach) (bits : List ℕ) : Type 0 where
  pub reaches : AreReaches net table
  pub noted : AreNoted table bits

-- ---- ring buffers

pub rings_right : (net : Net) (table : ℕ → Option Reach) (rings : List ℕ) (first_buffer : ℕ)
    → rings ≡ (wiring_of net).rings → first_buffer ≡ (wiring_of net).first_buffer
    → ((b : ℕ) → table b ≡ ring_reach first_buffer rings b) → AreReaches net table
rings_right net table rings first_buffer buffers first is = record {
  known = λ b r at. by b r (position_from (λ a. a == b) 0 (wiring_of net).rings) refl (sym (there b) ∙ at);
  rings = λ b none. free (position_from (λ a. a == b) 0 (wiring_of net).rings) b (sym (there b) ∙ none);
}
  where
    there : (b : ℕ) → table b ≡ ring_reach (wiring_of net).first_buffer (wiring_of net).rings b
    there b = is b ∙ ap (λ bits. ring_reach first_buffer bits b) buffers
        ∙ ap (λ n. ring_reach n (wiring_of net).rings b) first

    buffer : ℕ → Reach
    buffer i = at_once (at_vertex ((wiring_of net).first_buffer + i) 0)

    by : (b : ℕ) (r : Reach) (place : Option ℕ) → position_from (λ a. a == b) 0 (wiring_of net).rings ≡ place
        → option_map buffer place ≡ Some r → r ≡ bit_reach net b
    by b r None found at = absurd (none-some r at)
    by b r (Some i) found at = sym (same_Some (buffer i) r at) ∙ sym (ap reach_of (trail_of_ring net b i found))

    free : (place : Option ℕ) (b : ℕ) → option_map buffer place ≡ None → place ≡ None
    free None b none = refl
    free (Some i) b none = absurd (none-some (buffer i) (sym none))

-- ---- all bits

pub all_right : (net : Net) (table : ℕ → Option Reach) → AreReaches net table
    → AreNoted table (numbers (parts_of net).wires) → (b : ℕ) → found (table b) ≡ bit_reach net b
all_right net table reaches noted b = by (table b) refl
  where
    none : table b ≡ None → (x : Wire) → wire_in (parts_of net).wires b ≡ x → wire_in (parts_of net).wires b ≡ undriven
    none free undriven wired = wired
    none free (from_vertex v o) wired = absurd (noted b (is_wired (parts_of net).wires b
        (λ same. clash (sym wired ∙ same))) free)
      where
        clash : from_vertex v o ≡ undriven → ⊥
        clash same = cc
    none free (from_register d) wired = absurd (noted b (is_wired (parts_of net).wires b
        (λ same. clash (sym wired ∙ same))) free)
      where
        clash : from_register d ≡ undriven → ⊥
        clash same = cc

    by : (r : Option Reach) → table b ≡ r → found r ≡ bit_reach net b
    by (Some r) is = reaches.known b r is
    by None is =
        let wired = none is (wire_in (parts_of net).wires b) refl in
        sym (bit_free net b (reaches.rings b is)
        ∙ ap (λ x. reach_of (behind_wire ((wiring_of net).start b) (trail_of net) x)) wired)
