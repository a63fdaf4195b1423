-- The written ports are the read ones, but for the numbers of their bits.
use Rattle.std.proofs.Common.{◌≡◌, ◌∙◌, ℕ, zero, suc, ◌+◌, ◌≤◌, List, [], ◌∷◌, ◌++◌, length, take, drop, Bool, true, false, ◌&&◌, ◌||◌, cond, Option, Some, None, ap, ap₂, arith, bytes_eq, codes, filter, map, not, refl, subst, sym}
use Rattle.std.specs.Prelude.{IsTrue, nat_eq}
use Rattle.std.specs.List.{AllByRecursion, list_all, list_any, starts_with}
use Rattle.std.proofs.lemmas.List.{length-append, length-drop, length-map, map-append}
use Rattle.cs_base.specs.declared.signal.Signal.{Signal}
use Rattle.cs_base.specs.declared.signal.Signal.TheVariants.{Bit}
use Rattle.cs_conditions.specs.Conditions.{holds_clock, is_inout, is_reserved}
use Rattle.cs_json.specs.declared.document.Direction.{Direction}
use Rattle.cs_json.specs.declared.document.Direction.TheVariants.{Input, Output, Inout}
use Rattle.cs_json.specs.declared.document.PortDecl.{PortDecl}
use Rattle.cs_json.specs.Readable.{AreInOrder, is_below}
use Rattle.cs_modules.specs.declared.clocks.Clock.{Clock}
use Rattle.cs_modules.specs.Pins.{count_from}
use Rattle.cs_modules.specs.Signals.{is_input, is_output}
use Rattle.cs_net.specs.declared.netlist.Port.{Port}
use Rattle.cs_net.specs.Build.{port_of}
use Rattle.cs_net.specs.Drivers.{is_clock}
use Rattle.cs_net.specs.Isolates.{DataPort}
use Rattle.cs_share.specs.declared.types.Names.{Names}
use Rattle.cs_share.specs.Ports.{input_signals, number_after, outputs_after, port_bits, written_clock, written_ports}
use Rattle.cs_share.proofs.CircuitNames.{HasFitPorts, decl_of, output_signals}
use Rattle.cs_share.proofs.CircuitPorts.{HaveSameClocks, count_more, length_count, one_more, same_clocks}

-- ---- ports that differ in numbers alone

-- the same name and direction, and the clock at the same places
pub record IsAlike (clock written : Option Clock) (p q : Port) : Type 0 where
  pub name : q.name ≡ p.name
  pub direction : q.direction ≡ p.direction
  pub clocks : map (is_clock written) q.bits ≡ map (is_clock clock) p.bits

abbrev pub AreAlikePorts : Option Clock → Option Clock → List Port → List Port → Type 0
AreAlikePorts clock written [] [] = Unit {0}
AreAlikePorts clock written [] (q ∷ qs) = ⊥
AreAlikePorts clock written (p ∷ ps) [] = ⊥
AreAlikePorts clock written (p ∷ ps) (q ∷ qs) = IsAlike clock written p q × AreAlikePorts clock written ps qs

-- ---- data ports by the clock

abbrev pub is_port_of : Option Clock → Port → Bool
is_port_of clock p = list_any (is_clock clock) p.bits && list_all (is_clock clock) p.bits

abbrev pub port_by : Option Clock → Port → DataPort
port_by clock p = record {
  name = p.name;
  direction = p.direction;
  width = length (filter (λ s. not (is_clock clock s)) p.bits);
}

-- the data ports of a netlist with these ports and this clock
abbrev pub ports_by : Option Clock → List Port → List DataPort
ports_by clock ports = map (port_by clock) (filter (λ p. not (is_port_of clock p)) ports)

width_by : {A : Type 0} (test : A → Bool) (xs : List A)
    → length (filter (λ x. not (test x)) xs) ≡ length (filter not (map test xs))
width_by test [] = refl
width_by test (x ∷ xs) = by (test x) (width_by test xs)
  where
    by : (t : Bool) → length (filter (λ x. not (test x)) xs) ≡ length (filter not (map test xs))
        → length (cond (not t) (x ∷ filter (λ x. not (test x)) xs) (filter (λ x. not (test x)) xs))
        ≡ length (cond (not t) (t ∷ filter not (map test xs)) (filter not (map test xs)))
    by true rest = rest
    by false rest = ap suc rest

any_by : {A : Type 0} (test : A → Bool) (xs : List A) → list_any test xs ≡ list_any (λ t. t) (map test xs)
any_by test [] = refl
any_by test (x ∷ xs) = ap (λ t. test x || t) (any_by test xs)

all_by : {A : Type 0} (test : A → Bool) (xs : List A) → list_all test xs ≡ list_all (λ t. t) (map test xs)
all_by test [] = refl
all_by test (x ∷ xs) = ap (λ t. test x && t) (all_by test xs)

module _ (clock written : Option Clock) (p q : Port) (alike : IsAlike clock written p q) where
  same_any : list_any (is_clock written) q.bits ≡ list_any (is_clock clock) p.bits
  same_any = any_by (is_clock written) q.bits ∙ ap (list_any (λ t. t)) alike.clocks ∙ sym (any_by (is_clock clock) p.bits)

  same_all : list_all (is_clock written) q.bits ≡ list_all (is_clock clock) p.bits
  same_all = all_by (is_clock written) q.bits ∙ ap (list_all (λ t. t)) alike.clocks ∙ sym (all_by (is_clock clock) p.bits)

  same_width : length (filter (λ s. not (is_clock written s)) q.bits) ≡ length (filter (λ s. not (is_clock clock s)) p.bits)
  same_width =
      width_by (is_clock written) q.bits ∙ ap (λ ts. length (filter not ts)) alike.clocks ∙ sym (width_by (is_clock clock) p.bits)

  same_port : port_by written q ≡ port_by clock p
  same_port =
      ap₂ (λ n d. let r : DataPort = record { name = n; direction = d; width = length (filter (λ s. not (is_clock written s)) q.bits) } in r)
      alike.name alike.direction
      ∙ ap (λ w. let r : DataPort = record { name = p.name; direction = p.direction; width = w } in r) same_width

  same_test : is_port_of written q ≡ is_port_of clock p
  same_test = ap₂ (λ a b. a && b) same_any same_all

  holds_by : (c : Option Clock) (bits : List Signal) → holds_clock c bits ≡ list_any (is_clock c) bits
  holds_by None bits = sym (none bits)
    where
      none : (xs : List Signal) → list_any (is_clock None) xs ≡ false
      none [] = refl
      none (x ∷ xs) = none xs
  holds_by (Some c) bits = refl

  pub same_reserved : is_reserved written (decl_of q) ≡ is_reserved clock (decl_of p)
  same_reserved =
      ap₂ (λ n h. (bytes_eq n (codes "cslow_clk") && not h) || starts_with nat_eq n (codes "$cs$")) alike.name
      (holds_by written q.bits ∙ same_any ∙ sym (holds_by clock p.bits))

pub same_data_ports : (clock written : Option Clock) (ps qs : List Port) → AreAlikePorts clock written ps qs
    → ports_by written qs ≡ ports_by clock ps
same_data_ports clock written [] [] h = refl
same_data_ports clock written [] (q ∷ qs) h = absurd h
same_data_ports clock written (p ∷ ps) [] h = absurd h
same_data_ports clock written (p ∷ ps) (q ∷ qs) h =
    by (is_port_of clock p) (is_port_of written q) (same_test clock written p q h.0) (same_data_ports clock written ps qs h.1)
  where
    by : (t u : Bool) → u ≡ t → ports_by written qs ≡ ports_by clock ps
        → map (port_by written) (cond (not u) (q ∷ filter (λ q. not (is_port_of written q)) qs) (filter (λ q. not (is_port_of written q)) qs))
        ≡ map (port_by clock) (cond (not t) (p ∷ filter (λ p. not (is_port_of clock p)) ps) (filter (λ p. not (is_port_of clock p)) ps))
    by true true is rest = rest
    by true false is rest = absurd (cc)
    by false true is rest = absurd (cc)
    by false false is rest = ap₂ (λ x xs. x ∷ xs) (same_port clock written p q h.0) rest

-- ---- the written ports

equal_parts : {A : Type 0} (xs xs' ys ys' : List A) → length xs ≡ length xs' → xs ++ ys ≡ xs' ++ ys' → (xs ≡ xs') × (ys ≡ ys')
equal_parts [] [] ys ys' count same = (refl, same)
equal_parts [] (x ∷ xs') ys ys' count same = absurd (omega (arith, count))
equal_parts (x ∷ xs) [] ys ys' count same = absurd (omega (arith, count))
equal_parts (x ∷ xs) (x' ∷ xs') ys ys' count same =
    let head : x ≡ x' = cc in
    let tail : xs ++ ys ≡ xs' ++ ys' = cc in
    let rest = equal_parts xs xs' ys ys' (omega (arith, count)) tail in
    (ap₂ (λ z zs. z ∷ zs) head rest.0, rest.1)

all_parts : {A : Type 0} (P : A → Type 0) (xs ys : List A) → AllByRecursion P (xs ++ ys) → AllByRecursion P xs × AllByRecursion P ys
all_parts P [] ys h = (tt, h)
all_parts P (x ∷ xs) ys h = let rest = all_parts P xs ys h.1 in ((h.0, rest.0), rest.1)

pub all_dropped : {A : Type 0} (P : A → Type 0) (n : ℕ) (xs : List A) → AllByRecursion P xs → AllByRecursion P (drop n xs)
all_dropped P zero xs h = h
all_dropped P (suc n) [] h = tt
all_dropped P (suc n) (x ∷ xs) h = all_dropped P n xs h.1

-- as many signals that are no clock as there are bits that are none
none_alike : (clock written : Option Clock) (bits outs : List Signal) → AllByRecursion (λ s. is_clock clock s ≡ false) bits
    → AllByRecursion (λ s. is_clock written s ≡ false) outs → length bits ≤ length outs
    → map (is_clock written) (take (length bits) outs) ≡ map (is_clock clock) bits
none_alike clock written [] outs h k few = refl
none_alike clock written (s ∷ bits) [] h k few = absurd (omega (arith, few))
none_alike clock written (s ∷ bits) (o ∷ outs) h k few =
    ap₂ (λ x xs. x ∷ xs) (k.0 ∙ sym h.0) (none_alike clock written bits outs h.1 k.1 (omega (arith, few)))

-- what is needed of the ports from a number on, and of the signals that are left
record AreWrittenOf (clock written : Option Clock) (next : ℕ) (outs ins shown : List Signal) : Type 0 where
  clocks : HaveSameClocks clock written next ins
  none_shown : AllByRecursion (λ s. is_clock clock s ≡ false) shown
  none_out : AllByRecursion (λ s. is_clock written s ≡ false) outs
  enough : length shown ≤ length outs

first_and_rest : (clock written : Option Clock) (d : Direction) (next : ℕ) (outs bits ins shown : List Signal) → is_inout d ≡ false
    → AreWrittenOf clock written next outs (cond (is_input d) bits [] ++ ins) (cond (is_output d) bits [] ++ shown)
    → (map (is_clock written) (port_bits d (length bits) next outs) ≡ map (is_clock clock) bits)
    × AreWrittenOf clock written (number_after d (length bits) next) (outputs_after d (length bits) outs) ins shown
first_and_rest clock written Input next outs bits ins shown way h =
    let whole =
    sym (map-append (is_clock written) (map Bit (count_from next (length bits))) (map Bit (count_from (next + length bits) (length ins))))
    ∙ ap (map (is_clock written)) (sym (ap (λ n. map Bit (count_from next n)) (length-append bits ins)
    ∙ ap (map Bit) (count_more next (length bits) (length ins))
    ∙ map-append Bit (count_from next (length bits)) (count_from (next + length bits) (length ins))))
    ∙ h.clocks ∙ map-append (is_clock clock) bits ins in
    let count =
    length-map (map Bit (count_from next (length bits))) (is_clock written) ∙ length-map (count_from next (length bits)) Bit
    ∙ length_count next (length bits) ∙ sym (length-map bits (is_clock clock)) in
    let parts = equal_parts (map (is_clock written) (map Bit (count_from next (length bits)))) (map (is_clock clock) bits)
    (map (is_clock written) (map Bit (count_from (next + length bits) (length ins)))) (map (is_clock clock) ins) count whole in
    (parts.0, record { clocks = parts.1; none_shown = h.none_shown; none_out = h.none_out; enough = h.enough })
first_and_rest clock written Output next outs bits ins shown way h =
    let parts = all_parts (λ s. is_clock clock s ≡ false) bits shown h.none_shown in
    let enough = h.enough in
    let both = length-append bits shown in
    let left = length-drop (length bits) outs in (
      none_alike clock written bits outs parts.0 h.none_out (omega (arith, enough, both)),
      record {
        clocks = h.clocks;
        none_shown = parts.1;
        none_out = all_dropped (λ s. is_clock written s ≡ false) (length bits) outs h.none_out;
        enough = omega (arith, enough, both, left);
      },
    )
first_and_rest clock written Inout next outs bits ins shown way h = absurd (cc)

alike_from : (clock written : Option Clock) (next : ℕ) (outs : List Signal) (ports : List Port)
    → AllByRecursion (λ (p : Port). is_inout p.direction ≡ false) ports
    → AreWrittenOf clock written next outs (input_signals ports) (output_signals ports)
    → AreAlikePorts clock written ports (map port_of (written_ports next outs ports))
alike_from clock written next outs [] ways h = tt
alike_from clock written next outs (p ∷ ports) ways h =
    let split : AreWrittenOf clock written next outs (cond (is_input p.direction) p.bits [] ++ input_signals ports)
    (cond (is_output p.direction) p.bits [] ++ output_signals ports) =
    subst (λ ins. AreWrittenOf clock written next outs ins (cond (is_output p.direction) p.bits [] ++ output_signals ports))
    (one_more (λ (q : Port). q.bits) (λ (q : Port). is_input q.direction) p ports)
    (subst (λ shown. AreWrittenOf clock written next outs (input_signals (p ∷ ports)) shown)
    (one_more (λ (q : Port). q.bits) (λ (q : Port). is_output q.direction) p ports) h) in
    let parts = first_and_rest clock written p.direction next outs p.bits (input_signals ports) (output_signals ports) ways.0 split in (
      record { name = refl; direction = refl; clocks = parts.0 },
      alike_from clock written (number_after p.direction (length p.bits) next) (outputs_after p.direction (length p.bits) outs) ports ways.1 parts.1,
    )

pub written_alike : (names : Names) → HasFitPorts names → (outs : List Signal)
    → AllByRecursion (λ s. is_clock (written_clock names) s ≡ false) outs → length (output_signals names.ports) ≤ length outs
    → AreAlikePorts names.clock (written_clock names) names.ports (map port_of (written_ports 2 outs names.ports))
written_alike names fit outs apart enough =
    alike_from names.clock (written_clock names) 2 outs names.ports fit.one_way
    (record { clocks = same_clocks names fit; none_shown = fit.shown; none_out = apart; enough = enough })

-- ---- names, directions and reserved names

pub all_written : (P : List ℕ → Direction → Type 0) (next : ℕ) (outs : List Signal) (ports : List Port)
    → AllByRecursion (λ (p : Port). P p.name p.direction) ports
    → AllByRecursion (λ (q : PortDecl). P q.name q.direction) (written_ports next outs ports)
all_written P next outs [] h = tt
all_written P next outs (p ∷ ports) h =
    (h.0, all_written P (number_after p.direction (length p.bits) next) (outputs_after p.direction (length p.bits) outs) ports h.1)

pub order_written : (next : ℕ) (outs : List Signal) (ports : List Port) → AreInOrder (λ (p : Port). p.name) ports
    → AreInOrder (λ (q : PortDecl). q.name) (written_ports next outs ports)
order_written next outs [] order = tt
order_written next outs (p ∷ ports) order = (
  all_written (λ n d. IsTrue (is_below p.name n)) (number_after p.direction (length p.bits) next)
      (outputs_after p.direction (length p.bits) outs) ports order.0,
  order_written (number_after p.direction (length p.bits) next) (outputs_after p.direction (length p.bits) outs) ports order.1,
)

free_by : (clock written : Option Clock) (ps : List Port) (qs : List PortDecl) → AreAlikePorts clock written ps (map port_of qs)
    → AllByRecursion (λ (p : Port). is_reserved clock (decl_of p) ≡ false) ps
    → AllByRecursion (λ (q : PortDecl). is_reserved written q ≡ false) qs
free_by clock written [] [] h free = tt
free_by clock written [] (q ∷ qs) h free = absurd h
free_by clock written (p ∷ ps) [] h free = absurd h
free_by clock written (p ∷ ps) (q ∷ qs) h free =
    (same_reserved clock written p (port_of q) h.0 ∙ free.0, free_by clock written ps qs h.1 free.1)

pub free_written : (names : Names) → HasFitPorts names → (outs : List Signal)
    → AllByRecursion (λ s. is_clock (written_clock names) s ≡ false) outs → length (output_signals names.ports) ≤ length outs
    → AllByRecursion (λ (q : PortDecl). is_reserved (written_clock names) q ≡ false) (written_ports 2 outs names.ports)
free_written names fit outs apart enough =
    free_by names.clock (written_clock names) names.ports (written_ports 2 outs names.ports)
    (written_alike names fit outs apart enough) fit.free
