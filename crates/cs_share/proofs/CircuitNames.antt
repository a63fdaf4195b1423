-- What is so of the ports of names that a netlist has.
use Rattle.std.proofs.Common.{◌≡◌, ◌∙◌, ℕ, zero, suc, ◌+◌, ◌≤◌, List, [], ◌∷◌, Bool, true, false, ◌||◌, cond, Option, Some, None, ap, arith, eqb-true, filter, find, map, option_map, refl, subst, sym}
use Rattle.std.specs.Prelude.{◌==◌, IsTrue, filter_map, flat_map}
use Rattle.std.specs.List.{AllByRecursion, list_any}
use Rattle.std.proofs.lemmas.Bool.Decides.{nat_tests}
use Rattle.cs_base.specs.declared.signal.Signal.{Signal}
use Rattle.cs_base.specs.declared.signal.Signal.TheVariants.{Zero, One, Unknown, HighZ, Bit}
use Rattle.cs_conditions.specs.Conditions.{asynchronous, bad_pins, duplicates, early_refusal, inout, is_inout, is_reserved, least, not_fine, or_else, reserved, unknown_cell}
use Rattle.cs_conditions.specs.declared.error.NetError.TheVariants.{TwoDrivers}
use Rattle.cs_conditions.proofs.Refusals.{no_two_drivers}
use Rattle.cs_json.specs.declared.document.Module.{Module}
use Rattle.cs_json.specs.declared.document.PortDecl.{PortDecl}
use Rattle.cs_json.specs.Readable.{AreInOrder, AreReadable, IsPort, is_below, is_input as is_input_port, is_readable_signal}
use Rattle.cs_modules.specs.declared.clocks.Clock.{Clock}
use Rattle.cs_modules.specs.Modules.{clock_of, connections_of, driven_signals, input_bits, is_cell_output}
use Rattle.cs_modules.specs.Pins.{Connection}
use Rattle.cs_modules.specs.Signals.{is_bit, is_input, is_output, number_in}
use Rattle.cs_modules.proofs.Connections.{list_any-numbers}
use Rattle.cs_net.specs.declared.netlist.Port.{Port}
use Rattle.cs_net.specs.Build.{net_of, port_of}
use Rattle.cs_net.specs.Drivers.{is_clock}
use Rattle.cs_net.specs.Invariant.{IsWellFormed}
use Rattle.cs_net.specs.Netlist.{Net}
use Rattle.cs_net.proofs.ClockFacts.{is_an_input, is_no_output}
use Rattle.cs_net.proofs.Occurrences.{count_of, count_of-append, one_if}
use Rattle.cs_net.proofs.PinLemmas.{same_port_bits}
use Rattle.cs_share.specs.declared.types.Names.{Names}
use Rattle.cs_share.specs.Names.{names_of}
use Rattle.cs_share.specs.Ports.{input_signals}

-- a port as a document has it
abbrev pub decl_of : Port → PortDecl
decl_of p = record { name = p.name; direction = p.direction; bits = p.bits }

-- the bits of the output ports, port by port and least first
abbrev pub output_signals : List Port → List Signal
output_signals ports = flat_map (λ p. p.bits) (filter (λ p. is_output p.direction) ports)

-- a clock stands once among these signals
abbrev pub HasOneClock : Option Clock → List Signal → Type 0
HasOneClock None signals = Unit {0}
HasOneClock (Some clock) signals = count_of (is_bit clock.bit) signals ≡ 1

-- the ports have their names in order, none of them reserved, and one direction each; the clock stands once among their
-- inputs, and not among their outputs
pub record HasFitPorts (names : Names) : Type 0 where
  pub order : AreInOrder (λ (p : Port). p.name) names.ports
  pub one_way : AllByRecursion (λ (p : Port). is_inout p.direction ≡ false) names.ports
  pub free : AllByRecursion (λ (p : Port). is_reserved names.clock (decl_of p) ≡ false) names.ports
  pub clock : HasOneClock names.clock (input_signals names.ports)
  pub shown : AllByRecursion (λ s. is_clock names.clock s ≡ false) (output_signals names.ports)

-- no port holds bit 0
abbrev pub HasNoBitZero : List Port → Type 0
HasNoBitZero ports = AllByRecursion (λ (p : Port). AllByRecursion (λ s. is_bit 0 s ≡ false) p.bits) ports

-- ---- lists

pub all_fail : {A : Type 0} (test : A → Bool) (xs : List A) → find test xs ≡ None → AllByRecursion (λ x. test x ≡ false) xs
all_fail test [] h = tt
all_fail test (x ∷ xs) h =
    elim (test x) as (λ t. test x ≡ t → cond t (Some x) (find test xs) ≡ None → AllByRecursion (λ y. test y ≡ false) (x ∷ xs)) [
      | true ↦ λ passes is. absurd (cc)
      | false ↦ λ fails is. (fails, all_fail test xs is)
    ] refl h

pub none_passes : {A : Type 0} (test : A → Bool) (xs : List A) → list_any test xs ≡ false → AllByRecursion (λ x. test x ≡ false) xs
none_passes test [] h = tt
none_passes test (x ∷ xs) h =
    elim (test x) as (λ t. test x ≡ t → (t || list_any test xs) ≡ false → AllByRecursion (λ y. test y ≡ false) (x ∷ xs)) [
      | true ↦ λ passes is. absurd (cc)
      | false ↦ λ fails is. (fails, none_passes test xs is)
    ] refl h

pub all_of_map : {A B : Type 0} (P : B → Type 0) (f : A → B) (xs : List A) → AllByRecursion (λ x. P (f x)) xs
    → AllByRecursion P (map f xs)
all_of_map P f [] h = tt
all_of_map P f (x ∷ xs) h = (h.0, all_of_map P f xs h.1)

pub order_of_map : {A B : Type 0} (name : B → List ℕ) (f : A → B) (xs : List A) → AreInOrder (λ x. name (f x)) xs
    → AreInOrder name (map f xs)
order_of_map name f [] h = tt
order_of_map name f (x ∷ xs) h =
    (all_of_map (λ y. IsTrue (is_below (name (f x)) (name y))) f xs h.0, order_of_map name f xs h.1)

some_counted : {A : Type 0} (test : A → Bool) (xs : List A) → list_any test xs ≡ true → 1 ≤ count_of test xs
some_counted test [] h = absurd (cc)
some_counted test (x ∷ xs) h = by (test x) (some_counted test xs) h
  where
    by : (t : Bool) → (list_any test xs ≡ true → 1 ≤ count_of test xs) → (t || list_any test xs) ≡ true
        → 1 ≤ one_if t + count_of test xs
    by true later is = omega arith
    by false later is = let rest = later is in omega arith

pub one_of_most : (n : ℕ) → 1 ≤ n → n ≤ 1 → n ≡ 1
one_of_most n low high = omega arith

-- ---- no bit twice

none_counted : (b : ℕ) (signals : List Signal) → list_any (is_bit b) signals ≡ false → count_of (is_bit b) signals ≡ 0
none_counted b [] none = refl
none_counted b (s ∷ signals) none = by (is_bit b s) none (none_counted b signals)
  where
    by : (t : Bool) → (t || list_any (is_bit b) signals) ≡ false
        → (list_any (is_bit b) signals ≡ false → count_of (is_bit b) signals ≡ 0) → one_if t + count_of (is_bit b) signals ≡ 0
    by true h later = absurd (cc)
    by false h later = let rest = later h in omega arith

once_more : (n : ℕ) (numbers : List ℕ) → duplicates (n ∷ numbers) ≡ []
    → (list_any (λ a. a == n) numbers ≡ false) × (duplicates numbers ≡ [])
once_more n numbers none = by (list_any (λ a. a == n) numbers) refl none
  where
    by : (t : Bool) → list_any (λ a. a == n) numbers ≡ t → cond t (n ∷ duplicates numbers) (duplicates numbers) ≡ []
        → (list_any (λ a. a == n) numbers ≡ false) × (duplicates numbers ≡ [])
    by true is h = absurd (cc)
    by false is h = (is, h)

counted_once : (b : ℕ) (signals : List Signal) → duplicates (filter_map number_in signals) ≡ [] → count_of (is_bit b) signals ≤ 1
counted_once b [] none = omega arith
counted_once b (Zero ∷ signals) none = let rest = counted_once b signals none in omega arith
counted_once b (One ∷ signals) none = let rest = counted_once b signals none in omega arith
counted_once b (Unknown ∷ signals) none = let rest = counted_once b signals none in omega arith
counted_once b (HighZ ∷ signals) none = let rest = counted_once b signals none in omega arith
counted_once b (Bit a ∷ signals) none =
    let parts = once_more a (filter_map number_in signals) none in
    by (a == b) refl parts.0 (counted_once b signals parts.1)
  where
    by : (t : Bool) → (a == b) ≡ t → list_any (λ n. n == a) (filter_map number_in signals) ≡ false
        → count_of (is_bit b) signals ≤ 1 → one_if t + count_of (is_bit b) signals ≤ 1
    by true is other rest =
        let none_left : count_of (is_bit b) signals ≡ 0 =
        none_counted b signals (sym (list_any-numbers b signals)
        ∙ ap (λ n. list_any (λ m. m == n) (filter_map number_in signals)) (sym (eqb-true a b is)) ∙ other) in
        omega arith
    by false is other rest = omega arith

none_least : (numbers : List ℕ) → option_map TwoDrivers (least numbers) ≡ None → numbers ≡ []
none_least [] h = refl
none_least (n ∷ numbers) h = absurd (cc)

inputs_once : (m : Module) → early_refusal m ≡ None → (b : ℕ) → count_of (is_bit b) (input_bits m) ≤ 1
inputs_once m early b =
    let once = counted_once b (driven_signals m)
    (none_least (duplicates (filter_map number_in (driven_signals m))) (no_two_drivers m early)) in
    let parts = count_of-append (is_bit b) (input_bits m)
    (map (λ (c : Connection). c.signal) (filter (λ (c : Connection). is_cell_output c.role) (connections_of m))) in
    omega arith

-- ---- other conditions

split : {A : Type 0} (a b : Option A) → or_else a b ≡ None → (a ≡ None) × (b ≡ None)
split None b h = (refl, h)
split (Some a) b h = absurd (cc)

none_of_map : {A B : Type 0} (f : A → B) (o : Option A) → option_map f o ≡ None → o ≡ None
none_of_map f None h = refl
none_of_map f (Some a) h = absurd (cc)

no_inout : (m : Module) → early_refusal m ≡ None → inout m ≡ None
unfolding early_refusal
no_inout m h =
    let c2 = split (unknown_cell m) _ h in
    let c3 = split (not_fine m) _ c2.1 in
    let c4 = split (asynchronous m) _ c3.1 in
    let c5 = split (bad_pins m) _ c4.1 in
    let c6 = split (inout m) _ c5.1 in
    c6.0

one_way_ports : (m : Module) → early_refusal m ≡ None → AllByRecursion (λ (p : PortDecl). is_inout p.direction ≡ false) m.ports
one_way_ports m early = all_fail (λ (p : PortDecl). is_inout p.direction) m.ports (none_of_map _ _ (no_inout m early))

free_ports : (m : Module) → reserved m ≡ None → AllByRecursion (λ p. is_reserved (clock_of m) p ≡ false) m.ports
unfolding reserved
free_ports m free = all_fail (λ p. is_reserved (clock_of m) p) m.ports (none_of_map _ _ free)

-- ---- bit 0

not_zero : (only_bits : Bool) (s : Signal) → IsTrue (is_readable_signal only_bits s) → is_bit 0 s ≡ false
not_zero only_bits Zero h = refl
not_zero only_bits One h = refl
not_zero only_bits Unknown h = refl
not_zero only_bits HighZ h = refl
not_zero only_bits (Bit zero) h = absurd (cc)
not_zero only_bits (Bit (suc b)) h = grind (arith, nat_tests)

none_zero : (only_bits : Bool) (signals : List Signal) → AreReadable only_bits signals → AllByRecursion (λ s. is_bit 0 s ≡ false) signals
none_zero only_bits [] h = tt
none_zero only_bits (s ∷ signals) h = (not_zero only_bits s h.0, none_zero only_bits signals h.1)

ports_none_zero : (ports : List PortDecl) → AllByRecursion IsPort ports
    → AllByRecursion (λ (p : PortDecl). AllByRecursion (λ s. is_bit 0 s ≡ false) p.bits) ports
ports_none_zero [] h = tt
ports_none_zero (p ∷ ports) h = (none_zero (is_input_port p.direction) p.bits h.0, ports_none_zero ports h.1)

-- ---- of a netlist

module _ (net : Net) (w : IsWellFormed net) where
  once_in_net : (b : ℕ) → count_of (is_bit b) (input_signals net.ports) ≤ 1
  unfolding net_of
  once_in_net b =
      let few = inputs_once w.«module» w.early b in
      let same = ap (count_of (is_bit b)) (same_port_bits is_input w.«module».ports) in
      subst (λ (n : Net). count_of (is_bit b) (input_signals n.ports) ≤ 1) (sym w.is) (omega (arith, few, same))

  one_clock : (clock : Option Clock) → net.clock ≡ clock → HasOneClock clock (input_signals net.ports)
  one_clock None is = tt
  one_clock (Some clock) is =
      one_of_most _ (some_counted (is_bit clock.bit) (input_signals net.ports) (is_an_input net w clock is)) (once_in_net clock.bit)

  shown_by : (clock : Option Clock) → net.clock ≡ clock → AllByRecursion (λ s. is_clock clock s ≡ false) (output_signals net.ports)
  shown_by None is = everywhere (output_signals net.ports)
    where
      everywhere : (xs : List Signal) → AllByRecursion (λ s. is_clock None s ≡ false) xs
      everywhere [] = tt
      everywhere (x ∷ xs) = (refl, everywhere xs)
  shown_by (Some clock) is = none_passes (is_bit clock.bit) (output_signals net.ports) (is_no_output net w clock is)

  pub ports_fit : (origins : List (List ℕ)) → HasFitPorts (names_of net origins)
  unfolding net_of
  ports_fit origins = record {
    order =
        subst (λ (n : Net). AreInOrder (λ (p : Port). p.name) n.ports) (sym w.is)
        (order_of_map (λ (p : Port). p.name) port_of w.«module».ports w.readable.ports_order);
    one_way =
        subst (λ (n : Net). AllByRecursion (λ (p : Port). is_inout p.direction ≡ false) n.ports) (sym w.is)
        (all_of_map (λ (p : Port). is_inout p.direction ≡ false) port_of w.«module».ports (one_way_ports w.«module» w.early));
    free =
        subst (λ (n : Net). AllByRecursion (λ (p : Port). is_reserved n.clock (decl_of p) ≡ false) n.ports) (sym w.is)
        (all_of_map (λ (p : Port). is_reserved (clock_of w.«module») (decl_of p) ≡ false) port_of w.«module».ports
        (free_ports w.«module» w.not_reserved));
    clock = one_clock net.clock refl;
    shown = shown_by net.clock refl;
  }

  pub no_bit_zero : HasNoBitZero net.ports
  unfolding net_of
  no_bit_zero =
      subst (λ (n : Net). HasNoBitZero n.ports) (sym w.is)
      (all_of_map (λ (p : Port). AllByRecursion (λ s. is_bit 0 s ≡ false) p.bits) port_of w.«module».ports
      (ports_none_zero w.«module».ports w.readable.ports))
