-- The clock of a netlist: all that clocks its cells is that bit, which is read nowhere beside.
use Rattle.std.proofs.Common.{◌≡◌, ◌∙◌, ℕ, ◌+◌, ◌<◌, List, [], ◌∷◌, ◌++◌, Bool, true, false, ◌&&◌, ◌||◌, inl, inr, cond, Option, Some, None, ap, arith, codes, eqb-true, filter_map, find, map, not, option_map, refl, subst, sym}
use Rattle.std.specs.Prelude.{◌==◌, option_and_then, slice_get}
use Rattle.std.specs.List.{AllByRecursion, flat_map, list_any, zip}
use Rattle.cs_base.specs.declared.signal.Signal.{Signal}
use Rattle.cs_base.specs.declared.signal.Signal.TheVariants.{Bit, HighZ, One, Unknown, Zero}
use Rattle.cs_cells.specs.declared.class.Class.TheVariants as class
use Rattle.cs_cells.specs.declared.register.FfKind.{FfKind}
use Rattle.cs_conditions.specs.Conditions.{are_one, asynchronous, bad_pins, clock_as_data, clock_not_input, const_z, early_refusal, error_if, inout, is_broken, is_misformed, memory_form, memory_rules, mixed_edges, not_fine, of_clock, or_else, two_clocks, two_drivers, two_starts, unknown_cell}
use Rattle.cs_conditions.specs.declared.error.NetError.{NetError}
use Rattle.cs_conditions.specs.declared.error.NetError.TheVariants.{MemoryForm}
use Rattle.cs_json.specs.declared.document.CellDecl.{CellDecl}
use Rattle.cs_json.specs.declared.document.Module.{Module}
use Rattle.cs_modules.specs.declared.clocks.Clock.{Clock}
use Rattle.cs_modules.specs.Digits.{is_one}
use Rattle.cs_modules.specs.Memories.{shape_of}
use Rattle.cs_modules.specs.Modules.{ClockPin, cells_of, clock_of, clock_pin, clock_pins, connections_of, edge_of, first_clock, input_bits, is_data_input, is_memory, output_bits, reads_as_data}
use Rattle.cs_modules.specs.Pins.{Connection, cell_connections, class_at, connections, count_from, has_right_pins, is_clocked, number_at, parameter}
use Rattle.cs_modules.specs.Signals.{holds_bit, is_bit, is_bit_of, is_input, is_output, number_in, same}
use Rattle.cs_modules.proofs.GatePins.{all_pass}
use Rattle.cs_net.specs.declared.netlist.Cell.{Cell}
use Rattle.cs_net.specs.Build.{cell_of, net_of}
use Rattle.cs_net.specs.Clocks.{clock_signals, clocks_by, data_by, data_signals, input_signals}
use Rattle.cs_net.specs.Drivers.{data_outputs}
use Rattle.cs_net.specs.Invariant.{IsWellFormed}
use Rattle.cs_net.specs.Netlist.{Net}
use Rattle.cs_net.proofs.ClockPins.{clock_there, clocks_are, counts, data_are, has_in_choice, register_clocked}
use Rattle.cs_net.proofs.MemoryPlaces.{map_at}
use Rattle.cs_net.proofs.Members.{Has, any_of, append_all, has_either, has_in_chain, has_left, has_of_choice, has_right, of_all}
use Rattle.cs_net.proofs.PinLemmas.{right_pins, same_port_bits}

-- ---- tests

split : {A : Type 0} (a b : Option A) → or_else a b ≡ None → (a ≡ None) × (b ≡ None)
split None b h = (refl, h)
split (Some a) b h = absurd (cc)

none_mapped : {A B : Type 0} (f : A → B) (o : Option A) → option_map f o ≡ None → o ≡ None
none_mapped f None h = refl
none_mapped f (Some a) h = absurd (cc)

all_fail : {A : Type 0} (test : A → Bool) (xs : List A) → find test xs ≡ None → AllByRecursion (λ x. test x ≡ false) xs
all_fail test [] h = tt
all_fail test (x ∷ xs) h =
    elim (test x) as (λ t. test x ≡ t → cond t (Some x) (find test xs) ≡ None → AllByRecursion (λ y. test y ≡ false) (x ∷ xs)) [
      | true ↦ λ passes is. absurd (cc)
      | false ↦ λ fails is. (fails, all_fail test xs is)
    ] refl h

found_passes : {A : Type 0} (test : A → Bool) (xs : List A) (x : A) → find test xs ≡ Some x → test x ≡ true
found_passes test [] x h = absurd (cc)
found_passes test (y ∷ xs) x h =
    elim (test y) as (λ t. test y ≡ t → cond t (Some y) (find test xs) ≡ Some x → test x ≡ true) [
      | true ↦ λ passes is. let here : y ≡ x = cc in sym (ap test here) ∙ passes
      | false ↦ λ fails is. found_passes test xs x is
    ] refl h

none_any : {A : Type 0} (test : A → Bool) (xs : List A) → AllByRecursion (λ x. test x ≡ false) xs → list_any test xs ≡ false
none_any test [] h = refl
none_any test (x ∷ xs) h = ap (λ t. t || list_any test xs) h.0 ∙ none_any test xs h.1

negated : (t : Bool) → not t ≡ false → t ≡ true
negated true h = refl
negated false h = absurd (cc)

neither : (a b : Bool) → (a || b) ≡ false → (a ≡ false) × (b ≡ false)
neither true b h = absurd (cc)
neither false b h = (refl, h)

second : (a b : Bool) → (a && b) ≡ true → b ≡ true
second true b h = h
second false b h = absurd (cc)

no_error : (t : Bool) (e : NetError) → error_if t e ≡ None → t ≡ false
no_error true e h = absurd (cc)
no_error false e h = refl

same_values : (a b : Bool) → same a b ≡ true → a ≡ b
same_values true true h = refl
same_values true false h = absurd (cc)
same_values false true h = absurd (cc)
same_values false false h = refl

-- ---- the conditions that are needed

record NoneOfClocks (m : Module) : Type 0 where
  not_input : clock_not_input m ≡ None
  two : of_clock two_clocks m ≡ None
  edges : of_clock mixed_edges m ≡ None
  as_data : of_clock clock_as_data m ≡ None
  form : memory_form m ≡ None

none_of_clocks : (m : Module) → early_refusal m ≡ None → NoneOfClocks m
unfolding early_refusal
none_of_clocks m h =
    let c2 = split (unknown_cell m) _ h in
    let c3 = split (not_fine m) _ c2.1 in
    let c4 = split (asynchronous m) _ c3.1 in
    let c5 = split (bad_pins m) _ c4.1 in
    let c6 = split (inout m) _ c5.1 in
    let c7 = split (const_z m) _ c6.1 in
    let c8 = split (two_drivers m) _ c7.1 in
    let c9 = split (clock_not_input m) _ c8.1 in
    let c10 = split (of_clock two_clocks m) _ c9.1 in
    let c11 = split (of_clock mixed_edges m) _ c10.1 in
    let c12 = split (of_clock clock_as_data m) _ c11.1 in
    let c13 = split (two_starts m) _ c12.1 in
    let c14 = split (memory_form m) _ c13.1 in
    record { not_input = c9.0; two = c10.0; edges = c11.0; as_data = c12.0; form = c14.0 }

-- ---- writes are clocked

all_formed : (m : Module) → memory_form m ≡ None → AllByRecursion (λ d. is_misformed m d ≡ false) (cells_of m)
all_formed m none = by (find (is_misformed m) (cells_of m)) refl none
  where
    by : (found : Option CellDecl) → find (is_misformed m) (cells_of m) ≡ found
        → option_and_then (λ d. option_map (λ rule. MemoryForm d.name rule.0) (find is_broken (memory_rules m d))) found ≡ None
        → AllByRecursion (λ d. is_misformed m d ≡ false) (cells_of m)
    by None is h = all_fail (is_misformed m) (cells_of m) is
    by (Some d) is h =
        let broken = second (is_memory (class_at d)) _ (found_passes (is_misformed m) (cells_of m) d is) in
        let whole = none_any is_broken (memory_rules m d) (all_fail is_broken (memory_rules m d) (none_mapped _ _ h)) in
        let differ = sym whole ∙ broken in
        absurd (cc)

pub none_misformed : (m : Module) → early_refusal m ≡ None → AllByRecursion (λ d. is_misformed m d ≡ false) (cells_of m)
none_misformed m none = all_formed m (none_of_clocks m none).form

-- each write port of a memory is clocked
abbrev HasClockedWrites : CellDecl → Type 0
HasClockedWrites d = (i : ℕ) → class_at d ≡ class.Memory → i < number_at d (codes "WR_PORTS") → is_clocked d (codes "WR") i ≡ true

clocked_writes : (m : Module) (d : CellDecl) → is_misformed m d ≡ false → HasClockedWrites d
clocked_writes m d formed i is below =
    let enables = parameter d (codes "WR_CLK_ENABLE") in
    let ports = number_at d (codes "WR_PORTS") in
    let whole : list_any is_broken (memory_rules m d) ≡ false =
    sym (ap (λ k. is_memory k && list_any is_broken (memory_rules m d)) is) ∙ formed in
    let all = by (are_one enables ports) refl whole in
    let none : 0 + i ≡ i = omega arith in
    subst (λ j. is_one enables j ≡ true) none
    (of_all (λ j. is_one enables j ≡ true) (count_from 0 ports) i (0 + i) (all_pass (is_one enables) (count_from 0 ports) all)
    (counts 0 ports i below))
  where
    by : (t : Bool) → are_one (parameter d (codes "WR_CLK_ENABLE")) (number_at d (codes "WR_PORTS")) ≡ t
        → list_any is_broken (memory_rules m d) ≡ false
        → are_one (parameter d (codes "WR_CLK_ENABLE")) (number_at d (codes "WR_PORTS")) ≡ true
    by true h whole = h
    by false h whole =
        let broken = any_of is_broken (memory_rules m d) _ (7, refl) (ap not h) in
        let differ = sym broken ∙ whole in
        absurd (cc)

-- ---- all cells

all_clocks : (P : Signal → Type 0) (ds : List CellDecl) → AllByRecursion (λ d. has_right_pins d ≡ true) ds
    → AllByRecursion HasClockedWrites ds
    → ((c : Connection) → Has (connections ds) c → (rising : Bool) → edge_of c.role ≡ Some rising → P c.signal)
    → AllByRecursion P (flat_map (λ (c : Cell × Option _). clocks_by c.0.class c.0 c.1) (zip (map cell_of ds) (map shape_of ds)))
all_clocks P [] right writes each = tt
all_clocks P (d ∷ ds) right writes each =
    append_all P _ _ (clocks_are d right.0 P (λ c has. each c (has_left (cell_connections d) (connections ds) c has)) writes.0)
    (all_clocks P ds right.1 writes.1 (λ c has. each c (has_right (cell_connections d) (connections ds) c has)))

-- where a connection of the cells is a clock, something clocks a cell
some_clock : (ds : List CellDecl) → AllByRecursion (λ d. has_right_pins d ≡ true) ds
    → (c : Connection) → Has (connections ds) c → (rising : Bool) → edge_of c.role ≡ Some rising
    → flat_map (λ (c : Cell × Option _). clocks_by c.0.class c.0 c.1) (zip (map cell_of ds) (map shape_of ds)) ≡ [] → ⊥
some_clock [] right c (i, at) rising edge none = cc
some_clock (d ∷ ds) right c has rising edge none =
    let parts = no_parts _ _ none in
    elim (has_either (cell_connections d) (connections ds) c has) [
      | inl here ↦ clock_there d right.0 c here rising edge parts.0
      | inr later ↦ some_clock ds right.1 c later rising edge parts.1
    ]
  where
    no_parts : (xs ys : List Signal) → xs ++ ys ≡ [] → (xs ≡ []) × (ys ≡ [])
    no_parts [] ys h = (refl, h)
    no_parts (x ∷ xs) ys h = absurd (cc)

all_data : (P : Signal → Type 0) → P Zero → (ds : List CellDecl) → AllByRecursion (λ d. has_right_pins d ≡ true) ds
    → ((c : Connection) → Has (connections ds) c → is_data_input c.role ≡ true → P c.signal)
    → AllByRecursion P (flat_map (λ (c : Cell × Option _). data_by c.0.class c.0 c.1) (zip (map cell_of ds) (map shape_of ds)))
all_data P constant [] right each = tt
all_data P constant (d ∷ ds) right each =
    append_all P _ _ (data_are d right.0 P constant (λ c has. each c (has_left (cell_connections d) (connections ds) c has)))
    (all_data P constant ds right.1 (λ c has. each c (has_right (cell_connections d) (connections ds) c has)))

-- ---- the clock of a module

-- a bit among others
bit_among : (bits : List Signal) (s : Signal) → is_bit_of bits s ≡ true → (b : ℕ) × (s ≡ Bit b) × (list_any (is_bit b) bits ≡ true)
bit_among bits Zero h = absurd (cc)
bit_among bits One h = absurd (cc)
bit_among bits Unknown h = absurd (cc)
bit_among bits HighZ h = absurd (cc)
bit_among bits (Bit b) h = (b, refl, h)

nothing_left : {A : Type 0} (xs : List A) → AllByRecursion (λ x. ⊥) xs → xs ≡ []
nothing_left [] h = refl
nothing_left (x ∷ xs) h = absurd h.0

module _ (m : Module) (early : early_refusal m ≡ None) where
  none : NoneOfClocks m
  none = none_of_clocks m early

  writes : AllByRecursion HasClockedWrites (cells_of m)
  writes = by (cells_of m) (all_formed m none.form)
    where
      by : (ds : List CellDecl) → AllByRecursion (λ d. is_misformed m d ≡ false) ds → AllByRecursion HasClockedWrites ds
      by [] h = tt
      by (d ∷ ds) h = (clocked_writes m d h.0, by ds h.1)

  inputs : AllByRecursion (λ (p : ClockPin). not (is_bit_of (input_bits m) p.signal) ≡ false) (clock_pins m)
  inputs = all_fail (λ (p : ClockPin). not (is_bit_of (input_bits m) p.signal)) (clock_pins m) (none_mapped _ _ none.not_input)

  -- a clock pin's bit
  clock_bit : (p : ClockPin) → Has (clock_pins m) p → (b : ℕ) × (p.signal ≡ Bit b) × (list_any (is_bit b) (input_bits m) ≡ true)
  clock_bit p (i, at) =
      bit_among (input_bits m) p.signal
      (negated _ (of_all (λ (q : ClockPin). not (is_bit_of (input_bits m) q.signal) ≡ false) (clock_pins m) i p inputs at))

  -- a connection that clocks its cell
  abbrev pin_of : Connection → Bool → ClockPin
  pin_of c rising = record { cell = c.cell; signal = c.signal; rising = rising }

  has_pin_of : (c : Connection) (rising : Bool) → Has (connections_of m) c → edge_of c.role ≡ Some rising → Has (clock_pins m) (pin_of c rising)
  has_pin_of c rising has edge =
      has_in_choice clock_pin (connections_of m) c (pin_of c rising)
      (ap (λ o. option_map (λ r. pin_of c r) o) edge) has

  no_pins : clock_of m ≡ None → (p : ClockPin) → Has (clock_pins m) p → ⊥
  no_pins none_there p has = by (clock_pins m) refl has none_there
    where
      by : (pins : List ClockPin) → clock_pins m ≡ pins → Has pins p → first_clock pins ≡ None → ⊥
      by [] is (i, at) h = cc
      by (q ∷ pins) is has h =
          let bit = clock_bit q (0, ap (λ xs. slice_get xs 0) is) in
          let never = sym (ap (λ s. option_map (λ b. let k : Clock = record { bit = b; rising = q.rising } in k) (number_in s)) bit.1) ∙ h in
          absurd (cc)

  unclocked : clock_of m ≡ None → clock_signals (net_of m) ≡ []
  unfolding net_of
  unclocked none_there =
      nothing_left (clock_signals (net_of m))
      (all_clocks (λ s. ⊥) (cells_of m) (right_pins m early) writes
      (λ c has rising edge. no_pins none_there (pin_of c rising) (has_pin_of c rising has edge)))

  -- a clock of the module is that of a connection
  clocked_somewhere : (clock : Clock) → clock_of m ≡ Some clock → clock_signals (net_of m) ≡ [] → ⊥
  unfolding net_of
  clocked_somewhere clock is empty = by (clock_pins m) refl is
    where
      by : (pins : List ClockPin) → clock_pins m ≡ pins → first_clock pins ≡ Some clock → ⊥
      by [] at h = absurd (cc)
      by (p ∷ pins) at h =
          let found = has_of_choice clock_pin (connections_of m) p (0, ap (λ xs. slice_get xs 0) at) in
          of_edge found.0 found.1 (edge_of found.0.role) refl found.2
        where
          of_edge : (c : Connection) → Has (connections_of m) c → (o : Option Bool) → edge_of c.role ≡ o
              → option_map (pin_of c) o ≡ Some p → ⊥
          of_edge c has None edge made = absurd (cc)
          of_edge c has (Some rising) edge made = some_clock (cells_of m) (right_pins m early) c has rising edge empty

  module _ (clock : Clock) (is : clock_of m ≡ Some clock) where
    same_bits : AllByRecursion (λ b. not (b == clock.bit) ≡ false) (filter_map (λ (p : ClockPin). number_in p.signal) (clock_pins m))
    same_bits =
        all_fail (λ b. not (b == clock.bit)) (filter_map (λ (p : ClockPin). number_in p.signal) (clock_pins m))
        (none_mapped _ _ (sym (ap (option_and_then (λ k. two_clocks k m)) is) ∙ none.two))

    same_edges : AllByRecursion (λ (p : ClockPin). not (same p.rising clock.rising) ≡ false) (clock_pins m)
    same_edges =
        all_fail (λ (p : ClockPin). not (same p.rising clock.rising)) (clock_pins m)
        (none_mapped _ _ (sym (ap (option_and_then (λ k. mixed_edges k m)) is) ∙ none.edges))

    holds_clock : (p : ClockPin) → Has (clock_pins m) p → (p.signal ≡ Bit clock.bit) × (p.rising ≡ clock.rising)
    holds_clock p (i, at) =
        let bit = clock_bit p (i, at) in
        let numbered = has_in_choice (λ (q : ClockPin). number_in q.signal) (clock_pins m) p bit.0 (ap number_in bit.1) (i, at) in
        let this = of_all (λ b. not (b == clock.bit) ≡ false) _ numbered.0 bit.0 same_bits numbered.1 in (
          bit.1 ∙ ap (λ b. Bit b) (eqb-true bit.0 clock.bit (negated _ this)),
          same_values p.rising clock.rising (negated _ (of_all (λ (q : ClockPin). not (same q.rising clock.rising) ≡ false) (clock_pins m) i p same_edges at)),
        )

    clocked : AllByRecursion (λ s. s ≡ Bit clock.bit) (clock_signals (net_of m))
    unfolding net_of
    clocked =
        all_clocks (λ s. s ≡ Bit clock.bit) (cells_of m) (right_pins m early) writes
        (λ c has rising edge. (holds_clock (pin_of c rising) (has_pin_of c rising has edge)).0)

    clock_input : list_any (is_bit clock.bit) (input_bits m) ≡ true
    clock_input = by (clock_pins m) refl is
      where
        by : (pins : List ClockPin) → clock_pins m ≡ pins → first_clock pins ≡ Some clock → list_any (is_bit clock.bit) (input_bits m) ≡ true
        by [] at h = absurd (cc)
        by (p ∷ pins) at h =
            let has = ap (λ xs. slice_get xs 0) at in
            let bit = clock_bit p (0, has) in
            let both : Bit bit.0 ≡ Bit clock.bit = sym bit.1 ∙ (holds_clock p (0, has)).0 in
            let this : bit.0 ≡ clock.bit = cc in
            sym (ap (λ b. list_any (is_bit b) (input_bits m)) this) ∙ bit.2

    unread : (list_any (reads_as_data clock.bit) (connections_of m) ≡ false) × (list_any (is_bit clock.bit) (output_bits m) ≡ false)
    unread = neither _ _ (no_error _ _ (sym (ap (option_and_then (λ k. clock_as_data k m)) is) ∙ none.as_data))

    not_this : (c : Connection) → Has (connections_of m) c → is_data_input c.role ≡ true → (t : Bool) → is_bit clock.bit c.signal ≡ t → t ≡ false
    not_this c has reads false bit = refl
    not_this c has reads true bit =
        let found = any_of (reads_as_data clock.bit) (connections_of m) c has (ap (λ t. t && is_bit clock.bit c.signal) reads ∙ bit) in
        let differ = sym found ∙ unread.0 in
        absurd (cc)

    not_data : list_any (is_bit clock.bit) (data_signals (net_of m)) ≡ false
    unfolding net_of
    not_data =
        none_any (is_bit clock.bit) (data_signals (net_of m))
        (all_data (λ s. is_bit clock.bit s ≡ false) refl (cells_of m) (right_pins m early)
        (λ c has reads. not_this c has reads (is_bit clock.bit c.signal) refl))

    rises : (d : CellDecl) (kind : FfKind) → Has (cells_of m) d → class_at d ≡ class.Register kind → kind.rising ≡ clock.rising
    rises d kind (i, at) register =
        let right = of_all (λ e. has_right_pins e ≡ true) (cells_of m) i d (right_pins m early) at in
        let c = register_clocked d right kind register in
        let has = has_in_chain cell_connections (cells_of m) d c.0 (i, at) c.1 in
        (holds_clock (pin_of c.0 kind.rising) (has_pin_of c.0 kind.rising has c.2)).1

-- ---- of a netlist

module _ (net : Net) (w : IsWellFormed net) where
  clock_is : (clock : Option Clock) → net.clock ≡ clock → clock_of w.«module» ≡ clock
  unfolding net_of
  clock_is clock is = sym (ap (λ (n : Net). n.clock) w.is) ∙ is

  pub without_clock : net.clock ≡ None → clock_signals net ≡ []
  unfolding net_of
  without_clock is = subst (λ (n : Net). clock_signals n ≡ []) (sym w.is) (unclocked w.«module» w.early (clock_is None is))

  pub clocked_by_none : clock_signals net ≡ [] → net.clock ≡ None
  unfolding net_of
  clocked_by_none empty = by net.clock refl
    where
      by : (clock : Option Clock) → net.clock ≡ clock → net.clock ≡ None
      by None is = is
      by (Some clock) is =
          absurd (clocked_somewhere w.«module» w.early clock (clock_is (Some clock) is)
          (subst (λ (n : Net). clock_signals n ≡ []) w.is empty))

  module _ (clock : Clock) (is : net.clock ≡ Some clock) where
    pub all_clocked : AllByRecursion (λ s. s ≡ Bit clock.bit) (clock_signals net)
    all_clocked =
        subst (λ (n : Net). AllByRecursion (λ s. s ≡ Bit clock.bit) (clock_signals n)) (sym w.is)
        (clocked w.«module» w.early clock (clock_is (Some clock) is))

    pub is_an_input : holds_bit clock.bit (input_signals net) ≡ true
    unfolding net_of
    is_an_input =
        subst (λ (n : Net). holds_bit clock.bit (input_signals n) ≡ true) (sym w.is)
        (ap (list_any (is_bit clock.bit)) (same_port_bits is_input w.«module».ports)
        ∙ clock_input w.«module» w.early clock (clock_is (Some clock) is))

    pub is_not_read : holds_bit clock.bit (data_signals net) ≡ false
    is_not_read =
        subst (λ (n : Net). holds_bit clock.bit (data_signals n) ≡ false) (sym w.is)
        (not_data w.«module» w.early clock (clock_is (Some clock) is))

    pub is_no_output : holds_bit clock.bit (data_outputs net) ≡ false
    unfolding net_of
    is_no_output =
        subst (λ (n : Net). holds_bit clock.bit (data_outputs n) ≡ false) (sym w.is)
        (ap (list_any (is_bit clock.bit)) (same_port_bits is_output w.«module».ports)
        ∙ (unread w.«module» w.early clock (clock_is (Some clock) is)).1)

    pub all_rise : (i : ℕ) (cell : Cell) (kind : FfKind) → slice_get net.cells i ≡ Some cell
        → cell.class ≡ class.Register kind → kind.rising ≡ clock.rising
    unfolding net_of
    all_rise i cell kind at register =
        let ds = cells_of w.«module» in
        let found = map_at cell_of ds i cell (sym (ap (λ (n : Net). slice_get n.cells i) w.is) ∙ at) in
        rises w.«module» w.early clock (clock_is (Some clock) is) found.0 kind (i, found.1)
        (ap (λ (c : Cell). c.class) found.2 ∙ register)
