-- The ports that are written: input bits are numbered one after the other, output ports have the signals one after the
-- other, and the clock stands where it stood.
use Rattle.std.proofs.Common.{◌≡◌, ◌∙◌, ℕ, zero, suc, ◌+◌, ◌-◌, ◌<◌, ◌≤◌, List, [], ◌∷◌, ◌++◌, length, take, drop, Bool, true, false, cond, Option, Some, None, ap, ap₂, arith, filter, find, map, not, refl, sym}
use Rattle.std.specs.Prelude.{◌==◌, flat_map, option_and_then, option_map}
use Rattle.std.specs.List.{enumerate_from}
use Rattle.std.proofs.lemmas.Bool.Decides.{nat_tests}
use Rattle.std.proofs.lemmas.List.{length-append, length-map, map-append}
use Rattle.cs_base.specs.declared.signal.Signal.{Signal}
use Rattle.cs_base.specs.declared.signal.Signal.TheVariants.{Bit}
use Rattle.cs_json.specs.declared.document.Direction.{Direction}
use Rattle.cs_json.specs.declared.document.Direction.TheVariants.{Input, Output, Inout}
use Rattle.cs_json.specs.declared.document.PortDecl.{PortDecl}
use Rattle.cs_modules.specs.declared.clocks.Clock.{Clock}
use Rattle.cs_modules.specs.Modules.{input_bits_in, output_bits_in}
use Rattle.cs_modules.specs.Pins.{count_from}
use Rattle.cs_modules.specs.Signals.{is_bit, is_input, is_output}
use Rattle.cs_net.specs.declared.netlist.Port.{Port}
use Rattle.cs_net.specs.Drivers.{is_clock}
use Rattle.cs_net.proofs.Occurrences.{count_of, one_if}
use Rattle.cs_share.specs.declared.types.Names.{Names}
use Rattle.cs_share.specs.Ports.{data_numbers, input_signals, number_after, numbered_inputs, outputs_after, port_bits, with_bits, written_clock, written_ports}
use Rattle.cs_share.proofs.CircuitNames.{HasFitPorts, HasOneClock, output_signals}

-- ---- numbers one after the other

pub count_more : (from m n : ℕ) → count_from from (m + n) ≡ count_from from m ++ count_from (from + m) n
count_more from zero n =
    let same : 0 + n ≡ n = omega arith in
    let here : from ≡ from + 0 = omega arith in
    ap (count_from from) same ∙ ap (λ k. count_from k n) here
count_more from (suc m) n =
    let same : suc m + n ≡ suc (m + n) = omega arith in
    let next : from + 1 + m ≡ from + suc m = omega arith in
    ap (count_from from) same
    ∙ ap (λ ks. from ∷ ks) (count_more (from + 1) m n ∙ ap (λ k. count_from (from + 1) m ++ count_from k n) next)

pub length_count : (from n : ℕ) → length (count_from from n) ≡ n
length_count from zero = refl
length_count from (suc n) = ap suc (length_count (from + 1) n)

-- ---- the clock's new number

other_number : (a b : ℕ) → b < a → (a == b) ≡ false
other_number a b h = grind (arith, nat_tests)

same_number : (a : ℕ) → (a == a) ≡ true
same_number a = grind (arith, nat_tests)

-- numbers from `from` on are none below, as the signals hold no bit b
none_there : (m b from : ℕ) → m < from → (signals : List Signal) → count_of (is_bit b) signals ≡ 0
    → map (is_bit m) (map Bit (count_from from (length signals))) ≡ map (is_bit b) signals
none_there m b from less [] none = refl
none_there m b from less (s ∷ signals) none =
    by (is_bit b s) refl (none_there m b (from + 1) (omega (arith, less)) signals) none
  where
    by : (t : Bool) → is_bit b s ≡ t
        → (count_of (is_bit b) signals ≡ 0
        → map (is_bit m) (map Bit (count_from (from + 1) (length signals))) ≡ map (is_bit b) signals)
        → one_if t + count_of (is_bit b) signals ≡ 0
        → (from == m) ∷ map (is_bit m) (map Bit (count_from (from + 1) (length signals))) ≡ is_bit b s ∷ map (is_bit b) signals
    by true is rest h = absurd (omega (arith, h))
    by false is rest h = ap₂ (λ x xs. x ∷ xs) (other_number from m less ∙ sym is) (rest (omega (arith, h)))

-- a bit that stands once among signals is found with its number, which is that of no other one
record IsNumbered (b from : ℕ) (signals : List Signal) : Type 0 where
  number : ℕ
  signal : Signal
  found : find (λ (e : ℕ × Signal). is_bit b e.1) (enumerate_from from signals) ≡ Some (number, signal)
  low : from ≤ number
  high : number < from + length signals
  same : map (is_bit number) (map Bit (count_from from (length signals))) ≡ map (is_bit b) signals

found_number : (b from : ℕ) (signals : List Signal) → count_of (is_bit b) signals ≡ 1 → IsNumbered b from signals
found_number b from [] once = absurd (omega (arith, once))
found_number b from (s ∷ signals) once = by (is_bit b s) refl (found_number b (from + 1) signals) once
  where
    later : is_bit b s ≡ false → IsNumbered b (from + 1) signals → IsNumbered b from (s ∷ signals)
    later is rest = record {
      number = rest.number;
      signal = rest.signal;
      found =
          ap (λ t. cond t (Some (from, s)) (find (λ (e : ℕ × Signal). is_bit b e.1) (enumerate_from (from + 1) signals))) is
          ∙ rest.found;
      low = let low = rest.low in omega (arith, low);
      high = let high = rest.high in omega (arith, high);
      same =
          let low = rest.low in
          let less : from < rest.number = omega (arith, low) in
          ap₂ (λ x xs. x ∷ xs) (apart from rest.number less ∙ sym is) rest.same;
    }
      where
        apart : (a c : ℕ) → a < c → (a == c) ≡ false
        apart a c h = grind (arith, nat_tests)

    by : (t : Bool) → is_bit b s ≡ t → (count_of (is_bit b) signals ≡ 1 → IsNumbered b (from + 1) signals)
        → one_if t + count_of (is_bit b) signals ≡ 1 → IsNumbered b from (s ∷ signals)
    by true is rest h = record {
      number = from;
      signal = s;
      found = ap (λ t. cond t (Some (from, s)) (find (λ (e : ℕ × Signal). is_bit b e.1) (enumerate_from (from + 1) signals))) is;
      low = omega arith;
      high = omega arith;
      same =
          ap₂ (λ x xs. x ∷ xs) (same_number from ∙ sym is)
          (none_there from b (from + 1) (omega arith) signals (omega (arith, h)));
    }
    by false is rest h = later is (rest (omega (arith, h)))

-- ---- the written clock

-- numbered signals are the clock just where the signals are
abbrev pub HaveSameClocks : Option Clock → Option Clock → ℕ → List Signal → Type 0
HaveSameClocks clock written from signals =
    map (is_clock written) (map Bit (count_from from (length signals))) ≡ map (is_clock clock) signals

no_clocks : (from : ℕ) (signals : List Signal) → HaveSameClocks None None from signals
no_clocks from [] = refl
no_clocks from (s ∷ signals) = ap (λ xs. false ∷ xs) (no_clocks (from + 1) signals)

-- a clock is written as one of the numbers of the input bits, and where there is none, none is
pub data WrittenClock (names : Names) : Type 0 where
  unclocked : names.clock ≡ None → written_clock names ≡ None → WrittenClock names
  clocked : (clock : Clock) (place : ℕ) → names.clock ≡ Some clock → place < length (input_signals names.ports)
      → written_clock names ≡ Some (record { bit = 2 + place; rising = clock.rising }) → WrittenClock names

clock_by : (names : Names) (clock : Option Clock) → names.clock ≡ clock → HasOneClock clock (input_signals names.ports)
    → WrittenClock names × HaveSameClocks clock (written_clock names) 2 (input_signals names.ports)
clock_by names None is once =
    let none : written_clock names ≡ None =
    ap (option_and_then (λ (clock : Clock). option_map (λ (e : ℕ × Signal). let c : Clock = record { bit = e.0; rising = clock.rising } in c)
    (find (λ (e : ℕ × Signal). is_bit clock.bit e.1) (numbered_inputs names)))) is in (
      unclocked is none,
      ap (λ w. map (is_clock w) (map Bit (count_from 2 (length (input_signals names.ports))))) none
          ∙ no_clocks 2 (input_signals names.ports),
    )
clock_by names (Some clock) is once =
    let at = found_number clock.bit 2 (input_signals names.ports) once in
    let low = at.low in
    let high = at.high in
    let some : written_clock names ≡ Some (record { bit = at.number; rising = clock.rising }) =
    ap (option_and_then (λ (clock : Clock). option_map (λ (e : ℕ × Signal). let c : Clock = record { bit = e.0; rising = clock.rising } in c)
    (find (λ (e : ℕ × Signal). is_bit clock.bit e.1) (numbered_inputs names)))) is
    ∙ ap (option_map (λ (e : ℕ × Signal). let c : Clock = record { bit = e.0; rising = clock.rising } in c)) at.found in
    let place : at.number ≡ 2 + (at.number - 2) = omega (arith, low) in (
      clocked clock (at.number - 2) is (omega (arith, low, high))
          (some ∙ ap (λ b. Some (record { bit = b; rising = clock.rising })) place),
      ap (λ w. map (is_clock w) (map Bit (count_from 2 (length (input_signals names.ports))))) some ∙ at.same,
    )

pub the_clock : (names : Names) → HasFitPorts names → WrittenClock names
the_clock names fit = (clock_by names names.clock refl fit.clock).0

pub same_clocks : (names : Names) → HasFitPorts names
    → HaveSameClocks names.clock (written_clock names) 2 (input_signals names.ports)
same_clocks names fit = (clock_by names names.clock refl fit.clock).1

-- ---- ports one by one

-- the bits of a first port of a direction, and those of the others
pub one_more : {A : Type 0} (bits : A → List Signal) (keep : A → Bool) (p : A) (ports : List A)
    → flat_map bits (filter keep (p ∷ ports)) ≡ cond (keep p) (bits p) [] ++ flat_map bits (filter keep ports)
one_more bits keep p ports =
    elim (keep p) as (λ t. flat_map bits (cond t (p ∷ filter keep ports) (filter keep ports)) ≡ cond t (bits p) [] ++ flat_map bits (filter keep ports)) [
      | true ↦ refl
      | false ↦ refl
    ]

take_both : (m n : ℕ) (xs : List Signal) → take m xs ++ take n (drop m xs) ≡ take (m + n) xs
take_both zero n xs = let same : n ≡ 0 + n = omega arith in ap (λ k. take k xs) same
take_both (suc m) n [] = nothing n ∙ sym (nothing (suc m + n))
  where
    nothing : (n : ℕ) → take n (let none : List Signal = [] in none) ≡ []
    nothing zero = refl
    nothing (suc n) = refl
take_both (suc m) n (x ∷ xs) =
    let same : suc (m + n) ≡ suc m + n = omega arith in
    ap (λ ys. x ∷ ys) (take_both m n xs) ∙ ap (λ k. take k (x ∷ xs)) same

-- the input bits are numbered one after the other
pub input_numbers : (next : ℕ) (outs : List Signal) (ports : List Port)
    → input_bits_in (written_ports next outs ports) ≡ map Bit (count_from next (length (input_signals ports)))
input_numbers next outs [] = refl
input_numbers next outs (p ∷ ports) =
    one_more (λ (q : PortDecl). q.bits) (λ (q : PortDecl). is_input q.direction)
    (with_bits p (port_bits p.direction (length p.bits) next outs))
    (written_ports (number_after p.direction (length p.bits) next) (outputs_after p.direction (length p.bits) outs) ports)
    ∙ ap (λ ys. cond (is_input p.direction) (port_bits p.direction (length p.bits) next outs) [] ++ ys)
    (input_numbers (number_after p.direction (length p.bits) next) (outputs_after p.direction (length p.bits) outs) ports)
    ∙ by p.direction p.bits (input_signals ports)
    ∙ ap (λ signals. map Bit (count_from next (length signals)))
    (sym (one_more (λ (q : Port). q.bits) (λ (q : Port). is_input q.direction) p ports))
  where
    by : (d : Direction) (bits rest : List Signal)
        → cond (is_input d) (port_bits d (length bits) next outs) [] ++ map Bit (count_from (number_after d (length bits) next) (length rest))
        ≡ map Bit (count_from next (length (cond (is_input d) bits [] ++ rest)))
    by Input bits rest =
        sym (ap (λ n. map Bit (count_from next n)) (length-append bits rest)
        ∙ ap (map Bit) (count_more next (length bits) (length rest))
        ∙ map-append Bit (count_from next (length bits)) (count_from (next + length bits) (length rest)))
    by Output bits rest = refl
    by Inout bits rest = refl

-- the output ports have the signals one after the other
pub output_signals_written : (next : ℕ) (outs : List Signal) (ports : List Port)
    → output_bits_in (written_ports next outs ports) ≡ take (length (output_signals ports)) outs
output_signals_written next outs [] = refl
output_signals_written next outs (p ∷ ports) =
    one_more (λ (q : PortDecl). q.bits) (λ (q : PortDecl). is_output q.direction)
    (with_bits p (port_bits p.direction (length p.bits) next outs))
    (written_ports (number_after p.direction (length p.bits) next) (outputs_after p.direction (length p.bits) outs) ports)
    ∙ ap (λ ys. cond (is_output p.direction) (port_bits p.direction (length p.bits) next outs) [] ++ ys)
    (output_signals_written (number_after p.direction (length p.bits) next) (outputs_after p.direction (length p.bits) outs) ports)
    ∙ by p.direction p.bits (output_signals ports)
    ∙ ap (λ signals. take (length signals) outs)
    (sym (one_more (λ (q : Port). q.bits) (λ (q : Port). is_output q.direction) p ports))
  where
    by : (d : Direction) (bits rest : List Signal)
        → cond (is_output d) (port_bits d (length bits) next outs) [] ++ take (length rest) (outputs_after d (length bits) outs)
        ≡ take (length (cond (is_output d) bits [] ++ rest)) outs
    by Input bits rest = refl
    by Output bits rest = take_both (length bits) (length rest) outs ∙ sym (ap (λ n. take n outs) (length-append bits rest))
    by Inout bits rest = refl

-- ---- the data inputs

data_numbered : (written clock : Signal → Bool) (from : ℕ) (signals : List Signal)
    → map written (map Bit (count_from from (length signals))) ≡ map clock signals
    → filter (λ s. not (written s)) (map Bit (count_from from (length signals)))
    ≡ map Bit (map (λ (e : ℕ × Signal). e.0) (filter (λ (e : ℕ × Signal). not (clock e.1)) (enumerate_from from signals)))
data_numbered written clock from [] same = refl
data_numbered written clock from (s ∷ signals) same =
    let here : written (Bit from) ≡ clock s = cc in
    let later : map written (map Bit (count_from (from + 1) (length signals))) ≡ map clock signals = cc in
    by (clock s) (written (Bit from)) here (data_numbered written clock (from + 1) signals later)
  where
    numbers : List ℕ
    numbers = count_from (from + 1) (length signals)

    by : (t u : Bool) → u ≡ t
        → filter (λ s. not (written s)) (map Bit (count_from (from + 1) (length signals)))
        ≡ map Bit (map (λ (e : ℕ × Signal). e.0) (filter (λ (e : ℕ × Signal). not (clock e.1)) (enumerate_from (from + 1) signals)))
        → cond (not u) (Bit from ∷ filter (λ s. not (written s)) (map Bit (count_from (from + 1) (length signals))))
        (filter (λ s. not (written s)) (map Bit (count_from (from + 1) (length signals))))
        ≡ map Bit (map (λ (e : ℕ × Signal). e.0)
        (cond (not t) ((from, s) ∷ filter (λ (e : ℕ × Signal). not (clock e.1)) (enumerate_from (from + 1) signals))
        (filter (λ (e : ℕ × Signal). not (clock e.1)) (enumerate_from (from + 1) signals))))
    by true u is rest = ap (λ v. cond (not v) (Bit from ∷ filter (λ s. not (written s)) (map Bit (count_from (from + 1) (length signals))))
        (filter (λ s. not (written s)) (map Bit (count_from (from + 1) (length signals))))) is ∙ rest
    by false u is rest = ap (λ v. cond (not v) (Bit from ∷ filter (λ s. not (written s)) (map Bit (count_from (from + 1) (length signals))))
        (filter (λ s. not (written s)) (map Bit (count_from (from + 1) (length signals))))) is ∙ ap (λ xs. Bit from ∷ xs) rest

pub data_inputs_written : (names : Names) → HasFitPorts names → (outs : List Signal)
    → filter (λ s. not (is_clock (written_clock names) s)) (input_bits_in (written_ports 2 outs names.ports))
    ≡ map Bit (data_numbers names)
data_inputs_written names fit outs =
    ap (filter (λ s. not (is_clock (written_clock names) s))) (input_numbers 2 outs names.ports)
    ∙ data_numbered (is_clock (written_clock names)) (is_clock names.clock) 2 (input_signals names.ports) (same_clocks names fit)

-- as many as there are data inputs
pub length_data : (names : Names)
    → length (data_numbers names) ≡ length (filter (λ s. not (is_clock names.clock s)) (input_signals names.ports))
length_data names = length-map (filter (λ (e : ℕ × Signal). not (is_clock names.clock e.1)) (numbered_inputs names)) (λ e. e.0)
    ∙ by 2 (input_signals names.ports)
  where
    by : (from : ℕ) (signals : List Signal)
        → length (filter (λ (e : ℕ × Signal). not (is_clock names.clock e.1)) (enumerate_from from signals))
        ≡ length (filter (λ s. not (is_clock names.clock s)) signals)
    by from [] = refl
    by from (s ∷ signals) =
        elim (is_clock names.clock s) as (λ t.
        length (cond (not t) ((from, s) ∷ filter (λ (e : ℕ × Signal). not (is_clock names.clock e.1)) (enumerate_from (from + 1) signals))
        (filter (λ (e : ℕ × Signal). not (is_clock names.clock e.1)) (enumerate_from (from + 1) signals)))
        ≡ length (cond (not t) (s ∷ filter (λ s. not (is_clock names.clock s)) signals) (filter (λ s. not (is_clock names.clock s)) signals))) [
          | true ↦ by (from + 1) signals
          | false ↦ ap suc (by (from + 1) signals)
        ]
