-- What drives the bits of a circuit: inputs, gates, read ports and registers, each bit one of them.
use Rattle.std.proofs.Common.{◌≡◌, ℕ, zero, suc, ◌+◌, ◌<◌, ◌≤◌, List, [], ◌∷◌, ◌++◌, map, Bool, true, false, not, cond, Some, if◌then◌else◌, filter, slice_get, refl, sym, ap, ap₂, subst, ◌∙◌, arith}
use Rattle.cs_base.specs.declared.signal.Signal.{Signal}
use Rattle.cs_base.specs.declared.signal.Signal.TheVariants.{Zero, Bit}
use Rattle.cs_modules.specs.Modules.{input_bits_in}
use Rattle.cs_modules.specs.Pins.{count_from}
use Rattle.cs_net.specs.Drivers.{Driver, WordBit, gate, input, is_clock, register, word_bit}
use Rattle.cs_net.proofs.Members.{Has, has_of_map}
use Rattle.cs_circuit.specs.declared.circuit.Circuit.{Circuit}
use Rattle.cs_circuit.specs.declared.circuit.GatePart.{GatePart}
use Rattle.cs_circuit.specs.declared.circuit.ReadPart.{ReadPart}
use Rattle.cs_circuit.specs.declared.circuit.RegisterPart.{RegisterPart}
use Rattle.cs_circuit.specs.Cells.{register_bit}
use Rattle.cs_circuit.specs.MemoryCells.{memory_name}
use Rattle.cs_circuit.specs.WellFormed.{IsCircuit, IsReadBit, input_count}
use Rattle.cs_circuit.proofs.NetCells.{plain_element}
use Rattle.cs_circuit.proofs.NetLists.{counted, has_of_filter}

-- ---- signals whose numbers rise

-- bits, the first of them at least this one, and each later one above the one before
abbrev pub AreRising : ℕ → List Signal → Type 0
AreRising from [] = Unit {0}
AreRising from (s ∷ signals) = (b : ℕ) × (s ≡ Bit b) × (from ≤ b) × AreRising (b + 1) signals

rising_counted : (keep : Signal → Bool) (low from count : ℕ) → low ≤ from
    → AreRising low (filter keep (map Bit (count_from from count)))
rising_counted keep low from zero below = tt
rising_counted keep low from (suc count) below =
    elim (keep (Bit from)) as (λ t. AreRising low
    (cond t (Bit from ∷ filter keep (map Bit (count_from (from + 1) count)))
    (filter keep (map Bit (count_from (from + 1) count))))) [
      | true ↦ (from, refl, below, rising_counted keep (from + 1) (from + 1) count (omega arith))
      | false ↦ rising_counted keep low (from + 1) count (omega arith)
    ]

bit_number : (a b : ℕ) → Bit a ≡ Bit b → a ≡ b
bit_number a b same = cc

rising_above : (from : ℕ) (signals : List Signal) (i b : ℕ) → AreRising from signals
    → slice_get signals i ≡ Some (Bit b)
    → from ≤ b
rising_above from [] i b rises stands = cc
rising_above from (s ∷ signals) zero b rises stands =
    let here : s ≡ Bit b = cc in
    let same = bit_number rises.0 b (sym rises.1 ∙ here) in
    omega (arith, same, rises.2)
rising_above from (s ∷ signals) (suc i) b rises stands =
    let rest = rising_above (rises.0 + 1) signals i b rises.3 stands in omega (arith, rest, rises.2)

-- no bit stands twice
rising_once : (from : ℕ) (signals : List Signal) (i j b : ℕ) → AreRising from signals
    → slice_get signals i ≡ Some (Bit b) → slice_get signals j ≡ Some (Bit b) → i ≡ j
rising_once from [] i j b rises first second = cc
rising_once from (s ∷ signals) zero zero b rises first second = refl
rising_once from (s ∷ signals) zero (suc j) b rises first second =
    let here : s ≡ Bit b = cc in
    let same = bit_number rises.0 b (sym rises.1 ∙ here) in
    let above = rising_above (rises.0 + 1) signals j b rises.3 second in
    absurd (omega (arith, same, above))
rising_once from (s ∷ signals) (suc i) zero b rises first second =
    let here : s ≡ Bit b = cc in
    let same = bit_number rises.0 b (sym rises.1 ∙ here) in
    let above = rising_above (rises.0 + 1) signals i b rises.3 first in
    absurd (omega (arith, same, above))
rising_once from (s ∷ signals) (suc i) (suc j) b rises first second =
    ap suc (rising_once (rises.0 + 1) signals i j b rises.3 first second)

-- ---- what a circuit's parts drive

-- the bits of the input ports without the clock
abbrev pub circuit_inputs : Circuit → List Signal
circuit_inputs k = filter (λ s. not (is_clock k.clock s)) (input_bits_in k.ports)

-- what the register that keeps the clock has at D, where there is one
abbrev pub kept_sources : Bool → List Signal
kept_sources keeps = if keeps then Zero ∷ [] else []

-- what the registers have at D, with the one that keeps the clock last
abbrev pub register_sources : Circuit → List Signal
register_sources k = map (λ (r : RegisterPart). r.source) k.registers ++ kept_sources k.keeps_clock

-- bit o of the word that a read port of memory i reads
abbrev pub read_word : ℕ → ReadPart → ℕ → WordBit
read_word i read o = record { memory = memory_name i; address = read.address; place = o }

-- d drives bit b of the circuit
pub data IsDriver (k : Circuit) (b : ℕ) (d : Driver) : Type 0 where
  by_input : (i : ℕ) → slice_get (circuit_inputs k) i ≡ Some (Bit b) → d ≡ input i → IsDriver k b d
  by_gate : (p : ℕ) (g : GatePart) → slice_get k.gates p ≡ Some g → g.output ≡ b → d ≡ gate g.kind g.pins
      → IsDriver k b d
  by_read : (i j o : ℕ) (bit : IsReadBit k i j o b) → d ≡ word_bit (read_word i bit.read o) → IsDriver k b d
  by_register : (n : ℕ) (source : Signal) → slice_get (register_sources k) n ≡ Some source
      → register_bit k n ≡ b → d ≡ register (plain_element k.clock source)
      → IsDriver k b d

-- ---- each bit has one driver

module _ (k : Circuit) (is : IsCircuit k) where
  pub inputs_rise : AreRising 2 (circuit_inputs k)
  inputs_rise =
      let keep : Signal → Bool = λ s. not (is_clock k.clock s) in
      subst (λ signals. AreRising 2 (filter keep signals)) (sym is.inputs)
      (rising_counted keep 2 2 (input_count k) (omega arith))

  pub input_below : (i b : ℕ) → slice_get (circuit_inputs k) i ≡ Some (Bit b) → b < 2 + input_count k
  input_below i b stands =
      let kept = has_of_filter (λ s. not (is_clock k.clock s)) (input_bits_in k.ports) (Bit b) (i, stands) in
      let there = subst (λ signals. Has signals (Bit b)) is.inputs kept in
      let bit = has_of_map Bit (count_from 2 (input_count k)) (Bit b) there in
      let place = counted 2 (input_count k) bit.1.0 bit.0 bit.1.1 in
      let same = bit_number b bit.0 bit.2 in
      omega (arith, place.0, place.1, same)

  one_input : (i j b : ℕ) → slice_get (circuit_inputs k) i ≡ Some (Bit b)
      → slice_get (circuit_inputs k) j ≡ Some (Bit b) → i ≡ j
  one_input i j b first second = rising_once 2 (circuit_inputs k) i j b inputs_rise first second

  gate_among : (p b : ℕ) (g : GatePart) → slice_get k.gates p ≡ Some g → g.output ≡ b
      → (2 + input_count k ≤ b) × (b < k.first_register)
  gate_among p b g stands same =
      subst (λ n. (2 + input_count k ≤ n) × (n < k.first_register)) same (is.apart.gates_among p g stands)

  one_gate : (p q b : ℕ) (g h : GatePart) → slice_get k.gates p ≡ Some g → slice_get k.gates q ≡ Some h
      → g.output ≡ b → h.output ≡ b → g ≡ h
  one_gate p q b g h first second is_g is_h =
      let same : p ≡ q = is.apart.gates p q g h first second (is_g ∙ sym is_h) in
      let both : Some g ≡ Some h = sym first ∙ ap (slice_get k.gates) same ∙ second in
      cc

  no_gate_reads : (p i j o b : ℕ) (g : GatePart) → slice_get k.gates p ≡ Some g → g.output ≡ b
      → IsReadBit k i j o b → ⊥
  no_gate_reads p i j o b g stands same bit =
      is.apart.gates_reads p i j o g stands (subst (λ n. IsReadBit k i j o n) (sym same) bit)

  one_read : (i j o i' j' o' b : ℕ) (bit : IsReadBit k i j o b) (other : IsReadBit k i' j' o' b)
      → read_word i bit.read o ≡ read_word i' other.read o'
  one_read i j o i' j' o' b bit other =
      let same = is.apart.reads i j o i' j' o' b bit other in
      let memories : Some bit.memory ≡ Some other.memory =
      sym bit.memory_is ∙ ap (slice_get k.memories) same.0 ∙ other.memory_is in
      let memory : bit.memory ≡ other.memory = cc in
      let reads : Some bit.read ≡ Some other.read =
      sym bit.read_is ∙ ap₂ (λ m n. slice_get m.reads n) memory same.1 ∙ other.read_is in
      let read : bit.read ≡ other.read = cc in
      ap₂ (λ n r. read_word n r o) same.0 read ∙ ap (λ n. read_word i' other.read n) same.2

  one_register : (n m b : ℕ) (s t : Signal) → slice_get (register_sources k) n ≡ Some s
      → slice_get (register_sources k) m ≡ Some t → register_bit k n ≡ b → register_bit k m ≡ b → s ≡ t
  one_register n m b s t first second is_n is_m =
      let same : n ≡ m = omega (arith, is_n, is_m) in
      let both : Some s ≡ Some t = sym first ∙ ap (slice_get (register_sources k)) same ∙ second in
      cc

  -- what drives a bit that is no register's stands below the first register's
  gate_below : (b n : ℕ) → register_bit k n ≡ b → b < k.first_register → ⊥
  gate_below b n same below = omega (arith, same, below)

  pub one_driver : (b : ℕ) (d e : Driver) → IsDriver k b d → IsDriver k b e → d ≡ e
  one_driver b d e (by_input i first is_d) (by_input j second is_e) =
      is_d ∙ ap input (one_input i j b first second) ∙ sym is_e
  one_driver b d e (by_input i first is_d) (by_gate q h second same is_e) =
      absurd (omega (arith, input_below i b first, gate_among q b h second same))
  one_driver b d e (by_input i first is_d) (by_read i' j' o' other is_e) =
      absurd (omega (arith, input_below i b first, is.apart.reads_among i' j' o' b other))
  one_driver b d e (by_input i first is_d) (by_register m t second same is_e) =
      absurd (omega (arith, input_below i b first, is.apart.above, same))
  one_driver b d e (by_gate p g first same is_d) (by_input j second is_e) =
      absurd (omega (arith, input_below j b second, gate_among p b g first same))
  one_driver b d e (by_gate p g first same is_d) (by_gate q h second same' is_e) =
      is_d ∙ ap (λ (x : GatePart). gate x.kind x.pins) (one_gate p q b g h first second same same') ∙ sym is_e
  one_driver b d e (by_gate p g first same is_d) (by_read i' j' o' other is_e) =
      absurd (no_gate_reads p i' j' o' b g first same other)
  one_driver b d e (by_gate p g first same is_d) (by_register m t second same' is_e) =
      absurd (gate_below b m same' (gate_among p b g first same).1)
  one_driver b d e (by_read i j o bit is_d) (by_input j' second is_e) =
      absurd (omega (arith, input_below j' b second, is.apart.reads_among i j o b bit))
  one_driver b d e (by_read i j o bit is_d) (by_gate q h second same is_e) =
      absurd (no_gate_reads q i j o b h second same bit)
  one_driver b d e (by_read i j o bit is_d) (by_read i' j' o' other is_e) =
      is_d ∙ ap word_bit (one_read i j o i' j' o' b bit other) ∙ sym is_e
  one_driver b d e (by_read i j o bit is_d) (by_register m t second same is_e) =
      absurd (gate_below b m same (is.apart.reads_among i j o b bit).1)
  one_driver b d e (by_register n s first same is_d) (by_input j second is_e) =
      absurd (omega (arith, input_below j b second, is.apart.above, same))
  one_driver b d e (by_register n s first same is_d) (by_gate q h second same' is_e) =
      absurd (gate_below b n same (gate_among q b h second same').1)
  one_driver b d e (by_register n s first same is_d) (by_read i' j' o' other is_e) =
      absurd (gate_below b n same (is.apart.reads_among i' j' o' b other).1)
  one_driver b d e (by_register n s first same is_d) (by_register m t second same' is_e) =
      let one = one_register n m b s t first second same same' in
      is_d ∙ ap (λ source. register (plain_element k.clock source)) one ∙ sym is_e
