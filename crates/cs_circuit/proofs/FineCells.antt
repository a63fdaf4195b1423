-- Each cell of a circuit's document is fine.
use Rattle.std.proofs.Common.{◌≡◌, ℕ, zero, suc, ◌+◌, ◌-◌, ◌<◌, ◌≤◌, ◌^◌, List, [], ◌∷◌, length, Bool, true, false, ◌||◌, Some, refl, ap, ◌∙◌, arith, codes}
use Rattle.std.specs.Prelude.{IsTrue, slice_get}
use Rattle.std.specs.List.{AllByRecursion, list_any}
use Rattle.std.proofs.lemmas.Bool.{le-leb, lt-ltb}
use Rattle.cs_base.specs.declared.signal.Signal.TheVariants.{Bit}
use Rattle.cs_json.specs.Readable.{is_readable_signal}
use Rattle.cs_net.proofs.Members.{any_of, of_all}
use Rattle.cs_circuit.specs.declared.circuit.Circuit.{Circuit}
use Rattle.cs_circuit.specs.declared.circuit.GatePart.{GatePart}
use Rattle.cs_circuit.specs.declared.circuit.MemoryPart.{MemoryPart}
use Rattle.cs_circuit.specs.declared.circuit.RegisterPart.{RegisterPart}
use Rattle.cs_circuit.specs.declared.circuit.WritePart.{WritePart}
use Rattle.cs_circuit.specs.Cells.{clock_signal, numbered, register_bit}
use Rattle.cs_circuit.specs.Documents.{circuit_cells}
use Rattle.cs_circuit.specs.WellFormed.{clocked, unclocked, IsCircuit, IsData, IsGatePart, IsMemoryPart, is_clocked}
use Rattle.cs_circuit.proofs.Connections.{IsFineCell, zero_is_data}
use Rattle.cs_circuit.proofs.EachCell.{IsOfEach, each_cell}
use Rattle.cs_circuit.proofs.GateCells.{gate_is_fine}
use Rattle.cs_circuit.proofs.MemoryFacts.{AreReadsReadable, memory_is_fine}
use Rattle.cs_circuit.proofs.RegisterCells.{register_is_fine}

-- a number from 2 on that is small
pub small_bit : (b : ℕ) → 2 ≤ b → b < 2 ^ 32 - 1 → is_readable_signal false (Bit b) ≡ true
small_bit b low high = rw (le-leb 2 b low, lt-ltb b (2 ^ 32 - 1) high) refl

-- a place that has an element is within the list
pub within : {A : Type 0} (xs : List A) (i : ℕ) (x : A) → slice_get xs i ≡ Some x → i < length xs
within [] i x stands = absurd (cc)
within (y ∷ xs) zero x stands = omega arith
within (y ∷ xs) (suc i) x stands = let rest = within xs i x stands in omega arith

-- some thing passes a test that always passes
some_any : {A : Type 0} (xs : List A) → 0 < length xs → list_any (λ (x : A). true) xs ≡ true
some_any [] some = absurd (omega arith)
some_any (x ∷ xs) some = refl

any_first : (a b c : Bool) → a ≡ true → (a || b || c) ≡ true
any_first true b c h = refl
any_first false b c h = absurd (cc)

any_second : (a b c : Bool) → b ≡ true → (a || b || c) ≡ true
any_second true b c h = refl
any_second false true c h = refl
any_second false false c h = absurd (cc)

any_third : (a b c : Bool) → c ≡ true → (a || b || c) ≡ true
any_third true b c h = refl
any_third false true c h = refl
any_third false false c h = h

module _ (k : Circuit) (is : IsCircuit k) where
  -- ---- numbers

  pub register_readable : (n : ℕ) → n ≤ length k.registers → IsTrue
      (is_readable_signal false (Bit (register_bit k n)))
  register_readable n below =
      let apart = is.apart in
      let small = apart.small in
      let above = apart.above in
      small_bit (register_bit k n) (omega arith) (omega arith)

  pub gate_readable : (p : ℕ) (g : GatePart) → slice_get k.gates p ≡ Some g → IsTrue
      (is_readable_signal false (Bit g.output))
  gate_readable p g stands =
      let apart = is.apart in
      let small = apart.small in
      let among = apart.gates_among p g stands in
      small_bit g.output (omega arith) (omega arith)

  pub reads_readable : (i : ℕ) (m : MemoryPart) → slice_get k.memories i ≡ Some m → AreReadsReadable m
  reads_readable i m stands j r read o below =
      let apart = is.apart in
      let small = apart.small in
      let among = apart.reads_among i j o (r.first + o)
      (record { memory = m; read = r; memory_is = stands; read_is = read; among = below; is = refl }) in
      small_bit (r.first + o) (omega arith) (omega arith)

  pub clock_readable : IsTrue (is_readable_signal false (clock_signal k.clock))
  clock_readable =
      let apart = is.apart in
      let small = apart.small in
      let above = apart.above in
      elim is.clocking [
        | unclocked none clock ↦ ap (λ c. is_readable_signal false (clock_signal c)) clock
        | clocked place rising some below clock ↦
            ap (λ c. is_readable_signal false (clock_signal c)) clock ∙ small_bit (2 + place) (omega arith)
            (omega arith)
      ]

  -- ---- something is clocked

  abbrev some_register : Bool
  some_register = list_any (λ (r : RegisterPart). true) k.registers

  abbrev some_write : Bool
  some_write = list_any (λ (m : MemoryPart). list_any (λ (w : WritePart). true) m.writes) k.memories

  pub by_register : 0 < length k.registers → is_clocked k ≡ true
  by_register some = any_first some_register some_write k.keeps_clock (some_any k.registers some)

  pub by_write : (i : ℕ) (m : MemoryPart) → slice_get k.memories i ≡ Some m → 0 < length m.writes
      → is_clocked k ≡ true
  by_write i m stands some =
      any_second some_register some_write k.keeps_clock
      (any_of (λ (n : MemoryPart). list_any (λ (w : WritePart). true) n.writes) k.memories m (i, stands)
      (some_any m.writes some))

  pub by_keeper : k.keeps_clock ≡ true → is_clocked k ≡ true
  by_keeper keeps = any_third some_register some_write k.keeps_clock keeps

  -- ---- cells

  pub fine_cells : IsOfEach k (IsFineCell k)
  fine_cells = record {
    gates = λ p g stands. gate_is_fine g k (of_all (IsGatePart k.clock) k.gates p g is.gates stands)
        (gate_readable p g stands);
    memories = λ i m stands.
        memory_is_fine k i m (of_all (IsMemoryPart k.clock) k.memories i m is.memories stands)
        (by_write i m stands) clock_readable
        (reads_readable i m stands);
    registers = λ n r stands.
        let below = within k.registers n r stands in
        register_is_fine k (numbered (codes "$cs$r") n) r.source (register_bit k n) (by_register (omega arith))
        (of_all (λ (q : RegisterPart). IsData k.clock q.source) k.registers n r is.registers stands)
        (register_readable n (omega arith)) clock_readable;
    keepers = λ keeps.
        register_is_fine k (codes "$cs$k") _ (register_bit k (length k.registers)) (by_keeper keeps)
        (zero_is_data k.clock)
        (register_readable (length k.registers) (omega arith)) clock_readable;
  }

  pub circuit_cells_are_fine : AllByRecursion (IsFineCell k) (circuit_cells k)
  circuit_cells_are_fine = each_cell k (IsFineCell k) fine_cells
