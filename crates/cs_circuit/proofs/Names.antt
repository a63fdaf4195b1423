-- The names of a circuit's cells and nets differ.
use Rattle.std.proofs.Common.{◌≡◌, ℕ, suc, ◌+◌, ◌<◌, ◌≤◌, ◌^◌, List, [], ◌∷◌, ◌++◌, map, length, Bool, true, false, Some, refl, sym, ◌∙◌, arith, codes, decimal}
use Rattle.std.specs.Prelude.{All, slice_get}
use Rattle.std.specs.List.{AllByRecursion, enumerate_from}
use Rattle.std.proofs.lemmas.List.{append_cancel_left}
use Rattle.std.proofs.lemmas.Fmt.{decimal_injective}
use Rattle.cs_json.specs.declared.document.CellDecl.{CellDecl}
use Rattle.cs_json.specs.declared.document.NetDecl.{NetDecl}
use Rattle.cs_net.proofs.Members.{append_all}
use Rattle.cs_circuit.specs.declared.circuit.Circuit.{Circuit}
use Rattle.cs_circuit.specs.declared.circuit.GatePart.{GatePart}
use Rattle.cs_circuit.specs.declared.circuit.MemoryPart.{MemoryPart}
use Rattle.cs_circuit.specs.Cells.{clock_keeper, gate_cell, numbered, numbered_register, register_bit, register_net}
use Rattle.cs_circuit.specs.MemoryCells.{memory_cell}
use Rattle.cs_circuit.specs.Documents.{circuit_cells, circuit_nets}
use Rattle.cs_circuit.specs.Order.{AreDistinct}
use Rattle.cs_circuit.specs.Sizes.{AreNumbersRising}
use Rattle.cs_circuit.proofs.Orders.{below_differs}

-- ---- names by their numbers

pub same_number : (front : List ℕ) (m n : ℕ) → m < 2 ^ 64 → n < 2 ^ 64
    → numbered front m ≡ numbered front n → m ≡ n
same_number front m n small_m small_n same =
    decimal_injective m n small_m small_n (append_cancel_left front (decimal m) (decimal n) same)

-- ---- what holds of the images of numbered things

pub all_enumerated : {A B : Type 0} (P : B → Type 0) (f : ℕ → A → B) (from : ℕ) (xs : List A)
    → ((n : ℕ) (x : A) → from ≤ n → n < from + length xs → P (f n x))
    → AllByRecursion P (map (λ e. f e.0 e.1) (enumerate_from from xs))
all_enumerated P f from [] each = tt
all_enumerated P f from (x ∷ xs) each = (
  each from x (omega arith) (omega arith),
  all_enumerated P f (from + 1) xs (λ n y low high. each n y (omega arith) (omega arith)),
)

pub all_images : {A B : Type 0} (P : B → Type 0) (f : A → B) → ((x : A) → P (f x)) → (xs : List A)
    → AllByRecursion P (map f xs)
all_images P f each [] = tt
all_images P f each (x ∷ xs) = (each x, all_images P f each xs)

-- ---- lists of distinct names

distinct_append : {A : Type 0} (name : A → List ℕ) (xs ys : List A) → AreDistinct name xs → AreDistinct name ys
    → AllByRecursion (λ x. AllByRecursion (λ y. name x ≡ name y → ⊥) ys) xs → AreDistinct name (xs ++ ys)
distinct_append name [] ys first second apart = second
distinct_append name (x ∷ xs) ys first second apart = (
  append_all (λ y. name x ≡ name y → ⊥) xs ys first.0 apart.0,
  distinct_append name xs ys first.1 second apart.1,
)

-- things numbered in turn have distinct names
distinct_enumerated : {A B : Type 0} (name : B → List ℕ) (front : List ℕ) (f : ℕ → A → B)
    → ((n : ℕ) (x : A) → name (f n x) ≡ numbered front n) → (from : ℕ) (xs : List A) → from + length xs ≤ 2 ^ 64
    → AreDistinct name (map (λ e. f e.0 e.1) (enumerate_from from xs))
distinct_enumerated name front f named from [] small = tt
distinct_enumerated name front f named from (x ∷ xs) small = (
  all_enumerated (λ y. name (f from x) ≡ name y → ⊥) f (from + 1) xs
      (λ n y low high same.
      let one : from ≡ n = same_number front from n (omega arith) (omega arith)
      (sym (named from x) ∙ same ∙ named n y) in absurd (omega arith)),
  distinct_enumerated name front f named (from + 1) xs (omega arith),
)

distinct_gates : (gates : List GatePart) → AreNumbersRising gates → All
    (λ (gate : GatePart). gate.number < 2 ^ 64) gates
    → AreDistinct (λ (cell : CellDecl). cell.name) (map gate_cell gates)
distinct_gates [] rising small = tt
distinct_gates (gate ∷ gates) rising small = (
  others gates (λ q h stands. rising 0 (suc q) gate h (omega arith) refl stands)
      (λ i d below. small (suc i) d (omega arith)),
  distinct_gates gates (λ p q g h less first second. rising (suc p) (suc q) g h (omega arith) first second)
      (λ i d below. small (suc i) d (omega arith)),
)
  where
    others : (later : List GatePart)
        → ((q : ℕ) (h : GatePart) → slice_get later q ≡ Some h → gate.number < h.number)
        → All (λ (g : GatePart). g.number < 2 ^ 64) later
        → AllByRecursion (λ (cell : CellDecl). (gate_cell gate).name ≡ cell.name → ⊥) (map gate_cell later)
    others [] above fits = tt
    others (h ∷ later) above fits = (
      (λ same.
          let less : gate.number < h.number = above 0 h refl in
          let one : gate.number ≡ h.number = same_number (codes "$cs$g") gate.number h.number
          (small 0 gate (omega arith))
          (fits 0 h (omega arith)) same in absurd (omega arith)),
      others later (λ q g stands. above (suc q) g stands) (λ i d below. fits (suc i) d (omega arith)),
    )

module _ (k : Circuit) where
  abbrev memory_at : ℕ → MemoryPart → CellDecl
  memory_at i m = memory_cell k.clock i m

  abbrev memory_cells : List CellDecl
  memory_cells = map (λ e. memory_cell k.clock e.0 e.1) (enumerate_from 0 k.memories)

  abbrev register_cells : List CellDecl
  register_cells = map (λ e. numbered_register k e.0 e.1) (enumerate_from 0 k.registers)

  abbrev keepers : List CellDecl
  keepers = clock_keeper k (register_bit k (length k.registers))

  -- a name that differs from that of the clock's register
  from_keeper : (a : List ℕ) → (a ≡ codes "$cs$k" → ⊥) → AllByRecursion
      (λ (cell : CellDecl). a ≡ cell.name → ⊥) keepers
  from_keeper a differs = by_case k.keeps_clock
    where
      by_case : (keeps : Bool) → AllByRecursion (λ (cell : CellDecl). a ≡ cell.name → ⊥)
          (clock_keeper (record {
            name = k.name;
            ports = k.ports;
            clock = k.clock;
            gates =
                k.gates;
            memories = k.memories;
            registers = k.registers;
            first_register =
                k.first_register;
            keeps_clock = keeps;
          }) (register_bit k (length k.registers)))
      by_case true = (differs, tt)
      by_case false = tt

  distinct_keepers : AreDistinct (λ (cell : CellDecl). cell.name) keepers
  distinct_keepers = by_case k.keeps_clock
    where
      by_case : (keeps : Bool) → AreDistinct (λ (cell : CellDecl). cell.name)
          (clock_keeper (record {
            name = k.name;
            ports = k.ports;
            clock = k.clock;
            gates =
                k.gates;
            memories = k.memories;
            registers = k.registers;
            first_register =
                k.first_register;
            keeps_clock = keeps;
          }) (register_bit k (length k.registers)))
      by_case true = (tt, tt)
      by_case false = tt

  abbrev Differ : List CellDecl → CellDecl → Type 0
  Differ later c = AllByRecursion (λ (cell : CellDecl). c.name ≡ cell.name → ⊥) later

  gates_and_memories : AllByRecursion (Differ memory_cells) (map gate_cell k.gates)
  gates_and_memories = all_images (Differ memory_cells) gate_cell
      (λ gate. all_enumerated
      (λ (cell : CellDecl). (gate_cell gate).name ≡ cell.name → ⊥) memory_at 0 k.memories
      (λ i m low high. below_differs (numbered (codes "$cs$g") gate.number)
      (numbered (codes "$cs$m") i) refl)) k.gates

  gates_and_registers : AllByRecursion (Differ register_cells) (map gate_cell k.gates)
  gates_and_registers = all_images (Differ register_cells) gate_cell
      (λ gate. all_enumerated (λ (cell : CellDecl). (gate_cell gate).name ≡ cell.name → ⊥)
      (numbered_register k) 0 k.registers
      (λ n r low high. below_differs (numbered (codes "$cs$g") gate.number)
      (numbered (codes "$cs$r") n) refl)) k.gates

  memories_and_registers : AllByRecursion (Differ register_cells) memory_cells
  memories_and_registers = all_enumerated (Differ register_cells) memory_at 0 k.memories
      (λ i m low high. all_enumerated (λ (cell : CellDecl). numbered (codes "$cs$m") i ≡ cell.name → ⊥)
      (numbered_register k) 0 k.registers
      (λ n r _ _. below_differs (numbered (codes "$cs$m") i) (numbered (codes "$cs$r") n) refl))

  with_keepers : AllByRecursion (Differ keepers) (map gate_cell k.gates ++ memory_cells ++ register_cells)
  with_keepers =
      append_all (Differ keepers) (map gate_cell k.gates ++ memory_cells) register_cells
      (append_all (Differ keepers) (map gate_cell k.gates) memory_cells
      (all_images (Differ keepers) gate_cell
      (λ gate. from_keeper (numbered (codes "$cs$g") gate.number)
      (below_differs (numbered (codes "$cs$g") gate.number) (codes "$cs$k") refl)) k.gates)
      (all_enumerated (Differ keepers) memory_at 0 k.memories
      (λ i m low high. from_keeper (numbered (codes "$cs$m") i)
      (λ same. below_differs (codes "$cs$k") (numbered (codes "$cs$m") i) refl (sym same)))))
      (all_enumerated (Differ keepers) (numbered_register k) 0 k.registers
      (λ n r low high. from_keeper (numbered (codes "$cs$r") n)
      (λ same. below_differs (codes "$cs$k") (numbered (codes "$cs$r") n) refl (sym same))))

  pub distinct_cells : AreNumbersRising k.gates → All (λ (gate : GatePart). gate.number < 2 ^ 64) k.gates
      → length k.memories < 2 ^ 64 → length k.registers < 2 ^ 64
      → AreDistinct (λ (cell : CellDecl). cell.name) (circuit_cells k)
  distinct_cells rising small few_memories few_registers =
      let name = λ (cell : CellDecl). cell.name in
      distinct_append name (map gate_cell k.gates ++ memory_cells ++ register_cells) keepers
      (distinct_append name (map gate_cell k.gates ++ memory_cells) register_cells
      (distinct_append name (map gate_cell k.gates) memory_cells (distinct_gates k.gates rising small)
      (distinct_enumerated name (codes "$cs$m") memory_at (λ n m. refl) 0 k.memories
      (omega arith)) gates_and_memories)
      (distinct_enumerated name (codes "$cs$r") (numbered_register k) (λ n r. refl) 0 k.registers (omega arith))
      (append_all (Differ register_cells)
      (map gate_cell k.gates) memory_cells gates_and_registers memories_and_registers))
      distinct_keepers with_keepers

  pub distinct_nets : length k.registers < 2 ^ 64 → AreDistinct (λ (net : NetDecl). net.name) (circuit_nets k)
  distinct_nets few =
      distinct_enumerated (λ (net : NetDecl). net.name) (codes "$cs$q") (register_net k)
      (λ n r. refl) 0 k.registers (omega arith)
