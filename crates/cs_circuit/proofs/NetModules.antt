-- The cells of a circuit, kind by kind, and those of the netlist of its module.
use Rattle.std.proofs.Common.{◌≡◌, ℕ, zero, suc, ◌+◌, ◌⊎◌, List, [], ◌∷◌, ◌++◌, length, map, Bool, true, false, not, Some, if◌then◌else◌, zip, filter, slice_get, inl, inr, refl, sym, ap, ap₂, subst, ◌∙◌, codes, arith}
use Rattle.std.specs.List.{enumerate_from}
use Rattle.std.proofs.lemmas.List.Sorted.{IsPermutation-sym}
use Rattle.cs_base.specs.declared.signal.Signal.{Signal}
use Rattle.cs_base.specs.declared.signal.Signal.TheVariants.{Zero}
use Rattle.cs_json.specs.declared.document.CellDecl.{CellDecl}
use Rattle.cs_json.specs.declared.document.Module.{Module}
use Rattle.cs_json.specs.declared.document.NetDecl.{NetDecl}
use Rattle.cs_modules.specs.Memories.{shape_of}
use Rattle.cs_modules.specs.Modules.{cells_of, clock_of, is_scope}
use Rattle.cs_modules.specs.Pins.{class_at}
use Rattle.cs_modules.specs.Signals.{is_input}
use Rattle.cs_net.specs.Build.{cell_of, net_of}
use Rattle.cs_net.specs.Drivers.{data_inputs, is_clock}
use Rattle.cs_net.proofs.Members.{Has, has_either, has_in_map, has_left, has_of_map, has_right, numbered, of_all}
use Rattle.cs_net.proofs.PinLemmas.{same_port_bits}
use Rattle.cs_circuit.specs.declared.circuit.Circuit.{Circuit}
use Rattle.cs_circuit.specs.declared.circuit.GatePart.{GatePart}
use Rattle.cs_circuit.specs.declared.circuit.MemoryPart.{MemoryPart}
use Rattle.cs_circuit.specs.declared.circuit.RegisterPart.{RegisterPart}
use Rattle.cs_circuit.specs.Cells.{clock_keeper, gate_cell, numbered as name_by_number, numbered_register, register_bit, register_cell}
use Rattle.cs_circuit.specs.Documents.{circuit_cells, circuit_module}
use Rattle.cs_circuit.specs.MemoryCells.{memory_cell}
use Rattle.cs_circuit.specs.Order.{IsInNameOrder}
use Rattle.cs_circuit.specs.WellFormed.{IsCircuit, IsMemoryPart}
use Rattle.cs_circuit.proofs.NetCells.{class_of_gate_cell, class_of_register_cell}
use Rattle.cs_circuit.proofs.NetDrivers.{circuit_inputs, kept_sources, register_sources}
use Rattle.cs_circuit.proofs.NetLists.{all_by_has, at_mapped, filter_all, has_numbered, has_permuted, length_mapped, mapped_at, zip_images}
use Rattle.cs_circuit.proofs.NetMemories.{class_of_memory_cell}

-- ---- joined lists

at_left : {A : Type 0} (xs ys : List A) (i : ℕ) (x : A) → slice_get xs i ≡ Some x
    → slice_get (xs ++ ys) i ≡ Some x
at_left [] ys i x stands = cc
at_left (z ∷ xs) ys zero x stands = stands
at_left (z ∷ xs) ys (suc i) x stands = at_left xs ys i x stands

at_right : {A : Type 0} (xs ys : List A) (i j : ℕ) (x : A) → slice_get ys j ≡ Some x → length xs + j ≡ i
    → slice_get (xs ++ ys) i ≡ Some x
at_right [] ys i j x stands place =
    let same : j ≡ i = omega (arith, place) in ap (slice_get ys) (sym same) ∙ stands
at_right (z ∷ xs) ys zero j x stands place = absurd (omega (arith, place))
at_right (z ∷ xs) ys (suc i) j x stands place = at_right xs ys i j x stands (omega (arith, place))

at_either : {A : Type 0} (xs ys : List A) (i : ℕ) (x : A) → slice_get (xs ++ ys) i ≡ Some x
    → (slice_get xs i ≡ Some x) ⊎ ((j : ℕ) × (length xs + j ≡ i) × (slice_get ys j ≡ Some x))
at_either [] ys i x stands = inr (i, omega arith, stands)
at_either (z ∷ xs) ys zero x stands = inl stands
at_either (z ∷ xs) ys (suc i) x stands = elim (at_either xs ys i x stands) [
  | inl left ↦ inl left
  | inr right ↦ inr (right.0, omega (arith, right.1), right.2)
]

-- ---- cells by kind

-- a cell of a circuit: of a gate, of a memory, or of a register
pub data IsCellOf (k : Circuit) (cell : CellDecl) : Type 0 where
  of_gate : (p : ℕ) (g : GatePart) → slice_get k.gates p ≡ Some g → cell ≡ gate_cell g → IsCellOf k cell
  of_memory : (i : ℕ) (m : MemoryPart) → slice_get k.memories i ≡ Some m → cell ≡ memory_cell k.clock i m
      → IsCellOf k cell
  of_register : (n : ℕ) (name : List ℕ) (source : Signal) → slice_get (register_sources k) n ≡ Some source
      → cell ≡ register_cell k.clock name source (register_bit k n)
      → IsCellOf k cell

-- a name with which a register's cell stands among those of the circuit
pub record HasRegisterCell (k : Circuit) (n : ℕ) (source : Signal) : Type 0 where
  pub name : List ℕ
  pub has : Has (circuit_cells k) (register_cell k.clock name source (register_bit k n))

module _ (k : Circuit) where
  abbrev gate_cells : List CellDecl
  gate_cells = map gate_cell k.gates

  abbrev memory_of : ℕ × MemoryPart → CellDecl
  memory_of e = memory_cell k.clock e.0 e.1

  abbrev memory_cells : List CellDecl
  memory_cells = map memory_of (enumerate_from 0 k.memories)

  abbrev register_of : ℕ × RegisterPart → CellDecl
  register_of e = numbered_register k e.0 e.1

  abbrev register_cells : List CellDecl
  register_cells = map register_of (enumerate_from 0 k.registers)

  abbrev keeper_cell : CellDecl
  keeper_cell = register_cell k.clock (codes "$cs$k") Zero (register_bit k (length k.registers))

  abbrev keeper : List CellDecl
  keeper = clock_keeper k (register_bit k (length k.registers))

  abbrev sources : List Signal
  sources = map (λ (r : RegisterPart). r.source) k.registers

  -- what a register has at D stands among all sources
  pub source_at : (n : ℕ) (r : RegisterPart) → slice_get k.registers n ≡ Some r
      → slice_get (register_sources k) n ≡ Some r.source
  source_at n r stands =
      at_left sources (kept_sources k.keeps_clock) n r.source
      (mapped_at (λ (r : RegisterPart). r.source) k.registers n r stands)

  -- the register that keeps the clock stands behind the others
  kept : (cell : CellDecl) → Has keeper cell → IsCellOf k cell
  kept cell has = by k.keeps_clock refl has
    where
      by : (t : Bool) → k.keeps_clock ≡ t
          → Has (if t then keeper_cell ∷ [] else []) cell
          → IsCellOf k cell
      by false keeps (i, stands) = cc
      by true keeps (zero, stands) =
          let here : slice_get (kept_sources k.keeps_clock) 0 ≡ Some Zero =
          ap (λ t. slice_get (kept_sources t) 0) keeps in
          let size = length_mapped (λ (r : RegisterPart). r.source) k.registers in
          let last : length sources + 0 ≡ length k.registers = omega (arith, size) in
          of_register (length k.registers) (codes "$cs$k") Zero
          (at_right sources (kept_sources k.keeps_clock) (length k.registers) 0 Zero here last) cc
      by true keeps (suc i, stands) = cc

  pub kind_of_cell : (cell : CellDecl) → Has (circuit_cells k) cell → IsCellOf k cell
  kind_of_cell cell has =
      elim (has_either (gate_cells ++ memory_cells ++ register_cells) keeper cell has) [
        | inr here ↦ kept cell here
        | inl rest ↦ elim (has_either (gate_cells ++ memory_cells) register_cells cell rest) [
          | inr here ↦ register (has_of_map register_of (enumerate_from 0 k.registers) cell here)
          | inl rest' ↦ elim (has_either gate_cells memory_cells cell rest') [
            | inl here ↦ gate (has_of_map gate_cell k.gates cell here)
            | inr here ↦ memory (has_of_map memory_of (enumerate_from 0 k.memories) cell here)
          ]
        ]
      ]
    where
      gate : (g : GatePart) × Has k.gates g × (cell ≡ gate_cell g) → IsCellOf k cell
      gate (g, has, is) = of_gate has.0 g has.1 is

      memory : (e : ℕ × MemoryPart) × Has (enumerate_from 0 k.memories) e × (cell ≡ memory_of e)
          → IsCellOf k cell
      memory (e, has, is) =
          let at = numbered 0 k.memories e has in
          let place : e.0 ≡ at.0 = omega (arith, at.1) in
          of_memory at.0 e.1 at.2 (is ∙ ap (λ n. memory_cell k.clock n e.1) place)

      register : (e : ℕ × RegisterPart) × Has (enumerate_from 0 k.registers) e × (cell ≡ register_of e)
          → IsCellOf k cell
      register (e, has, is) =
          let at = numbered 0 k.registers e has in
          let place : e.0 ≡ at.0 = omega (arith, at.1) in
          of_register at.0 (name_by_number (codes "$cs$r") at.0) e.1.source (source_at at.0 e.1 at.2)
          (is ∙ ap (λ n. numbered_register k n e.1) place)

  -- what stands among the cells of gates and memories, or of registers
  before_registers : (cell : CellDecl) → Has (gate_cells ++ memory_cells) cell → Has (circuit_cells k) cell
  before_registers cell has =
      has_left (gate_cells ++ memory_cells ++ register_cells) keeper cell
      (has_left (gate_cells ++ memory_cells) register_cells cell has)

  among_registers : (cell : CellDecl) → Has register_cells cell → Has (circuit_cells k) cell
  among_registers cell has =
      has_left (gate_cells ++ memory_cells ++ register_cells) keeper cell
      (has_right (gate_cells ++ memory_cells) register_cells cell has)

  pub has_gate_cell : (p : ℕ) (g : GatePart) → slice_get k.gates p ≡ Some g
      → Has (circuit_cells k) (gate_cell g)
  has_gate_cell p g stands =
      before_registers (gate_cell g)
      (has_left gate_cells memory_cells (gate_cell g) (has_in_map gate_cell k.gates g (p, stands)))

  pub has_memory_cell : (i : ℕ) (m : MemoryPart) → slice_get k.memories i ≡ Some m
      → Has (circuit_cells k) (memory_cell k.clock i m)
  has_memory_cell i m stands =
      let place : 0 + i ≡ i = omega arith in
      before_registers (memory_cell k.clock i m)
      (has_right gate_cells memory_cells (memory_cell k.clock i m)
      (has_in_map memory_of (enumerate_from 0 k.memories) (i, m)
      (has_numbered 0 k.memories i i m stands place)))

  pub has_register_cell : (n : ℕ) (source : Signal) → slice_get (register_sources k) n ≡ Some source
      → HasRegisterCell k n source
  has_register_cell n source stands = elim (at_either sources (kept_sources k.keeps_clock) n source stands) [
    | inl left ↦ numbered_one (at_mapped (λ (r : RegisterPart). r.source) k.registers n source left)
    | inr right ↦ last_one k.keeps_clock refl right.0 right.1 right.2
  ]
    where
      numbered_one : (r : RegisterPart) × (slice_get k.registers n ≡ Some r) × (source ≡ r.source)
          → HasRegisterCell k n source
      numbered_one (r, at, is) =
          let place : 0 + n ≡ n = omega arith in
          let here = has_in_map register_of (enumerate_from 0 k.registers) (n, r)
          (has_numbered 0 k.registers n n r at place) in
          let name = name_by_number (codes "$cs$r") n in
          let there = among_registers (numbered_register k n r) here in
          let P : Signal → Type 0 = λ s.
          Has (circuit_cells k) (register_cell k.clock name s (register_bit k n)) in
          record { name = name; has = subst P (sym is) there }

      last_one : (t : Bool) → k.keeps_clock ≡ t → (j : ℕ) → length sources + j ≡ n
          → slice_get (kept_sources k.keeps_clock) j ≡ Some source
          → HasRegisterCell k n source
      last_one t keeps j place stands =
          by t keeps j place (ap (λ t. slice_get (kept_sources t) j) (sym keeps) ∙ stands)
        where
          by : (t : Bool) → k.keeps_clock ≡ t → (j : ℕ) → length sources + j ≡ n
              → slice_get (kept_sources t) j ≡ Some source
              → HasRegisterCell k n source
          by false keeps j place stands = cc
          by true keeps (suc j) place stands = cc
          by true keeps zero place stands =
              let zero_is : Zero ≡ source = cc in
              let size = length_mapped (λ (r : RegisterPart). r.source) k.registers in
              let last : length k.registers ≡ n = omega (arith, place, size) in
              let is : keeper ≡ keeper_cell ∷ [] = rw keeps refl in
              let here : Has keeper keeper_cell = subst (λ cs. Has cs keeper_cell) (sym is) (zero, refl) in
              let there = has_right (gate_cells ++ memory_cells ++ register_cells) keeper keeper_cell here in
              let P : Signal → ℕ → Type 0 = λ s m.
              Has (circuit_cells k) (register_cell k.clock (codes "$cs$k") s (register_bit k m)) in
              record {
                name = codes "$cs$k";
                has = subst (λ m. P source m) last (subst (λ s. P s (length k.registers)) zero_is there);
              }

-- ---- the netlist of the module

module _ (k : Circuit) (is : IsCircuit k) (cells : List CellDecl) (nets : List NetDecl)
    (ordered : IsInNameOrder (λ (c : CellDecl). c.name) (circuit_cells k) cells) where
  abbrev made : Module
  made = circuit_module k cells nets

  pub has_cell : (cell : CellDecl) → Has (circuit_cells k) cell → Has cells cell
  has_cell cell has = has_permuted (circuit_cells k) cells cell ordered.same has

  pub kind_of_made : (cell : CellDecl) → Has cells cell → IsCellOf k cell
  kind_of_made cell has =
      kind_of_cell k cell
      (has_permuted cells (circuit_cells k) cell (IsPermutation-sym (circuit_cells k) cells ordered.same) has)

  pub memory_fits : (i : ℕ) (m : MemoryPart) → slice_get k.memories i ≡ Some m → IsMemoryPart k.clock m
  memory_fits i m stands = of_all (IsMemoryPart k.clock) k.memories i m is.memories stands

  no_scope : (cell : CellDecl) → IsCellOf k cell → not (is_scope (class_at cell)) ≡ true
  no_scope cell (of_gate p g stands same) =
      ap (λ (c : CellDecl). not (is_scope (class_at c))) same
      ∙ ap (λ c. not (is_scope c)) (class_of_gate_cell g)
  no_scope cell (of_memory i m stands same) =
      ap (λ (c : CellDecl). not (is_scope (class_at c))) same
      ∙ ap (λ c. not (is_scope c)) (class_of_memory_cell k.clock i m (memory_fits i m stands))
  no_scope cell (of_register n name source stands same) =
      ap (λ (c : CellDecl). not (is_scope (class_at c))) same
      ∙ ap (λ c. not (is_scope c)) (class_of_register_cell k.clock name source (register_bit k n))

  -- no cell is passed over
  pub cells_of_made : cells_of made ≡ cells
  cells_of_made =
      filter_all (λ c. not (is_scope (class_at c))) cells
      (all_by_has (λ c. not (is_scope (class_at c)) ≡ true) cells (λ c has. no_scope c (kind_of_made c has)))

  -- each cell with its shape
  pub parts_of_made : zip (net_of made).cells (net_of made).shapes
      ≡ map (λ c. (cell_of c, shape_of c)) cells
  unfolding net_of
  parts_of_made =
      ap (λ cs. zip (map cell_of cs) (map shape_of cs)) cells_of_made ∙ zip_images cell_of shape_of cells

  pub inputs_of_made : clock_of made ≡ k.clock → data_inputs (net_of made) ≡ circuit_inputs k
  unfolding net_of
  inputs_of_made clock =
      ap₂ (λ c signals. filter (λ s. not (is_clock c s)) signals) clock (same_port_bits is_input k.ports)
