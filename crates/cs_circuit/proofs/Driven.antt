-- The bits that a circuit drives: none is driven twice.
use Rattle.std.proofs.Common.{◌≡◌, ℕ, zero, suc, ◌+◌, ◌<◌, ◌≤◌, List, [], ◌∷◌, ◌++◌, map, length, Bool, true, false, ◌⊎◌, inl, inr, Some, refl, sym, ap, ap₂, subst, ◌∙◌, arith, codes, append_assoc, ne_eqb}
use Rattle.std.specs.Prelude.{flat_map, slice_get, ◌==◌, if◌then◌else◌}
use Rattle.std.specs.List.{enumerate_from, list_any}
use Rattle.cs_json.specs.declared.document.CellDecl.{CellDecl}
use Rattle.cs_base.specs.declared.signal.Signal.TheVariants.{Zero}
use Rattle.cs_conditions.specs.Conditions.{duplicates}
use Rattle.cs_modules.specs.Pins.{cell_connections, count_from}
use Rattle.cs_net.proofs.Members.{Has, has_either, has_of_chain, has_of_map}
use Rattle.cs_circuit.specs.declared.circuit.Circuit.{Circuit}
use Rattle.cs_circuit.specs.declared.circuit.GatePart.{GatePart}
use Rattle.cs_circuit.specs.declared.circuit.MemoryPart.{MemoryPart}
use Rattle.cs_circuit.specs.declared.circuit.ReadPart.{ReadPart}
use Rattle.cs_circuit.specs.declared.circuit.RegisterPart.{RegisterPart}
use Rattle.cs_circuit.specs.Cells.{gate_cell, numbered, numbered_register, register_bit}
use Rattle.cs_circuit.specs.MemoryCells.{memory_cell}
use Rattle.cs_circuit.specs.Documents.{circuit_cells}
use Rattle.cs_circuit.specs.WellFormed.{IsCircuit, IsReadBit, input_count}
use Rattle.cs_circuit.proofs.Connections.{driven_in}
use Rattle.cs_circuit.proofs.EachCell.{keeper, memory_cells, register_cells}
use Rattle.cs_circuit.proofs.GateCells.{gate_drives}
use Rattle.cs_circuit.proofs.Lists.{everywhere, flat-append, flat_alike, flat_images, once_chained, once_joined}
use Rattle.cs_circuit.proofs.MemoryPins.{memory_drives, read_numbers}
use Rattle.cs_circuit.proofs.RegisterCells.{register_drives}

-- what a cell drives
abbrev pub drives_of : CellDecl → List ℕ
drives_of cell = driven_in (cell_connections cell)

-- ---- counted numbers

pub counted_has : (from count b : ℕ) → Has (count_from from count) b → (from ≤ b) × (b < from + count)
counted_has from zero b (i, stands) = absurd (cc)
counted_has from (suc count) b (zero, stands) = let same : from ≡ b = cc in (omega arith, omega arith)
counted_has from (suc count) b (suc i, stands) =
    let rest = counted_has (from + 1) count b (i, stands) in
    let low = rest.0 in
    let high = rest.1 in (omega arith, omega arith)

none_equal : (a from count : ℕ) → a < from → list_any (λ n. n == a) (count_from from count) ≡ false
none_equal a from zero below = refl
none_equal a from (suc count) below =
    rw (ne_eqb from a (λ same. absurd (omega arith))) (none_equal a (from + 1) count (omega arith))

pub counts_once : (from count : ℕ) → duplicates (count_from from count) ≡ []
counts_once from zero = refl
counts_once from (suc count) = rw (none_equal from (from + 1) count (omega arith))
    (counts_once (from + 1) count)

shifted : (first from count : ℕ) → map (λ j. first + j) (count_from from count) ≡ count_from
    (first + from) count
shifted first from zero = refl
shifted first from (suc count) =
    let next : first + (from + 1) ≡ first + from + 1 = omega arith in
    ap (λ rest. (first + from) ∷ rest) (shifted first (from + 1) count ∙ ap (λ n. count_from n count) next)

-- what numbered things drive
flat_listed : {A B C : Type 0} (f : B → List C) (g : ℕ → A → B) (h : A → List C) (from : ℕ) (xs : List A)
    → ((n : ℕ) (x : A) → f (g n x) ≡ h x) → flat_map f
    (map (λ e. g e.0 e.1) (enumerate_from from xs)) ≡ flat_map h xs
flat_listed f g h from [] same = refl
flat_listed f g h from (x ∷ xs) same = ap₂ (λ ys zs. ys ++ zs) (same from x)
    (flat_listed f g h (from + 1) xs same)

-- ---- in the circuit's order

module _ (k : Circuit) where
  -- the numbers of the bits of gates, read ports and registers
  abbrev gate_numbers : List ℕ
  gate_numbers = flat_map (λ (g : GatePart). g.output ∷ []) k.gates

  abbrev memory_numbers : List ℕ
  memory_numbers = flat_map (λ (m : MemoryPart). flat_map (read_numbers m.width) m.reads) k.memories

  abbrev register_numbers : List ℕ
  register_numbers = count_from k.first_register (length k.registers)

  abbrev keeper_numbers : List ℕ
  keeper_numbers = if k.keeps_clock then register_bit k (length k.registers) ∷ [] else []

  registers_drive : (from : ℕ) (rs : List RegisterPart)
      → flat_map drives_of (map (λ e. numbered_register k e.0 e.1) (enumerate_from from rs)) ≡ count_from
      (k.first_register + from) (length rs)
  registers_drive from [] = refl
  registers_drive from (r ∷ rs) =
      let next : k.first_register + (from + 1) ≡ k.first_register + from + 1 = omega arith in
      ap₂ (λ ys zs. ys ++ zs)
      (register_drives k.clock (numbered (codes "$cs$r") from) r.source (register_bit k from))
      (registers_drive (from + 1) rs ∙ ap (λ n. count_from n (length rs)) next)

  keeper_drives : (keeps : Bool) → flat_map drives_of (if keeps then keeper k ∷ [] else []) ≡
      (if keeps then register_bit k (length k.registers) ∷ [] else [])
  keeper_drives true = ap (λ ns. ns ++ [])
      (register_drives k.clock (codes "$cs$k") Zero (register_bit k (length k.registers)))
  keeper_drives false = refl

  pub circuit_drives : flat_map drives_of (circuit_cells k) ≡ gate_numbers ++ memory_numbers
      ++ register_numbers ++ keeper_numbers
  circuit_drives =
      flat-append drives_of (map gate_cell k.gates ++ memory_cells k ++ register_cells k)
      (if k.keeps_clock then keeper k ∷ [] else [])
      ∙ ap₂ (λ ys zs. ys ++ zs)
      (flat-append drives_of (map gate_cell k.gates ++ memory_cells k) (register_cells k)
      ∙ ap₂ (λ ys zs. ys ++ zs)
      (flat-append drives_of (map gate_cell k.gates) (memory_cells k)
      ∙ ap₂ (λ ys zs. ys ++ zs)
      (flat_images drives_of gate_cell k.gates
      ∙ flat_alike (λ g. drives_of (gate_cell g)) (λ (g : GatePart). g.output ∷ []) k.gates
      (everywhere (λ g. drives_of (gate_cell g) ≡ g.output ∷ []) gate_drives k.gates))
      (flat_listed drives_of (memory_cell k.clock)
      (λ (m : MemoryPart). flat_map (read_numbers m.width) m.reads) 0 k.memories
      (λ i m. memory_drives k.clock i m)))
      (registers_drive 0 k.registers
      ∙ (let none : k.first_register + 0 ≡ k.first_register = omega arith in ap
      (λ n. count_from n (length k.registers)) none)))
      (keeper_drives k.keeps_clock)

  -- ---- none is driven twice

  module _ (is : IsCircuit k) where
    one_number : (a b : ℕ) → Has (a ∷ []) b → a ≡ b
    one_number a b (zero, stands) = cc
    one_number a b (suc i, stands) = absurd (cc)

    gates_once : duplicates gate_numbers ≡ []
    gates_once =
        let apart = is.apart in
        once_chained (λ (g : GatePart). g.output ∷ []) k.gates (λ p g stands. refl)
        (λ p q b g h less first second in_g in_h.
        let same : p ≡ q = apart.gates p q g h first second
        (one_number g.output b in_g ∙ sym (one_number h.output b in_h)) in
        absurd (omega arith))

    gates_has : (b : ℕ) → Has gate_numbers b → (p : ℕ) × (g : GatePart) × (slice_get k.gates p ≡ Some g) ×
        (g.output ≡ b)
    gates_has b has =
        let from = has_of_chain (λ (g : GatePart). g.output ∷ []) k.gates b has in
        (from.1.0, from.0, from.1.1, one_number from.0.output b from.2)

    -- a number of a read port is that of one of its bits
    read_has : (i j : ℕ) (m : MemoryPart) (r : ReadPart) (b : ℕ) → slice_get k.memories i ≡ Some m
        → slice_get m.reads j ≡ Some r
        → Has (read_numbers m.width r) b → (o : ℕ) × IsReadBit k i j o b
    read_has i j m r b memory_is read_is has =
        let from = has_of_map (λ o. r.first + o) (count_from 0 m.width) b has in
        let within = counted_has 0 m.width from.0 from.1 in
        let high = within.1 in (
          from.0,
          record {
            memory = m;
            read = r;
            memory_is = memory_is;
            read_is = read_is;
            among =
                omega arith;
            is = from.2;
          },
        )

    reads_has : (b : ℕ) → Has memory_numbers b → (i : ℕ) × (j : ℕ) × (o : ℕ) × IsReadBit k i j o b
    reads_has b has =
        let from = has_of_chain
        (λ (m : MemoryPart). flat_map (read_numbers m.width) m.reads) k.memories b has in
        let of_memory = has_of_chain (read_numbers from.0.width) from.0.reads b from.2 in
        let bit = read_has from.1.0 of_memory.1.0 from.0 of_memory.0 b from.1.1 of_memory.1.1 of_memory.2 in
        (from.1.0, of_memory.1.0, bit.0, bit.1)

    memory_once : (i : ℕ) (m : MemoryPart) → slice_get k.memories i ≡ Some m → duplicates
        (flat_map (read_numbers m.width) m.reads) ≡ []
    memory_once i m memory_is =
        let apart = is.apart in
        once_chained (read_numbers m.width) m.reads
        (λ j r stands. ap duplicates (shifted r.first 0 m.width) ∙ counts_once (r.first + 0) m.width)
        (λ j j' b r r' less first second in_r in_r'.
        let one = read_has i j m r b memory_is first in_r in
        let other = read_has i j' m r' b memory_is second in_r' in
        let same : j ≡ j' = (apart.reads i j one.0 i j' other.0 b one.1 other.1).1 in absurd (omega arith))

    memories_once : duplicates memory_numbers ≡ []
    memories_once =
        let apart = is.apart in
        once_chained (λ (m : MemoryPart). flat_map (read_numbers m.width) m.reads) k.memories memory_once
        (λ i i' b m m' less first second in_m in_m'.
        let of_m = has_of_chain (read_numbers m.width) m.reads b in_m in
        let of_m' = has_of_chain (read_numbers m'.width) m'.reads b in_m' in
        let one = read_has i of_m.1.0 m of_m.0 b first of_m.1.1 of_m.2 in
        let other = read_has i' of_m'.1.0 m' of_m'.0 b second of_m'.1.1 of_m'.2 in
        let same : i ≡ i' = (apart.reads i of_m.1.0 one.0 i' of_m'.1.0 other.0 b one.1 other.1).0 in absurd
        (omega arith))

    gate_and_memory : (b : ℕ) → Has gate_numbers b → Has memory_numbers b → ⊥
    gate_and_memory b in_gates in_memories =
        let apart = is.apart in
        let (p, g, stands, output) = gates_has b in_gates in
        let (i, j, o, bit) = reads_has b in_memories in
        apart.gates_reads p i j o g stands (subst (IsReadBit k i j o) (sym output) bit)

    -- between the input ports and the registers
    parts_between : (b : ℕ) → Has (gate_numbers ++ memory_numbers) b → (2 + input_count k ≤ b) ×
        (b < k.first_register)
    parts_between b has = by_kind (has_either gate_numbers memory_numbers b has)
      where
        by_kind : Has gate_numbers b ⊎ Has memory_numbers b → (2 + input_count k ≤ b) × (b < k.first_register)
        by_kind (inl in_gates) =
            let (p, g, stands, output) = gates_has b in_gates in
            subst (λ n. (2 + input_count k ≤ n) × (n < k.first_register)) output
            (is.apart.gates_among p g stands)
        by_kind (inr in_memories) = let (i, j, o, bit) =
            reads_has b in_memories in is.apart.reads_among i j o b bit

    registers_from : (b : ℕ) → Has (register_numbers ++ keeper_numbers) b → k.first_register ≤ b
    registers_from b has = by_kind (has_either register_numbers keeper_numbers b has)
      where
        kept : (keeps : Bool) → Has (if keeps then register_bit k (length k.registers) ∷ [] else []) b
            → k.first_register ≤ b
        kept true has = let same : register_bit k (length k.registers) ≡ b = one_number
            (register_bit k (length k.registers)) b has in omega arith
        kept false (i, stands) = absurd (cc)

        by_kind : Has register_numbers b ⊎ Has keeper_numbers b → k.first_register ≤ b
        by_kind (inl in_registers) = (counted_has k.first_register (length k.registers) b in_registers).0
        by_kind (inr in_keeper) = kept k.keeps_clock in_keeper

    registers_once : duplicates (register_numbers ++ keeper_numbers) ≡ []
    registers_once =
        once_joined register_numbers keeper_numbers (counts_once k.first_register (length k.registers))
        (kept k.keeps_clock)
        (λ b in_registers in_keeper.
        let high = (counted_has k.first_register (length k.registers) b in_registers).1 in
        let same = last k.keeps_clock b in_keeper in absurd (omega arith))
      where
        kept : (keeps : Bool) → duplicates (if keeps then register_bit k (length k.registers) ∷ [] else []) ≡ []
        kept true = refl
        kept false = refl

        last : (keeps : Bool) (b : ℕ) → Has
            (if keeps then register_bit k (length k.registers) ∷ [] else []) b → register_bit k
            (length k.registers) ≡ b
        last true b has = one_number (register_bit k (length k.registers)) b has
        last false b (i, stands) = absurd (cc)

    pub circuit_drives_once : duplicates
        (count_from 2 (input_count k) ++ flat_map drives_of (circuit_cells k)) ≡ []
    circuit_drives_once =
        let parts = gate_numbers ++ memory_numbers in
        let ends = register_numbers ++ keeper_numbers in
        let apart = is.apart in
        let above = apart.above in
        ap (λ ns. duplicates (count_from 2 (input_count k) ++ ns))
        (circuit_drives ∙ append_assoc parts register_numbers keeper_numbers)
        ∙ once_joined (count_from 2 (input_count k)) (parts ++ ends) (counts_once 2 (input_count k))
        (once_joined parts ends
        (once_joined gate_numbers memory_numbers gates_once memories_once gate_and_memory) registers_once
        (λ b in_parts in_ends. let high = (parts_between b in_parts).1 in let low =
        registers_from b in_ends in absurd (omega arith)))
        (λ b in_inputs later.
        let high = (counted_has 2 (input_count k) b in_inputs).1 in
        elim (has_either parts ends b later) [
          | inl in_parts ↦ let low = (parts_between b in_parts).0 in absurd (omega arith)
          | inr in_ends ↦ let low = registers_from b in_ends in absurd (omega arith)
        ])
