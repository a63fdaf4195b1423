-- What holds of each cell of a circuit holds of each cell of its document.
use Rattle.std.proofs.Common.{◌≡◌, ℕ, ◌+◌, List, [], ◌∷◌, ◌++◌, map, length, Bool, true, false, Some, refl, subst, arith}
use Rattle.std.specs.Prelude.{slice_get, if◌then◌else◌}
use Rattle.std.specs.List.{AllByRecursion, enumerate_from}
use Rattle.cs_json.specs.declared.document.CellDecl.{CellDecl}
use Rattle.cs_net.proofs.Members.{append_all}
use Rattle.cs_base.specs.declared.signal.Signal.TheVariants.{Zero}
use Rattle.cs_circuit.specs.declared.circuit.Circuit.{Circuit}
use Rattle.cs_circuit.specs.declared.circuit.GatePart.{GatePart}
use Rattle.cs_circuit.specs.declared.circuit.MemoryPart.{MemoryPart}
use Rattle.cs_circuit.specs.declared.circuit.RegisterPart.{RegisterPart}
use Rattle.cs_circuit.specs.Cells.{gate_cell, numbered_register, register_bit, register_cell}
use Rattle.cs_circuit.specs.MemoryCells.{memory_cell}
use Rattle.cs_circuit.specs.Documents.{circuit_cells}
use Rattle.std.specs.Prelude.{codes}
use Rattle.cs_circuit.proofs.Lists.{all_from_has, all_listed, all_mapped}

-- the register that keeps the clock
abbrev pub keeper : Circuit → CellDecl
keeper k = register_cell k.clock (codes "$cs$k") Zero (register_bit k (length k.registers))

-- a fact of each kind of cell
pub record IsOfEach (k : Circuit) (P : CellDecl → Type 0) : Type 0 where
  pub gates : (p : ℕ) (g : GatePart) → slice_get k.gates p ≡ Some g → P (gate_cell g)
  pub memories : (i : ℕ) (m : MemoryPart) → slice_get k.memories i ≡ Some m → P (memory_cell k.clock i m)
  pub registers : (n : ℕ) (r : RegisterPart) → slice_get k.registers n ≡ Some r → P (numbered_register k n r)
  pub keepers : k.keeps_clock ≡ true → P (keeper k)

abbrev pub memory_cells : Circuit → List CellDecl
memory_cells k = map (λ e. memory_cell k.clock e.0 e.1) (enumerate_from 0 k.memories)

abbrev pub register_cells : Circuit → List CellDecl
register_cells k = map (λ e. numbered_register k e.0 e.1) (enumerate_from 0 k.registers)

pub each_cell : (k : Circuit) (P : CellDecl → Type 0) → IsOfEach k P → AllByRecursion P (circuit_cells k)
each_cell k P each =
    append_all P (map gate_cell k.gates ++ memory_cells k ++ register_cells k)
    (if k.keeps_clock then keeper k ∷ [] else [])
    (append_all P (map gate_cell k.gates ++ memory_cells k) (register_cells k)
    (append_all P (map gate_cell k.gates) (memory_cells k)
    (all_mapped P gate_cell k.gates (all_from_has (λ g. P (gate_cell g)) k.gates each.gates))
    (all_listed P (memory_cell k.clock) 0 k.memories
    (λ i m stands. let same : i ≡ 0 + i = omega arith in subst (λ n. P (memory_cell k.clock n m)) same
    (each.memories i m stands))))
    (all_listed P (numbered_register k) 0 k.registers
    (λ n r stands. let same : n ≡ 0 + n = omega arith in subst (λ i. P (numbered_register k i r)) same
    (each.registers n r stands))))
    (kept k.keeps_clock each.keepers)
  where
    kept : (keeps : Bool) → (keeps ≡ true → P (keeper k)) → AllByRecursion P
        (if keeps then keeper k ∷ [] else [])
    kept true each = (each refl, tt)
    kept false each = tt
