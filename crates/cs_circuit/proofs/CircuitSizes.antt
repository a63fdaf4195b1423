-- The sizes of a circuit whose document is a netlist fit those that are needed to write it.
use Rattle.std.proofs.Common.{◌≡◌, ℕ, zero, suc, ◌+◌, ◌-◌, ◌<◌, ◌≤◌, ◌^◌, List, [], ◌∷◌, length, get_or, Some, refl, arith}
use Rattle.std.specs.Prelude.{slice_get}
use Rattle.cs_net.proofs.Members.{of_all}
use Rattle.cs_circuit.specs.declared.circuit.Circuit.{Circuit}
use Rattle.cs_circuit.specs.declared.circuit.MemoryPart.{MemoryPart}
use Rattle.cs_circuit.specs.declared.circuit.ReadPart.{ReadPart}
use Rattle.cs_circuit.specs.Sizes.{HasSmallMemories, HasSmallRegisters, IsSmallMemory}
use Rattle.cs_circuit.specs.WellFormed.{IsCircuit, IsMemoryPart}

stands_at : {A : Type 0} (xs : List A) (i : ℕ) (d : A) → i < length xs → slice_get xs i ≡ Some (get_or xs i d)
stands_at [] i d below = absurd (omega arith)
stands_at (x ∷ xs) zero d below = refl
stands_at (x ∷ xs) (suc i) d below = stands_at xs i d (omega arith)

module _ (k : Circuit) (is : IsCircuit k) where
  pub small_registers : HasSmallRegisters k
  small_registers =
      let apart = is.apart in
      let small = apart.small in omega arith

  small_memory : (i : ℕ) (m : MemoryPart) → slice_get k.memories i ≡ Some m → IsSmallMemory m
  small_memory i m stands =
      let part = of_all (IsMemoryPart k.clock) k.memories i m is.memories stands in
      record {
        few_reads = part.few_reads;
        few_writes = part.few_writes;
        bits = λ j d below. last_bit part j (get_or m.reads j d) (stands_at m.reads j d below);
      }
    where
      last_bit : IsMemoryPart k.clock m → (j : ℕ) (read : ReadPart) → slice_get m.reads j ≡ Some read
          → read.first + m.width ≤ 2 ^ 32
      last_bit part j read read_is =
          let apart = is.apart in
          let small = apart.small in
          let some = part.some_bits in
          let among = apart.reads_among i j (m.width - 1) (read.first + (m.width - 1)) (record {
            memory = m;
            read = read;
            memory_is = stands;
            read_is = read_is;
            among = omega arith;
            is = refl;
          }) in
          let high = among.1 in omega arith

  pub small_memories : HasSmallMemories k
  small_memories i d below = small_memory i (get_or k.memories i d) (stands_at k.memories i d below)
