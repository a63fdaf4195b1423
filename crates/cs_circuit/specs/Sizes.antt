-- What is needed of a circuit so that its document can be written.
use Rattle.std.specs.Prelude.{◌≡◌, ℕ, ◌+◌, ◌<◌, ◌≤◌, ◌^◌, List, length, All, slice_get, Some}
use Rattle.cs_circuit.specs.declared.circuit.Circuit.{Circuit}
use Rattle.cs_circuit.specs.declared.circuit.GatePart.{GatePart}
use Rattle.cs_circuit.specs.declared.circuit.MemoryPart.{MemoryPart}
use Rattle.cs_circuit.specs.declared.circuit.ReadPart.{ReadPart}

-- each gate's number is above those of the gates before it
abbrev pub AreNumbersRising : List GatePart → Type 0
AreNumbersRising gates = (p q : ℕ) (g h : GatePart) → p < q → slice_get gates p ≡ Some g → slice_get gates q ≡ Some h
    → g.number < h.number

-- a memory's ports are counted in 32 bits, and so are the bits that they drive
pub record IsSmallMemory (memory : MemoryPart) : Type 0 where
  pub few_reads : length memory.reads < 2 ^ 32
  pub few_writes : length memory.writes < 2 ^ 32
  pub bits : All (λ (read : ReadPart). read.first + memory.width ≤ 2 ^ 32) memory.reads

-- the bits of registers, and of the one that keeps the clock, have numbers of 32 bits
abbrev pub HasSmallRegisters : Circuit → Type 0
HasSmallRegisters k = k.first_register + length k.registers < 2 ^ 32

-- what each memory drives too
abbrev pub HasSmallMemories : Circuit → Type 0
HasSmallMemories k = All IsSmallMemory k.memories
