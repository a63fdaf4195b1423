-- The kinds of vertices: which are pinned, how many pins and outputs they have, and ports of memories.
use Rattle.std.specs.Prelude.{ℕ, ◌+◌, ◌*◌, ◌==◌, Bool, true, false, Option, Some, None, List, slice_get}
use Rattle.cs_cells.specs.Gates.{pin_count as gate_pins}
use Rattle.cs_graph.specs.declared.vertex.VertexKind.{VertexKind}
use Rattle.cs_graph.specs.declared.vertex.VertexKind.TheVariants.{Host, Input, Output, Constant, Gate, Read, Write as WritePort}
use Rattle.cs_graph.specs.declared.memory.Memory.{Memory}

-- an input bit
abbrev pub is_input : VertexKind → Bool
is_input Host = false
is_input Input = true
is_input Output = false
is_input (Constant b) = false
is_input (Gate gate) = false
is_input (Read memory port) = false
is_input (WritePort memory port) = false

-- a vertex that no lag moves: every kind but a gate
abbrev pub is_pinned : VertexKind → Bool
is_pinned Host = true
is_pinned Input = true
is_pinned Output = true
is_pinned (Constant b) = true
is_pinned (Gate gate) = false
is_pinned (Read memory port) = true
is_pinned (WritePort memory port) = true

-- how many bits an address of the memory has, 0 where there is none
abbrev pub address_bits : Option Memory → ℕ
address_bits None = 0
address_bits (Some m) = m.abits

-- how many bits a word of the memory has, 0 where there is none
abbrev pub word_bits : Option Memory → ℕ
word_bits None = 0
word_bits (Some m) = m.width

-- how many pins a vertex has: an Output one, a Read its address bits, a Write address, data and enable bits
abbrev pub pin_count : List Memory → VertexKind → ℕ
pin_count ms Host = 0
pin_count ms Input = 0
pin_count ms Output = 1
pin_count ms (Constant b) = 0
pin_count ms (Gate gate) = gate_pins gate
pin_count ms (Read memory port) = address_bits (slice_get ms memory)
pin_count ms (WritePort memory port) =
    address_bits (slice_get ms memory) + 2 * word_bits (slice_get ms memory)

-- how many outputs it has: a Read one for each bit of a word; Host, Outputs and Writes none
abbrev pub output_count : List Memory → VertexKind → ℕ
output_count ms Host = 0
output_count ms Input = 1
output_count ms Output = 0
output_count ms (Constant b) = 1
output_count ms (Gate gate) = 1
output_count ms (Read memory port) = word_bits (slice_get ms memory)
output_count ms (WritePort memory port) = 0

-- how many bits a Read reads, 0 for all others
abbrev pub read_width : List Memory → VertexKind → ℕ
read_width ms Host = 0
read_width ms Input = 0
read_width ms Output = 0
read_width ms (Constant b) = 0
read_width ms (Gate gate) = 0
read_width ms (Read memory port) = word_bits (slice_get ms memory)
read_width ms (WritePort memory port) = 0

-- a Read of memory i
abbrev pub is_read_of : ℕ → VertexKind → Bool
is_read_of i Host = false
is_read_of i Input = false
is_read_of i Output = false
is_read_of i (Constant b) = false
is_read_of i (Gate gate) = false
is_read_of i (Read memory port) = memory == i
is_read_of i (WritePort memory port) = false

-- a Write of memory i
abbrev pub is_write_of : ℕ → VertexKind → Bool
is_write_of i Host = false
is_write_of i Input = false
is_write_of i Output = false
is_write_of i (Constant b) = false
is_write_of i (Gate gate) = false
is_write_of i (Read memory port) = false
is_write_of i (WritePort memory port) = memory == i
