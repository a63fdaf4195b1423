-- Numbers that fit ids, and what a pin adds to the counts of a machine.
use Rattle.std.specs.Prelude.{ℕ, zero, suc, ◌<◌, ◌^◌, ⊤}
use Rattle.cs_graph.specs.declared.source.Source.{Source}
use Rattle.cs_graph.specs.declared.source.Source.TheVariants.{Driven, Tied}
use Rattle.cs_lower.specs.declared.taps.End.{End}
use Rattle.cs_lower.specs.declared.taps.End.TheVariants.{Constant as at_bit, Vertex as at_vertex}

-- the vertex and the output that a pin reads have numbers that fit ids
abbrev pub HasIds : Source → Type 0
HasIds (Tied b) = ⊤
HasIds (Driven k) = (k.from < 2 ^ 32) × (k.output < 2 ^ 32)

-- how many edges a pin makes that passes so many registers to this end
abbrev pub edges_to : End → ℕ → ℕ
edges_to (at_vertex v o) n = 1
edges_to (at_bit b) zero = 0
edges_to (at_bit b) (suc n) = 1
