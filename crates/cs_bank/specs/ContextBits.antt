-- The number of the running context, in bits that count the clocks.
use Rattle.std.specs.Prelude.{ℕ, zero, suc, ◌+◌, ◌/◌, ◌%◌, ◌^◌, ◌==◌, nat_lt, if◌then◌else◌, Bool, Option, Some, List, [], ◌∷◌, map}
use Rattle.std.specs.List.{range_with_len}
use Rattle.cs_cells.specs.declared.gate.Kind.{Kind}
use Rattle.cs_cells.specs.declared.gate.Kind.TheVariants.{Buf}
use Rattle.cs_graph.specs.declared.source.OpenVertex.{OpenVertex}
use Rattle.cs_graph.specs.declared.source.Source.{Source}
use Rattle.cs_graph.specs.declared.source.Source.TheVariants.{Driven}
use Rattle.cs_graph.specs.declared.vertex.VertexKind.TheVariants.{Gate}
use Rattle.cs_graph.specs.Past.{context_of}

-- ---- digits

-- binary digit j of a number
abbrev pub digit : ℕ → ℕ → Bool
digit zero n = n % 2 == 1
digit (suc j) n = digit j (n / 2)

-- its lowest digits, so many, lowest first
abbrev pub digits : ℕ → ℕ → List Bool
digits zero n = []
digits (suc count) n = (n % 2 == 1) ∷ digits count (n / 2)

-- ---- how many bits

-- the fewest bits that number so many contexts, where `most` bits do
abbrev pub bits_within : ℕ → ℕ → ℕ
bits_within zero contexts = 0
bits_within (suc most) contexts = if nat_lt (2 ^ most) contexts then suc most else bits_within most contexts

-- the least b with at most 2^b contexts
abbrev pub context_bits : ℕ → ℕ
context_bits contexts = bits_within contexts contexts

-- ---- vertices

-- what a pin reads from a vertex without a register
abbrev pub wire : ℕ → Option Source
wire v = Some (Driven (record { from = v; output = 0; contents = [] }))

-- a gate
abbrev pub gate : Kind → List (Option Source) → OpenVertex
gate kind pins = record { kind = Gate kind; pins = pins }

-- what bit j of the running context's number was at the clocks -1, -2 and on
abbrev pub counter_contents : ℕ → ℕ → List Bool
counter_contents contexts j = map (λ i. digit j (context_of contexts i)) (range_with_len 0 contexts)

-- context bit j, as vertex v: a buffer that reads itself through a register for each context
abbrev pub context_bit : ℕ → ℕ → ℕ → OpenVertex
context_bit contexts v j =
    gate Buf (Some (Driven (record { from = v; output = 0; contents = counter_contents contexts j })) ∷ [])

-- the context bits, from vertex n on
abbrev pub context_vertices : ℕ → ℕ → List OpenVertex
context_vertices contexts n =
    map (λ j. context_bit contexts (n + j) j) (range_with_len 0 (context_bits contexts))

-- pins that read them
abbrev pub context_pins : ℕ → ℕ → List (Option Source)
context_pins contexts n = map wire (range_with_len n (context_bits contexts))
