-- What is counted of vertices: they themselves, the edges to them, and the registers of these.
use Rattle.std.specs.Prelude.{ℕ, ◌+◌, Option, Some, None, List, [], ◌∷◌, length, slice_get}
use Rattle.std.specs.List.{sum_by}
use Rattle.cs_graph.specs.declared.source.OpenVertex.{OpenVertex}
use Rattle.cs_graph.specs.declared.source.Source.{Source}
use Rattle.cs_graph.specs.declared.memory.Memory.{Memory}
use Rattle.cs_graph.specs.declared.vertex.VertexKind.{VertexKind}
use Rattle.cs_graph.specs.declared.vertex.VertexKind.TheVariants.{Constant, Gate, Host, Input, Output, Read, Write}
use Rattle.cs_graph.specs.Draft.{Draft, driven, registers}
use Rattle.cs_bank.specs.Bank.{banked_vertex, first_guard}
use Rattle.cs_bank.specs.ContextBits.{context_pins}
use Rattle.cs_bank.specs.Guards.{guard}
use Rattle.cs_bank.specs.declared.measures.Measure.{Measure}
use Rattle.cs_bank.specs.declared.measures.Measure.TheVariants.{Edges, Registers, Vertices}

-- what a vertex counts without its pins
abbrev pub of_vertex : Measure → ℕ
of_vertex Vertices = 1
of_vertex Edges = 0
of_vertex Registers = 0

-- what a pin counts
abbrev pub of_pin : Measure → Option Source → ℕ
of_pin Vertices s = 0
of_pin Edges s = driven s
of_pin Registers s = registers s

-- what a pin counts that reads a vertex without a register
abbrev pub of_wire : Measure → ℕ
of_wire Vertices = 0
of_wire Edges = 1
of_wire Registers = 0

-- what pins count
abbrev pub of_pins : Measure → List (Option Source) → ℕ
of_pins measure pins = sum_by (of_pin measure) pins

-- what vertices count, with their pins
abbrev pub extent : Measure → List OpenVertex → ℕ
extent measure vertices = sum_by (λ (x : OpenVertex). of_vertex measure + of_pins measure x.pins) vertices

-- the guard of a vertex that is a Write, as if it began at vertex 0, where the memory is there
abbrev pub guard_by : Option Memory → List (Option Source) → List OpenVertex
guard_by None pins = []
guard_by (Some m) pins = guard 0 m pins

abbrev pub guard_of : List Memory → VertexKind → List (Option Source) → List OpenVertex
guard_of ms Host pins = []
guard_of ms Input pins = []
guard_of ms Output pins = []
guard_of ms (Constant b) pins = []
guard_of ms (Gate kind) pins = []
guard_of ms (Read memory port) pins = []
guard_of ms (Write memory port) pins = guard_by (slice_get ms memory) pins

-- what a vertex of a draft counts when it is banked, with its guard
abbrev pub banked_extent : Measure → ℕ → Draft → OpenVertex → ℕ
banked_extent measure contexts d x =
    extent measure (banked_vertex (context_pins contexts (length d.vertices)) (first_guard contexts d) d x
    ∷ guard_of d.memories x.kind x.pins)
