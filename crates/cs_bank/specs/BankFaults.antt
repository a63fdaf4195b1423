-- When banking refuses: the banked graph would be more than a machine may be.
use Rattle.std.specs.Prelude.{ℕ, ◌*◌, List, [], ◌∷◌, length, Option, None}
use Rattle.std.specs.List.{sum_by}
use Rattle.std.specs.Option.{option_or}
use Rattle.cs_base.specs.declared.limit.Counted.TheVariants.{Edges, MemoryBits, Vertices, Weight}
use Rattle.cs_base.specs.declared.limit.LimitFault.{LimitFault}
use Rattle.cs_graph.specs.declared.graph.Graph.{Graph}
use Rattle.cs_graph.specs.declared.memory.Memory.{Memory}
use Rattle.cs_graph.specs.Draft.{Draft, edge_count, weight}
use Rattle.cs_net.specs.Accept.{above_limit}
use Rattle.cs_net.specs.Contexts.{Image}
use Rattle.cs_bank.specs.Bank.{banked}
use Rattle.cs_bank.specs.Wired.{wired}

-- how many bits all words have
abbrev pub memory_bits : List Memory → ℕ
memory_bits memories = sum_by (λ (m : Memory). m.words * m.width) memories

-- the first of vertices, edges, registers and bits of memories that are too many
abbrev pub draft_fault : Draft → Option LimitFault
draft_fault d =
    option_or (above_limit Vertices (length d.vertices) 4096)
    (option_or (above_limit Edges (edge_count d.vertices) 32768)
    (option_or (above_limit Weight (weight d.vertices) 65536)
    (above_limit MemoryBits (memory_bits d.memories) 4194304)))

-- a graph without memories stays as it is
abbrev pub bank_fault_by : List Memory → ℕ → List (Option (List Image)) → Graph → Option LimitFault
bank_fault_by [] contexts entries g = None
bank_fault_by (m ∷ ms) contexts entries g = draft_fault (banked contexts entries (wired g))

abbrev pub bank_fault : ℕ → List (Option (List Image)) → Graph → Option LimitFault
bank_fault contexts entries g = bank_fault_by g.memories contexts entries g
