-- What memories start with in each context.
use Rattle.std.specs.Prelude.{ℕ, ◌-◌, ◌*◌, Bool, false, ◌++◌, List, [], length, map, replicate, slice_index_or, Option, Some, None}
use Rattle.std.specs.List.{zip}
use Rattle.cs_graph.specs.declared.graph.Graph.{Graph}
use Rattle.cs_graph.specs.declared.memory.Memory.{Memory}
use Rattle.cs_net.specs.Contexts.{Image}

-- an image, and 0 in the words that it doesn't reach
abbrev pub filled : ℕ → Image → List Bool
filled bits image = image ++ replicate (bits - length image) false

-- what a memory starts with in context k: its own start, or image k where it is named
abbrev pub start_in : ℕ → Memory → Option (List Image) → List Bool
start_in k m None = m.start
start_in k m (Some images) = filled (m.words * m.width) (slice_index_or images k [])

-- the memories, each with its entry among the images
abbrev pub with_entries : (Memory → Option (List Image) → Memory) → List Memory → List (Option (List Image))
    → List Memory
with_entries f memories entries = map (λ e. f e.0 e.1) (zip memories entries)

-- the memory as context k has it
abbrev pub memory_in : ℕ → Memory → Option (List Image) → Memory
memory_in k m entry = record m { start = start_in k m entry }

-- the graph whose memories start as those of context k
abbrev pub of_context : ℕ → List (Option (List Image)) → Graph → Graph
of_context k entries g = record g { memories = with_entries (memory_in k) g.memories entries }
