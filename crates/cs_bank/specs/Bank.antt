-- `Bank(G, C)`: one memory in place of those of C contexts, a bank of words for each.
use Rattle.std.specs.Prelude.{◌≡◌, ℕ, ◌+◌, ◌*◌, ◌^◌, ◌<◌, ◌≤◌, Bool, false, ◌++◌, min, List, [], ◌∷◌, length, get_or, map, flat_map, take, drop, slice_get, Option, Some, None, ⊤}
use Rattle.std.specs.List.{AllByRecursion, range_with_len}
use Rattle.cs_graph.specs.declared.graph.Graph.{Graph}
use Rattle.cs_graph.specs.declared.memory.Memory.{Memory}
use Rattle.cs_graph.specs.declared.source.OpenVertex.{OpenVertex}
use Rattle.cs_graph.specs.declared.source.Source.{Source}
use Rattle.cs_graph.specs.declared.vertex.VertexKind.{VertexKind}
use Rattle.cs_graph.specs.declared.vertex.VertexKind.TheVariants.{Constant, Gate, Host, Input, Output, Read, Write}
use Rattle.cs_graph.specs.Draft.{Draft, built}
use Rattle.cs_graph.specs.Past.{IsSlowedBy}
use Rattle.cs_net.specs.Contexts.{Image}
use Rattle.cs_bank.specs.ContextBits.{context_bits, context_pins, context_vertices}
use Rattle.cs_bank.specs.Guards.{enable_pins, guard_count, guards, guards_place}
use Rattle.cs_bank.specs.Starts.{start_in, with_entries}
use Rattle.cs_bank.specs.Wired.{wired}

-- ---- vertices

-- a Write's pins with the context's above its address, and the enable bits of its guard, which begins at vertex v
abbrev pub write_pins : List (Option Source) → ℕ → Option Memory → List (Option Source) → List (Option Source)
write_pins context v None pins = pins
write_pins context v (Some m) pins =
    take m.abits pins ++ context ++ take m.width (drop m.abits pins) ++ enable_pins v m
    (drop m.width (drop m.abits pins))

-- how many vertices guard one port of a memory, 0 where there is none
abbrev pub guard_count_of : Option Memory → ℕ
guard_count_of None = 0
guard_count_of (Some m) = guard_count m

-- the vertex that the guard of a port begins with, where all guards begin at vertex v
abbrev pub guard_place : ℕ → Draft → ℕ → ℕ → ℕ
guard_place v d memory port =
    guards_place v 0 d.memories d.vertices memory + port * guard_count_of (slice_get d.memories memory)

-- the pins of a vertex: those of a Read end with the context's, and those of all others but Writes stay
abbrev pub banked_pins : List (Option Source) → ℕ → Draft → VertexKind → List (Option Source)
    → List (Option Source)
banked_pins context v d Host pins = pins
banked_pins context v d Input pins = pins
banked_pins context v d Output pins = pins
banked_pins context v d (Constant b) pins = pins
banked_pins context v d (Gate kind) pins = pins
banked_pins context v d (Read memory port) pins = pins ++ context
banked_pins context v d (Write memory port) pins =
    write_pins context (guard_place v d memory port) (slice_get d.memories memory) pins

abbrev pub banked_vertex : List (Option Source) → ℕ → Draft → OpenVertex → OpenVertex
banked_vertex context v d x = record x { pins = banked_pins context v d x.kind x.pins }

-- the first guard comes after the vertices that were there and the context bits
abbrev pub first_guard : ℕ → Draft → ℕ
first_guard contexts d = length d.vertices + context_bits contexts

-- the context bits and the guards
abbrev pub new_vertices : ℕ → Draft → List OpenVertex
new_vertices contexts d =
    context_vertices contexts (length d.vertices) ++ guards (first_guard contexts d) 0 d.memories d.vertices

-- the vertices that were there, and the new ones
abbrev pub banked_vertices : ℕ → Draft → List OpenVertex
banked_vertices contexts d =
    map (banked_vertex (context_pins contexts (length d.vertices)) (first_guard contexts d) d) d.vertices
    ++ new_vertices contexts d

-- ---- memories

-- the starts of all contexts, bank by bank
abbrev pub banked_start : ℕ → Memory → Option (List Image) → List Bool
banked_start contexts m entry = flat_map (λ k. start_in k m entry) (range_with_len 0 contexts)

-- a memory with its words as many times as there are contexts
abbrev pub banked_memory : ℕ → Memory → Option (List Image) → Memory
banked_memory contexts m entry = record m {
  words = contexts * m.words;
  abits = m.abits + context_bits contexts;
  start =
      banked_start contexts m entry;
}

-- ---- the graph

abbrev pub banked : ℕ → List (Option (List Image)) → Draft → Draft
banked contexts entries d = record {
  vertices = banked_vertices contexts d;
  memories = with_entries (banked_memory contexts) d.memories entries;
}

-- a graph without memories as it is, and every other banked, its edges numbered anew
abbrev pub bank_by : List Memory → ℕ → List (Option (List Image)) → Graph → Graph
bank_by [] contexts entries g = g
bank_by (m ∷ ms) contexts entries g = built (banked contexts entries (wired g))

-- `Bank(G, C)`, with one entry for each memory: None, or an image for each context
abbrev pub bank : ℕ → List (Option (List Image)) → Graph → Graph
bank contexts entries g = bank_by g.memories contexts entries g

-- ---- what can be banked

-- an entry fits a memory: it is None, or an image for each context, each of as many bits as the words below `size`
abbrev pub FitsMemory : ℕ → Memory → Option (List Image) → Type 0
FitsMemory contexts m None = ⊤
FitsMemory contexts m (Some images) = (length images ≡ contexts)
    × AllByRecursion (λ image. length image ≡ min m.size (2 ^ m.abits) * m.width) images

-- a memory has a word for each address, and 0 in each from `size` on
pub record IsWhole (m : Memory) : Type 0 where
  pub some : 0 < m.size
  pub address_bits : m.abits ≤ 20
  pub words : m.words ≡ 2 ^ m.abits
  pub rest : (i : ℕ) → m.size * m.width ≤ i → get_or m.start i false ≡ false

-- the graph is slowed, its memories are whole, and the images are theirs
pub record CanBank (contexts : ℕ) (entries : List (Option (List Image))) (g : Graph) : Type 0 where
  pub slowed : IsSlowedBy contexts g
  pub whole : (i : ℕ) (m : Memory) → slice_get g.memories i ≡ Some m → IsWhole m
  pub count : length entries ≡ length g.memories
  pub images : (i : ℕ) (m : Memory) (entry : Option (List Image)) → slice_get g.memories i ≡ Some m
      → slice_get entries i ≡ Some entry → FitsMemory contexts m entry
