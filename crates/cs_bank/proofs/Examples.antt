-- Small memories banked, computed: one with a guard, one in three banks, and images of two contexts.
use Rattle.std.proofs.Common.{◌≡◌, ℕ, zero, suc, ◌*◌, ◌≤◌, Bool, true, false, List, [], ◌∷◌, ◌++◌, length, get_or, map, subst, refl, arith, Some, None}
use Rattle.std.specs.Prelude.{drop, replicate, slice_get, Option}
use Rattle.std.proofs.lemmas.Option.{none-some, same_Some}
use Rattle.cs_base.specs.declared.limit.Counted.TheVariants.{Vertices}
use Rattle.cs_cells.specs.declared.gate.Kind.TheVariants.{And, Buf, Not, OrNot}
use Rattle.cs_graph.specs.declared.edge.Edge.{Edge}
use Rattle.cs_graph.specs.declared.graph.Graph.{Graph}
use Rattle.cs_graph.specs.declared.memory.Memory.{Memory}
use Rattle.cs_graph.specs.declared.vertex.Feed.TheVariants.{Edge as Along, Tied}
use Rattle.cs_graph.specs.declared.vertex.Vertex.{Vertex}
use Rattle.cs_graph.specs.declared.vertex.VertexKind.{VertexKind}
use Rattle.cs_graph.specs.declared.vertex.VertexKind.TheVariants.{Gate, Host, Input, Output, Read, Write}
use Rattle.cs_graph.specs.Slow.{slow}
use Rattle.cs_net.specs.Contexts.{Image}
use Rattle.cs_bank.specs.declared.measures.Measure.TheVariants.{Edges, Registers, Vertices as ItsVertices}
use Rattle.cs_bank.specs.Bank.{CanBank, FitsMemory, IsWhole, bank, banked_vertices}
use Rattle.cs_bank.specs.BankFaults.{bank_fault}
use Rattle.cs_bank.specs.Measures.{extent}
use Rattle.cs_bank.specs.Wired.{wired}
use Rattle.cs_bank.specs.WritePlaces.{writes_of}
use Rattle.cs_bank.proofs.SlowedGraphs.{can_bank_slowed}

abbrev vertex : VertexKind → List ℕ → Vertex
vertex kind edges = record { kind = kind; pins = map Along edges }

-- an edge from output 0 of a vertex to a pin of a vertex
abbrev edge : ℕ → ℕ → ℕ → List Bool → Edge
edge u v i contents = record { from = u; output = 0; to = v; pin = i; weight = length contents; contents = contents }

-- words of two bits with an unclocked read and a write at one address: two address, two data bits and one enable come in
abbrev memory_graph : ℕ → List Bool → Graph
memory_graph size start = record {
  vertices = vertex Host [] ∷ vertex Input [] ∷ vertex Input [] ∷ vertex Input [] ∷ vertex Input [] ∷ vertex Input []
      ∷ vertex Output (0 ∷ []) ∷ vertex Output (1 ∷ []) ∷ vertex (Read 0 0) (2 ∷ 3 ∷ []) ∷ vertex (Write 0 0)
      (4 ∷ 5 ∷ 6 ∷ 7 ∷ 8 ∷ 9 ∷ [])
      ∷ [];
  edges = edge 8 6 0 [] ∷ record (edge 8 7 0 []) { output = 1 } ∷ edge 1 8 0 [] ∷ edge 2 8 1 [] ∷ edge 1 9 0 [] ∷ edge 2
      9 1 []
      ∷ edge 3 9 2 [] ∷ edge 4 9 3 [] ∷ edge 5 9 4 [] ∷ edge 5 9 5 [] ∷ [];
  memories = record { size = size; words = 4; abits = 2; width = 2; start = start } ∷ [];
}

-- word 1 is 2
abbrev start : List Bool
start = false ∷ false ∷ false ∷ true ∷ false ∷ false ∷ false ∷ false ∷ []

-- M2, of three words: a context bit, and a guard of four gates
m2 : bank 2 (None ∷ []) (slow 2 (memory_graph 3 start)) ≡ record {
  vertices = vertex Host [] ∷ vertex Input [] ∷ vertex Input [] ∷ vertex Input [] ∷ vertex Input [] ∷ vertex Input []
      ∷ vertex Output (0 ∷ []) ∷ vertex Output (1 ∷ []) ∷ vertex (Read 0 0) (2 ∷ 3 ∷ 4 ∷ [])
      ∷ vertex (Write 0 0) (5 ∷ 6 ∷ 7 ∷ 8 ∷ 9 ∷ 10 ∷ 11 ∷ []) ∷ vertex (Gate Buf) (12 ∷ []) ∷ vertex (Gate Not)
      (13 ∷ [])
      ∷ vertex (Gate OrNot) (14 ∷ 15 ∷ []) ∷ vertex (Gate And) (16 ∷ 17 ∷ []) ∷ vertex (Gate And) (18 ∷ 19 ∷ []) ∷ [];
  edges = edge 8 6 0 [] ∷ record (edge 8 7 0 []) { output = 1 } ∷ edge 1 8 0 [] ∷ edge 2 8 1 [] ∷ edge 10 8 2 []
      ∷ edge 1 9 0 [] ∷ edge 2 9 1 [] ∷ edge 10 9 2 [] ∷ edge 3 9 3 [] ∷ edge 4 9 4 [] ∷ edge 13 9 5 [] ∷ edge 14 9 6 []
      ∷ edge 10 10 0 (true ∷ false ∷ []) ∷ edge 1 11 0 [] ∷ edge 11 12 0 [] ∷ edge 2 12 1 [] ∷ edge 5 13 0 []
      ∷ edge 12 13 1 [] ∷ edge 5 14 0 [] ∷ edge 12 14 1 [] ∷ [];
  memories = record { size = 3; words = 8; abits = 3; width = 2; start = start ++ start } ∷ [];
}
m2 = refl

-- its Write is vertex 9
m2_writes : writes_of (memory_graph 3 start) ≡ (9 ∷ []) ∷ []
m2_writes = refl

-- counted, it has these vertices, edges and registers
m2_counts : map (λ measure. extent measure (banked_vertices 2 (wired (slow 2 (memory_graph 3 start)))))
    (ItsVertices ∷ Edges ∷ Registers ∷ []) ≡ 15 ∷ 20 ∷ 2 ∷ []
m2_counts = refl

-- M1, of four words, in three banks: two context bits and no guard
m1_vertices : map (λ (x : Vertex). x.kind) (drop 10 (bank 3 (None ∷ []) (slow 3 (memory_graph 4 start))).vertices) ≡
    Gate Buf ∷ Gate Buf ∷ []
m1_vertices = refl

m1_edges : drop 14 (bank 3 (None ∷ []) (slow 3 (memory_graph 4 start))).edges ≡
    edge 10 10 0 (false ∷ true ∷ false ∷ []) ∷ edge 11 11 0 (true ∷ false ∷ false ∷ []) ∷ []
m1_edges = refl

m1_memories : (bank 3 (None ∷ []) (slow 3 (memory_graph 4 start))).memories ≡
    record { size = 4; words = 12; abits = 4; width = 2; start = start ++ start ++ start } ∷ []
m1_memories = refl

-- M1 with images for two contexts: bank k starts with image k
abbrev other : List Bool
other = false ∷ false ∷ true ∷ false ∷ false ∷ false ∷ false ∷ false ∷ []

images : (bank 2 (Some (start ∷ other ∷ []) ∷ []) (slow 2 (memory_graph 4 start))).memories ≡
    record { size = 4; words = 8; abits = 3; width = 2; start = start ++ other } ∷ []
images = refl

-- M2 with images of its three words: the fourth word of each bank starts as 0
short_images :
    (bank 2 (Some ((true ∷ true ∷ true ∷ true ∷ true ∷ true ∷ []) ∷ (false ∷ true ∷ false ∷ true ∷ false ∷ true ∷ []) ∷
    [])
    ∷ []) (slow 2 (memory_graph 3 start))).memories ≡ record {
      size = 3;
      words = 8;
      abits = 3;
      width = 2;
      start = true ∷ true ∷ true ∷ true ∷ true ∷ true ∷ false ∷ false ∷ false ∷ true ∷ false ∷ true ∷ false ∷ true ∷
          false
          ∷ false ∷ [];
    } ∷ []
short_images = refl

-- guards stand for a single context too, with no context bit
one_context : map (λ (x : Vertex). x.kind) (drop 10 (bank 1 (None ∷ []) (slow 1 (memory_graph 3 start))).vertices) ≡
    Gate Not ∷ Gate OrNot ∷ Gate And ∷ Gate And ∷ []
one_context = refl

-- the guards of many enable bits are too many vertices
abbrev wide : Graph
wide = record {
  vertices = vertex Host [] ∷ record { kind = Write 0 0; pins = replicate 8402 (Tied false) } ∷ [];
  edges = [];
  memories = record { size = 3; words = 4; abits = 2; width = 4200; start = replicate 16800 false } ∷ [];
}

too_wide : bank_fault 1 (None ∷ []) wide ≡ Some (record { what = Vertices; found = 4204; most = 4096 })
too_wide = refl

m2_fits : bank_fault 2 (None ∷ []) (slow 2 (memory_graph 3 start)) ≡ None
m2_fits = refl

-- all of these can be banked, with and without images
abbrev memory : ℕ → Memory
memory size = record { size = size; words = 4; abits = 2; width = 2; start = start }

m2_whole : (i : ℕ) (m : Memory) → slice_get (memory 3 ∷ []) i ≡ Some m → IsWhole m
m2_whole zero m found = subst IsWhole (same_Some (memory 3) m found) (record {
  some = omega arith;
  address_bits = omega arith;
  words = refl;
  rest = λ i high. rest i high;
})
  where
    rest : (i : ℕ) → 3 * 2 ≤ i → get_or start i false ≡ false
    rest zero h = refl
    rest (suc zero) h = refl
    rest (suc (suc zero)) h = refl
    rest (suc (suc (suc zero))) h = absurd (omega (arith, h))
    rest (suc (suc (suc (suc zero)))) h = refl
    rest (suc (suc (suc (suc (suc zero))))) h = refl
    rest (suc (suc (suc (suc (suc (suc zero)))))) h = refl
    rest (suc (suc (suc (suc (suc (suc (suc zero))))))) h = refl
    rest (suc (suc (suc (suc (suc (suc (suc (suc i)))))))) h = refl
m2_whole (suc i) m found = absurd (none-some m found)

m2_can : CanBank 2 (None ∷ []) (slow 2 (memory_graph 3 start))
m2_can = can_bank_slowed 2 (None ∷ []) (memory_graph 3 start) m2_whole refl m2_images
  where
    m2_images : (i : ℕ) (m : Memory) (entry : Option (List Image)) → slice_get (memory 3 ∷ []) i ≡ Some m
        → slice_get {X = Option (List Image)} (None ∷ []) i ≡ Some entry → FitsMemory 2 m entry
    m2_images zero m entry at found = subst (FitsMemory 2 m) (same_Some None entry found) tt
    m2_images (suc i) m entry at found = absurd (none-some m at)
