-- The guards of a machine that is to be banked end within its vertices.
use Rattle.std.proofs.Common.{◌≡◌, ℕ, zero, suc, ◌+◌, ◌*◌, ◌<◌, ◌≤◌, ◌++◌, true, List, length, map, refl, ap, ◌∙◌, arith, length-append}
use Rattle.std.specs.Prelude.{get_or, slice_get, Some, ◌==◌}
use Rattle.std.specs.List.{range_with_len}
use Rattle.std.proofs.lemmas.Bool.Decides.{nat_tests}
use Rattle.std.proofs.lemmas.List.{length-map}
use Rattle.std.proofs.lemmas.List.FromFn.{get_or-map-range_with_len, length-map-range_with_len}
use Rattle.cs_graph.specs.declared.graph.Graph.{Graph}
use Rattle.cs_graph.specs.declared.memory.Memory.{Memory}
use Rattle.cs_graph.specs.declared.vertex.Vertex.{Vertex}
use Rattle.cs_graph.specs.declared.vertex.VertexKind.TheVariants.{Write}
use Rattle.cs_graph.specs.Draft.{Draft}
use Rattle.cs_graph.specs.Invariant.{IsMachine, IsMemory}
use Rattle.cs_graph.specs.Kinds.{is_write_of}
use Rattle.cs_bank.specs.Bank.{banked_vertex, banked_vertices, first_guard}
use Rattle.cs_bank.specs.ContextBits.{context_bit, context_bits, context_pins, context_vertices}
use Rattle.cs_bank.specs.Guards.{guard_count, guards, guards_place}
use Rattle.cs_bank.specs.Wired.{wired, wired_vertex}
use Rattle.cs_bank.proofs.MachineWrites.{have_pins, write_is}
use Rattle.cs_bank.proofs.WriteLists.{guard_within}

-- the vertices that were there, the context bits and the guards are all
pub length-banked : (c : ℕ) (d : Draft) → length (banked_vertices c d)
    ≡ first_guard c d + length (guards (first_guard c d) 0 d.memories d.vertices)
length-banked c d =
    let n = length d.vertices in
    let mine = banked_vertex (context_pins c n) (first_guard c d) d in
    let all = guards (first_guard c d) 0 d.memories d.vertices in
    let outer = length-append (map mine d.vertices) (context_vertices c n ++ all) in
    let inner = length-append (context_vertices c n) all in
    let old = length-map d.vertices mine in
    let bits = length-map-range_with_len (λ j. context_bit c (n + j) j) 0 (context_bits c) in
    omega (arith, outer, inner, old, bits)

equal_number : (a b : ℕ) → a ≡ b → (a == b) ≡ true
equal_number a b h = grind (arith, nat_tests)

-- a word isn't wider than all words
pub width_few : (m : Memory) → IsMemory m → m.width ≤ 4194304
width_few m is = by m.words m.width is.some_words is.size
  where
    by : (words width : ℕ) → 0 < words → words * width ≤ 4194304 → width ≤ 4194304
    by zero width some few = absurd (omega (arith, some))
    by (suc n) width some few = let sum : suc n * width ≡ width + n * width = omega arith in omega (arith, sum, few)

module _ (g : Graph) (is : IsMachine g) (c : ℕ) where
  -- where the guards of each memory begin
  abbrev pub places : List ℕ
  places = map (guards_place (first_guard c (wired g)) 0 g.memories (wired g).vertices)
      (range_with_len 0 (length g.memories))

  pub place_of : (memory : ℕ) → memory < length g.memories
      → get_or places memory 0 ≡ guards_place (first_guard c (wired g)) 0 g.memories (wired g).vertices memory
  place_of memory low =
      get_or-map-range_with_len (guards_place (first_guard c (wired g)) 0 g.memories (wired g).vertices) 0
      (length g.memories) memory memory 0 low (omega arith)

  pub place_few : (v memory port : ℕ) (x : Vertex) (m : Memory) → slice_get g.vertices v ≡ Some x
      → x.kind ≡ Write memory port → slice_get g.memories memory ≡ Some m
      → length (banked_vertices c (wired g)) ≤ 4096
      → (get_or places memory 0 + port * guard_count m) + guard_count m ≤ 4096
  place_few v memory port x m found kind at few =
      let w = write_is g is v memory port x found kind in
      let within = guard_within (first_guard c (wired g)) g.memories (wired g).vertices memory port v m
      (wired_vertex g.edges x) (have_pins g is) at w.at (ap (is_write_of memory) kind ∙ equal_number memory memory refl)
      w.port_is in
      let all = length-banked c (wired g) in
      let place = place_of memory w.there in
      omega (arith, within, all, few, place)
