-- The Writes of a machine.
use Rattle.std.proofs.Common.{◌≡◌, ℕ, ◌+◌, ◌*◌, ◌<◌, List, length, take, refl, sym, ap, ◌∙◌, arith}
use Rattle.std.specs.Prelude.{get_or, option_map, slice_get, Some}
use Rattle.std.specs.List.{count_by}
use Rattle.std.proofs.lemmas.List.{length-map}
use Rattle.std.proofs.lemmas.List.FromFn.{get_or-map-range_with_len, length-map-range_with_len}
use Rattle.std.proofs.lemmas.Option.{slice_get-map, slice_get_within}
use Rattle.cs_graph.specs.declared.graph.Graph.{Graph}
use Rattle.cs_graph.specs.declared.memory.Memory.{Memory}
use Rattle.cs_graph.specs.declared.vertex.Vertex.{Vertex}
use Rattle.cs_graph.specs.declared.vertex.VertexKind.TheVariants.{Write}
use Rattle.cs_graph.specs.Draft.{open_kinds}
use Rattle.cs_graph.specs.Invariant.{IsMachine}
use Rattle.cs_graph.specs.Kinds.{is_write_of}
use Rattle.cs_bank.specs.Guards.{write_ports}
use Rattle.cs_bank.specs.WritePlaces.{writes_from, writes_of}
use Rattle.cs_bank.specs.Wired.{feed_source, wired, wired_vertex}
use Rattle.cs_bank.proofs.Answered.{of_machine, ports_of}
use Rattle.cs_bank.proofs.BankedPlaces.{write_pins_are}
use Rattle.cs_bank.proofs.GuardLemmas.{HaveWritePins}
use Rattle.cs_bank.proofs.WriteLists.{write_at}

-- a Write has its memory, pins for it, and the next port
pub record IsWriteOf (g : Graph) (v memory port : ℕ) (x : Vertex) : Type 0 where
  pub m : Memory
  pub found : slice_get g.memories memory ≡ Some m
  pub pins : length x.pins ≡ m.abits + 2 * m.width
  pub port_is : port ≡ count_by (is_write_of memory) (take v (open_kinds (wired g).vertices))
  pub at : slice_get (wired g).vertices v ≡ Some (wired_vertex g.edges x)
  pub there : memory < length g.memories

module _ (g : Graph) (is : IsMachine g) where
  pub wired_at : (v : ℕ) (x : Vertex) → slice_get g.vertices v ≡ Some x
      → slice_get (wired g).vertices v ≡ Some (wired_vertex g.edges x)
  wired_at v x found =
      slice_get-map (wired_vertex g.edges) g.vertices v ∙ ap (option_map (wired_vertex g.edges)) found

  pub write_is : (v memory port : ℕ) (x : Vertex) → slice_get g.vertices v ≡ Some x → x.kind ≡ Write memory port
      → IsWriteOf g v memory port x
  write_is v memory port x found kind =
      let own = (ports_of g (of_machine g is)).writes v memory port (wired_vertex g.edges x) (wired_at v x found) kind in
      record {
        m = own.0;
        found = own.1;
        pins = sym (length-map x.pins (feed_source g.edges)) ∙ own.2;
        port_is = own.3;
        at = wired_at v x found;
        there = slice_get_within g.memories memory own.0 own.1;
      }

  pub have_pins : HaveWritePins 0 g.memories (wired g).vertices
  have_pins = write_pins_are (wired g) (ports_of g (of_machine g is))

  -- a number in the list of memory i's Writes
  pub record IsListed (i k v : ℕ) (m : Memory) : Type 0 where
    pub x : Vertex
    pub found : slice_get g.vertices v ≡ Some x
    pub pins : length x.pins ≡ m.abits + 2 * m.width
    pub at : slice_get (write_ports i (wired g).vertices) k ≡ Some (wired_vertex g.edges x)

  pub listed : (i k v : ℕ) (m : Memory) → slice_get (writes_from i 0 g.vertices) k ≡ Some v
      → slice_get g.memories i ≡ Some m → IsListed i k v m
  listed i k v m found memory =
      let w = write_at (wired_vertex g.edges) (λ x. refl) i 0 g.vertices k v found in
      let is = w.is in
      let same : v ≡ w.j = omega (arith, is) in
      let here : 0 + i ≡ i = omega arith in
      record {
        x = w.x;
        found = ap (slice_get g.vertices) same ∙ w.found;
        pins = sym (length-map w.x.pins (feed_source g.edges))
            ∙ have_pins i k m (wired_vertex g.edges w.x) memory
            (ap (λ j. slice_get (write_ports j (wired g).vertices) k) here ∙ w.at);
        at = w.at;
      }

  -- the list of memory i
  pub list_of : (lists : List (List ℕ)) (i : ℕ) (d : List ℕ) → lists ≡ writes_of g → i < length g.memories
      → get_or lists i d ≡ writes_from i 0 g.vertices
  list_of lists i d are low =
      ap (λ ls. get_or ls i d) are
      ∙ get_or-map-range_with_len (λ j. writes_from j 0 g.vertices) 0 (length g.memories) i i d low (omega arith)

  pub list_count : (lists : List (List ℕ)) → lists ≡ writes_of g → length lists ≡ length g.memories
  list_count lists are =
      ap length are ∙ length-map-range_with_len (λ j. writes_from j 0 g.vertices) 0 (length g.memories)
