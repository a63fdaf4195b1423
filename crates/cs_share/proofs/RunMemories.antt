-- In a trace of the written netlist each memory begins and goes on as the machine's.
use Rattle.std.proofs.Common.{◌≡◌, ◌∙◌, ℕ, suc, ◌+◌, ◌<◌, List, [], ◌∷◌, ◌++◌, length, drop, take, map, Bool, true, false, cond, Option, Some, None, refl, sym, ap, ap₂, arith}
use Rattle.std.specs.Prelude.{filter_map, flat_map, fold, slice_get, ◌==◌}
use Rattle.std.specs.List.{cons_option, enumerate_from}
use Rattle.std.proofs.lemmas.List.{drop-map, take-map}
use Rattle.std.proofs.lemmas.Simd.{map-map}
use Rattle.cs_base.specs.declared.signal.Signal.{Signal}
use Rattle.cs_cells.specs.Memories.{Words, Write, after_write, after_writes}
use Rattle.cs_circuit.specs.declared.circuit.WritePart.{WritePart}
use Rattle.cs_circuit.specs.MemoryCells.{memory_name}
use Rattle.cs_circuit.specs.ReadBack.{start_of, write_by}
use Rattle.cs_graph.specs.declared.graph.Graph.{Graph}
use Rattle.cs_graph.specs.declared.memory.Memory.{Memory}
use Rattle.cs_graph.specs.declared.vertex.Vertex.{Vertex}
use Rattle.cs_graph.specs.declared.vertex.VertexKind.{VertexKind}
use Rattle.cs_graph.specs.declared.vertex.VertexKind.TheVariants.{Host, Input, Output, Constant, Gate, Read, Write as WritePort}
use Rattle.cs_graph.specs.Run.{first_words, memory_after, start_words, taken_in, words_after, write_of, writes_at, writes_by}
use Rattle.cs_net.specs.Netlist.{Net, NetState}
use Rattle.cs_net.specs.Trace.{IsTrace, Row, Valuation, signal_value}
use Rattle.cs_net.proofs.MemoryPlaces.{at_map}
use Rattle.cs_prefix.specs.Prefixes.{RegisterKey}
use Rattle.cs_share.specs.declared.types.Names.{Names}
use Rattle.cs_share.specs.Shared.{circuit_with, memory_part, pin_signal, pin_signals, write_by as write_part_by, write_of_pins, write_part}
use Rattle.cs_share.proofs.RunDrivers.{IsWritten, sees_by, words_by, words_in}
use Rattle.cs_share.proofs.RunLists.{numbered_at, words_are}

-- ---- writes

abbrev write : List Bool → List Bool → List Bool → Write
write address word enable = record { address = address; word = word; enable = enable }

-- what a write port's pins give
pins_write : (v : Valuation) (m : Memory) (signals : List Signal)
    → write_by v (write_of_pins m signals) ≡ write_of m (map (signal_value v) signals)
pins_write v m signals =
    let address : map (signal_value v) (take m.abits signals) ≡ take m.abits (map (signal_value v) signals) =
    sym (take-map (signal_value v) m.abits signals) in
    let word : map (signal_value v) (take m.width (drop m.abits signals))
    ≡ take m.width (drop m.abits (map (signal_value v) signals)) =
    sym (take-map (signal_value v) m.width (drop m.abits signals))
    ∙ ap (take m.width) (sym (drop-map (signal_value v) m.abits signals)) in
    let enable : map (signal_value v) (drop m.width (drop m.abits signals))
    ≡ drop m.width (drop m.abits (map (signal_value v) signals)) =
    sym (drop-map (signal_value v) m.width (drop m.abits signals))
    ∙ ap (drop m.width) (sym (drop-map (signal_value v) m.abits signals)) in
    ap (λ a. write a (map (signal_value v) (take m.width (drop m.abits signals)))
    (map (signal_value v) (drop m.width (drop m.abits signals)))) address
    ∙ ap₂ (λ b c. write (take m.abits (map (signal_value v) signals)) b c) word enable

module _ (g : Graph) (keys : List RegisterKey) (names : Names) (v : Valuation) (i : ℕ) (m : Memory) where
  -- what one vertex adds to the writes
  one_write : (x : Vertex) (kind : VertexKind) (parts : List WritePart) (rest : List Write)
      → map (write_by v) parts ≡ rest
      → map (write_by v) (cons_option (write_part_by g names keys i m x kind) parts)
      ≡ writes_by i m kind (map (sees_by g keys names v) x.pins) ++ rest
  one_write x Host parts rest h = h
  one_write x Input parts rest h = h
  one_write x Output parts rest h = h
  one_write x (Constant b) parts rest h = h
  one_write x (Gate kind) parts rest h = h
  one_write x (Read memory port) parts rest h = h
  one_write x (WritePort memory port) parts rest h = by (memory == i)
    where
      by : (t : Bool)
          → map (write_by v)
          (cons_option (cond t (Some (write_of_pins m (pin_signals g names keys x))) None) parts)
          ≡ cond t (write_of m (map (sees_by g keys names v) x.pins) ∷ []) [] ++ rest
      by false = h
      by true =
          ap₂ (λ w ws. w ∷ ws)
          (pins_write v m (pin_signals g names keys x)
          ∙ ap (write_of m) (map-map (signal_value v) (pin_signal g names keys) x.pins)) h

  -- the writes of all vertices
  all_writes : (n : ℕ) (xs : List Vertex)
      → map (write_by v) (filter_map (write_part g names keys i m) (enumerate_from n xs))
      ≡ flat_map (λ (x : Vertex). writes_by i m x.kind (map (sees_by g keys names v) x.pins)) xs
  all_writes n [] = refl
  all_writes n (x ∷ xs) =
      one_write x x.kind (filter_map (write_part g names keys i m) (enumerate_from (n + 1) xs))
      (flat_map (λ (x : Vertex). writes_by i m x.kind (map (sees_by g keys names v) x.pins)) xs)
      (all_writes (n + 1) xs)

-- in a run that isn't bounded each write is taken
pub all_taken : (m : Memory) (writes : List Write) (words : Words)
    → fold (taken_in false m) words writes ≡ after_writes writes words
all_taken m [] words = refl
all_taken m (w ∷ writes) words = all_taken m writes (after_write words w)

-- ---- words

module _ (g : Graph) (keys : List RegisterKey) (names : Names) (net : Net) (w : IsWritten g keys names net)
    (rows : List Row) (bits : ℕ → Valuation) (state : ℕ → NetState)
    (t : IsTrace net (start_of net) rows bits state)
  where
    memory_there : (i : ℕ) (m : Memory) → slice_get g.memories i ≡ Some m
        → slice_get (circuit_with g keys names).memories i ≡ Some (memory_part g names keys (i, m))
    memory_there i m at =
        at_map (memory_part g names keys) (enumerate_from 0 g.memories) i (i, m)
        (numbered_at 0 g.memories i i m at (omega arith))

    first_in : (i : ℕ) (o : Option Memory) → slice_get g.memories i ≡ o
        → words_in (state 0) i o ≡ start_words o
    first_in i None at = refl
    first_in i (Some m) at =
        ap (λ (s : NetState). s.words (memory_name i)) t.begins
        ∙ w.is.words i (memory_part g names keys (i, m)) (memory_there i m at)
        ∙ words_are m.start m.words m.width (w.machine.memories.each i m at).start

    -- they begin as the machine's
    pub words_begin : (i : ℕ) → words_by g (state 0) i ≡ first_words g i
    words_begin i = first_in i (slice_get g.memories i) refl

    next_in : (n i : ℕ) (o : Option Memory) → n < length rows → slice_get g.memories i ≡ o
        → words_in (state (suc n)) i o
        ≡ memory_after false g i o (sees_by g keys names (bits n)) (words_in (state n) i o)
    next_in n i None below at = refl
    next_in n i (Some m) below at =
        ap (λ (s : NetState). s.words (memory_name i)) (t.goes_on n below)
        ∙ ap (λ writes. after_writes writes ((state n).words (memory_name i)))
        (w.is.writes i (memory_part g names keys (i, m)) (bits n) (memory_there i m at)
        ∙ all_writes g keys names (bits n) i m 0 g.vertices)
        ∙ sym (all_taken m (writes_at g i m (sees_by g keys names (bits n)))
        ((state n).words (memory_name i)))

    -- and go on as the machine's
    pub words_go_on : (n i : ℕ) → n < length rows
        → words_by g (state (suc n)) i
        ≡ words_after false g (sees_by g keys names (bits n)) (words_by g (state n)) i
    words_go_on n i below = next_in n i (slice_get g.memories i) below refl
