-- A trace of the written netlist is a run of the machine: it answers rows with what the machine's outputs
-- show.
use Rattle.std.proofs.Common.{◌≡◌, ◌∙◌, ℕ, ◌<◌, List, [], ◌∷◌, ◌++◌, length, map, false, refl, sym, ap, ap₂, subst, arith}
use Rattle.std.specs.Prelude.{◌+◌, ◌≤◌, ◌↔◌, ◌-ℤ◌, Option, Some, None, flat_map, pos, slice_get}
use Rattle.std.proofs.lemmas.Int.{ints}
use Rattle.std.specs.List.{count_by}
use Rattle.std.proofs.lemmas.List.{ext_get_or}
use Rattle.std.proofs.lemmas.Simd.{map-map}
use Rattle.cs_base.specs.declared.signal.Signal.{Signal}
use Rattle.cs_base.specs.declared.signal.Signal.TheVariants.{Bit}
use Rattle.cs_cells.specs.Memories.{Words}
use Rattle.cs_circuit.specs.ReadBack.{IsNetOfCircuit, start_of}
use Rattle.cs_graph.specs.declared.edge.Edge.{Edge}
use Rattle.cs_graph.specs.declared.graph.Graph.{Graph}
use Rattle.cs_graph.specs.declared.vertex.Feed.{Feed}
use Rattle.cs_graph.specs.declared.vertex.Feed.TheVariants.{Tied, Edge as Along}
use Rattle.cs_graph.specs.declared.vertex.Vertex.{Vertex}
use Rattle.cs_graph.specs.declared.vertex.VertexKind.{VertexKind}
use Rattle.cs_graph.specs.declared.vertex.VertexKind.TheVariants.{Host, Input, Output, Constant, Gate, Read, Write as WritePort}
use Rattle.cs_graph.specs.Invariant.{IsMachine}
use Rattle.cs_graph.specs.Kinds.{is_input}
use Rattle.cs_graph.specs.Run.{Outs, RunsFor, RunsWith, Shows, outputs_at, row_of, seen, seen_edge, shown_by as shown_bits}
use Rattle.cs_graph.proofs.Runs.{runs_agree}
use Rattle.cs_graph.proofs.Sees.{SameSight, carried_same, outputs_same, value_same, words_same}
use Rattle.cs_net.specs.Drivers.{data_inputs, data_outputs}
use Rattle.cs_net.specs.Netlist.{Net, NetState}
use Rattle.cs_net.specs.Trace.{Answers, IsTrace, Row, Valuation, output_row, output_rows, signal_value}
use Rattle.cs_net.proofs.Answering.{answer_exists, get_or-output_rows, length-output_rows}
use Rattle.cs_prefix.specs.Prefixes.{RegisterKey}
use Rattle.cs_share.specs.declared.types.Names.{Names}
use Rattle.cs_share.specs.Emission.{clocked_names, shared_circuit}
use Rattle.cs_share.specs.Names.{AreNamesFor}
use Rattle.cs_share.specs.Ports.{data_numbers}
use Rattle.cs_share.specs.Registers.{AreRegisters}
use Rattle.cs_share.specs.Shared.{circuit_with, pin_signal, pin_signals, shown_by, shown_signals}
use Rattle.cs_share.proofs.CircuitShared.{data_inputs_are, names_fit}
use Rattle.cs_share.proofs.CircuitShown.{data_outputs_are}
use Rattle.cs_share.proofs.RunDrivers.{IsWritten, sees_by, words_by}
use Rattle.cs_share.proofs.RunMemories.{words_begin, words_go_on}
use Rattle.cs_share.proofs.RunRegisters.{pin_sees, value}

-- ---- outputs

module _ (g : Graph) (keys : List RegisterKey) (names : Names) (v : Valuation) where
  shown_alike : (kind : VertexKind) (signals : List Signal)
      → map (signal_value v) (shown_by kind signals) ≡ shown_bits kind (map (signal_value v) signals)
  shown_alike Host signals = refl
  shown_alike Input signals = refl
  shown_alike Output signals = refl
  shown_alike (Constant b) signals = refl
  shown_alike (Gate kind) signals = refl
  shown_alike (Read memory port) signals = refl
  shown_alike (WritePort memory port) signals = refl

  map_joined : (xs ys : List Signal)
      → map (signal_value v) (xs ++ ys) ≡ map (signal_value v) xs ++ map (signal_value v) ys
  map_joined [] ys = refl
  map_joined (x ∷ xs) ys = ap (λ rest. signal_value v x ∷ rest) (map_joined xs ys)

  all_shown : (xs : List Vertex) → map (signal_value v) (flat_map (shown_signals g names keys) xs)
      ≡ flat_map (λ (x : Vertex). shown_bits x.kind (map (sees_by g keys names v) x.pins)) xs
  all_shown [] = refl
  all_shown (x ∷ xs) =
      map_joined (shown_signals g names keys x) (flat_map (shown_signals g names keys) xs)
      ∙ ap₂ (λ bs cs. bs ++ cs)
      (shown_alike x.kind (pin_signals g names keys x)
      ∙ ap (shown_bits x.kind) (map-map (signal_value v) (pin_signal g names keys) x.pins))
      (all_shown xs)

  -- the netlist's outputs are what the machine's see
  pub row_shown : (net : Net) → data_outputs net ≡ flat_map (shown_signals g names keys) g.vertices
      → output_row net v ≡ outputs_at g (sees_by g keys names v)
  row_shown net outputs = ap (map (signal_value v)) outputs ∙ all_shown g.vertices

-- ---- runs

sooner : (n m weight : ℕ) → pos n -ℤ pos weight ≡ pos m → m ≤ n
sooner n m weight at = let sum : m + weight ≡ n = omega (arith, ints) in omega (arith, sum)

-- what pins see depends on what the vertices gave up to then
seen_same : (g : Graph) (a b : ℕ → Outs) (n : ℕ) → ((m : ℕ) → m ≤ n → (v o : ℕ) → a m v o ≡ b m v o)
    → (f : Feed)
    → seen g a n f ≡ seen g b n f
seen_same g a b n same (Tied bit) = refl
seen_same g a b n same (Along e) = by (slice_get g.edges e)
  where
    by : (o : Option Edge) → seen_edge o a n ≡ seen_edge o b n
    by None = refl
    by (Some d) = carried_same d a b (pos n -ℤ pos d.weight)
        (λ m at. same m (sooner n m d.weight at) d.from d.output)

module _ (g : Graph) (keys : List RegisterKey) (are : AreRegisters g keys) (names : Names) (net : Net)
    (w : IsWritten g keys names net)
    (outputs_are : data_outputs net ≡ flat_map (shown_signals g names keys) g.vertices)
    (rows : List Row)
  where
    module _ (bits : ℕ → Valuation) (state : ℕ → NetState) (t : IsTrace net (start_of net) rows bits state)
      where
        -- what the vertices give, clock by clock
        abbrev pub values : ℕ → Outs
        values = value g keys are names net w rows bits state t

        -- the words of the memories
        abbrev pub words : ℕ → ℕ → Words
        words n = words_by g (state n)

        sight : (n v : ℕ) (x : Vertex) → n < length rows → slice_get g.vertices v ≡ Some x
            → SameSight x (sees_by g keys names (bits n)) (seen g values n)
        sight n v x below at = record {
          at = λ i f pin. pin_sees g keys are names net w rows bits state t n v i x f below at pin;
        }

        pub trace_runs : RunsFor false g (length rows) (row_of rows) values words
        trace_runs = record {
          begins = words_begin g keys names net w rows bits state t;
          settles = λ n below v o.
              value_same g (row_of rows n) (words n) (words n) (sees_by g keys names (bits n)) (seen g values n)
              v o (λ k. refl)
              (λ x at. sight n v x below at);
          goes_on = λ n below i.
              words_go_on g keys names net w rows bits state t n i below
              ∙ words_same false g (sees_by g keys names (bits n)) (seen g values n) (words n) (words n) i
              refl (λ v x at pinned. sight n v x below at);
        }

        pub trace_shows : Shows g (length rows) values (output_rows net (length rows) bits)
        trace_shows = record {
          count = length-output_rows net (length rows) bits;
          each = λ n below.
              get_or-output_rows net (length rows) bits n [] below
              ∙ row_shown g keys names (bits n) net outputs_are
              ∙ outputs_same g (sees_by g keys names (bits n)) (seen g values n)
              (λ v x at pinned. sight n v x below at);
        }

    -- what the netlist answers, the machine does
    pub answers_run : (outputs : List Row) → Answers net (start_of net) rows outputs
        → RunsWith false g rows outputs
    answers_run outputs a = record {
      value = values a.bits a.state a.trace;
      words = words a.bits a.state a.trace;
      run = trace_runs a.bits a.state a.trace;
      shows = subst (Shows g (length rows) (values a.bits a.state a.trace)) (sym a.shows)
          (trace_shows a.bits a.state a.trace);
    }

    -- a machine answers rows in one way
    one_answer : (one other : List Row) → RunsWith false g rows one → RunsWith false g rows other
        → one ≡ other
    one_answer one other a b =
        let agree = runs_agree g w.machine.well_formed false (length rows) (row_of rows) a.value
        b.value a.words b.words a.run b.run in
        ext_get_or [] one other (a.shows.count ∙ sym b.shows.count)
        (λ n low.
        let count = a.shows.count in
        let below : n < length rows = omega (arith, low, count) in
        a.shows.each n below
        ∙ outputs_same g (seen g a.value n) (seen g b.value n)
        (λ v x at pinned. record {
          at = λ i f pin. seen_same g a.value b.value n
              (λ m within. agree.same_values m (omega (arith, within, below))) f;
        })
        ∙ sym (b.shows.each n below))

    -- what the machine does, the netlist answers
    pub run_answers : (outputs : List Row) → RunsWith false g rows outputs
        → Answers net (start_of net) rows outputs
    run_answers outputs r =
        let found = answer_exists net w.is.order.place w.is.order.order rows (start_of net) in
        subst (Answers net (start_of net) rows) (one_answer found.0 outputs (answers_run found.0 found.1) r)
        found.1

-- ---- both directions

-- the netlist of a machine's circuit answers rows from its start exactly as the machine does
pub read_back_runs : (g : Graph) → IsMachine g → (keys : List RegisterKey) → AreRegisters g keys
    → (names : Names) (net : Net)
    → IsNetOfCircuit (circuit_with g keys names) net
    → data_inputs net ≡ map Bit (data_numbers names)
    → length (data_numbers names) ≡ count_by (λ (x : Vertex). is_input x.kind) g.vertices
    → data_outputs net ≡ flat_map (shown_signals g names keys) g.vertices
    → (rows outputs : List Row) → Answers net (start_of net) rows outputs ↔ RunsWith false g rows outputs
read_back_runs g machine keys are names net is inputs count outputs_are rows outputs =
    let w : IsWritten g keys names net = record {
      machine = machine;
      is = is;
      inputs = inputs;
      count = count;
    } in
    let runs = answers_run g keys are names net w outputs_are rows outputs in
    let answers = run_answers g keys are names net w outputs_are rows outputs in
    (runs, answers)

-- and so does the netlist of the circuit that is written for it with the names of a netlist
pub shared_runs : (g : Graph) → IsMachine g → (names : Names) → AreNamesFor g names
    → (keys : List RegisterKey) → AreRegisters g keys
    → (net : Net) → IsNetOfCircuit (shared_circuit g keys names) net
    → (rows outputs : List Row) → Answers net (start_of net) rows outputs ↔ RunsWith false g rows outputs
shared_runs g machine names fit keys are net is =
    let written : Names = clocked_names keys names in
    let fits = names_fit g keys names fit in
    read_back_runs g machine keys are written net is
    (data_inputs_are written fits.ports (flat_map (shown_signals g written keys) g.vertices) net
    is.ports is.clock)
    fits.inputs
    (data_outputs_are g machine keys are written fits net is.ports is.clock)
