-- A path of the machine without a register has the delay 0, or at most that of a chain of the written netlist.
use Rattle.std.proofs.Common.{◌≡◌, ◌∙◌, ℕ, ◌+◌, ◌<◌, ◌≤◌, ◌⊎◌, List, [], ◌∷◌, length, Bool, Some, inl, inr, refl, sym, ap, ap₂, subst, arith}
use Rattle.std.specs.Prelude.{option_map, pos, slice_get, unwrap_or}
use Rattle.std.proofs.lemmas.Int.{ints}
use Rattle.std.proofs.lemmas.Option.{same_Some, slice_get_within}
use Rattle.cs_base.specs.declared.signal.Signal.TheVariants.{Zero, Bit}
use Rattle.cs_delay.specs.Assigned.{AreAssigned, vertex_delay}
use Rattle.cs_delay.specs.declared.table.DelayTable.{DelayTable}
use Rattle.cs_graph.specs.declared.delays.Delays.{Delays}
use Rattle.cs_graph.specs.declared.edge.Edge.{Edge}
use Rattle.cs_graph.specs.declared.graph.Graph.{Graph}
use Rattle.cs_graph.specs.declared.memory.Memory.{Memory}
use Rattle.cs_graph.specs.declared.vertex.Feed.{Feed}
use Rattle.cs_graph.specs.declared.vertex.Feed.TheVariants.{Edge as Along}
use Rattle.cs_graph.specs.declared.vertex.Vertex.{Vertex}
use Rattle.cs_graph.specs.declared.vertex.VertexKind.{VertexKind}
use Rattle.cs_graph.specs.declared.vertex.VertexKind.TheVariants.{Host, Input, Output, Constant, Gate, Read, Write as WritePort}
use Rattle.cs_graph.specs.Invariant.{IsMachine, kinds}
use Rattle.cs_graph.specs.Kinds.{output_count, pin_count, word_bits}
use Rattle.cs_graph.specs.Lags.{weight_under}
use Rattle.cs_graph.specs.Order.{no_lags}
use Rattle.cs_graph.specs.Period.{HasNoRegister, IsPath, edge_delay, edges_delay, path_delay}
use Rattle.cs_graph.proofs.LagLemmas.{weight_alone}
use Rattle.cs_net.specs.Accept.{is_combinational}
use Rattle.cs_net.specs.Drivers.{driver_of, fanin}
use Rattle.cs_net.specs.Netlist.{Net}
use Rattle.cs_net.proofs.Members.{within_has}
use Rattle.cs_net.proofs.MemoryPlaces.{at_map}
use Rattle.cs_prefix.specs.Prefixes.{RegisterKey}
use Rattle.cs_share.specs.declared.types.Names.{Names}
use Rattle.cs_share.specs.Period.{GoesOn, IsChain, Link, chain_delay, driver_delay, input_delay, links_delay}
use Rattle.cs_share.specs.Shared.{circuit_with, driver_signal, edge_signal, logic_bit, logic_bits, output_signal, pin_signal, pin_signals, signal_behind}
use Rattle.cs_share.proofs.PeriodDelays.{driver_delay_is, input_delay_is, is_logic, pin_delay_at, pin_delay_within, reads_pins, vertex_delay_at}
use Rattle.cs_share.proofs.PeriodDrivers.{HasDriversOf, driver_by, vertex_drives}

-- a gate or a Read, whose outputs are its bits; or a vertex without a delay, which has no pins or no outputs
data VertexCase (table : DelayTable) (memories : List Memory) (kind : VertexKind) : Type 0 where
  logic : 0 < logic_bits memories kind → output_count memories kind ≡ logic_bits memories kind
      → VertexCase table memories kind
  other : vertex_delay table kind ≡ 0 → (0 < pin_count memories kind → output_count memories kind ≡ 0)
      → VertexCase table memories kind

-- the signal of an output of a gate or a Read is its bit
bit_signal : (g : Graph) (names : Names) (kind : VertexKind) (u o : ℕ) → 0 < logic_bits g.memories kind
    → output_signal g names kind u o ≡ Bit (logic_bit g names u + o)
bit_signal g names Host u o some = absurd (omega (arith, some))
bit_signal g names Input u o some = absurd (omega (arith, some))
bit_signal g names Output u o some = absurd (omega (arith, some))
bit_signal g names (Constant b) u o some = absurd (omega (arith, some))
bit_signal g names (Gate kind) u o some = refl
bit_signal g names (Read memory port) u o some = refl
bit_signal g names (WritePort memory port) u o some = absurd (omega (arith, some))

weightless : (d : Edge) → weight_under no_lags d ≡ pos 0 → d.weight ≡ 0
weightless d h = none d.weight (sym (weight_alone d) ∙ h)
  where
    none : (w : ℕ) → pos w ≡ pos 0 → w ≡ 0
    none w h = omega (arith, ints)

no_contents : (contents : List Bool) → length contents ≡ 0 → contents ≡ []
no_contents [] none = refl
no_contents (b ∷ bs) none = absurd (omega (arith, none))

module _ (g : Graph) (machine : IsMachine g) (keys : List RegisterKey) (names : Names) (net : Net)
    (drivers : HasDriversOf (circuit_with g keys names) net) (table : DelayTable) (d : Delays)
    (assigned : AreAssigned table g d)
  where
    -- ---- vertices

    by_kind : (u : ℕ) (x : Vertex) (kind : VertexKind) → slice_get g.vertices u ≡ Some x → x.kind ≡ kind
        → VertexCase table g.memories kind
    by_kind u x Host at is = other refl (λ some. refl)
    by_kind u x Input at is = other refl (λ some. absurd (omega (arith, some)))
    by_kind u x Output at is = other refl (λ some. refl)
    by_kind u x (Constant b) at is = other refl (λ some. absurd (omega (arith, some)))
    by_kind u x (Gate kind) at is = logic (omega arith) refl
    by_kind u x (Read memory port) at is =
        let kinds_at : slice_get (kinds g.vertices) u ≡ Some (Read memory port) =
        at_map (λ (y : Vertex). y.kind) g.vertices u x at ∙ ap (λ kind. Some kind) is in
        let found = within_has g.memories memory (machine.memories.there u (Read memory port) kinds_at) in
        let some = (machine.memories.each memory found.0 found.1).some_bits in
        logic (subst (λ o. 0 < word_bits o) (sym found.1) some) refl
    by_kind u x (WritePort memory port) at is = other refl (λ some. refl)

    case_of : (u : ℕ) (x : Vertex) → slice_get g.vertices u ≡ Some x → VertexCase table g.memories x.kind
    case_of u x at = by_kind u x x.kind at refl

    -- an edge leaves a vertex by one of its outputs
    output_among : (u e : ℕ) (x : Vertex) (c : Edge) → slice_get g.vertices u ≡ Some x
        → slice_get g.edges e ≡ Some c → c.from ≡ u → c.output < output_count g.memories x.kind
    output_among u e x c at found from =
        let has = machine.outputs e c found in
        let same = same_Some has.kind x.kind
        (sym has.found ∙ ap (slice_get (kinds g.vertices)) from
        ∙ at_map (λ (y : Vertex). y.kind) g.vertices u x at) in
        subst (λ kind. c.output < output_count g.memories kind) same has.among

    -- a path ends where there are no outputs
    path_ends : (w v : ℕ) (y : Vertex) (es : List ℕ) → slice_get g.vertices w ≡ Some y
        → output_count g.memories y.kind ≡ 0 → IsPath g w es v → edges_delay g d es ≡ 0
    path_ends w v y [] at none leads = refl
    path_ends w v y (e ∷ es) at none (c, found, from, rest) =
        let low = output_among w e y c at found from in absurd (omega (arith, low, none))

    has_pins : (w i : ℕ) (y : Vertex) (f : Feed) → slice_get g.vertices w ≡ Some y → slice_get y.pins i ≡ Some f
        → 0 < pin_count g.memories y.kind
    has_pins w i y f at pin =
        let within = slice_get_within y.pins i f pin in
        let count = machine.pins w y at in
        omega (arith, within, count)

    -- ---- links

    -- what the end of an edge without a register reads is the bit of the gate or Read that it leaves
    wire_signal : (u e : ℕ) (x : Vertex) (c : Edge) → slice_get g.vertices u ≡ Some x
        → slice_get g.edges e ≡ Some c → c.from ≡ u → c.weight ≡ 0 → 0 < logic_bits g.memories x.kind
        → pin_signal g names keys (Along e) ≡ Bit (logic_bit g names u + c.output)
    wire_signal u e x c at found from none some =
        let held = machine.well_formed.held e c found in
        let empty = no_contents c.contents (omega (arith, held, none)) in
        let key : RegisterKey = record { vertex = c.from; output = c.output; starts = c.contents } in
        ap (λ o. unwrap_or (option_map (edge_signal g names keys) o) Zero) found
        ∙ ap (λ starts. signal_behind g names keys starts key) empty
        ∙ ap (λ v. driver_signal g names v c.output) from
        ∙ ap (λ o. unwrap_or (option_map (λ (y : Vertex). output_signal g names y.kind u c.output) o) Zero) at
        ∙ bit_signal g names x.kind u c.output some

    -- links that go on from an output of a gate or a Read, whose pins have this delay in all
    record HasLinks (u : ℕ) (x : Vertex) (delay : ℕ) : Type 0 where
      output : ℕ
      among : output < logic_bits g.memories x.kind
      links : List Link
      goes_on : GoesOn net (logic_bit g names u + output) links
      is : links_delay table net links ≡ delay

    link_on : (u e : ℕ) (x : Vertex) (c : Edge) (y : Vertex) (delay : ℕ) → slice_get g.edges e ≡ Some c
        → c.output < logic_bits g.memories x.kind
        → slice_get g.vertices c.to ≡ Some y → slice_get y.pins c.pin ≡ Some (Along e)
        → pin_signal g names keys (Along e) ≡ Bit (logic_bit g names u + c.output)
        → HasLinks c.to y delay → HasLinks u x (edge_delay d (slice_get g.edges e) + delay)
    link_on u e x c y delay found low at pin signal rest =
        let among = rest.among in
        let driver : driver_of net (logic_bit g names c.to + rest.output)
        ≡ driver_by y.kind (pin_signals g names keys y) rest.output =
        vertex_drives g machine keys names net drivers c.to rest.output y at among in
        let pins = reads_pins g.memories y.kind (pin_signals g names keys y) rest.output
        (omega (arith, among)) in
        let reads = at_map (pin_signal g names keys) y.pins c.pin (Along e) pin ∙ ap (λ s. Some s) signal in
        let here : edge_delay d (slice_get g.edges e)
        ≡ input_delay table (driver_of net (logic_bit g names c.to + rest.output)) c.pin =
        ap (edge_delay d) found ∙ pin_delay_at table g d assigned c.to c.pin y at
        ∙ sym (ap (λ r. input_delay table r c.pin) driver
        ∙ input_delay_is table y.kind (pin_signals g names keys y) rest.output c.pin (length y.pins)
        (slice_get_within y.pins c.pin (Along e) pin)) in
        record {
          output = c.output;
          among = low;
          links = record { pin = c.pin; bit = logic_bit g names c.to + rest.output } ∷ rest.links;
          goes_on = (ap (λ signals. slice_get signals c.pin) (ap fanin driver ∙ pins) ∙ reads, rest.goes_on);
          is = ap₂ (λ m n. m + n) (sym here) rest.is;
        }

    links_end : (u e : ℕ) (x : Vertex) (c : Edge) (y : Vertex) (delay : ℕ) → slice_get g.edges e ≡ Some c
        → c.output < logic_bits g.memories x.kind → slice_get g.vertices c.to ≡ Some y
        → vertex_delay table y.kind ≡ 0 → delay ≡ 0
        → HasLinks u x (edge_delay d (slice_get g.edges e) + delay)
    links_end u e x c y delay found low at none nothing =
        let pin = pin_delay_within table g d assigned c.to c.pin y at in
        let vertex = vertex_delay_at table g d assigned c.to y at in
        let here = ap (edge_delay d) found in
        record {
          output = c.output;
          among = low;
          links = [];
          goes_on = tt;
          is = omega (arith, pin, vertex, here, none, nothing);
        }

    links_of_path : (es : List ℕ) (u v : ℕ) (x : Vertex) → slice_get g.vertices u ≡ Some x
        → 0 < logic_bits g.memories x.kind → output_count g.memories x.kind ≡ logic_bits g.memories x.kind
        → IsPath g u es v → HasNoRegister g no_lags es → HasLinks u x (edges_delay g d es)
    links_of_path [] u v x at some outs leads free = record {
      output = 0;
      among = some;
      links = [];
      goes_on = tt;
      is = refl;
    }
    links_of_path (e ∷ es) u v x at some outs (c, found, from, rest) free =
        let fed = machine.well_formed.fed.feeds e c found in
        by fed.0 fed.1 fed.2 (case_of c.to fed.0 fed.1)
        (λ more outputs. links_of_path es c.to v fed.0 fed.1 more outputs rest free.1)
      where
        low : c.output < logic_bits g.memories x.kind
        low = let among = output_among u e x c at found from in omega (arith, among, outs)

        by : (y : Vertex) → slice_get g.vertices c.to ≡ Some y → slice_get y.pins c.pin ≡ Some (Along e)
            → VertexCase table g.memories y.kind
            → (0 < logic_bits g.memories y.kind
            → output_count g.memories y.kind ≡ logic_bits g.memories y.kind
            → HasLinks c.to y (edges_delay g d es))
            → HasLinks u x (edges_delay g d (e ∷ es))
        by y there pin (logic more outputs) later =
            link_on u e x c y (edges_delay g d es) found low there pin
            (wire_signal u e x c at found from (weightless c (free.0 c found)) some) (later more outputs)
        by y there pin (other none ends) later =
            links_end u e x c y (edges_delay g d es) found low there none
            (path_ends c.to v y es there (ends (has_pins c.to c.pin y (Along e) there pin)) rest)

    -- ---- chains

    -- a delay that is 0, or at most that of a chain
    abbrev pub IsWithinChain : ℕ → Type 0
    IsWithinChain delay = (delay ≡ 0)
        ⊎ ((first : ℕ) × (links : List Link) × IsChain net first links
        × (delay ≤ chain_delay table net first links))

    chain_of_links : (u : ℕ) (x : Vertex) (delay : ℕ) → slice_get g.vertices u ≡ Some x → HasLinks u x delay
        → IsWithinChain (path_delay g d u [] + delay)
    chain_of_links u x delay at has =
        let among = has.among in
        let driver : driver_of net (logic_bit g names u + has.output)
        ≡ driver_by x.kind (pin_signals g names keys x) has.output =
        vertex_drives g machine keys names net drivers u has.output x at among in
        let own = vertex_delay_at table g d assigned u x at in
        let first = ap (driver_delay table) driver
        ∙ driver_delay_is table x.kind (pin_signals g names keys x) has.output in
        let all = has.is in
        let begins = ap is_combinational driver
        ∙ is_logic g.memories x.kind (pin_signals g names keys x) has.output (omega (arith, among)) in
        inr (
          logic_bit g names u + has.output,
          has.links,
          record { begins = begins; goes_on = has.goes_on },
          omega (arith, own, first, all),
        )

    -- a path without a register has a delay within that of a chain
    pub chain_of_path : (es : List ℕ) (u v : ℕ) (x : Vertex) → slice_get g.vertices u ≡ Some x → IsPath g u es v
        → HasNoRegister g no_lags es → IsWithinChain (path_delay g d u es)
    chain_of_path [] u v x at leads free = by (case_of u x at)
      where
        by : VertexCase table g.memories x.kind → IsWithinChain (path_delay g d u [])
        by (logic some outs) =
            let same : path_delay g d u [] + 0 ≡ path_delay g d u [] = omega arith in
            subst IsWithinChain same
            (chain_of_links u x 0 at (links_of_path [] u v x at some outs leads free))
        by (other none ends) =
            let own = vertex_delay_at table g d assigned u x at in inl (omega (arith, own, none))
    chain_of_path (e ∷ es) u v x at (c, found, from, rest) free =
        let fed = machine.well_formed.fed.feeds e c found in
        by fed.0 fed.1 (case_of u x at) (chain_of_path es c.to v fed.0 fed.1 rest free.1)
      where
        by : (y : Vertex) → slice_get g.vertices c.to ≡ Some y → VertexCase table g.memories x.kind
            → IsWithinChain (path_delay g d c.to es) → IsWithinChain (path_delay g d u (e ∷ es))
        by y there (logic some outs) later =
            let same : path_delay g d u [] + edges_delay g d (e ∷ es) ≡ path_delay g d u (e ∷ es) =
            omega arith in
            subst IsWithinChain same
            (chain_of_links u x (edges_delay g d (e ∷ es)) at
            (links_of_path (e ∷ es) u v x at some outs (c, found, from, rest) free))
        by y there (other none ends) later =
            let own = vertex_delay_at table g d assigned u x at in
            let pin = pin_delay_within table g d assigned c.to c.pin y there in
            let here = ap (edge_delay d) found in
            elim later [
              | inl nothing ↦ inl (omega (arith, own, none, pin, here, nothing))
              | inr (first, links, chain, few) ↦
                  inr (first, links, chain, omega (arith, own, none, pin, here, few))
            ]
