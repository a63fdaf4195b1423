-- A chain of a written netlist is a path of the machine without a register, of the same delay.
use Rattle.std.proofs.Common.{◌≡◌, ◌∙◌, ℕ, ◌+◌, List, [], ◌∷◌, length, Bool, true, false, Some, refl, sym, ap, ap₂, subst, arith}
use Rattle.std.specs.Prelude.{option_map, pos, slice_get, unwrap_or}
use Rattle.std.proofs.lemmas.Option.{same_Some, slice_get_within}
use Rattle.cs_base.specs.declared.signal.Signal.TheVariants.{Zero, Bit}
use Rattle.cs_delay.specs.Assigned.{AreAssigned}
use Rattle.cs_delay.specs.declared.table.DelayTable.{DelayTable}
use Rattle.cs_graph.specs.declared.delays.Delays.{Delays}
use Rattle.cs_graph.specs.declared.edge.Edge.{Edge}
use Rattle.cs_graph.specs.declared.graph.Graph.{Graph}
use Rattle.cs_graph.specs.declared.vertex.Feed.{Feed}
use Rattle.cs_graph.specs.declared.vertex.Feed.TheVariants.{Tied, Edge as Along}
use Rattle.cs_graph.specs.declared.vertex.Vertex.{Vertex}
use Rattle.cs_graph.specs.Invariant.{IsMachine}
use Rattle.cs_graph.specs.Lags.{weight_under}
use Rattle.cs_graph.specs.Order.{no_lags}
use Rattle.cs_graph.specs.Period.{HasNoRegister, HasPathOf, IsPath, edge_delay, edges_delay, pin_delay}
use Rattle.cs_graph.proofs.LagLemmas.{weight_alone}
use Rattle.cs_net.specs.Drivers.{driver_of, fanin}
use Rattle.cs_net.specs.Netlist.{Net}
use Rattle.cs_net.proofs.Members.{within_has}
use Rattle.cs_net.proofs.MemoryPlaces.{map_at}
use Rattle.cs_prefix.specs.Prefixes.{RegisterKey}
use Rattle.cs_share.specs.declared.types.Names.{Names}
use Rattle.cs_share.specs.Period.{GoesOn, IsChain, Link, chain_delay, driver_delay, input_delay, links_delay}
use Rattle.cs_share.specs.Registers.{AreRegisters}
use Rattle.cs_share.specs.Shared.{circuit_with, constant, edge_signal, logic_bit, logic_bits, pin_signal, pin_signals, signal_behind}
use Rattle.cs_share.proofs.CircuitBlocks.{one_part, part_within}
use Rattle.cs_share.proofs.CircuitSignals.{AreCircuitNames, DriverOrigin, driver_origin, of_constant, of_input, of_logic}
use Rattle.cs_share.proofs.PeriodDelays.{driver_delay_is, input_delay_is, pin_delay_at, reads_pins, vertex_delay_at}
use Rattle.cs_share.proofs.PeriodDrivers.{HasDriversOf, IsBitOf, bit_of, bit_of_reader, driver_by, vertex_drives}

-- an edge without a register leads from vertex w to pin i of vertex u
pub record IsWire (g : Graph) (w u i : ℕ) : Type 0 where
  pub e : ℕ
  pub edge : Edge
  pub found : slice_get g.edges e ≡ Some edge
  pub none : edge.weight ≡ 0
  pub from : edge.from ≡ w
  pub to : edge.to ≡ u
  pub pin : edge.pin ≡ i

-- a path without a register from vertex u, whose pins have this delay in all
record HasPathFrom (g : Graph) (d : Delays) (u delay : ℕ) : Type 0 where
  edges : List ℕ
  last : ℕ
  leads : IsPath g u edges last
  free : HasNoRegister g no_lags edges
  is : edges_delay g d edges ≡ delay

no_bit : (b : Bool) (a : ℕ) → constant b ≡ Bit a → ⊥
no_bit true a h = cc
no_bit false a h = cc

number_is : (a b : ℕ) → Bit a ≡ Bit b → a ≡ b
number_is a b h = cc

module _ (g : Graph) (machine : IsMachine g) (keys : List RegisterKey) (are : AreRegisters g keys) (names : Names)
    (fit : AreCircuitNames g keys names)
  where
    -- ---- edges

    from_driver : (w a : ℕ) (bit : IsBitOf g names a) → DriverOrigin g names w (Bit a) → w ≡ bit.place
    from_driver w a bit (of_constant b is) = absurd (no_bit b a (sym is))
    from_driver w a bit (of_input number is low high apart) =
        let same = number_is a number is in
        let own = bit.is in
        absurd (omega (arith, same, own, high))
    from_driver w a bit (of_logic y o at low is) =
        let same = number_is a (logic_bit g names w + o) is in
        let own = bit.is in
        one_part (λ (z : Vertex). logic_bits g.memories z.kind) g.vertices w bit.place o bit.output y bit.vertex
        at bit.at low bit.among (omega (arith, same, own))

    -- a pin that reads a bit of a gate or a Read is fed by it without a register
    edge_wire : (e a : ℕ) (d : Edge) (bit : IsBitOf g names a) → slice_get g.edges e ≡ Some d
        → edge_signal g names keys d ≡ Bit a → IsWire g bit.place d.to d.pin
    edge_wire e a d bit found reads = by d.contents refl reads
      where
        key : RegisterKey
        key = record { vertex = d.from; output = d.output; starts = d.contents }

        by : (starts : List Bool) → d.contents ≡ starts → signal_behind g names keys starts key ≡ Bit a
            → IsWire g bit.place d.to d.pin
        by [] is signal =
            let held = machine.well_formed.held e d found in
            let none = ap length is in
            record {
              e = e;
              edge = d;
              found = found;
              none = omega (arith, held, none);
              from = from_driver d.from a bit
                  (subst (DriverOrigin g names d.from) signal
                  (driver_origin g machine keys are names fit d.from d.output (machine.outputs e d found)));
              to = refl;
              pin = refl;
            }
        by (b ∷ bs) is signal =
            let within = part_within (λ (z : Vertex). logic_bits g.memories z.kind) g.vertices bit.place
            bit.vertex bit.at in
            let low = bit.among in
            let own = bit.is in
            let same = number_is _ a signal in
            absurd (omega (arith, within, low, own, same))

    pub pin_wire : (u i a : ℕ) (x : Vertex) (f : Feed) (bit : IsBitOf g names a) → slice_get g.vertices u ≡ Some x
        → slice_get x.pins i ≡ Some f → pin_signal g names keys f ≡ Bit a → IsWire g bit.place u i
    pin_wire u i a x (Tied b) bit at pin reads = absurd (no_bit b a reads)
    pin_wire u i a x (Along e) bit at pin reads =
        let has = within_has g.edges e (machine.well_formed.fed.named u i e x at pin) in
        let to = machine.well_formed.fed.to u i e x has.0 at pin has.1 in
        let ends = machine.well_formed.fed.pin u i e x has.0 at pin has.1 in
        let signal = sym (ap (λ o. unwrap_or (option_map (edge_signal g names keys) o) Zero) has.1) ∙ reads in
        subst (λ n. IsWire g bit.place n i) to
        (subst (IsWire g bit.place has.0.to) ends (edge_wire e a has.0 bit has.1 signal))

    module _ (net : Net) (drivers : HasDriversOf (circuit_with g keys names) net) (table : DelayTable) (d : Delays)
        (assigned : AreAssigned table g d)
      where
        -- ---- paths

        path_of_links : (links : List Link) (before : ℕ) (bit : IsBitOf g names before)
            → GoesOn net before links → HasPathFrom g d bit.place (links_delay table net links)
        path_of_links [] before bit goes_on = record {
          edges = [];
          last = bit.place;
          leads = refl;
          free = tt;
          is = refl;
        }
        path_of_links (l ∷ links) before bit goes_on =
            let next = bit_of_reader g machine keys names net drivers l.bit l.pin (Bit before) goes_on.0 in
            let x = next.vertex in
            let among = next.among in
            let driver : driver_of net l.bit ≡ driver_by x.kind (pin_signals g names keys x) next.output =
            ap (driver_of net) next.is
            ∙ vertex_drives g machine keys names net drivers next.place next.output x next.at among in
            let pins = reads_pins g.memories x.kind (pin_signals g names keys x) next.output
            (omega (arith, among)) in
            let reads = sym (ap fanin driver ∙ pins) in
            let pin = map_at (pin_signal g names keys) x.pins l.pin (Bit before)
            (ap (λ signals. slice_get signals l.pin) reads ∙ goes_on.0) in
            let wire = pin_wire next.place l.pin before x pin.0 bit next.at pin.1 pin.2 in
            let rest = path_of_links links l.bit next goes_on.1 in
            let here : edge_delay d (slice_get g.edges wire.e) ≡ input_delay table (driver_of net l.bit) l.pin =
            ap (edge_delay d) wire.found ∙ ap₂ (λ v i. pin_delay d v i) wire.to wire.pin
            ∙ pin_delay_at table g d assigned next.place l.pin x next.at
            ∙ sym (ap (λ e. input_delay table e l.pin) driver
            ∙ input_delay_is table x.kind (pin_signals g names keys x) next.output l.pin (length x.pins)
            (slice_get_within x.pins l.pin pin.0 pin.1)) in
            let free = weight_alone wire.edge ∙ ap pos wire.none in
            record {
              edges = wire.e ∷ rest.edges;
              last = rest.last;
              leads = (
                wire.edge,
                wire.found,
                wire.from,
                subst (λ v. IsPath g v rest.edges rest.last) (sym wire.to) rest.leads,
              );
              free = (
                λ c there. subst (λ (y : Edge). weight_under no_lags y ≡ pos 0)
                    (same_Some wire.edge c (sym wire.found ∙ there)) free,
                rest.free,
              );
              is = ap₂ (λ m n. m + n) here rest.is;
            }

        -- a chain is a path of the same delay
        pub chain_path : (first : ℕ) (links : List Link) → IsChain net first links
            → HasPathOf g d no_lags (chain_delay table net first links)
        chain_path first links chain =
            let bit = bit_of g machine keys names net drivers first chain.begins in
            let x = bit.vertex in
            let path = path_of_links links first bit chain.goes_on in
            let driver : driver_of net first ≡ driver_by x.kind (pin_signals g names keys x) bit.output =
            ap (driver_of net) bit.is
            ∙ vertex_drives g machine keys names net drivers bit.place bit.output x bit.at bit.among in
            let own = vertex_delay_at table g d assigned bit.place x bit.at
            ∙ sym (ap (driver_delay table) driver
            ∙ driver_delay_is table x.kind (pin_signals g names keys x) bit.output) in
            record {
              first = bit.place;
              last = path.last;
              edges = path.edges;
              among = slice_get_within g.vertices bit.place x bit.at;
              leads = path.leads;
              no_register = path.free;
              is = ap₂ (λ m n. m + n) own path.is;
            }
