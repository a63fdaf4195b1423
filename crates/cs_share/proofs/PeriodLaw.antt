-- The period of the netlist that is read back from a machine's document is the period of the machine.
use Rattle.std.proofs.Common.{◌≡◌, ◌∙◌, ℕ, ◌<◌, ◌≤◌, ◌⊎◌, List, [], length, None, inl, inr, refl, sym, ap, subst, arith}
use Rattle.std.specs.Prelude.{◌↔◌}
use Rattle.std.proofs.lemmas.Option.{same_Some, slice_get_within}
use Rattle.cs_circuit.specs.declared.circuit.Circuit.{Circuit}
use Rattle.cs_circuit.specs.Documents.{IsCircuitDocument, circuit_module}
use Rattle.cs_circuit.specs.WellFormed.{IsCircuit}
use Rattle.cs_circuit.proofs.Documents.{fine_document}
use Rattle.cs_circuit.proofs.NetBits.{driver_is, driver_kind}
use Rattle.cs_delay.specs.Assigned.{AreAssigned, vertex_delay}
use Rattle.cs_delay.specs.declared.table.DelayTable.{DelayTable}
use Rattle.cs_graph.specs.declared.delays.Delays.{Delays}
use Rattle.cs_graph.specs.declared.graph.Graph.{Graph}
use Rattle.cs_graph.specs.declared.vertex.Vertex.{Vertex}
use Rattle.cs_graph.specs.declared.vertex.VertexKind.TheVariants.{Host}
use Rattle.cs_graph.specs.Invariant.{IsMachine}
use Rattle.cs_graph.specs.Order.{no_lags}
use Rattle.cs_graph.specs.Period.{HasNoRegister, HasPathOf, IsPath, IsPeriod, path_delay}
use Rattle.cs_json.specs.declared.document.Document.{Document}
use Rattle.cs_net.specs.Accept.{IsNetOfTop}
use Rattle.cs_net.specs.Build.{net_of}
use Rattle.cs_net.specs.Netlist.{Net}
use Rattle.cs_net.proofs.Members.{within_has}
use Rattle.cs_net.proofs.MemoryPlaces.{map_at}
use Rattle.cs_prefix.specs.Prefixes.{RegisterKey}
use Rattle.cs_share.specs.declared.types.Names.{Names}
use Rattle.cs_share.specs.Emission.{IsEmission, clocked_names, shared_circuit}
use Rattle.cs_share.specs.Names.{AreNamesFor}
use Rattle.cs_share.specs.Period.{HasChainOf, IsChain, IsNetPeriod, Link, chain_delay}
use Rattle.cs_share.specs.Registers.{AreRegisters}
use Rattle.cs_share.specs.Shared.{circuit_with}
use Rattle.cs_share.proofs.CircuitShared.{names_fit}
use Rattle.cs_share.proofs.CircuitSignals.{AreCircuitNames}
use Rattle.cs_share.proofs.CircuitWhole.{shared_is_circuit}
use Rattle.cs_share.proofs.PeriodChains.{IsWithinChain, chain_of_path}
use Rattle.cs_share.proofs.PeriodDelays.{vertex_delay_at}
use Rattle.cs_share.proofs.PeriodDrivers.{HasDriversOf}
use Rattle.cs_share.proofs.PeriodPaths.{chain_path}

-- ---- over what drives the bits

module _ (g : Graph) (machine : IsMachine g) (keys : List RegisterKey) (are : AreRegisters g keys) (names : Names)
    (fit : AreCircuitNames g keys names) (net : Net) (drivers : HasDriversOf (circuit_with g keys names) net)
    (table : DelayTable) (d : Delays) (assigned : AreAssigned table g d) (period : ℕ)
  where
    path_of : (first : ℕ) (links : List Link) → IsChain net first links
        → HasPathOf g d no_lags (chain_delay table net first links)
    path_of first links chain =
        chain_path g machine keys are names fit net drivers table d assigned first links chain

    chain_of : (u v : ℕ) (es : List ℕ) → u < length g.vertices → IsPath g u es v → HasNoRegister g no_lags es
        → IsWithinChain g machine keys names net drivers table d assigned (path_delay g d u es)
    chain_of u v es among leads free =
        let x = within_has g.vertices u among in
        chain_of_path g machine keys names net drivers table d assigned es u v x.0 x.1 leads free

    -- the Host alone is a path of delay 0
    host_path : HasPathOf g d no_lags 0
    host_path =
        let host = map_at (λ (x : Vertex). x.kind) g.vertices 0 Host machine.host.first in
        let own = vertex_delay_at table g d assigned 0 host.0 host.1
        ∙ ap (vertex_delay table) host.2 in
        record {
          first = 0;
          last = 0;
          edges = [];
          among = slice_get_within g.vertices 0 host.0 host.1;
          leads = refl;
          no_register = tt;
          is = omega (arith, own);
        }

    to_machine : IsNetPeriod table net period → IsPeriod g d no_lags period
    to_machine is = record {
      within = λ u v es among leads free. elim (chain_of u v es among leads free) [
        | inl nothing ↦ omega (arith, nothing)
        | inr (first, links, chain, few) ↦
            let within = is.within first links chain in omega (arith, few, within)
      ];
      reached = elim is.reached [
        | inl nothing ↦ inr (subst (HasPathOf g d no_lags) (sym nothing) host_path)
        | inr chain ↦ inr (subst (HasPathOf g d no_lags) chain.is (path_of chain.first chain.links chain.chain))
      ];
    }

    chain_within : IsPeriod g d no_lags period → (first : ℕ) (links : List Link) → IsChain net first links
        → chain_delay table net first links ≤ period
    chain_within is first links chain =
        let path = path_of first links chain in
        let within = is.within path.first path.last path.edges path.among path.leads path.no_register in
        let same = path.is in
        omega (arith, within, same)

    of_path : IsPeriod g d no_lags period → (path : HasPathOf g d no_lags period)
        → IsWithinChain g machine keys names net drivers table d assigned
        (path_delay g d path.first path.edges)
        → (period ≡ 0) ⊎ HasChainOf table net period
    of_path is path (inl nothing) = let same = path.is in inl (omega (arith, nothing, same))
    of_path is path (inr (first, links, chain, few)) =
        let same = path.is in
        let within = chain_within is first links chain in
        inr (record { first = first; links = links; chain = chain; is = omega (arith, same, few, within) })

    to_net : IsPeriod g d no_lags period → IsNetPeriod table net period
    to_net is = record {
      within = chain_within is;
      reached = elim is.reached [
        | inl (empty, nothing) ↦ inl nothing
        | inr path ↦
            of_path is path (chain_of path.first path.last path.edges path.among path.leads path.no_register)
      ];
    }

    period_by_drivers : IsNetPeriod table net period ↔ IsPeriod g d no_lags period
    period_by_drivers = (to_machine, to_net)

-- ---- over the document

-- in the netlist of a circuit's document bits are driven as in the circuit
drivers_of_document : (k : Circuit) → IsCircuit k → (doc : Document) → IsCircuitDocument k doc → (net : Net)
    → IsNetOfTop doc None net → HasDriversOf k net
drivers_of_document k is doc made net of_top =
    let fine = fine_document k is doc made in
    let same = same_Some of_top.«module» (circuit_module k made.cells made.nets)
    (sym of_top.is_top ∙ fine.is_top) in
    let all : HasDriversOf k (net_of (circuit_module k made.cells made.nets)) = record {
      each = driver_is k is made.cells made.nets made.of_cells fine.clock;
      only = driver_kind k is made.cells made.nets made.of_cells fine.clock;
    } in
    subst (HasDriversOf k) (sym (of_top.is ∙ ap net_of same)) all

-- the netlist that is read from the emission of a machine has the machine's period
pub written_period : (g : Graph) → IsMachine g → (names : Names) → AreNamesFor g names → (doc : Document)
    → IsEmission g names doc → (net : Net) → IsNetOfTop doc None net → (table : DelayTable) (d : Delays)
    → AreAssigned table g d → (period : ℕ) → IsNetPeriod table net period ↔ IsPeriod g d no_lags period
written_period g machine names fit doc e net of_top table d assigned period =
    period_by_drivers g machine e.keys e.registers (clocked_names e.keys names)
    (names_fit g e.keys names fit) net
    (drivers_of_document (shared_circuit g e.keys names)
    (shared_is_circuit g e.keys names machine e.registers fit) doc e.of_circuit net of_top)
    table d assigned period
