-- What is read back from the document of a machine.
use Rattle.std.specs.Prelude.{◌≡◌, ◌↔◌, ℕ, List, false, None}
use Rattle.cs_delay.specs.Assigned.{AreAssigned}
use Rattle.cs_delay.specs.declared.table.DelayTable.{DelayTable}
use Rattle.cs_graph.specs.declared.delays.Delays.{Delays}
use Rattle.cs_graph.specs.declared.graph.Graph.{Graph}
use Rattle.cs_graph.specs.Order.{no_lags}
use Rattle.cs_graph.specs.Period.{IsPeriod}
use Rattle.cs_graph.specs.Run.{Row, RunsWith}
use Rattle.cs_json.specs.declared.document.Document.{Document}
use Rattle.cs_json.specs.Readable.{IsReadable}
use Rattle.cs_circuit.specs.ReadBack.{start_of}
use Rattle.cs_net.specs.Accept.{IsNetOfTop}
use Rattle.cs_net.specs.Invariant.{HasBitOrder}
use Rattle.cs_net.specs.Isolates.{data_ports}
use Rattle.cs_net.specs.Netlist.{Net}
use Rattle.cs_net.specs.Trace.{Answers}
use Rattle.cs_share.specs.declared.types.Names.{Names}
use Rattle.cs_share.specs.Period.{IsNetPeriod}

-- a document is read from its printed text, and has a netlist; this has the data ports of every netlist with these
-- names, its bits have an order, from its start it answers just what the machine's run answers, and by each delay
-- table its period is the machine's
pub record IsReadBack (g : Graph) (names : Names) (doc : Document) : Type 0 where
  pub readable : IsReadable doc
  pub net : Net
  pub of_document : IsNetOfTop doc None net
  pub order : HasBitOrder net
  pub ports : (read : Net) → read.ports ≡ names.ports → read.clock ≡ names.clock → data_ports net ≡ data_ports read
  pub answers : (rows outputs : List Row) → Answers net (start_of net) rows outputs ↔ RunsWith false g rows outputs
  pub period : (table : DelayTable) (delays : Delays) → AreAssigned table g delays → (c : ℕ)
      → IsNetPeriod table net c ↔ IsPeriod g delays no_lags c
