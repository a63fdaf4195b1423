-- What a simulator shows.
use Rattle.cs_net.specs.declared.state.Snapshot.{Snapshot}
use Rattle.cs_net.specs.Netlist.{Net}

-- a netlist, and the state that it is in
pub record Simulation : Type 0 where
  pub net : Net
  pub state : Snapshot
