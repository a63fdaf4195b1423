-- The names of a netlist, and when they fit a machine.
use Rattle.std.specs.Prelude.{◌≡◌, ℕ, List, length, Bool, true, false, is_some}
use Rattle.std.specs.List.{count_by}
use Rattle.cs_graph.specs.declared.graph.Graph.{Graph}
use Rattle.cs_graph.specs.declared.vertex.Vertex.{Vertex}
use Rattle.cs_graph.specs.declared.vertex.VertexKind.{VertexKind}
use Rattle.cs_graph.specs.declared.vertex.VertexKind.TheVariants.{Output}
use Rattle.cs_graph.specs.Kinds.{is_input}
use Rattle.cs_net.specs.Drivers.{data_inputs, data_outputs}
use Rattle.cs_net.specs.Invariant.{IsWellFormed}
use Rattle.cs_net.specs.Netlist.{Net}
use Rattle.cs_share.specs.declared.types.Names.{Names}
use Rattle.cs_share.specs.Shared.{has_write}

-- the names of a netlist, with these origins
abbrev pub names_of : Net → List (List ℕ) → Names
names_of net origins = record {
  «module» = net.name;
  ports = net.ports;
  clock = net.clock;
  origins = origins;
}

abbrev pub is_output : VertexKind → Bool
is_output Output = true
is_output _ = false

-- they are those of a netlist with as many data inputs and outputs as the machine, and with a clock where that has a Write
pub record AreNamesFor (g : Graph) (names : Names) : Type 0 where
  pub net : Net
  pub well_formed : IsWellFormed net
  pub of_net : names ≡ names_of net names.origins
  pub inputs : length (data_inputs net) ≡ count_by (λ (x : Vertex). is_input x.kind) g.vertices
  pub outputs : length (data_outputs net) ≡ count_by (λ (x : Vertex). is_output x.kind) g.vertices
  pub clock : has_write g ≡ true → is_some names.clock ≡ true
