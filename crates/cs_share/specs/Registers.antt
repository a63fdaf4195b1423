-- The registers of a written netlist: edges of one driver whose contents begin alike share the registers of what is alike.
use Rattle.std.specs.Prelude.{List, map, Bool}
use Rattle.cs_graph.specs.declared.edge.Edge.{Edge}
use Rattle.cs_graph.specs.declared.graph.Graph.{Graph}
use Rattle.cs_prefix.specs.declared.plan.DriverId.{DriverId}
use Rattle.cs_prefix.specs.Prefixes.{AreKeys, RegisterKey}

abbrev pub driver_of_edge : Edge → DriverId
driver_of_edge e = record { vertex = e.from; output = e.output }

-- the drivers of the edges, in order
abbrev pub edge_drivers : Graph → List DriverId
edge_drivers g = map driver_of_edge g.edges

-- the contents of the edges, in order
abbrev pub edge_contents : Graph → List (List Bool)
edge_contents g = map (λ (e : Edge). e.contents) g.edges

-- these are the registers, in order
abbrev pub AreRegisters : Graph → List RegisterKey → Type 0
AreRegisters g keys = AreKeys (edge_drivers g) (edge_contents g) keys
