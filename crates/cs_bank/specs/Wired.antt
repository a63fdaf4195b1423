-- A graph whose pins hold their source, so that vertices can be added without numbering edges anew.
use Rattle.std.specs.Prelude.{false, Option, Some, None, List, map, slice_get}
use Rattle.cs_graph.specs.declared.edge.Edge.{Edge}
use Rattle.cs_graph.specs.declared.graph.Graph.{Graph}
use Rattle.cs_graph.specs.declared.source.OpenVertex.{OpenVertex}
use Rattle.cs_graph.specs.declared.source.Source.{Source}
use Rattle.cs_graph.specs.declared.source.Source.TheVariants.{Driven, Tied as TiedTo}
use Rattle.cs_graph.specs.declared.vertex.Feed.{Feed}
use Rattle.cs_graph.specs.declared.vertex.Feed.TheVariants.{Edge as Along, Tied}
use Rattle.cs_graph.specs.declared.vertex.Vertex.{Vertex}
use Rattle.cs_graph.specs.Draft.{Draft}

-- where an edge comes from, and its contents
abbrev pub edge_source : Option Edge → Option Source
edge_source None = Some (TiedTo false)
edge_source (Some d) = Some (Driven (record { from = d.from; output = d.output; contents = d.contents }))

-- the source of a pin
abbrev pub feed_source : List Edge → Feed → Option Source
feed_source edges (Tied b) = Some (TiedTo b)
feed_source edges (Along e) = edge_source (slice_get edges e)

-- a vertex whose pins hold their source
abbrev pub wired_vertex : List Edge → Vertex → OpenVertex
wired_vertex edges x = record { kind = x.kind; pins = map (feed_source edges) x.pins }

-- the graph with the source of each pin in place of edges
abbrev pub wired : Graph → Draft
wired g = record { vertices = map (wired_vertex g.edges) g.vertices; memories = g.memories }
