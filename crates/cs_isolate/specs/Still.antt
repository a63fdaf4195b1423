-- A machine in which no register moves.
use Rattle.std.specs.Prelude.{List, ℤ, pos, length, map, replicate}
use Rattle.cs_graph.specs.declared.contents.Contents.{Contents}
use Rattle.cs_graph.specs.declared.edge.Edge.{Edge}
use Rattle.cs_graph.specs.declared.graph.Graph.{Graph}

-- the lag 0 for each vertex
abbrev pub still_lags : Graph → List ℤ
still_lags g = replicate (length g.vertices) (pos 0)

-- what the edges hold
abbrev pub own_contents : Graph → Contents
own_contents g = record { of = map (λ (d : Edge). d.contents) g.edges }
