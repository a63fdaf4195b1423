-- A machine in which every register is several: the c-slow circuit of Leiserson and Saxe, with starts.
use Rattle.std.specs.Prelude.{ℕ, ◌*◌, List, map, replicate, flat_map, Bool}
use Rattle.cs_graph.specs.declared.contents.Contents.{Contents}
use Rattle.cs_graph.specs.declared.edge.Edge.{Edge}
use Rattle.cs_graph.specs.declared.graph.Graph.{Graph}

-- each content c times
abbrev pub repeated : ℕ → List Bool → List Bool
repeated c contents = flat_map (λ b. replicate c b) contents

-- c times the registers, each content c times
abbrev pub slow_edge : ℕ → Edge → Edge
slow_edge c d = record d { weight = d.weight * c; contents = repeated c d.contents }

-- every edge so
abbrev pub slow : ℕ → Graph → Graph
slow c g = record g { edges = map (slow_edge c) g.edges }

-- what its edges hold
abbrev pub slow_contents : ℕ → Graph → Contents
slow_contents c g = record { of = map (λ d. repeated c d.contents) g.edges }
