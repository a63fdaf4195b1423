-- A graph that answers as a netlist does.
use Rattle.std.specs.Prelude.{true, List, ◌↔◌}
use Rattle.cs_graph.specs.declared.graph.Graph.{Graph}
use Rattle.cs_graph.specs.Run.{RunsWith}
use Rattle.cs_net.specs.Drivers.{own_start}
use Rattle.cs_net.specs.Netlist.{Net, state_of}
use Rattle.cs_net.specs.Trace.{Answers, Row}

-- from its own start the netlist answers rows with an answer exactly where the bounded run of the graph over the rows
-- has that for its outputs
abbrev pub AnswersAlike : Net → Graph → Type 0
AnswersAlike net g =
    (rows answer : List Row) → Answers net (state_of (own_start net)) rows answer ↔ RunsWith true g rows answer
