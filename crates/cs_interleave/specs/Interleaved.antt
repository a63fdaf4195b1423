-- `Graph(N, C)`: the graph of a netlist for several contexts.
use Rattle.std.specs.Prelude.{ℕ}
use Rattle.cs_bank.specs.Bank.{bank}
use Rattle.cs_graph.specs.declared.graph.Graph.{Graph}
use Rattle.cs_graph.specs.Slow.{slow}
use Rattle.cs_lower.specs.Lowered.{lowered}
use Rattle.cs_net.specs.declared.images.Images.{Images}
use Rattle.cs_net.specs.Netlist.{Net}

-- the graph of a netlist, slowed and banked for c contexts
abbrev pub interleaved : Net → Images → ℕ → Graph
interleaved net images c = bank c images.of (slow c (lowered net))
