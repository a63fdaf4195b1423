-- Contexts that can't see each other.
use Rattle.std.specs.Prelude.{ℕ, ◌<◌, true, false, List}
use Rattle.cs_base.specs.Parts.{part}
use Rattle.cs_graph.specs.declared.graph.Graph.{Graph}
use Rattle.cs_graph.specs.Run.{RunsWith}
use Rattle.cs_lower.specs.Lowered.{lowered}
use Rattle.cs_net.specs.declared.images.Images.{Images}
use Rattle.cs_net.specs.Contexts.{of_context, start_of}
use Rattle.cs_net.specs.Netlist.{Net}
use Rattle.cs_net.specs.Trace.{Answers, Row}

-- to these rows of all contexts, context k is answered just what the netlist answers to its own rows alone, from its
-- own start, and what the bounded run of the graph of the netlist with that start answers to them
pub record AnswersAlone (net : Net) (images : Images) (c k : ℕ) (rows outputs : List Row) : Type 0 where
  pub netlist : Answers net (start_of net images k) (part k c rows) (part k c outputs)
  pub graph : RunsWith true (lowered (of_context net images k)) (part k c rows) (part k c outputs)

-- a graph fed the rows of c contexts in turn answers each of them alone
abbrev pub IsolatesContexts : Net → Images → ℕ → Graph → Type 0
IsolatesContexts net images c g = (k : ℕ) (rows outputs : List Row) → k < c → RunsWith false g rows outputs
    → AnswersAlone net images c k rows outputs
