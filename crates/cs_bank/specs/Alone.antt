-- What a banked graph answers to each context.
use Rattle.std.specs.Prelude.{◌<◌, ℕ, true, false, List, Option}
use Rattle.cs_base.specs.Parts.{part}
use Rattle.cs_graph.specs.declared.graph.Graph.{Graph}
use Rattle.cs_graph.specs.Run.{Row, RunsWith}
use Rattle.cs_net.specs.Contexts.{Image}
use Rattle.cs_bank.specs.Starts.{of_context}

-- to the rows of context k, just what the graph answers to these rows alone, where its memories start as those of
-- context k and drop writes from `size` on
abbrev pub AnswersEachAlone : ℕ → List (Option (List Image)) → Graph → Graph → Type 0
AnswersEachAlone c entries g banked = (k : ℕ) (rows outputs : List Row) → k < c → RunsWith false banked rows outputs
    → RunsWith true (of_context k entries g) (part k c rows) (part k c outputs)
