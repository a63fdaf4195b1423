-- What a machine for several contexts answers to one of them.
use Rattle.std.specs.Prelude.{◌≡◌, ◌<◌, ℕ, Bool, List, []}
use Rattle.cs_base.specs.Parts.{part}
use Rattle.cs_graph.specs.declared.graph.Graph.{Graph}
use Rattle.cs_graph.specs.Run.{Row, RunsWith}

-- without memories: to the rows of each of c contexts, just what the machine answers to these rows alone
abbrev pub AnswersEachAlone : ℕ → Graph → Graph → Type 0
AnswersEachAlone c g slowed = (bounded : Bool) (k : ℕ) (rows outputs : List Row) → g.memories ≡ [] → k < c
    → RunsWith bounded slowed rows outputs → RunsWith bounded g (part k c rows) (part k c outputs)
