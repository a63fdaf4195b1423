use Rattle.std.proofs.Common.{◌≡◌, ◌++◌, drop, map}
use Rattle.cs_prefix.specs.Runs.{edge_of}
use Rattle.cs_prefix.proofs.runs.edges_of.Given as goal

abbrev pub invariant-loop-code : goal.invariant-loop-code
invariant-loop-code l = l.edges ++ map edge_of (drop l.code-index l.codes) ≡ map edge_of l.codes
