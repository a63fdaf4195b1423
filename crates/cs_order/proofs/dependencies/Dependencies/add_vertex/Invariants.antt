-- The vertex has the sources so far.
use Rattle.std.proofs.Common.{◌≡◌, ◌++◌, [], ◌∷◌, take}
use Rattle.cs_order.proofs.dependencies.Dependencies.add_vertex.Given as goal

abbrev pub invariant-loop-source : goal.invariant-loop-source
invariant-loop-source l = l.self ≡ l.fn.self ++ take l.source-index l.sources ∷ []
