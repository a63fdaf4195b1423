use Rattle.std.proofs.Common.{◌≡◌, drop}
use Rattle.cs_stream.specs.Mixing.{counts_of, uneven_from, first_uneven}
use Rattle.cs_stream.proofs.mixing.uneven.Given as goal

-- the streams before k are even
abbrev pub invariant-loop-k : goal.invariant-loop-k
invariant-loop-k l =
    uneven_from l.total l.contexts l.k (drop l.k (counts_of l.streams)) ≡ first_uneven (counts_of l.streams)
