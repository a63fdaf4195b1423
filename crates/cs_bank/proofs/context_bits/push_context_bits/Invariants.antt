-- The context bits so far come after the vertices that were there.
use Rattle.std.proofs.Common.{◌≡◌, ◌+◌, ◌++◌, map}
use Rattle.std.specs.List.{range_with_len}
use Rattle.cs_bank.specs.ContextBits.{context_bit}
use Rattle.cs_bank.proofs.context_bits.push_context_bits.Given as goal

abbrev pub invariant-loop-j : goal.invariant-loop-j
invariant-loop-j l =
    l.vertices.items
    ≡ l.initial.vertices.items ++ map (λ j. context_bit l.contexts (l.first + j) j) (range_with_len 0 l.j)
