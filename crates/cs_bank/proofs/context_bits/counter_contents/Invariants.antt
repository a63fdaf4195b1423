-- The contents of the clocks so far.
use Rattle.std.proofs.Common.{◌≡◌, map}
use Rattle.std.specs.List.{range_with_len}
use Rattle.cs_graph.specs.Past.{context_of}
use Rattle.cs_bank.specs.ContextBits.{digit}
use Rattle.cs_bank.proofs.context_bits.counter_contents.Given as goal

abbrev pub invariant-loop-clock : goal.invariant-loop-clock
invariant-loop-clock l = l.contents ≡ map (λ i. digit l.j (context_of l.fn.contexts i)) (range_with_len 0 l.clock)
