-- The vertices so far.
use Rattle.std.proofs.Common.{◌≡◌, ◌++◌, length, map, take}
use Rattle.cs_bank.specs.Bank.{banked_vertex, first_guard}
use Rattle.cs_bank.specs.ContextBits.{context_pins}
use Rattle.cs_bank.specs.Wired.{wired, wired_vertex}
use Rattle.cs_bank.proofs.vertices.push_old_vertices.Given as goal

abbrev pub invariant-loop-v : goal.invariant-loop-v
invariant-loop-v l =
    l.vertices.items
    ≡ l.initial.vertices.items
    ++ map (λ x. banked_vertex (context_pins l.contexts (length l.machine.vertices))
    (first_guard l.contexts (wired l.machine)) (wired l.machine) (wired_vertex l.machine.edges x))
    (take l.v l.machine.vertices)
