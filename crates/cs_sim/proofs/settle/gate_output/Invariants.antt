use Rattle.std.proofs.Common.{◌≡◌, ℕ, ◌<◌, false, get_or, length}
use Rattle.cs_sim.specs.Slots.{value_at}
use Rattle.cs_sim.proofs.settle.gate_output.Given as goal

abbrev pub invariant-loop-i : goal.invariant-loop-i
invariant-loop-i l =
    (length l.bits ≡ 20) × ((k : ℕ) → k < l.i → get_or l.bits k false ≡ value_at l.values (get_or l.pins k 0))
