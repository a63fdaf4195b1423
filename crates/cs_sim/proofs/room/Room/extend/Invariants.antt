use Rattle.std.proofs.Common.{◌≡◌, ◌+◌, length}
use Rattle.cs_sim.proofs.room.Room.extend.Given as goal

-- so many slots more
abbrev pub invariant-loop : goal.invariant-loop
invariant-loop l = length l.self-inside.values.items ≡ length l.initial.self-inside.values.items + l.counter
