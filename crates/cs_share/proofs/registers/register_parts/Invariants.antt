use Rattle.std.proofs.Common.{◌≡◌, map, take}
use Rattle.cs_share.specs.Planned.{planned_register}
use Rattle.cs_share.proofs.registers.register_parts.Given as goal

abbrev pub invariant-loop-n : goal.invariant-loop-n
invariant-loop-n l =
    l.parts
    ≡ map (planned_register l.machine.vertices l.numbers.vertices l.numbers.first_register)
    (take l.n l.registers)
