-- The delays of the pins of a gate.
use Rattle.std.proofs.Common.{◌≡◌, map, unwrap_or}
use Rattle.std.specs.List.{range_with_len}
use Rattle.cs_cells.specs.Gates.{row_of, pin_name}
use Rattle.cs_delay.specs.Assigned.{delay_of}
use Rattle.cs_delay.proofs.vertices.gate_delays.Given as goal

-- those of the pins so far
abbrev pub invariant-loop-pin : goal.invariant-loop-pin
invariant-loop-pin l =
    l.delays ≡ map (λ pin. unwrap_or (delay_of l.table (row_of l.gate).name pin) 0)
    (map (pin_name l.gate) (range_with_len 0 l.pin))
