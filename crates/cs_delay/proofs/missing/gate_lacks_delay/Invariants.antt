-- Whether a pin of a gate lacks a delay.
use Rattle.std.proofs.Common.{◌≡◌, map, is_none}
use Rattle.std.specs.List.{list_any, range_with_len}
use Rattle.cs_cells.specs.Gates.{row_of, pin_name}
use Rattle.cs_delay.specs.Assigned.{delay_of}
use Rattle.cs_delay.proofs.missing.gate_lacks_delay.Given as goal

-- one of the pins so far does
abbrev pub invariant-loop-pin : goal.invariant-loop-pin
invariant-loop-pin l =
    l.lacks ≡ list_any (λ pin. is_none (delay_of l.table (row_of l.gate).name pin))
    (map (pin_name l.gate) (range_with_len 0 l.pin))
