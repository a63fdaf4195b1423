use Rattle.std.proofs.Common.{◌≡◌, ◌++◌, [], drop}
use Rattle.std.specs.Prelude.{codes, filter_map, flat_map, if◌then◌else◌}
use Rattle.cs_modules.specs.Modules.{is_register}
use Rattle.cs_modules.specs.Pins.{class_at, pin_bits}
use Rattle.cs_net.specs.Starts.{noted_value, start_by}
use Rattle.cs_net.proofs.initial_values.starts_by.Given as goal

abbrev pub invariant-loop-cell : goal.invariant-loop-cell
invariant-loop-cell l =
    l.starts.items
    ++ flat_map (λ cell. if is_register (class_at cell) then filter_map (start_by (noted_value l.firsts)) (pin_bits cell.pins (codes "Q")) else []) (drop l.cell-index l.cells)
    ≡ flat_map (λ cell. if is_register (class_at cell) then filter_map (start_by (noted_value l.firsts)) (pin_bits cell.pins (codes "Q")) else []) l.cells
