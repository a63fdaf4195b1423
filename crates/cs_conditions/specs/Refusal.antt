-- The early refusals, in groups.
use Rattle.std.specs.Prelude.{Option}
use Rattle.cs_json.specs.declared.document.Module.{Module}
use Rattle.cs_conditions.specs.declared.error.NetError.{NetError}
use Rattle.cs_conditions.specs.Conditions.{or_else, unknown_cell, not_fine, asynchronous, bad_pins, inout, const_z, two_drivers, clock_not_input, of_clock, two_clocks, mixed_edges, clock_as_data, two_starts, memory_form}

-- 2 to 4
abbrev pub class_refusal : Module → Option NetError
class_refusal m = or_else (unknown_cell m) (or_else (not_fine m) (asynchronous m))

-- 7 and 8
abbrev pub driver_refusal : Module → Option NetError
driver_refusal m = or_else (const_z m) (two_drivers m)

-- 9 to 12
abbrev pub clock_refusal : Module → Option NetError
clock_refusal m =
    or_else (clock_not_input m)
    (or_else (of_clock two_clocks m) (or_else (of_clock mixed_edges m) (of_clock clock_as_data m)))

-- 13 and 14
abbrev pub state_refusal : Module → Option NetError
state_refusal m = or_else (two_starts m) (memory_form m)

-- 7 to 14
abbrev pub bit_refusal : Module → Option NetError
bit_refusal m = or_else (driver_refusal m) (or_else (clock_refusal m) (state_refusal m))

-- 5 to 14
abbrev pub wiring_refusal : Module → Option NetError
wiring_refusal m = or_else (bad_pins m) (or_else (inout m) (bit_refusal m))
