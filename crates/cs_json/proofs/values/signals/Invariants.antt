-- The values of a bit list.
use Rattle.std.proofs.Common.{◌≡◌, map, take}
use Rattle.serde_json.specs.View.{view}
use Rattle.cs_json.specs.Printed.{signal_data}
use Rattle.cs_json.proofs.values.signals.Given as goal

-- the values of the bits so far
abbrev pub invariant-loop-bit : goal.invariant-loop-bit
invariant-loop-bit l = map view l.items.items ≡ map signal_data (take l.bit-index l.bits)
