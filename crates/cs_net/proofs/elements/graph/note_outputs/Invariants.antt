use Rattle.std.proofs.Common.{◌≡◌, ℕ, Some, None, drop, nat_eq}
use Rattle.std.specs.Prelude.{if◌then◌else◌}
use Rattle.std.specs.HashMap.{get}
use Rattle.std.specs.Option.{option_or}
use Rattle.cs_modules.specs.Signals.{holds_bit}
use Rattle.cs_net.proofs.elements.graph.note_outputs.Given as goal

-- a bit without an owner has this one if it is among the outputs that are left
abbrev pub invariant-loop-signal : goal.invariant-loop-signal
invariant-loop-signal l = (b : ℕ) →
    option_or (get nat_eq l.owners b)
    (if holds_bit b (drop l.signal-index l.outputs) then Some l.element else None)
    ≡ option_or (get nat_eq l.fn.owners b) (if holds_bit b l.outputs then Some l.element else None)
