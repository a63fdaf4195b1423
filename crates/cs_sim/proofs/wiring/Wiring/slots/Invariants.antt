use Rattle.std.proofs.Common.{◌≡◌, map, take}
use Rattle.cs_sim.specs.Slots.{slot_of}
use Rattle.cs_sim.proofs.wiring.Wiring.slots.Given as goal

abbrev pub invariant-loop-signal : goal.invariant-loop-signal
invariant-loop-signal l = l.slots ≡ map (slot_of l.self.driven) (take l.signal-index l.signals)
