use Rattle.std.proofs.Common.{◌≡◌, map}
use Rattle.cs_base.specs.declared.signal.Signal.TheVariants.{Bit}
use Rattle.cs_modules.specs.Pins.{count_from}
use Rattle.cs_share.proofs.ports.numbered_bits.Given as goal

abbrev pub invariant-loop-i : goal.invariant-loop-i
invariant-loop-i l = l.bits ≡ map Bit (count_from l.first l.i)
