use Rattle.std.proofs.Common.{◌≡◌, map}
use Rattle.cs_modules.specs.Memories.{read_shape}
use Rattle.cs_modules.specs.Pins.{count_from}
use Rattle.cs_modules.proofs.memories.read_shapes.Given as goal

abbrev pub invariant-loop-i : goal.invariant-loop-i
invariant-loop-i l = l.reads ≡ map (read_shape l.cell l.width) (count_from 0 l.i)
