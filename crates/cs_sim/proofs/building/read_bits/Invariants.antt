use Rattle.std.proofs.Common.{◌≡◌, ◌++◌, drop, map}
use Rattle.std.specs.List.{enumerate_from}
use Rattle.cs_sim.specs.Layout.{read_bit_of}
use Rattle.cs_sim.proofs.building.read_bits.Given as goal

abbrev pub invariant-loop-place : goal.invariant-loop-place
invariant-loop-place l =
    l.bits ++ map (read_bit_of l.read) (enumerate_from l.place (drop l.place l.outputs))
    ≡ map (read_bit_of l.read) (enumerate_from 0 l.outputs)
