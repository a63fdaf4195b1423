use Rattle.std.proofs.Common.{◌≡◌, take}
use Rattle.cs_net.proofs.copies.copy_reads.Given as goal

abbrev pub invariant-loop-read : goal.invariant-loop-read
invariant-loop-read l = l.copies ≡ take l.read-index l.reads
