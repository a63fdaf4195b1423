use Rattle.std.proofs.Common.{length}
use Rattle.cs_run.proofs.inputs.+found_bytes.Given as goal

abbrev pub decreases-found_bytes : goal.decreases-found_bytes
decreases-found_bytes l = length l.inputs.now
