use Rattle.std.proofs.Common.{◌≡◌, ◌≤◌, ◌-◌, ℕ, drop, length}
use Rattle.cs_prefix.specs.Layers.{progress}
use Rattle.cs_prefix.specs.Runs.{add_runs}
use Rattle.cs_prefix.proofs.planning.add_runs.Given as goal

-- the codes that are left come behind those of the turns before
abbrev pub invariant-loop-done : goal.invariant-loop-done
invariant-loop-done l = record {
  within : l.done ≤ length l.codes;
  count : length l.ends ≡ length l.contents;
  turns : ℕ;
  enough : length l.codes - l.done ≤ turns;
  made : add_runs l.contents turns (drop l.done l.codes) (progress l.layer l.ends)
      ≡ add_runs l.contents (length l.codes) l.codes (progress l.fn.layer l.fn.ends);
}

abbrev pub decreases-loop-done : goal.decreases-loop-done
decreases-loop-done l = length l.codes - l.done
