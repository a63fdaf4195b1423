-- Empty buckets come behind the others.
use Rattle.std.proofs.Common.{◌≡◌, ◌+◌, ◌-◌, ◌<◌, ◌^◌, ℕ, [], length, get_or}
use Rattle.cs_paths.proofs.waiting.lengthen.Given as goal

abbrev pub invariant-loop-alloc : goal.invariant-loop-alloc
invariant-loop-alloc l = record {
  same : (w : ℕ) → get_or l.later.items w [] ≡ get_or l.initial.later.items w [];
  levels : length l.later.items < 2 ^ 32;
}

abbrev pub decreases-loop-alloc : goal.decreases-loop-alloc
decreases-loop-alloc l = l.fn.weight + 1 - length l.later.items
