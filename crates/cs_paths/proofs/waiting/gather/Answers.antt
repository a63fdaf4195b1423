-- One place more.
use Rattle.cs_paths.proofs.WaitingLemmas.{gathering_low, gathering_on}
use Rattle.cs_paths.proofs.waiting.gather.Goals as goal

pub add-requires : goal.add-requires
add-requires c =
    gathering_low c.loop-place.bucket c.pop.new.self c.in-Some.place c.loop-place.invariant.low c.in-Some.ensures.some

pub loop-place-preserved : goal.loop-place-preserved
loop-place-preserved c =
    gathering_on c.args.bucket.now c.loop-place.bucket c.pop.new.self c.args.marks.now c.loop-place.marks
    c.add.new.self c.in-Some.place c.loop-place.invariant c.in-Some.ensures.some c.add.ensures
