use Rattle.std.proofs.Common.{◌≡◌, ◌∙◌, ap, sym, slice_get, arith, Some}
use Rattle.std.proofs.lemmas.Option.{slice_get_within}
use Rattle.cs_cert.specs.Floors.{pinned_bounds}
use Rattle.cs_cert.proofs.BoundLemmas.{next_written}
use Rattle.cs_cert.proofs.floors.write_pinned.Goals as goal

pub loop-v-preserved : goal.loop-v-preserved
loop-v-preserved c =
    let bounds = pinned_bounds c.args.machine.now in
    let v = c.loop-v.v in
    let known = c.pinned_bound-known.result in
    let here : slice_get bounds v ≡ Some known = ap (slice_get bounds) (sym c.new.ensures) ∙ c.pinned_bound-known.ensures in
    next_written c.loop-v.least bounds v known (omega arith) (slice_get_within bounds v known here) c.loop-v.invariant here
