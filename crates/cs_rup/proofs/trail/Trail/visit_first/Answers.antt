-- One step more.
use Rattle.std.proofs.Common.{◌∙◌}
use Rattle.std.proofs.lemmas.Result.{err_from_is_err_and}
use Rattle.cs_rup.specs.Trails.{set_by}
use Rattle.cs_rup.proofs.Trails.{grows_more, rewatched_more, sound_after, explains_after}
use Rattle.cs_rup.proofs.trail.Trail.visit_first.Goals as goal

pub returns-in_err-look_first-clause-rewatched : goal.returns-in_err-look_first-clause-rewatched
returns-in_err-look_first-clause-rewatched c =
    rewatched_more (set_by c.args.self.now) (set_by c.loop-at.self) c.args.store.now c.loop-at.store
    c.look_first.new.store c.loop-at.invariant.grows.stays c.loop-at.invariant.rewatched c.look_first.ensures.rewatched

pub returns-in_err-look_first-clause-grows : goal.returns-in_err-look_first-clause-grows
returns-in_err-look_first-clause-grows c =
    grows_more c.args.self.now c.loop-at.self c.look_first.new.self c.loop-at.invariant.grows c.look_first.ensures.grows

pub returns-in_err-look_first-clause-err : goal.returns-in_err-look_first-clause-err
returns-in_err-look_first-clause-err c =
    let p = err_from_is_err_and c.from_residual.result c.from_residual.ensures.1 in
    rw (p.1, p.2) (explains_after c.args.store.now.clauses c.loop-at.store.clauses c.args.self.now c.loop-at.self _
    c.loop-at.invariant.rewatched.clauses c.loop-at.invariant.sound c.in_err-look_first.ensures.err)

pub loop-at-preserved : goal.loop-at-preserved
loop-at-preserved c =
    let before = c.args.self.now in
    let old = c.loop-at.self in
    let new = c.look_first.new.self in
    let a = c.loop-at.store in
    let b = c.look_first.new.store in
    let more = c.look_first.ensures.grows in
    let i = c.loop-at.invariant in
    let all = c.args.store.now.clauses in
    record {
      listed = c.look_first.ensures.listed;
      rewatched = rewatched_more (set_by before) (set_by old) c.args.store.now a b i.grows.stays i.rewatched
          c.look_first.ensures.rewatched;
      grows = grows_more before old new i.grows more;
      count = c.look_first.ensures.count ∙ i.count;
      sound = sound_after all a.clauses before old new i.rewatched.clauses i.sound c.in_ok-look_first.ensures.sound;
    }
