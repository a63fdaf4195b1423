-- One step more.
use Rattle.std.proofs.lemmas.Result.{err_from_is_err_and}
use Rattle.cs_rup.specs.Trails.{set_by}
use Rattle.cs_rup.proofs.Trails.{grows_more, rewatched_more, sound_after, explains_after}
use Rattle.cs_rup.proofs.trail.Trail.propagate_first.Goals as goal

pub returns-in_err-visit_first-clause-rewatched : goal.returns-in_err-visit_first-clause-rewatched
returns-in_err-visit_first-clause-rewatched c =
    rewatched_more (set_by c.args.self.now) (set_by c.loop-place.self) c.args.store.now c.loop-place.store
    c.visit_first.new.store c.loop-place.invariant.grows.stays c.loop-place.invariant.rewatched c.visit_first.ensures.rewatched

pub returns-in_err-visit_first-clause-grows : goal.returns-in_err-visit_first-clause-grows
returns-in_err-visit_first-clause-grows c =
    grows_more c.args.self.now c.loop-place.self c.visit_first.new.self c.loop-place.invariant.grows
    c.visit_first.ensures.grows

pub returns-in_err-visit_first-clause-err : goal.returns-in_err-visit_first-clause-err
returns-in_err-visit_first-clause-err c =
    let p = err_from_is_err_and c.from_residual.result c.from_residual.ensures.1 in
    rw (p.1, p.2) (explains_after c.args.store.now.clauses c.loop-place.store.clauses c.args.self.now c.loop-place.self _
    c.loop-place.invariant.rewatched.clauses c.loop-place.invariant.sound c.in_err-visit_first.ensures.err)

pub loop-place-preserved : goal.loop-place-preserved
loop-place-preserved c =
    let before = c.args.self.now in
    let old = c.loop-place.self in
    let new = c.visit_first.new.self in
    let a = c.loop-place.store in
    let b = c.visit_first.new.store in
    let more = c.visit_first.ensures.grows in
    let i = c.loop-place.invariant in
    let all = c.args.store.now.clauses in
    record {
      listed = c.visit_first.ensures.listed;
      rewatched = rewatched_more (set_by before) (set_by old) c.args.store.now a b i.grows.stays i.rewatched
          c.visit_first.ensures.rewatched;
      grows = grows_more before old new i.grows more;
      sound = sound_after all a.clauses before old new i.rewatched.clauses i.sound c.in_ok-visit_first.ensures.sound;
    }
