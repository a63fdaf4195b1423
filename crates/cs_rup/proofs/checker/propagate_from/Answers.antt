-- The setting grows from the start, and the clauses wait before propagation.
use Rattle.std.proofs.Common.{map}
use Rattle.std.proofs.lemmas.Result.{err_from_is_err_and}
use Rattle.cs_base.specs.Derivations.{negated}
use Rattle.cs_rup.specs.Trails.{set_by}
use Rattle.cs_rup.proofs.Checkers.{sound_given, all_wait}
use Rattle.cs_rup.proofs.Trails.{grows_more, rewatched_less, rewatched_more, sound_after, explains_after}
use Rattle.cs_rup.proofs.checker.propagate_from.Goals as goal

pub returns-in_err-refute-clause-err : goal.returns-in_err-refute-clause-err
returns-in_err-refute-clause-err c =
    let p = err_from_is_err_and c.from_residual.result c.from_residual.ensures.1 in
    let clauses = c.args.store.now.clauses in
    rw (p.1, p.2) (λ sound. c.in_err-refute.ensures.err clauses
    (sound_given clauses (map negated c.args.line.now) (set_by c.args.trail.now) sound))

pub returns-in_err-examine_from-clause-grows : goal.returns-in_err-examine_from-clause-grows
returns-in_err-examine_from-clause-grows c =
    grows_more c.args.trail.now c.refute.new.self c.examine_from.new.self c.refute.ensures.grows c.examine_from.ensures.grows

pub returns-in_err-examine_from-clause-err : goal.returns-in_err-examine_from-clause-err
returns-in_err-examine_from-clause-err c =
    let p = err_from_is_err_and c.from_residual-in_err-examine_from.result c.from_residual-in_err-examine_from.ensures.1 in
    let clauses = c.args.store.now.clauses in
    let given = map negated c.args.line.now in
    rw (p.1, p.2) (λ sound. c.in_err-examine_from.ensures.err given (c.in_ok-refute.ensures.sound clauses
    (sound_given clauses given (set_by c.args.trail.now) sound)))

pub propagate-requires-clause-waits : goal.propagate-requires-clause-waits
propagate-requires-clause-waits c =
    all_wait c.args.store.now c.examine_from.new.store c.args.seen c.args.trail.now c.refute.new.self c.examine_from.new.self
    c.requires.watched c.refute.ensures.grows c.examine_from.ensures.grows c.examine_from.ensures.rewatched
    c.in_ok-examine_from.ensures.waits

pub returns-in_err-examine_from-clause-rewatched : goal.returns-in_err-examine_from-clause-rewatched
returns-in_err-examine_from-clause-rewatched c =
    rewatched_less (set_by c.args.trail.now) (set_by c.refute.new.self) c.args.store.now c.examine_from.new.store
    c.refute.ensures.grows.stays c.examine_from.ensures.rewatched

pub returns-in_err-propagate-clause-rewatched : goal.returns-in_err-propagate-clause-rewatched
returns-in_err-propagate-clause-rewatched c =
    rewatched_more (set_by c.args.trail.now) (set_by c.examine_from.new.self) c.args.store.now c.examine_from.new.store
    c.propagate.new.store (λ lit is. c.examine_from.ensures.grows.stays lit (c.refute.ensures.grows.stays lit is))
    (rewatched_less (set_by c.args.trail.now) (set_by c.refute.new.self) c.args.store.now c.examine_from.new.store
    c.refute.ensures.grows.stays c.examine_from.ensures.rewatched)
    c.propagate.ensures.rewatched

pub returns-clause-rewatched : goal.returns-clause-rewatched
returns-clause-rewatched c =
    rewatched_more (set_by c.args.trail.now) (set_by c.examine_from.new.self) c.args.store.now c.examine_from.new.store
    c.propagate.new.store (λ lit is. c.examine_from.ensures.grows.stays lit (c.refute.ensures.grows.stays lit is))
    (rewatched_less (set_by c.args.trail.now) (set_by c.refute.new.self) c.args.store.now c.examine_from.new.store
    c.refute.ensures.grows.stays c.examine_from.ensures.rewatched)
    c.propagate.ensures.rewatched

pub returns-in_err-propagate-clause-grows : goal.returns-in_err-propagate-clause-grows
returns-in_err-propagate-clause-grows c =
    grows_more c.args.trail.now c.examine_from.new.self c.propagate.new.self
    (grows_more c.args.trail.now c.refute.new.self c.examine_from.new.self c.refute.ensures.grows c.examine_from.ensures.grows)
    c.propagate.ensures.grows

pub returns-in_err-propagate-clause-err : goal.returns-in_err-propagate-clause-err
returns-in_err-propagate-clause-err c =
    let p = err_from_is_err_and c.from_residual-in_err-propagate.result c.from_residual-in_err-propagate.ensures.1 in
    let clauses = c.args.store.now.clauses in
    let given = map negated c.args.line.now in
    rw (p.1, p.2) (λ sound. explains_after clauses c.examine_from.new.store.clauses c.refute.new.self c.examine_from.new.self _
    c.examine_from.ensures.rewatched.clauses c.in_ok-examine_from.ensures.sound c.in_err-propagate.ensures.err given
    (c.in_ok-refute.ensures.sound clauses (sound_given clauses given (set_by c.args.trail.now) sound)))

pub returns-clause-grows : goal.returns-clause-grows
returns-clause-grows c =
    grows_more c.args.trail.now c.examine_from.new.self c.propagate.new.self
    (grows_more c.args.trail.now c.refute.new.self c.examine_from.new.self c.refute.ensures.grows c.examine_from.ensures.grows)
    c.propagate.ensures.grows

pub returns-clause-given : goal.returns-clause-given
returns-clause-given c lit has =
    c.propagate.ensures.grows.stays (negated lit)
    (c.examine_from.ensures.grows.stays (negated lit) (c.in_ok-refute.ensures.given lit has))

pub returns-clause-sound : goal.returns-clause-sound
returns-clause-sound c sound =
    let clauses = c.args.store.now.clauses in
    let given = map negated c.args.line.now in
    sound_after clauses c.examine_from.new.store.clauses c.refute.new.self c.examine_from.new.self c.propagate.new.self
    c.examine_from.ensures.rewatched.clauses c.in_ok-examine_from.ensures.sound c.in_ok-propagate.ensures.sound given
    (c.in_ok-refute.ensures.sound clauses (sound_given clauses given (set_by c.args.trail.now) sound))
