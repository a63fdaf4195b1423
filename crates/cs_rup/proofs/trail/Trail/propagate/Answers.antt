-- One place on, and the end.
use Rattle.std.proofs.Common.{◌≡◌, ◌<◌, length, Some, refl, sym, subst, arith, rules}
use Rattle.std.specs.List.{slice_get}
use Rattle.std.proofs.lemmas.Option.{slice_get_read}
use Rattle.std.proofs.lemmas.Result.{err_from_is_err_and}
use Rattle.cs_rup.specs.Watchers.{HasPlace}
use Rattle.cs_rup.specs.Stores.{list_of}
use Rattle.cs_rup.specs.Trails.{set_by, AllWait}
use Rattle.cs_rup.proofs.Trails.{grows_more, rewatched_more, waits_grown, passed, settled, sound_after, explains_after}
use Rattle.cs_rup.proofs.trail.Trail.propagate.Goals as goal

pub index-lit-requires : goal.index-lit-requires
index-lit-requires c =
    let was : c.loop-next.next < length c.loop-next.self.lits.items = search rules in
    let longer = c.propagate_first.ensures.grows.longer in
    omega arith

pub returns-in_err-propagate_first-clause-rewatched : goal.returns-in_err-propagate_first-clause-rewatched
returns-in_err-propagate_first-clause-rewatched c =
    rewatched_more (set_by c.args.self.now) (set_by c.loop-next.self) c.args.store.now c.loop-next.store
    c.propagate_first.new.store c.loop-next.invariant.grows.stays c.loop-next.invariant.rewatched
    c.propagate_first.ensures.rewatched

pub returns-in_err-propagate_first-clause-grows : goal.returns-in_err-propagate_first-clause-grows
returns-in_err-propagate_first-clause-grows c =
    grows_more c.args.self.now c.loop-next.self c.propagate_first.new.self c.loop-next.invariant.grows
    c.propagate_first.ensures.grows

pub returns-in_err-propagate_first-clause-err : goal.returns-in_err-propagate_first-clause-err
returns-in_err-propagate_first-clause-err c =
    let p = err_from_is_err_and c.from_residual.result c.from_residual.ensures.1 in
    rw (p.1, p.2) (explains_after c.args.store.now.clauses c.loop-next.store.clauses c.args.self.now c.loop-next.self _
    c.loop-next.invariant.rewatched.clauses c.loop-next.invariant.sound c.in_err-propagate_first.ensures.err)

pub returns-in_err-visit-clause-rewatched : goal.returns-in_err-visit-clause-rewatched
returns-in_err-visit-clause-rewatched c =
    let i = c.loop-next.invariant in
    let grows = grows_more c.args.self.now c.loop-next.self c.propagate_first.new.self i.grows
    c.propagate_first.ensures.grows in
    rewatched_more (set_by c.args.self.now) (set_by c.propagate_first.new.self) c.args.store.now
    c.propagate_first.new.store c.visit.new.store grows.stays
    (rewatched_more (set_by c.args.self.now) (set_by c.loop-next.self) c.args.store.now c.loop-next.store
    c.propagate_first.new.store i.grows.stays i.rewatched c.propagate_first.ensures.rewatched)
    c.visit.ensures.rewatched

pub returns-in_err-visit-clause-grows : goal.returns-in_err-visit-clause-grows
returns-in_err-visit-clause-grows c =
    grows_more c.args.self.now c.propagate_first.new.self c.visit.new.self
    (grows_more c.args.self.now c.loop-next.self c.propagate_first.new.self c.loop-next.invariant.grows
    c.propagate_first.ensures.grows)
    c.visit.ensures.grows

pub returns-in_err-visit-clause-err : goal.returns-in_err-visit-clause-err
returns-in_err-visit-clause-err c =
    let p = err_from_is_err_and c.from_residual-in_err-visit.result c.from_residual-in_err-visit.ensures.1 in
    let i = c.loop-next.invariant in
    let all = c.args.store.now.clauses in
    let first = rewatched_more (set_by c.args.self.now) (set_by c.loop-next.self) c.args.store.now c.loop-next.store
    c.propagate_first.new.store i.grows.stays i.rewatched c.propagate_first.ensures.rewatched in
    let sound = sound_after all c.loop-next.store.clauses c.args.self.now c.loop-next.self c.propagate_first.new.self
    i.rewatched.clauses i.sound c.in_ok-propagate_first.ensures.sound in
    rw (p.1, p.2) (explains_after all c.propagate_first.new.store.clauses c.args.self.now c.propagate_first.new.self _
    first.clauses sound c.in_err-visit.ensures.err)

pub loop-next-preserved : goal.loop-next-preserved
loop-next-preserved c =
    let before = c.args.self.now in
    let start = c.args.store.now in
    let old = c.loop-next.self in
    let mid = c.propagate_first.new.self in
    let new = c.visit.new.self in
    let a = c.loop-next.store in
    let m = c.propagate_first.new.store in
    let b = c.visit.new.store in
    let first = c.propagate_first.ensures in
    let more = c.visit.ensures.grows in
    let i = c.loop-next.invariant in
    let lit = c.index-lit.result.now in
    let next = c.loop-next.next in
    let was : next < length old.lits.items = search rules in
    let within : next < length mid.lits.items = let longer = first.grows.longer in omega arith in
    let grows = grows_more before old mid i.grows first.grows in
    let rewatched = rewatched_more (set_by before) (set_by old) start a m i.grows.stays i.rewatched first.rewatched in
    let sound = sound_after start.clauses a.clauses before old mid i.rewatched.clauses i.sound
    c.in_ok-propagate_first.ensures.sound in
    let waits : AllWait mid next m = λ k clause found.
    let at = subst (λ cs. slice_get cs k ≡ Some clause) first.rewatched.clauses found in
    waits_grown old mid next first.grows (omega arith) a m k clause first.rewatched at (i.waits k clause at) in
    record {
      listed = c.visit.ensures.listed;
      rewatched = rewatched_more (set_by before) (set_by mid) start m b grows.stays rewatched c.visit.ensures.rewatched;
      grows = grows_more before mid new grows more;
      waits = passed mid new m b next lit first.listed within
          (slice_get_read mid.lits.items (length mid.lits.items) next lit refl within c.index-lit.ensures)
          more c.visit.ensures.rewatched
          (λ place clause has at. c.in_ok-visit.ensures.waits place clause
          (subst (λ l. HasPlace (list_of m.lists.items l) place) (sym c.negated.ensures) has) at)
          waits;
      sound = sound_after start.clauses m.clauses before mid new rewatched.clauses sound c.in_ok-visit.ensures.sound;
    }

pub returns-clause-watched : goal.returns-clause-watched
returns-clause-watched c =
    settled c.loop-next.self c.loop-next.next c.loop-next.store (search rules) c.loop-next.invariant.waits
