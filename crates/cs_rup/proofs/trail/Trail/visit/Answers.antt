-- The clause at one place more is looked at, from the end.
use Rattle.std.proofs.Common.{◌≡◌, ◌-◌, ◌<◌, ◌≤◌, Some, inl, inr, length, arith, rules, sym, subst, ◌∙◌}
use Rattle.std.specs.List.{slice_get}
use Rattle.std.proofs.lemmas.Bool.{cases_lt}
use Rattle.std.proofs.lemmas.Result.{err_from_is_err_and}
use Rattle.cs_rup.specs.Stores.{list_at}
use Rattle.cs_rup.specs.Trails.{set_by, Waits}
use Rattle.cs_rup.proofs.Trails.{grows_more, waits_grown, looked_at, rewatched_more, sound_after, explains_after}
use Rattle.cs_rup.proofs.trail.Trail.visit.Goals as goal

pub returns-in_err-look_past-clause-rewatched : goal.returns-in_err-look_past-clause-rewatched
returns-in_err-look_past-clause-rewatched c =
    rewatched_more (set_by c.args.self.now) (set_by c.loop-at.self) c.args.store.now c.loop-at.store
    c.look_past.new.store c.loop-at.invariant.grows.stays c.loop-at.invariant.rewatched c.look_past.ensures.rewatched

pub returns-in_err-look_past-clause-grows : goal.returns-in_err-look_past-clause-grows
returns-in_err-look_past-clause-grows c =
    grows_more c.args.self.now c.loop-at.self c.look_past.new.self c.loop-at.invariant.grows c.look_past.ensures.grows

pub returns-in_err-look_past-clause-err : goal.returns-in_err-look_past-clause-err
returns-in_err-look_past-clause-err c =
    let p = err_from_is_err_and c.from_residual.result c.from_residual.ensures.1 in
    rw (p.1, p.2) (explains_after c.args.store.now.clauses c.loop-at.store.clauses c.args.self.now c.loop-at.self _
    c.loop-at.invariant.rewatched.clauses c.loop-at.invariant.sound c.in_err-look_past.ensures.err)

pub loop-at-preserved : goal.loop-at-preserved
loop-at-preserved c =
    let before = c.args.self.now in
    let old = c.loop-at.self in
    let new = c.look_past.new.self in
    let a = c.loop-at.store in
    let b = c.look_past.new.store in
    let more = c.look_past.ensures.grows in
    let i = c.loop-at.invariant in
    let all = c.args.store.now.clauses in
    let next = length before.lits.items in
    let some : 0 < c.loop-at.at = search rules in
    record {
      listed = c.look_past.ensures.listed;
      rewatched = rewatched_more (set_by before) (set_by old) c.args.store.now a b i.grows.stays i.rewatched
          c.look_past.ensures.rewatched;
      grows = grows_more before old new i.grows more;
      count = c.look_past.ensures.count ∙ i.count;
      within = let high = i.within in omega arith;
      before = λ k entry below found. c.look_past.ensures.before k entry below (i.before k entry (omega arith) found);
      waits = λ k entry clause from found there. elim (cases_lt (c.loop-at.at - 1) k) [
        | inl gt ↦ waits_grown old new next more i.grows.longer a b entry.place clause c.look_past.ensures.rewatched
            (subst (λ cs. slice_get cs entry.place ≡ Some clause) (sym i.rewatched.clauses) there)
            (i.waits k entry clause (omega arith) found there)
        | inr le ↦
            let here : k ≡ c.loop-at.at - 1 = omega arith in
            let stands = i.before k entry (omega arith) found in
            let at : slice_get (list_at a.lists.items c.index_of-index.result) (c.loop-at.at - 1) ≡ Some entry =
            subst (λ j. slice_get (list_at a.lists.items c.index_of-index.result) j ≡ Some entry) here stands in
            looked_at new next b entry.place all a.clauses i.rewatched.clauses
            (λ other is. c.in_ok-look_past.ensures.watched entry other at is) clause there
      ];
      sound = sound_after all a.clauses before old new i.rewatched.clauses i.sound c.in_ok-look_past.ensures.sound;
    }

pub returns-clause-waits : goal.returns-clause-waits
returns-clause-waits c place clause has found =
    let lists = c.args.store.now.lists.items in
    let end : c.loop-at.at ≤ has.at = search rules in
    subst (λ p. Waits c.loop-at.self (length c.args.self.now.lits.items) c.loop-at.store p clause.lits) has.is
    (c.loop-at.invariant.waits has.at has.watched clause end
    (subst (λ i. slice_get (list_at lists i) has.at ≡ Some has.watched) (sym c.index_of-index.ensures.place) has.found)
    (subst (λ p. slice_get c.args.store.now.clauses p ≡ Some clause) (sym has.is) found))
