-- Two literals watch the clause from now on, or its one literal is set.
use Rattle.std.proofs.Common.{◌<◌, length, inr, Some, arith, subst, ap, ◌∙◌}
use Rattle.std.proofs.lemmas.Option.{slice_get_within}
use Rattle.std.specs.List.{slice_get}
use Rattle.cs_rup.specs.Settings.{Asks}
use Rattle.cs_rup.specs.Trails.{set_by}
use Rattle.cs_base.proofs.ListLemmas.{at_set_same}
use Rattle.cs_rup.proofs.Stores.{grow_same, rewatched_set}
use Rattle.cs_rup.proofs.Trails.{grows_same, unit_sound}
use Rattle.cs_rup.proofs.trail.Trail.follow.Goals as goal

pub set-requires : goal.set-requires
set-requires c =
    let asks = subst (Asks (set_by c.args.self.now) c.requires.asked.0.lits) c.in-Unit.is c.requires.asked.2 in
    asks.1

pub rewatch-requires-clause-among : goal.rewatch-requires-clause-among
rewatch-requires-clause-among c =
    let pair = subst (Asks (set_by c.args.self.now) c.requires.asked.0.lits) c.in-Open.is c.requires.asked.2 in
    (c.requires.asked.0, c.requires.asked.1, pair.one_among, pair.other_among)

pub returns-in-Satisfied-clause-grows : goal.returns-in-Satisfied-clause-grows
returns-in-Satisfied-clause-grows c = grows_same c.args.self.now

pub returns-in_ok-rewatch-in-Open-clause-grows : goal.returns-in_ok-rewatch-in-Open-clause-grows
returns-in_ok-rewatch-in-Open-clause-grows c = grows_same c.args.self.now

pub returns-in-Falsified-clause-grows : goal.returns-in-Falsified-clause-grows
returns-in-Falsified-clause-grows c = grows_same c.args.self.now

pub returns-in-Satisfied-clause-grow : goal.returns-in-Satisfied-clause-grow
returns-in-Satisfied-clause-grow c = grow_same c.args.store.now.lists.items

pub returns-in_ok-set-in-Unit-clause-grow : goal.returns-in_ok-set-in-Unit-clause-grow
returns-in_ok-set-in-Unit-clause-grow c = grow_same c.args.store.now.lists.items

pub returns-in_err-set-in-Unit-clause-grow : goal.returns-in_err-set-in-Unit-clause-grow
returns-in_err-set-in-Unit-clause-grow c = grow_same c.args.store.now.lists.items

pub returns-in-Falsified-clause-grow : goal.returns-in-Falsified-clause-grow
returns-in-Falsified-clause-grow c = grow_same c.args.store.now.lists.items

pub returns-in_ok-rewatch-in-Open-clause-rewatched : goal.returns-in_ok-rewatch-in-Open-clause-rewatched
returns-in_ok-rewatch-in-Open-clause-rewatched c lits asks =
    let s = set_by c.args.self.now in
    let within : c.args.place < length c.args.store.now.watches.items =
    let enough = c.requires.listed.enough in
    let there = slice_get_within c.args.store.now.clauses c.args.place c.requires.asked.0 c.requires.asked.1 in
    omega arith in
    rewatched_set s c.args.store.now c.rewatch.new.self c.args.place c.in-Open.watch lits within c.rewatch.ensures.clauses
    c.in_ok-rewatch-in-Open.ensures.ok (subst (Asks s lits) c.in-Open.is asks)

pub returns-in_ok-rewatch-in-Open-clause-watched : goal.returns-in_ok-rewatch-in-Open-clause-watched
returns-in_ok-rewatch-in-Open-clause-watched c lits asks =
    let within : c.args.place < length c.args.store.now.watches.items =
    let enough = c.requires.listed.enough in
    let there = slice_get_within c.args.store.now.clauses c.args.place c.requires.asked.0 c.requires.asked.1 in
    omega arith in
    inr (record {
      watch = c.in-Open.watch;
      found = ap (λ ws. slice_get ws c.args.place) c.in_ok-rewatch-in-Open.ensures.ok
          ∙ at_set_same c.args.store.now.watches.items c.args.place (Some c.in-Open.watch) within;
      pair = subst (Asks (set_by c.args.self.now) lits) c.in-Open.is asks;
    })

pub returns-in_ok-set-in-Unit-clause-sound : goal.returns-in_ok-set-in-Unit-clause-sound
returns-in_ok-set-in-Unit-clause-sound c clauses clause listed asks given sound =
    let s = set_by c.args.self.now in
    let parts = subst (Asks s clause.lits) c.in-Unit.is asks in
    unit_sound clauses given clause c.in-Unit.lit s (set_by c.set.new.self) c.in_ok-set-in-Unit.ensures.set parts.0 parts.2
    listed sound
