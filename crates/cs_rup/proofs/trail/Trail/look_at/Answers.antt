-- The clause is found, and what it asks for is done.
use Rattle.std.proofs.Common.{◌≡◌, Some, List, subst}
use Rattle.std.specs.List.{Contains, slice_get}
use Rattle.cs_base.specs.declared.formula.Lit.{Lit as Literal}
use Rattle.cs_base.specs.declared.formula.Clause.{Clause as Lits}
use Rattle.cs_rup.specs.Settings.{Asks}
use Rattle.cs_rup.specs.Stores.{IsWatched}
use Rattle.cs_rup.specs.Trails.{set_by, StaysSound, ExplainsAny}
use Rattle.cs_rup.proofs.Lists.{contains_at, read_at, on_ok, if_err, if_ok_some}
use Rattle.cs_rup.proofs.Stores.{rewatched_at}
use Rattle.cs_rup.proofs.trail.Trail.look_at.Goals as goal

pub follow-requires-clause-asked : goal.follow-requires-clause-asked
follow-requires-clause-asked c =
    let s = set_by c.args.self.now in
    let clause = c.in-Some.clause.now in (
      clause,
      read_at c.as_slice.result.now c.args.store.now.clauses c.args.place clause c.as_slice.ensures
          c.in-Some.ensures.lookup.3.0 c.in-Some.ensures.lookup.1,
      subst (λ lits. Asks s lits c.status_of-status.result) c.as_slice-2.ensures c.status_of-status.ensures,
    )

pub returns-clause-rewatched : goal.returns-clause-rewatched
returns-clause-rewatched c =
    let s = set_by c.args.self.now in
    let clause = c.in-Some.clause.now in
    let found : slice_get c.args.store.now.clauses c.args.place ≡ Some clause =
    read_at c.as_slice.result.now c.args.store.now.clauses c.args.place clause c.as_slice.ensures
    c.in-Some.ensures.lookup.3.0 c.in-Some.ensures.lookup.1 in
    rewatched_at s c.args.store.now c.follow.new.store c.args.place clause found
    (c.follow.ensures.rewatched clause.lits
    (subst (λ lits. Asks s lits c.status_of-status.result) c.as_slice-2.ensures c.status_of-status.ensures))

pub returns-clause-watched : goal.returns-clause-watched
returns-clause-watched c =
    let s = set_by c.args.self.now in
    let clause = c.in-Some.clause.now in
    let found : slice_get c.args.store.now.clauses c.args.place ≡ Some clause =
    read_at c.as_slice.result.now c.args.store.now.clauses c.args.place clause c.as_slice.ensures
    c.in-Some.ensures.lookup.3.0 c.in-Some.ensures.lookup.1 in
    let asks = subst (λ lits. Asks s lits c.status_of-status.result) c.as_slice-2.ensures c.status_of-status.ensures in
    let t = set_by c.follow.new.self in
    on_ok c.follow.result
    ((lits : List Literal) → Asks s lits c.status_of-status.result → IsWatched t c.follow.new.store c.args.place lits)
    ((other : Lits) → slice_get c.args.store.now.clauses c.args.place ≡ Some other
    → IsWatched t c.follow.new.store c.args.place other.lits)
    (λ watched other at.
    let one : clause ≡ other = cc in
    subst (λ (l : Lits). IsWatched t c.follow.new.store c.args.place l.lits) one (watched clause.lits asks))
    c.follow.ensures.watched

pub returns-clause-sound : goal.returns-clause-sound
returns-clause-sound c =
    let s = set_by c.args.self.now in
    let clause = c.in-Some.clause.now in
    let found : slice_get c.args.store.now.clauses c.args.place ≡ Some clause =
    read_at c.as_slice.result.now c.args.store.now.clauses c.args.place clause c.as_slice.ensures
    c.in-Some.ensures.lookup.3.0 c.in-Some.ensures.lookup.1 in
    let asks = subst (λ lits. Asks s lits c.status_of-status.result) c.as_slice-2.ensures c.status_of-status.ensures in
    let all = c.args.store.now.clauses in
    on_ok c.follow.result
    ((clauses : List Lits) (one : Lits) → Contains clauses one → Asks s one.lits c.status_of-status.result
    → StaysSound clauses c.args.self.now c.follow.new.self)
    (StaysSound all c.args.self.now c.follow.new.self)
    (λ sound. sound all clause (contains_at all c.args.place clause found) asks) c.follow.ensures.sound

pub returns-clause-err : goal.returns-clause-err
returns-clause-err c =
    let s = set_by c.args.self.now in
    let clause = c.in-Some.clause.now in
    let found : slice_get c.args.store.now.clauses c.args.place ≡ Some clause =
    read_at c.as_slice.result.now c.args.store.now.clauses c.args.place clause c.as_slice.ensures
    c.in-Some.ensures.lookup.3.0 c.in-Some.ensures.lookup.1 in
    let asks = subst (λ lits. Asks s lits c.status_of-status.result) c.as_slice-2.ensures c.status_of-status.ensures in
    let all = c.args.store.now.clauses in
    if_err c.follow.result
    (λ stop. (clauses : List Lits) (one : Lits) → Contains clauses one → Asks s one.lits c.status_of-status.result
    → ExplainsAny clauses c.args.self.now stop)
    (λ stop. ExplainsAny all c.args.self.now stop)
    (λ stop explains. explains all clause (contains_at all c.args.place clause found) asks) c.follow.ensures.err

pub returns-clause-among : goal.returns-clause-among
returns-clause-among c =
    let s = set_by c.args.self.now in
    let clause = c.in-Some.clause.now in
    let found : slice_get c.args.store.now.clauses c.args.place ≡ Some clause =
    read_at c.as_slice.result.now c.args.store.now.clauses c.args.place clause c.as_slice.ensures
    c.in-Some.ensures.lookup.3.0 c.in-Some.ensures.lookup.1 in
    let asks = subst (λ lits. Asks s lits c.status_of-status.result) c.as_slice-2.ensures c.status_of-status.ensures in
    if_ok_some c.follow.result
    (λ lit. (lits : List Literal) → Asks s lits c.status_of-status.result → Contains lits lit)
    (λ lit. (other : Lits) → slice_get c.args.store.now.clauses c.args.place ≡ Some other → Contains other.lits lit)
    (λ lit among other at.
    let one : clause ≡ other = cc in
    subst (λ (l : Lits). Contains l.lits lit) one (among clause.lits asks))
    c.follow.ensures.among
