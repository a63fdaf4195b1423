-- The literal beside the clause is one of it; the lists change once more at the end.
use Rattle.std.proofs.Common.{◌≡◌, true, inl, sym, subst, ◌∙◌}
use Rattle.std.specs.List.{Contains}
use Rattle.cs_base.specs.declared.formula.Clause.{Clause as Lits}
use Rattle.cs_rup.specs.Settings.{is_true}
use Rattle.cs_rup.specs.Trails.{set_by}
use Rattle.cs_rup.proofs.Trails.{rewatched_then}
use Rattle.cs_rup.proofs.trail.Trail.look_past.Goals as goal

pub returns-then-is_true-clause-watched : goal.returns-then-is_true-clause-watched
returns-then-is_true-clause-watched c entry clause at found =
    let one : c.in-Some.watched ≡ entry = let was = c.in-Some.ensures.some in cc in
    let blocked = c.requires.listed.blocked c.args.index c.args.at entry at in
    let same : blocked.clause ≡ clause = let was = blocked.found in cc in
    inl (record {
      lit = entry.other;
      among = subst (λ (x : Lits). Contains x.lits entry.other) same blocked.among;
      is = subst (λ w. is_true (set_by c.args.self.now) w.other ≡ true) one (sym c.is_true.ensures ∙ c.if-is_true.true);
    })

pub returns-clause-rewatched : goal.returns-clause-rewatched
returns-clause-rewatched c =
    rewatched_then (set_by c.args.self.now) c.args.store.now c.look_at.new.store c.note.new.self
    c.look_at.ensures.rewatched c.note.ensures.same
