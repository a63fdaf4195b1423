-- What was settled stays so with a clause more.
use Rattle.std.proofs.Common.{◌≤◌, length, arith, sym, subst}
use Rattle.std.proofs.lemmas.List.{length-append}
use Rattle.cs_rup.specs.Trails.{set_by}
use Rattle.cs_rup.proofs.Checkers.{settles_more, settles_same}
use Rattle.cs_rup.proofs.checker.Checker.keep.Goals as goal

pub invariant_of-self : goal.invariant_of-self
invariant_of-self c = record {
  listed = c.add.ensures.listed;
  settles = settles_same c.self.inside.store c.add.new.self c.self.inside.refuted (set_by c.self.inside.trail)
      c.self.inside.seen c.in_err-add.ensures.err c.add.ensures.kept c.self.invariant.settles;
  within = subst (λ cs. c.self.inside.seen ≤ length cs) (sym c.in_err-add.ensures.err) c.self.invariant.within;
  empty = c.self.invariant.empty;
}

pub invariant_of-self-2 : goal.invariant_of-self-2
invariant_of-self-2 c = record {
  listed = c.add.ensures.listed;
  settles = settles_more c.self.inside.store c.add.new.self c.in_ok-copy.copy c.self.inside.refuted
      (set_by c.self.inside.trail) c.self.inside.seen c.self.invariant.within c.in_ok-add.ensures.ok c.add.ensures.kept
      c.self.invariant.settles;
  within = rw c.in_ok-add.ensures.ok (simp length-append (let within = c.self.invariant.within in omega arith));
  empty = c.self.invariant.empty;
}
