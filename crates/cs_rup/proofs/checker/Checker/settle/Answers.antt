-- What was set is kept, or taken back.
use Rattle.std.proofs.Common.{subst}
use Rattle.cs_rup.specs.Trails.{Explains}
use Rattle.cs_rup.proofs.Checkers.{kept_undone, kept_settled, kept_refuted}
use Rattle.cs_rup.proofs.checker.Checker.settle.Goals as goal

pub invariant_of-self : goal.invariant_of-self
invariant_of-self c =
    kept_settled c.self.inside.store c.propagate_from.new.store c.self.inside.refuted c.self.inside.trail
    c.propagate_from.new.trail c.keep.new.self c.self.inside.seen c.len-self-inside.result c.if-self.false c.self.invariant
    c.propagate_from.ensures.listed c.propagate_from.ensures.rewatched c.in-Ok.ensures.watched c.in-Ok.ensures.sound
    c.keep.ensures.values c.keep.ensures.lits c.len-self-inside.ensures

pub invariant_of-self-in-Err-Conflict : goal.invariant_of-self-in-Err-Conflict
invariant_of-self-in-Err-Conflict c =
    kept_refuted c.self.inside.store c.propagate_from.new.store c.self.inside.refuted c.self.inside.trail c.undo.new.self
    c.self.inside.seen c.if-self.false c.self.invariant c.propagate_from.ensures.listed
    c.propagate_from.ensures.rewatched.clauses
    (λ sound. subst (Explains c.self.inside.store.clauses _) c.in-Err-Conflict.field-0-is (c.in-Err-Conflict.ensures.err sound))
    c.undo.ensures.empty

pub invariant_of-self-in-Err-NoMemory : goal.invariant_of-self-in-Err-NoMemory
invariant_of-self-in-Err-NoMemory c =
    kept_undone c.self.inside.store c.propagate_from.new.store c.self.inside.refuted c.self.inside.trail
    c.propagate_from.new.trail c.undo-in-Err-NoMemory.new.self c.self.inside.seen c.if-self.false c.self.invariant
    c.propagate_from.ensures.listed c.propagate_from.ensures.rewatched c.propagate_from.ensures.grows
    c.undo-in-Err-NoMemory.ensures.undone c.undo-in-Err-NoMemory.ensures.empty
