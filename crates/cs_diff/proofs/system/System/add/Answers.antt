-- Each constraint is still among the vertices, and there are few.
use Rattle.std.proofs.Common.{◌≡◌, ℕ, ◌+◌, ◌<◌, List, [], ◌∷◌, ◌++◌, length, ap, subst, sym, arith, Result, Ok, Err}
use Rattle.std.specs.Prelude.{OnOk, OnErr}
use Rattle.std.proofs.lemmas.List.{length_push}
use Rattle.cs_diff.specs.declared.system.Constraint.{Constraint}
use Rattle.cs_diff.specs.Ranges.{IsAmong, AreAmong}
use Rattle.cs_diff.proofs.SystemLemmas.{AreAmong_push}
use Rattle.cs_diff.proofs.system.System.add.Goals as goal

-- after a push that went well or was refused
among_after : {A E : Type 0} (r : Result A E) (n : ℕ) (cs cs' : List Constraint) (c : Constraint)
    → OnOk r (cs' ≡ cs ++ c ∷ []) → OnErr r (cs' ≡ cs) → AreAmong n cs → IsAmong n c
    → AreAmong n cs'
among_after (Ok x) n cs cs' c ok err all one = subst (AreAmong n) (sym ok)
    (AreAmong_push n cs c all one)
among_after (Err e) n cs cs' c ok err all one = subst (AreAmong n) (sym err) all

few_after : {A E : Type 0} (r : Result A E) (m : ℕ) (cs cs' : List Constraint) (c : Constraint)
    → OnOk r (cs' ≡ cs ++ c ∷ []) → OnErr r (cs' ≡ cs) → length cs + 1 < m → length cs' < m
few_after (Ok x) m cs cs' c ok err h = omega (arith, ap length ok, length_push cs c)
few_after (Err e) m cs cs' c ok err h = omega (arith, ap length err)

pub invariant_of-self : goal.invariant_of-self
invariant_of-self c = record {
  in_range = among_after c.push.result _ _ _ _ c.push.ensures.ok c.push.ensures.err
      c.args.self.now.in_range c.requires.among;
  few = few_after c.push.result _ _ _ _ c.push.ensures.ok c.push.ensures.err c.requires.room;
}
