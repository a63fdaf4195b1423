-- Laws of propagation: what is set, a conflict and RUP grow with the clauses and with what is given, so that neither the
-- order of the clauses nor that of a line's literals matters.
use Rattle.std.proofs.Common.{inl, inr, List, ◌≡◌, map, subst}
use Rattle.std.specs.List.{Contains}
use Rattle.cs_base.specs.declared.formula.Lit.{Lit}
use Rattle.cs_base.specs.declared.formula.Clause.{Clause}
use Rattle.cs_base.specs.Derivations.{negated, IsSet, assumed, unit, MeetsConflict, IsRup}

-- each item of one list is in the other
abbrev pub AreIn : {A : Type 0} → List A → List A → Type 0
AreIn {A = A} xs ys = (x : A) → Contains xs x → Contains ys x

module _ (clauses more : List Clause) (wider : AreIn clauses more) (given others : List Lit) (further : AreIn given others)
  where
    pub set_grows : (lit : Lit) → IsSet clauses given lit → IsSet more others lit
    set_grows lit (assumed _ among) = assumed lit (further lit among)
    set_grows lit (unit clause _ listed has rest) =
        unit clause lit (wider clause listed) has
        (λ other other_has differ. set_grows (negated other) (rest other other_has differ))

    pub conflict_grows : MeetsConflict clauses given → MeetsConflict more others
    conflict_grows (inl falsified) = inl (record {
      clause = falsified.clause;
      among = wider falsified.clause falsified.among;
      false_all = λ lit has. set_grows (negated lit) (falsified.false_all lit has);
    })
    conflict_grows (inr both) = inr (record {
      lit = both.lit;
      one_way = set_grows both.lit both.one_way;
      other_way = set_grows (negated both.lit) both.other_way;
    })

same_given : (given : List Lit) → AreIn given given
same_given given lit has = has

-- a line that is RUP from clauses is so from more of them, in any order
pub rup_grows : (clauses more : List Clause) (line : Clause) → AreIn clauses more → IsRup clauses line → IsRup more line
rup_grows clauses more line wider rup =
    conflict_grows clauses more wider (map negated line.lits) (map negated line.lits) (same_given (map negated line.lits)) rup
