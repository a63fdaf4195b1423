-- Why literals are set: the clause of a propagated literal, and what follows from it.
use Rattle.std.specs.Prelude.{◌≡◌, ℕ, ◌<◌, List, Some, slice_get, length, Contains}
use Rattle.cs_base.specs.declared.formula.Lit.{Lit}
use Rattle.cs_base.specs.declared.formula.Clause.{Clause}
use Rattle.cs_base.specs.Derivations.{negated, IsSet, MeetsConflict}
use Rattle.cs_sat.specs.declared.trail.Reason.TheVariants.{Propagated}
use Rattle.cs_sat.specs.declared.trail.Step.{Step}
use Rattle.cs_sat.specs.declared.trail.Trail.{Trail}
use Rattle.cs_sat.specs.Trails.{IsStep, IsTrail, AllFalse}

-- a literal is set by a step before this place
abbrev pub IsSetBefore : List Step → ℕ → Lit → Type 0
IsSetBefore steps end lit = (place : ℕ) × (place < end) × IsStep steps place lit

-- the clause of this number has the literal, and the others of it are false by earlier steps
pub record IsReason (clauses : List Clause) (steps : List Step) (end : ℕ) (lit : Lit) (number : ℕ) : Type 0 where
  pub clause : Clause
  pub found : slice_get clauses number ≡ Some clause
  pub among : Contains clause.lits lit
  pub others : (other : Lit) → Contains clause.lits other → (other ≡ lit → ⊥) → IsSetBefore steps end (negated other)

-- each propagated literal has the reason that is kept
abbrev pub AreReasons : List Clause → List Step → Type 0
AreReasons clauses steps = (i : ℕ) (s : Step) (number : ℕ) → slice_get steps i ≡ Some s → s.reason ≡ Propagated number
    → IsReason clauses steps i s.lit number

-- the variables of these literals have a place in the table
abbrev pub AreWithin : ℕ → List Lit → Type 0
AreWithin size lits = (lit : Lit) → Contains lits lit → lit.var < size

-- the trail over these clauses
pub record IsOver (clauses : List Clause) (trail : Trail) : Type 0 where
  pub sound : IsTrail trail
  pub reasons : AreReasons clauses trail.steps.items
  pub within : (clause : Clause) → Contains clauses clause → AreWithin (length trail.table.items) clause.lits

-- the clause of this number is falsified
pub record IsConflict (clauses : List Clause) (trail : Trail) (number : ℕ) : Type 0 where
  pub clause : Clause
  pub found : slice_get clauses number ≡ Some clause
  pub falsified : AllFalse trail clause.lits

-- wherever all these literals are set, propagation meets a conflict
abbrev pub Clash : List Clause → (Lit → Type 0) → Type 0
Clash clauses these = (given : List Lit) → ((lit : Lit) → these lit → IsSet clauses given lit) → MeetsConflict clauses given
