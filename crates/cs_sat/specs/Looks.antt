-- What a clause asks for under the trail (Davis, Logemann and Loveland 1962).
use Rattle.std.specs.Prelude.{◌≡◌, ◌==◌, ℕ, Bool, true, not, ◌&&◌, if◌then◌else◌, List, Some, None, slice_get, Contains}
use Rattle.cs_base.specs.declared.formula.Lit.{Lit}
use Rattle.cs_sat.specs.declared.trail.Trail.{Trail}
use Rattle.cs_sat.specs.declared.look.Status.{Status}
use Rattle.cs_sat.specs.declared.look.Status.TheVariants.{Satisfied, Open, Unit as UnitClause, Falsified}
use Rattle.cs_sat.specs.Trails.{setting_of, is_true, is_false, AllFalse}

-- two literals are one and the same
abbrev pub is_same : Lit → Lit → Bool
is_same a b = (a.var == b.var) && (if a.positive then b.positive else not b.positive)

-- a literal of the clause is true
pub record HasTrue (trail : Trail) (lits : List Lit) : Type 0 where
  pub lit : Lit
  pub among : Contains lits lit
  pub is : is_true trail lit ≡ true

-- two different literals of the clause aren't false, the second one at this place
pub record IsOpenAt (trail : Trail) (lits : List Lit) (place : ℕ) : Type 0 where
  pub first : Lit
  pub other : Lit
  pub first_among : Contains lits first
  pub other_at : slice_get lits place ≡ Some other
  pub differ : other ≡ first → ⊥
  pub other_open : is_false trail other ≡ true → ⊥

-- this literal of the clause has no value, and all others are false
pub record IsUnit (trail : Trail) (lits : List Lit) (lit : Lit) : Type 0 where
  pub among : Contains lits lit
  pub unset : setting_of trail lit.var ≡ None
  pub others : (other : Lit) → Contains lits other → (other ≡ lit → ⊥) → is_false trail other ≡ true

-- what a clause asks for
abbrev pub Asks : Trail → List Lit → Status → Type 0
Asks trail lits Satisfied = HasTrue trail lits
Asks trail lits (Open place) = IsOpenAt trail lits place
Asks trail lits (UnitClause lit) = IsUnit trail lits lit
Asks trail lits Falsified = AllFalse trail lits
