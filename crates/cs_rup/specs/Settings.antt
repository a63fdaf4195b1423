-- Settings of variables, and what a clause asks for under one (Davis, Logemann and Loveland 1962).
use Rattle.std.specs.Prelude.{◌≡◌, ℕ, ◌==◌, Bool, true, not, ◌&&◌, if◌then◌else◌, nat_lt, List, Option, Some, None, get_or, length, Contains, ◌⊎◌}
use Rattle.std.specs.Ordering.{nat_cmp}
use Rattle.std.specs.BTreeMap.{get}
use Rattle.cs_base.specs.declared.formula.Lit.{Lit}
use Rattle.cs_base.specs.Derivations.{negated}
use Rattle.cs_rup.specs.declared.values.Values.{Values}
use Rattle.cs_rup.specs.declared.status.Status.{Status}
use Rattle.cs_rup.specs.declared.status.Status.TheVariants.{Satisfied, Open, Unit as UnitClause, Falsified}
use Rattle.cs_rup.specs.declared.watch.Watch.{Watch}

-- the values of some variables
abbrev pub Setting : Type 0
Setting = ℕ → Option Bool

-- the setting that is kept: of low variables in a table, of the others in a map
abbrev pub setting_of : Values → Setting
setting_of values var =
    if nat_lt var (length values.table.items) then get_or values.table.items var None
    else get nat_cmp values.others var

-- the value is this one
abbrev pub has_value : Option Bool → Bool → Bool
has_value None sign = not true
has_value (Some value) sign = if value then sign else not sign

-- the literal is set true
abbrev pub is_true : Setting → Lit → Bool
is_true s lit = has_value (s lit.var) lit.positive

-- the literal is set false, which is that its negation is set true
abbrev pub is_false : Setting → Lit → Bool
is_false s lit = is_true s (negated lit)

-- two literals are one and the same
abbrev pub is_same : Lit → Lit → Bool
is_same a b = (a.var == b.var) && (if a.positive then b.positive else not b.positive)

-- a literal of a clause is not false, and is another one than the first
abbrev pub is_other : Setting → Lit → Lit → Bool
is_other s first lit = not (is_same lit first) && not (is_false s lit)

-- a literal is not false, and is not the one to skip
abbrev pub is_sought : Setting → Option Lit → Lit → Bool
is_sought s None lit = not (is_false s lit)
is_sought s (Some first) lit = is_other s first lit

-- all literals of a clause but this one are false
abbrev pub AllFalseBut : Setting → List Lit → Lit → Type 0
AllFalseBut s lits lit = (other : Lit) → Contains lits other → (other ≡ lit → ⊥) → is_false s other ≡ true

-- all literals of a clause are false
abbrev pub AllFalse : Setting → List Lit → Type 0
AllFalse s lits = (lit : Lit) → Contains lits lit → is_false s lit ≡ true

-- a literal of the clause is true
pub record HasTrue (s : Setting) (lits : List Lit) : Type 0 where
  pub lit : Lit
  pub among : Contains lits lit
  pub is : is_true s lit ≡ true

-- the literal is not set false
abbrev pub IsOpen : Setting → Lit → Type 0
IsOpen s lit = is_false s lit ≡ true → ⊥

-- two different literals of the clause are free in some sense
pub record HasPair (IsFree : Lit → Type 0) (watch : Watch) (lits : List Lit) : Type 0 where
  pub one_among : Contains lits watch.one.lit
  pub other_among : Contains lits watch.other.lit
  pub differ : watch.one.lit ≡ watch.other.lit → ⊥
  pub one_free : IsFree watch.one.lit
  pub other_free : IsFree watch.other.lit

-- what a clause asks for: nothing, that its one literal that isn't false is set, or a conflict
abbrev pub Asks : Setting → List Lit → Status → Type 0
Asks s lits (Satisfied lit) = Contains lits lit × (is_true s lit ≡ true)
Asks s lits (Open watch) = HasPair (IsOpen s) watch lits
Asks s lits (UnitClause lit) = Contains lits lit × (s lit.var ≡ None) × AllFalseBut s lits lit
Asks s lits Falsified = AllFalse s lits

-- the literal is set true, and nothing else changes
pub record IsSetIn (old new : Setting) (lit : Lit) : Type 0 where
  pub stays : (t : Lit) → is_true old t ≡ true → is_true new t ≡ true
  pub is : is_true new lit ≡ true
  pub alone : (t : Lit) → is_true new t ≡ true → (is_true old t ≡ true) ⊎ (t ≡ lit)

-- the variable has no value any more, and nothing else changes
pub record IsUnsetIn (old new : Setting) (var : ℕ) : Type 0 where
  pub stays : (t : Lit) → is_true old t ≡ true → (t.var ≡ var → ⊥) → is_true new t ≡ true
  pub alone : (t : Lit) → is_true new t ≡ true → (is_true old t ≡ true) × (t.var ≡ var → ⊥)

-- the same literals are set true
pub record IsAlike (one other : Setting) : Type 0 where
  pub there : (t : Lit) → is_true one t ≡ true → is_true other t ≡ true
  pub back : (t : Lit) → is_true other t ≡ true → is_true one t ≡ true
