-- The trail: the literals that are set, in order, each with its level and its reason.
use Rattle.std.specs.Prelude.{◌≡◌, ℕ, ◌+◌, ◌≤◌, ◌<◌, Bool, true, false, not, if◌then◌else◌, ◌⊎◌, List, [], ◌∷◌, ◌++◌, Option, Some, None, get_or, slice_get, length, Contains}
use Rattle.cs_base.specs.declared.formula.Lit.{Lit}
use Rattle.cs_base.specs.Derivations.{negated}
use Rattle.cs_sat.specs.declared.trail.Reason.{Reason}
use Rattle.cs_sat.specs.declared.trail.Reason.TheVariants.{Decision}
use Rattle.cs_sat.specs.declared.trail.Step.{Step}
use Rattle.cs_sat.specs.declared.trail.Setting.{Setting}
use Rattle.cs_sat.specs.declared.trail.Trail.{Trail}

-- what is kept of a variable: its sign and its place on the trail, where it is set
abbrev pub setting_of : Trail → ℕ → Option Setting
setting_of trail var = get_or trail.table.items var None

-- a variable that is set has this sign
abbrev pub has_sign : Option Setting → Bool → Bool
has_sign None sign = false
has_sign (Some setting) sign = if setting.positive then sign else not sign

-- the literal is set true
abbrev pub is_true : Trail → Lit → Bool
is_true trail lit = has_sign (setting_of trail lit.var) lit.positive

-- the literal is set false, which is that its negation is set true
abbrev pub is_false : Trail → Lit → Bool
is_false trail lit = is_true trail (negated lit)

-- all these literals are set false
abbrev pub AllFalse : Trail → List Lit → Type 0
AllFalse trail lits = (lit : Lit) → Contains lits lit → is_false trail lit ≡ true

-- how many variables have no value
abbrev pub unset : List (Option Setting) → ℕ
unset [] = 0
unset (None ∷ table) = unset table + 1
unset (Some _ ∷ table) = unset table

-- a literal is set by the step at some place
pub record IsStep (steps : List Step) (place : ℕ) (lit : Lit) : Type 0 where
  pub step : Step
  pub found : slice_get steps place ≡ Some step
  pub is : step.lit ≡ lit

-- each step has a level: 0 where nothing is decided before it, and else the place after the last decision, which is at
-- the place before that number
pub record IsTrail (trail : Trail) : Type 0 where
  -- the table has each step
  pub kept : (i : ℕ) (s : Step) → slice_get trail.steps.items i ≡ Some s
      → setting_of trail s.lit.var ≡ Some (record { positive = s.lit.positive; place = i })
  -- and nothing else
  pub known : (var : ℕ) (setting : Setting) → setting_of trail var ≡ Some setting
      → IsStep trail.steps.items setting.place (record { var = var; positive = setting.positive })
  pub decisions : (i : ℕ) (s : Step) → slice_get trail.steps.items i ≡ Some s → s.reason ≡ Decision → s.level ≡ i + 1
  pub levels : (i : ℕ) (s : Step) → slice_get trail.steps.items i ≡ Some s → s.level ≤ i + 1
  pub order : (i j : ℕ) (s t : Step) → i ≤ j → slice_get trail.steps.items i ≡ Some s
      → slice_get trail.steps.items j ≡ Some t → s.level ≤ t.level
  -- each variable is set once at most
  pub room : length trail.steps.items + unset trail.table.items ≡ length trail.table.items

-- the level of the last step, or 0 where there is none
pub record IsLast (steps : List Step) (level : ℕ) : Type 0 where
  pub above : (i : ℕ) (s : Step) → slice_get steps i ≡ Some s → s.level ≤ level
  pub one : (level ≡ 0) ⊎ ((i : ℕ) × (s : Step) × (slice_get steps i ≡ Some s) × (s.level ≡ level))

-- a literal is set behind the others, at their last level, for a reason
pub record IsImplied (old new : Trail) (lit : Lit) (reason : Reason) : Type 0 where
  pub level : ℕ
  pub last : IsLast old.steps.items level
  pub steps : new.steps.items ≡ old.steps.items ++ record { lit = lit; level = level; reason = reason } ∷ []

-- some steps of later levels are taken off
pub record IsOff (level : ℕ) (old new : List Step) : Type 0 where
  pub taken : List Step
  pub is : old ≡ new ++ taken
  pub later : (i : ℕ) (s : Step) → slice_get taken i ≡ Some s → level < s.level

-- the steps of later levels are taken off
pub record IsCut (level : ℕ) (old new : List Step) : Type 0 where
  pub off : IsOff level old new
  pub within : (i : ℕ) (s : Step) → slice_get new i ≡ Some s → s.level ≤ level

-- steps are put behind the others
pub record Grows (old new : Trail) : Type 0 where
  pub more : List Step
  pub is : new.steps.items ≡ old.steps.items ++ more
  pub size : length new.table.items ≡ length old.table.items

-- the step by which a decision sets a literal
abbrev pub decision : Trail → Lit → Step
decision trail lit = record { lit = lit; level = length trail.steps.items + 1; reason = Decision }

-- the last step is taken off
pub record IsPopped (old new : List Step) : Type 0 where
  pub step : Step
  pub is : old ≡ new ++ step ∷ []

-- the same steps and settings
pub record IsSame (old new : Trail) : Type 0 where
  pub steps : new.steps.items ≡ old.steps.items
  pub table : new.table.items ≡ old.table.items
