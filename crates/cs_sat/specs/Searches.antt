-- The state of a search, and what its steps do.
use Rattle.std.specs.Prelude.{◌≡◌, ℕ, ◌+◌, ◌≤◌, ◌<◌, List, [], ◌++◌, Option, Some, None, IfSome, length, Contains}
use Rattle.cs_base.specs.declared.formula.Clause.{Clause}
use Rattle.cs_base.specs.declared.formula.Formula.{Formula}
use Rattle.cs_base.specs.Derivations.{IsRup, AreRup, IsDerivation}
use Rattle.cs_sat.specs.declared.trail.Setting.{Setting}
use Rattle.cs_sat.specs.declared.trail.Trail.{Trail}
use Rattle.cs_sat.specs.declared.analyse.Learned.{Learned}
use Rattle.cs_sat.specs.declared.search.Search.{Search}
use Rattle.cs_sat.specs.declared.search.End.{End}
use Rattle.cs_sat.specs.declared.search.End.TheVariants.{Satisfied as AllTrue, Refuted as Contradiction}
use Rattle.cs_sat.specs.Trails.{setting_of, Grows}
use Rattle.cs_sat.specs.Weights.{weight}
use Rattle.cs_sat.specs.Reasons.{IsOver, IsConflict}
use Rattle.cs_sat.specs.Looks.{HasTrue}
use Rattle.cs_sat.specs.Analyses.{IsClear, IsLearned}

-- the trail is one over the formula and the lines, of which each is RUP from the formula and those before it
pub record IsSearch (formula : Formula) (search : Search) : Type 0 where
  pub over : IsOver (formula.clauses ++ search.store.lines) search.trail
  pub each : AreRup formula.clauses search.store.lines
  pub size : length search.trail.table.items ≡ formula.vars + 1
  pub clear : IsClear search.trail search.marks

-- the weight of the trail among the formula's variables
abbrev pub weight_of : Formula → Search → ℕ
weight_of formula search = weight (formula.vars + 1) search.trail.steps.items

-- the search goes on: its trail is heavier
pub record GoesOn (formula : Formula) (old new : Search) : Type 0 where
  pub kept : IsSearch formula new
  pub rises : weight_of formula old < weight_of formula new

-- propagation only puts steps behind the others, and what it finds is a conflict
pub record IsPropagated (formula : Formula) (old new : Search) (found : Option ℕ) : Type 0 where
  pub kept : IsSearch formula new
  pub grows : Grows old.trail new.trail
  pub conflict : IfSome found (IsConflict (formula.clauses ++ new.store.lines) new.trail)

-- each variable from 1 on has a value
abbrev pub AreAllSet : Trail → Type 0
AreAllSet trail = (var : ℕ) → 1 ≤ var → var < length trail.table.items
    → (setting : Setting) × (setting_of trail var ≡ Some setting)

-- each clause of the formula has a true literal
abbrev pub AreAllTrue : Formula → Trail → Type 0
AreAllTrue formula trail = (clause : Clause) → Contains formula.clauses clause → HasTrue trail clause.lits

-- what a conflict leads to: a learned clause, or that the empty clause is RUP
abbrev pub IsOutcome : List Clause → Trail → Option Learned → Type 0
IsOutcome clauses trail None = IsRup clauses (record { lits = [] })
IsOutcome clauses trail (Some learned) = IsLearned clauses trail learned

-- how a search ends: with each variable set and each clause true, or with a derivation
abbrev pub EndsAs : Formula → Search → End → Type 0
EndsAs formula search AllTrue = IsSearch formula search × AreAllTrue formula search.trail
EndsAs formula search Contradiction = IsDerivation formula search.store.lines

-- where a search stands that was run for a while: it can go on, or it ended
abbrev pub StandsAs : Formula → Search → Option End → Type 0
StandsAs formula search None = IsSearch formula search
StandsAs formula search (Some end) = EndsAs formula search end

-- after a step the search goes on or ends
abbrev pub IsStepped : Formula → Search → Search → Option End → Type 0
IsStepped formula old new None = GoesOn formula old new
IsStepped formula old new (Some end) = EndsAs formula new end
