-- The analysis of a conflict (Marques-Silva and Sakallah 1999): the places of the trail that are marked, whose literals
-- together meet a conflict.
use Rattle.std.specs.Prelude.{◌≡◌, ℕ, ◌+◌, ◌≤◌, ◌<◌, true, false, ◌⊎◌, List, Option, Some, None, get_or, slice_get, slice_set, length, Contains}
use Rattle.cs_base.specs.declared.formula.Lit.{Lit}
use Rattle.cs_base.specs.declared.formula.Clause.{Clause}
use Rattle.cs_base.specs.Derivations.{negated, IsRup}
use Rattle.cs_sat.specs.declared.analyse.Learned.{Learned}
use Rattle.cs_sat.specs.Reasons.{IsSetBefore, Clash}
use Rattle.cs_sat.specs.declared.trail.Reason.TheVariants.{Propagated}
use Rattle.cs_sat.specs.declared.trail.Step.{Step}
use Rattle.cs_sat.specs.declared.trail.Trail.{Trail}
use Rattle.cs_sat.specs.declared.marks.Marks.{Marks}
use Rattle.cs_sat.specs.Trails.{IsStep}

-- a place is marked
abbrev pub IsAt : Marks → ℕ → Type 0
IsAt marks place = get_or marks.marked.items place false ≡ true

-- a literal stands at a marked place
pub record IsMarked (steps : List Step) (marks : Marks) (lit : Lit) : Type 0 where
  pub place : ℕ
  pub step : IsStep steps place lit
  pub marked : IsAt marks place

-- a literal stands at level 0
pub record IsBase (steps : List Step) (lit : Lit) : Type 0 where
  pub place : ℕ
  pub step : IsStep steps place lit
  pub low : step.step.level ≡ 0

-- one place more is marked
pub record IsMarkedMore (old new : Marks) (place : ℕ) : Type 0 where
  pub marked : new.marked.items ≡ slice_set old.marked.items place true
  pub kept : (p : ℕ) → Contains old.touched.items p → Contains new.touched.items p
  pub has : IsAt old place ⊎ Contains new.touched.items place

-- the marked places: above level 0, and those of the conflict's level lie between the lowest one and where the
-- analysis has come to
pub record IsMarking (trail : Trail) (level at lowest : ℕ) (marks : Marks) : Type 0 where
  pub size : length marks.marked.items ≡ length trail.table.items
  pub listed : (place : ℕ) → IsAt marks place → Contains marks.touched.items place
  pub only : (place : ℕ) → IsAt marks place
      → (s : Step) × (slice_get trail.steps.items place ≡ Some s) × (0 < s.level)
      × ((s.level < level) ⊎ ((lowest ≤ place) × (place ≤ at)))
  pub low : IsAt marks lowest
  pub top : (s : Step) × (slice_get trail.steps.items lowest ≡ Some s) × (s.level ≡ level)
  pub high : (place : ℕ) (s : Step) → place ≤ at → slice_get trail.steps.items place ≡ Some s → s.level ≤ level

-- nothing is marked
pub record IsClear (trail : Trail) (marks : Marks) : Type 0 where
  pub size : length marks.marked.items ≡ length trail.table.items
  pub none : (place : ℕ) → get_or marks.marked.items place false ≡ false

-- a literal that is false was marked, and the lowest marked place of the conflict's level may be another one
pub record AreMarkedFalse (trail : Trail) (level lowest : ℕ) (lits : List Lit) (skip : Lit) (old new : Marks) (low : ℕ)
    : Type 0 where
  pub marking : (at : ℕ) → ((lit : Lit) → Contains lits lit → (lit ≡ skip → ⊥)
      → IsSetBefore trail.steps.items (at + 1) (negated lit))
      → IsMarking trail level at lowest old → IsMarking trail level at low new
  pub size : length new.marked.items ≡ length old.marked.items
  pub stays : (place : ℕ) → IsAt old place → IsAt new place
  pub has : (lit : Lit) → Contains lits lit → (lit ≡ skip → ⊥)
      → IsMarked trail.steps.items new (negated lit) ⊎ IsBase trail.steps.items (negated lit)

-- the marked literals together meet a conflict, and the analysis has come to this place
pub record IsResolved (clauses : List Clause) (trail : Trail) (level at : ℕ) (marks : Marks) (lowest : ℕ) : Type 0 where
  pub marking : IsMarking trail level at lowest marks
  pub clash : Clash clauses (IsMarked trail.steps.items marks)

-- each of these literals but one became false at a marked place or at level 0
abbrev pub AreCovered : Trail → Marks → List Lit → Lit → Type 0
AreCovered trail marks lits skip = (lit : Lit) → Contains lits lit → (lit ≡ skip → ⊥)
    → IsMarked trail.steps.items marks (negated lit) ⊎ IsBase trail.steps.items (negated lit)

-- the literal at a place follows from the others that are marked, by its reason
pub record IsRedundant (clauses : List Clause) (trail : Trail) (marks : Marks) (place : ℕ) : Type 0 where
  pub step : Step
  pub found : slice_get trail.steps.items place ≡ Some step
  pub number : ℕ
  pub why : step.reason ≡ Propagated number
  pub clause : Clause
  pub listed : slice_get clauses number ≡ Some clause
  pub covered : AreCovered trail marks clause.lits step.lit

-- the latest place where a literal of the clause became false
abbrev pub IsLatest : List Step → List Lit → Option ℕ → Type 0
IsLatest steps lits None = (lit : Lit) → Contains lits lit → ⊥
IsLatest steps lits (Some top) = ((lit : Lit) × Contains lits lit × IsStep steps top (negated lit))
    × ((lit : Lit) → Contains lits lit → IsSetBefore steps (top + 1) (negated lit))

-- a literal of the learned clause: that of the first unique implication point, or one that became false at a level of
-- this number at most
abbrev pub IsPart : List Step → Lit → ℕ → Lit → Type 0
IsPart steps first level lit = (lit ≡ first)
    ⊎ ((place : ℕ) × (step : IsStep steps place (negated lit)) × (step.step.level ≤ level))

-- the learned clause has the negations of the literals at those marked places that are among some, and no others but the
-- first unique implication point's
pub record IsCollected (trail : Trail) (marks : Marks) (level at : ℕ) (places : List ℕ) (learned : Learned) : Type 0 where
  pub point : IsStep trail.steps.items at (negated learned.first)
  pub has : Contains learned.lits.items learned.first
  pub all : (place : ℕ) (lit : Lit) → Contains places place → IsAt marks place → IsStep trail.steps.items place lit
      → Contains learned.lits.items (negated lit)
  pub parts : (lit : Lit) → Contains learned.lits.items lit
      → IsPart trail.steps.items learned.first learned.level lit
  pub below : learned.level < level

-- a clause was learned from clauses: it is RUP, and but for its first literal it is false at an earlier level than the
-- first one's
pub record IsLearned (clauses : List Clause) (trail : Trail) (learned : Learned) : Type 0 where
  pub rup : IsRup clauses (record { lits = learned.lits.items })
  pub at : ℕ
  pub point : IsStep trail.steps.items at (negated learned.first)
  pub has : Contains learned.lits.items learned.first
  pub parts : (lit : Lit) → Contains learned.lits.items lit
      → IsPart trail.steps.items learned.first learned.level lit
  pub below : learned.level < point.step.level
