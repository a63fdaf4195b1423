-- Derivations by reverse unit propagation (Goldberg and Novikov 2003; Van Gelder 2008).
use Rattle.std.specs.Prelude.{◌≡◌, ℕ, not, ◌⊎◌, List, [], ◌∷◌, ◌++◌, map, Contains}
use Rattle.cs_base.specs.declared.formula.Lit.{Lit}
use Rattle.cs_base.specs.declared.formula.Clause.{Clause}
use Rattle.cs_base.specs.declared.formula.Formula.{Formula}

-- the other literal of the same variable
abbrev pub negated : Lit → Lit
negated lit = record { var = lit.var; positive = not lit.positive }

-- what is set true once some literals are given and units are propagated to their end
pub data IsSet (clauses : List Clause) (given : List Lit) : Lit → Type 0 where
  -- it is given
  assumed : (lit : Lit) → Contains given lit → IsSet clauses given lit
  -- it stands in a clause all of whose other literals are set false
  unit : (clause : Clause) (lit : Lit) → Contains clauses clause → Contains clause.lits lit → ((other : Lit) → Contains clause.lits other → (other ≡ lit → ⊥) → IsSet clauses given (negated other)) → IsSet clauses given lit

-- all literals of one of the clauses are set false
pub record IsFalsified (clauses : List Clause) (given : List Lit) : Type 0 where
  pub clause : Clause
  pub among : Contains clauses clause
  pub false_all : (lit : Lit) → Contains clause.lits lit → IsSet clauses given (negated lit)

-- a variable is set both ways
pub record IsSetBothWays (clauses : List Clause) (given : List Lit) : Type 0 where
  pub lit : Lit
  pub one_way : IsSet clauses given lit
  pub other_way : IsSet clauses given (negated lit)

abbrev pub MeetsConflict : List Clause → List Lit → Type 0
MeetsConflict clauses given = IsFalsified clauses given ⊎ IsSetBothWays clauses given

-- setting all literals of the line false and propagating units meets a conflict
abbrev pub IsRup : List Clause → Clause → Type 0
IsRup clauses line = MeetsConflict clauses (map negated line.lits)

-- each line is RUP from the clauses and the lines before it
abbrev pub AreRup : List Clause → List Clause → Type 0
AreRup clauses [] = Unit {0}
AreRup clauses (line ∷ lines) = IsRup clauses line × AreRup (clauses ++ line ∷ []) lines

-- the last line is the empty clause
abbrev pub EndsWithEmpty : List Clause → Type 0
EndsWithEmpty [] = ⊥
EndsWithEmpty (line ∷ []) = line.lits ≡ []
EndsWithEmpty (line ∷ next ∷ lines) = EndsWithEmpty (next ∷ lines)

-- a derivation of a formula: its lines, each RUP, end with the empty clause
pub record IsDerivation (formula : Formula) (lines : List Clause) : Type 0 where
  pub each : AreRup formula.clauses lines
  pub ends : EndsWithEmpty lines
