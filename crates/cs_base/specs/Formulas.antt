-- Formulas in conjunctive normal form: assignments, clauses that they make true, models.
use Rattle.std.specs.Prelude.{◌≡◌, ℕ, ◌-◌, ◌≤◌, ◌<◌, Bool, true, false, not, if◌then◌else◌, IsTrue, List, get_or, All}
use Rattle.std.specs.List.{list_any, list_all}
use Rattle.cs_base.specs.declared.formula.Lit.{Lit}
use Rattle.cs_base.specs.declared.formula.Clause.{Clause}
use Rattle.cs_base.specs.declared.formula.Formula.{Formula}

-- an assignment gives a value to each variable
abbrev pub Assignment : Type 0
Assignment = ℕ → Bool

-- the assignment that a list of bits stands for, variable 1 first
abbrev pub assignment_of : List Bool → Assignment
assignment_of bits var = get_or bits (var - 1) false

-- a literal is true where its variable has its sign
abbrev pub lit_value : Assignment → Lit → Bool
lit_value a lit = if lit.positive then a lit.var else not (a lit.var)

-- a clause is true where one of its literals is
abbrev pub clause_value : Assignment → Clause → Bool
clause_value a clause = list_any (lit_value a) clause.lits

-- all these clauses are true
abbrev pub MakesTrue : Assignment → List Clause → Type 0
MakesTrue a clauses = IsTrue (list_all (clause_value a) clauses)

-- a model of a formula is an assignment that makes each of its clauses true
abbrev pub IsModel : Assignment → Formula → Type 0
IsModel a formula = MakesTrue a formula.clauses

-- the variables of a formula's clauses are 1 to its number of variables
abbrev pub IsInRange : Formula → Type 0
IsInRange formula = All (λ (clause : Clause). All (λ (lit : Lit). (1 ≤ lit.var) × (lit.var ≤ formula.vars)) clause.lits) formula.clauses
