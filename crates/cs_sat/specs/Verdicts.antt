-- Verdicts on a formula: a model, or a derivation of the empty clause.
use Rattle.std.specs.Prelude.{◌≡◌, Bool, List, length}
use Rattle.cs_base.specs.declared.formula.Derivation.{Derivation}
use Rattle.cs_base.specs.declared.formula.Formula.{Formula}
use Rattle.cs_base.specs.Formulas.{assignment_of, IsModel}
use Rattle.cs_base.specs.Derivations.{IsDerivation}
use Rattle.cs_sat.specs.declared.verdict.Verdict.{Verdict}
use Rattle.cs_sat.specs.declared.verdict.Verdict.TheVariants.{Model, Refuted}

-- one bit for each variable, and together they make each clause true
pub record IsModelOf (formula : Formula) (bits : List Bool) : Type 0 where
  pub count : length bits ≡ formula.vars
  pub model : IsModel (assignment_of bits) formula

-- a verdict is right: its bits are a model, or its lines a derivation
abbrev pub IsRight : Formula → Verdict → Type 0
IsRight formula (Model bits) = IsModelOf formula bits
IsRight formula (Refuted derivation) = IsDerivation formula derivation.lines

-- a fact of a verdict's bits, if it is a model
abbrev pub IfModel : Verdict → (List Bool → Type 0) → Type 0
IfModel (Model bits) fact = fact bits
IfModel (Refuted _) fact = Unit {0}

-- a fact of a verdict's derivation, if it refutes
abbrev pub IfRefuted : Verdict → (Derivation → Type 0) → Type 0
IfRefuted (Model _) fact = Unit {0}
IfRefuted (Refuted derivation) fact = fact derivation

-- the verdict refutes
abbrev pub IsRefutation : Verdict → Type 0
IsRefutation (Model _) = ⊥
IsRefutation (Refuted _) = Unit {0}
