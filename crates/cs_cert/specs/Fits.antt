-- Papers whose numbers fit the types that hold them, as those of every paper in memory do.
use Rattle.std.specs.Prelude.{ℕ, ◌<◌, ◌^◌, ℤ, pos, negsuc, List}
use Rattle.std.specs.List.{AllByRecursion}
use Rattle.cs_base.specs.declared.formula.Lit.{Lit}
use Rattle.cs_base.specs.declared.formula.Clause.{Clause}
use Rattle.cs_cert.specs.declared.step.Step.{Step}
use Rattle.cs_cert.specs.declared.step.Step.TheVariants.{EdgeStep, PathStep, PinStep}
use Rattle.cs_cert.specs.declared.retiming.Retiming.{Retiming}
use Rattle.cs_cert.specs.declared.paper.Certificate.{Certificate}
use Rattle.cs_cert.specs.declared.paper.Refusal.{Refusal}
use Rattle.cs_cert.specs.declared.paper.FallbackPaper.{FallbackPaper}
use Rattle.cs_cert.specs.declared.paper.Paper.{Paper}
use Rattle.cs_cert.specs.declared.paper.Paper.TheVariants.{Certificate as certificate_paper, Refusal as refusal_paper, Fallback as fallback_paper}

-- 64 bits, with a sign
abbrev pub IsSigned : ℤ → Type 0
IsSigned (pos n) = n < 2 ^ 63
IsSigned (negsuc n) = n < 2 ^ 63

abbrev pub IsId : ℕ → Type 0
IsId n = n < 2 ^ 32

abbrev pub IsWord : ℕ → Type 0
IsWord n = n < 2 ^ 64

abbrev pub IsSmall : Lit → Type 0
IsSmall lit = lit.var < 2 ^ 32

abbrev pub IsSmallLine : Clause → Type 0
IsSmallLine line = AllByRecursion IsSmall line.lits

abbrev pub IsStep : Step → Type 0
IsStep (EdgeStep edge) = IsId edge
IsStep (PathStep from edges) = IsId from × AllByRecursion IsId edges
IsStep (PinStep from to) = IsId from × IsId to

abbrev pub AreSteps : List Step → Type 0
AreSteps steps = AllByRecursion IsStep steps

-- the members that come last
pub record Rest (rest : Retiming) : Type 0 where
  pub lags : AllByRecursion IsSigned rest.lags
  pub period : IsWord rest.period
  pub table : IsWord rest.table

pub record FitsCertificate (c : Certificate) : Type 0 where
  pub contexts : IsWord c.contexts
  pub cycle : AreSteps c.cycle
  pub rest : Rest (record { lags = c.lags; mode = c.mode; period = c.period; table = c.table })

pub record FitsRefusal (r : Refusal) : Type 0 where
  pub chains : AreSteps r.chains
  pub context : IsWord r.context
  pub contexts : IsWord r.contexts
  pub cycle : AreSteps r.cycle
  pub derivation : AllByRecursion IsSmallLine r.derivation.lines
  pub rest : Rest (record { lags = r.lags; mode = r.mode; period = r.period; table = r.table })

pub record FitsFallback (f : FallbackPaper) : Type 0 where
  pub below : AllByRecursion IsSigned f.below.lags
  pub chains : AreSteps f.below.chains
  pub context : IsWord f.below.context
  pub contexts : IsWord f.contexts
  pub derivation : AllByRecursion IsSmallLine f.below.derivation.lines
  pub rest : Rest (record { lags = f.lags; mode = f.mode; period = f.period; table = f.table })

abbrev pub FitsPaper : Paper → Type 0
FitsPaper (certificate_paper c) = FitsCertificate c
FitsPaper (refusal_paper r) = FitsRefusal r
FitsPaper (fallback_paper f) = FitsFallback f
