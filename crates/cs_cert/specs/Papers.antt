-- The JSON value that a paper is printed as, its text, and which papers are read again from it.
use Rattle.std.specs.Prelude.{ℕ, zero, suc, ◌≤◌, ◌^◌, ℤ, pos, negsuc, List, [], ◌∷◌, ◌++◌, Bool, true, false, IsTrue, if◌then◌else◌, map, codes}
use Rattle.std.specs.List.{AllByRecursion}
use Rattle.serde_json.specs.Data.{Data, number, unsigned, string, array, object, Members, no_members, member}
use Rattle.serde_json.specs.Find.{of_integer}
use Rattle.serde_json.specs.View.{items_of}
use Rattle.serde_json.specs.Written.{compact_text}
use Rattle.cs_base.specs.declared.contexts.Mode.{Mode}
use Rattle.cs_base.specs.declared.contexts.Mode.TheVariants.{Any, Forward}
use Rattle.cs_base.specs.declared.formula.Lit.{Lit}
use Rattle.cs_base.specs.declared.formula.Clause.{Clause}
use Rattle.cs_base.specs.declared.formula.Derivation.{Derivation}
use Rattle.cs_cert.specs.declared.step.Step.{Step}
use Rattle.cs_cert.specs.declared.step.Step.TheVariants.{EdgeStep, PathStep, PinStep}
use Rattle.cs_cert.specs.declared.retiming.Retiming.{Retiming}
use Rattle.cs_cert.specs.declared.paper.Certificate.{Certificate}
use Rattle.cs_cert.specs.declared.paper.Refusal.{Refusal}
use Rattle.cs_cert.specs.declared.paper.FallbackPaper.{FallbackPaper}
use Rattle.cs_cert.specs.declared.paper.Paper.{Paper}
use Rattle.cs_cert.specs.declared.paper.Paper.TheVariants.{Certificate as certificate_paper, Refusal as refusal_paper, Fallback as fallback_paper}
use Rattle.cs_cert.specs.PaperShape.{is_lag, is_version}

-- ---- the parts

-- a whole number or an id
abbrev pub whole_data : ℕ → Data
whole_data n = number (unsigned n)

-- a lag
abbrev pub lag_data : ℤ → Data
lag_data z = number (of_integer z)

-- a list
abbrev pub items_data : {A : Type 0} → (A → Data) → List A → Data
items_data f xs = array (items_of (map f xs))

-- what an edge holds, a digit for each bit
abbrev pub bits_data : List Bool → Data
bits_data bits = string (map (λ bit. if bit then 49 else 48) bits)

-- a variable, or what is below 0 for its negation
abbrev pub signed : Bool → ℕ → ℤ
signed true n = pos n
signed false zero = pos 0
signed false (suc n) = negsuc n

-- a literal
abbrev pub literal_data : Lit → Data
literal_data lit = number (of_integer (signed lit.positive lit.var))

-- a line of a derivation
abbrev pub line_data : Clause → Data
line_data line = items_data literal_data line.lits

-- a derivation
abbrev pub derivation_data : Derivation → Data
derivation_data d = items_data line_data d.lines

-- the word for a mode
abbrev pub mode_text : Mode → List ℕ
mode_text Any = codes "any"
mode_text Forward = codes "forward"

-- a step
abbrev pub step_data : Step → Data
step_data (EdgeStep edge) =
    object
    (member (codes "edge") (whole_data edge)
    (member (codes "kind") (string (codes "edge")) no_members))
step_data (PathStep from edges) =
    object
    (member (codes "edges") (items_data whole_data edges)
    (member (codes "from") (whole_data from)
    (member (codes "kind") (string (codes "path")) no_members)))
step_data (PinStep from to) =
    object
    (member (codes "from") (whole_data from)
    (member (codes "kind") (string (codes "pin"))
    (member (codes "to") (whole_data to) no_members)))

-- ---- papers, all of version 2

-- the members that come last in each paper, its kind first
abbrev pub last_members : List ℕ → Retiming → Members
last_members kind rest =
    member (codes "kind") (string kind)
    (member (codes "lags") (items_data lag_data rest.lags)
    (member (codes "mode") (string (mode_text rest.mode))
    (member (codes "period") (whole_data rest.period)
    (member (codes "table") (whole_data rest.table)
    (member (codes "version") (whole_data 2) no_members)))))

-- a certificate
abbrev pub certificate_data : Certificate → Data
certificate_data c =
    object
    (member (codes "contents") (items_data bits_data c.contents)
    (member (codes "contexts") (whole_data c.contexts)
    (member (codes "cycle") (items_data step_data c.cycle)
    (last_members (codes "certificate")
    (record { lags = c.lags; mode = c.mode; period = c.period; table = c.table })))))

-- a refusal
abbrev pub refusal_data : Refusal → Data
refusal_data r =
    object
    (member (codes "chains") (items_data step_data r.chains)
    (member (codes "context") (whole_data r.context)
    (member (codes "contexts") (whole_data r.contexts)
    (member (codes "cycle") (items_data step_data r.cycle)
    (member (codes "derivation") (derivation_data r.derivation)
    (last_members (codes "refusal")
    (record { lags = r.lags; mode = r.mode; period = r.period; table = r.table })))))))

-- a fallback paper
abbrev pub fallback_data : FallbackPaper → Data
fallback_data f =
    object
    (member (codes "below") (items_data lag_data f.below.lags)
    (member (codes "chains") (items_data step_data f.below.chains)
    (member (codes "contents") (items_data bits_data f.contents)
    (member (codes "context") (whole_data f.below.context)
    (member (codes "contexts") (whole_data f.contexts)
    (member (codes "derivation") (derivation_data f.below.derivation)
    (last_members (codes "fallback")
    (record { lags = f.lags; mode = f.mode; period = f.period; table = f.table }))))))))

-- the value of a paper
unfoldable pub data_of : Paper → Data
data_of (certificate_paper c) = certificate_data c
data_of (refusal_paper r) = refusal_data r
data_of (fallback_paper f) = fallback_data f

-- the printed paper: its value as compact JSON, and a newline
abbrev pub printed : Paper → List ℕ
printed p = compact_text (data_of p) ++ 10 ∷ []

-- ---- papers that are read again

-- the lags are from -2^31 to 2^31
abbrev pub AreLags : List ℤ → Type 0
AreLags lags = AllByRecursion (λ z. IsTrue (is_lag z)) lags

-- the variable of a literal is from 1 to 2^31
abbrev pub IsLiteral : Lit → Type 0
IsLiteral lit = (1 ≤ lit.var) × (lit.var ≤ 2 ^ 31)

-- so are those of all literals
abbrev pub AreLiterals : List Clause → Type 0
AreLiterals lines = AllByRecursion (λ line. AllByRecursion IsLiteral line.lits) lines

-- a paper in range: the delay table has version 1 or 2, and lags and literals are as above
abbrev pub IsInRange : Paper → Type 0
IsInRange (certificate_paper c) = IsTrue (is_version c.table) × AreLags c.lags
IsInRange (refusal_paper r) = IsTrue (is_version r.table) × AreLags r.lags × AreLiterals r.derivation.lines
IsInRange (fallback_paper f) =
    IsTrue (is_version f.table) × AreLags f.lags × AreLags f.below.lags × AreLiterals f.below.derivation.lines
