-- The paper that a JSON value is, or the first place that is refused. The walk reads `kind` first and then goes by byte
-- order of keys, but reads `table` after `version`.
use Rattle.std.specs.Prelude.{ℕ, zero, suc, ◌^◌, ℤ, pos, negsuc, List, Bool, true, false, ◌==◌, ◌||◌, bytes_eq, nat_lt, nat_le, if◌then◌else◌, Option, Some, None, Ok, Err, option_and_then, map, codes}
use Rattle.std.specs.List.{list_all}
use Rattle.serde_json.specs.Data.{Data, Members}
use Rattle.serde_json.specs.Find.{as_integer, as_number}
use Rattle.cs_base.specs.declared.contexts.Mode.{Mode}
use Rattle.cs_base.specs.declared.contexts.Mode.TheVariants.{Any, Forward}
use Rattle.cs_base.specs.declared.formula.Lit.{Lit}
use Rattle.cs_base.specs.declared.formula.Clause.{Clause}
use Rattle.cs_base.specs.declared.formula.Derivation.{Derivation}
use Rattle.cs_json.specs.declared.document.Place.{Place}
use Rattle.cs_json.specs.Shape.{json_of}
use Rattle.cs_json.specs.Walk.{Read, ◌>>=◌, found, each_item, list, members, required, text, whole_number}
use Rattle.cs_cert.specs.declared.step.Step.{Step}
use Rattle.cs_cert.specs.declared.step.Step.TheVariants.{EdgeStep, PathStep, PinStep}
use Rattle.cs_cert.specs.declared.kind.StepKind.{StepKind}
use Rattle.cs_cert.specs.declared.kind.StepKind.TheVariants.{AlongEdge, AlongPath, BetweenPins}
use Rattle.cs_cert.specs.declared.kind.PaperKind.{PaperKind}
use Rattle.cs_cert.specs.declared.kind.PaperKind.TheVariants.{OfCertificate, OfRefusal, OfFallback}
use Rattle.cs_cert.specs.declared.retiming.Retiming.{Retiming}
use Rattle.cs_cert.specs.declared.paper.Certificate.{Certificate}
use Rattle.cs_cert.specs.declared.paper.Refusal.{Refusal}
use Rattle.cs_cert.specs.declared.paper.FallbackPaper.{FallbackPaper}
use Rattle.cs_cert.specs.declared.paper.Paper.{Paper}
use Rattle.cs_cert.specs.declared.paper.Paper.TheVariants.{Certificate as certificate_paper, Refusal as refusal_paper, Fallback as fallback_paper}

-- ---- numbers

-- a whole number from 0 to 2^64 - 1
abbrev pub whole : Data → Read ℕ
whole d = found (whole_number d)

-- the value of a number without fraction and exponent
abbrev pub integer : Data → Option ℤ
integer d = option_and_then as_integer (as_number d)

-- from -2^31 to 2^31
abbrev pub is_lag : ℤ → Bool
is_lag (pos n) = nat_le n (2 ^ 31)
is_lag (negsuc n) = nat_lt n (2 ^ 31)

-- the lag of a number
abbrev pub lag_of : ℤ → Option ℤ
lag_of z = if is_lag z then Some z else None

-- any other value is refused
abbrev pub lag : Data → Read ℤ
lag d = found (option_and_then lag_of (integer d))

-- below 2^32
abbrev pub id_of : ℕ → Option ℕ
id_of n = if nat_lt n (2 ^ 32) then Some n else None

-- the id of a vertex or of an edge
abbrev pub id : Data → Read ℕ
id d = found (option_and_then id_of (whole_number d))

-- a version is 1 or 2
abbrev pub is_version : ℕ → Bool
is_version n = n == 1 || n == 2

-- the version of a number
abbrev pub version_of : ℕ → Option ℕ
version_of n = if is_version n then Some n else None

-- any other value is refused
abbrev pub version : Data → Read ℕ
version d = found (option_and_then version_of (whole_number d))

-- ---- lists

-- a list of what f reads
abbrev pub items : {A : Type 0} → (Data → Read A) → Data → Read (List A)
items f d = list d >>= each_item f 0

-- `0` or `1`
abbrev pub is_digit : ℕ → Bool
is_digit c = c == 48 || c == 49

-- a bit for each digit, where there are digits alone
abbrev pub bits_of : List ℕ → Option (List Bool)
bits_of s = if list_all is_digit s then Some (map (λ c. c == 49) s) else None

-- what an edge holds: a text of `0` and `1`
abbrev pub bits : Data → Read (List Bool)
bits d = text d >>= λ s. found (bits_of s)

-- the literal of a number: its variable, negated where the number is below 0, which itself is no literal
abbrev pub literal_of : ℤ → Option Lit
literal_of (pos zero) = None
literal_of (pos (suc n)) = if nat_lt n (2 ^ 31) then Some (record { var = suc n; positive = true }) else None
literal_of (negsuc n) = if nat_lt n (2 ^ 31) then Some (record { var = suc n; positive = false }) else None

-- any other value is refused
abbrev pub literal : Data → Read Lit
literal d = found (option_and_then literal_of (integer d))

-- a line of a derivation
abbrev pub line : Data → Read Clause
line d = items literal d >>= λ lits. Ok (record { lits = lits })

-- the lines of a derivation
abbrev pub derivation : Data → Read Derivation
derivation d = items line d >>= λ lines. Ok (record { lines = lines })

-- ---- words

-- which lags a retiming may have
abbrev pub mode_of : List ℕ → Option Mode
mode_of s = if bytes_eq s (codes "any") then Some Any else (if bytes_eq s (codes "forward") then Some Forward else None)

-- any other text is refused
abbrev pub mode : Data → Read Mode
mode d = text d >>= λ s. found (mode_of s)

-- what a step goes along
abbrev pub step_kind_of : List ℕ → Option StepKind
step_kind_of s =
    if bytes_eq s (codes "edge") then Some AlongEdge
    else (if bytes_eq s (codes "path") then Some AlongPath
    else (if bytes_eq s (codes "pin") then Some BetweenPins else None))

-- any other text is refused
abbrev pub step_kind : Data → Read StepKind
step_kind d = text d >>= λ s. found (step_kind_of s)

-- what a paper shows
abbrev pub paper_kind_of : List ℕ → Option PaperKind
paper_kind_of s =
    if bytes_eq s (codes "certificate") then Some OfCertificate
    else (if bytes_eq s (codes "refusal") then Some OfRefusal
    else (if bytes_eq s (codes "fallback") then Some OfFallback else None))

-- any other text is refused
abbrev pub paper_kind : Data → Read PaperKind
paper_kind d = text d >>= λ s. found (paper_kind_of s)

-- ---- steps

-- along an edge
abbrev pub edge_step : Members → Read Step
edge_step ms = required id (codes "edge") ms >>= λ edge. Ok (EdgeStep edge)

-- along the edges of a path, of any number
abbrev pub path_step : Members → Read Step
path_step ms =
    required (items id) (codes "edges") ms >>= λ edges.
    required id (codes "from") ms >>= λ from.
    Ok (PathStep from edges)

-- from a vertex to another
abbrev pub pin_step : Members → Read Step
pin_step ms =
    required id (codes "from") ms >>= λ from.
    required id (codes "to") ms >>= λ to.
    Ok (PinStep from to)

-- a step by its kind
abbrev pub step_by : StepKind → Members → Read Step
step_by AlongEdge ms = edge_step ms
step_by AlongPath ms = path_step ms
step_by BetweenPins ms = pin_step ms

-- a step, its kind first
abbrev pub step : Data → Read Step
step d = members d >>= λ ms. required step_kind (codes "kind") ms >>= λ kind. step_by kind ms

-- ---- papers

-- the version of the delay table: a paper of version 1 rests on a table of version 1, whatever it says
abbrev pub table_by : ℕ → Members → Read ℕ
table_by n ms = if n == 1 then Ok 1 else required version (codes "table") ms

-- the same for a paper, its own version first
abbrev pub table : Members → Read ℕ
table ms = required version (codes "version") ms >>= λ n. table_by n ms

-- the members that come last in each paper
abbrev pub retiming : Members → Read Retiming
retiming ms =
    required (items lag) (codes "lags") ms >>= λ lags.
    required mode (codes "mode") ms >>= λ found_mode.
    required whole (codes "period") ms >>= λ period.
    table ms >>= λ found_table.
    Ok (record { lags = lags; mode = found_mode; period = period; table = found_table })

-- the members of a certificate
unfoldable pub certificate : Members → Read Certificate
certificate ms =
    required (items bits) (codes "contents") ms >>= λ contents.
    required whole (codes "contexts") ms >>= λ contexts.
    required (items step) (codes "cycle") ms >>= λ cycle.
    retiming ms >>= λ rest.
    Ok (record {
      contexts = contexts;
      mode = rest.mode;
      table = rest.table;
      period = rest.period;
      lags = rest.lags;
      contents = contents;
      cycle = cycle;
    })

-- the members of a refusal
unfoldable pub refusal : Members → Read Refusal
refusal ms =
    required (items step) (codes "chains") ms >>= λ chains.
    required whole (codes "context") ms >>= λ context.
    required whole (codes "contexts") ms >>= λ contexts.
    required (items step) (codes "cycle") ms >>= λ cycle.
    required derivation (codes "derivation") ms >>= λ lines.
    retiming ms >>= λ rest.
    Ok (record {
      contexts = contexts;
      mode = rest.mode;
      table = rest.table;
      period = rest.period;
      lags = rest.lags;
      cycle = cycle;
      chains = chains;
      context = context;
      derivation = lines;
    })

-- the members of a fallback paper
unfoldable pub fallback : Members → Read FallbackPaper
fallback ms =
    required (items lag) (codes "below") ms >>= λ below.
    required (items step) (codes "chains") ms >>= λ chains.
    required (items bits) (codes "contents") ms >>= λ contents.
    required whole (codes "context") ms >>= λ context.
    required whole (codes "contexts") ms >>= λ contexts.
    required derivation (codes "derivation") ms >>= λ lines.
    retiming ms >>= λ rest.
    Ok (record {
      contexts = contexts;
      mode = rest.mode;
      table = rest.table;
      period = rest.period;
      lags = rest.lags;
      contents = contents;
      below = record { lags = below; chains = chains; context = context; derivation = lines };
    })

-- a paper by its kind
abbrev pub paper_by : PaperKind → Members → Read Paper
paper_by OfCertificate ms = certificate ms >>= λ c. Ok (certificate_paper c)
paper_by OfRefusal ms = refusal ms >>= λ r. Ok (refusal_paper r)
paper_by OfFallback ms = fallback ms >>= λ f. Ok (fallback_paper f)

-- a paper, its kind first
abbrev pub paper : Data → Read Paper
paper d = members d >>= λ ms. required paper_kind (codes "kind") ms >>= λ kind. paper_by kind ms

-- what bytes say: no JSON, a refused place, or a paper
pub data Reading : Type 0 where
  NoJson : Reading
  RefusedAt : Place → Reading
  Says : Paper → Reading

-- JSON says a paper or has a refused place
abbrev pub reading_of : Read Paper → Reading
reading_of (Ok p) = Says p
reading_of (Err path) = RefusedAt (record { path = path })

-- a text that is no JSON says nothing
abbrev pub reading : Option Data → Reading
reading None = NoJson
reading (Some d) = reading_of (paper d)

-- what bytes say
abbrev pub paper_of : List ℕ → Reading
paper_of bytes = reading (json_of bytes)
