-- A paper in range is read again from the value that it is printed as, and from its text.
use Rattle.std.proofs.Common.{◌≡◌, ℕ, zero, suc, ◌^◌, ◌<◌, ◌≤◌, List, [], ◌∷◌, Bool, true, false, ℤ, pos, negsuc, Ok, map, refl, ap, ◌∙◌, arith}
use Rattle.std.specs.Prelude.{⊤, IsTrue, IsUtf8, nat_lt, if◌then◌else◌, ◌==◌}
use Rattle.std.specs.List.{AllByRecursion, list_all}
use Rattle.std.proofs.lemmas.Bool.Decides.{nat_tests}
use Rattle.serde_json.specs.Data.{Data, depth, string}
use Rattle.serde_json.specs.Read.{max_depth}
use Rattle.cs_base.specs.declared.formula.Lit.{Lit}
use Rattle.cs_base.specs.declared.formula.Clause.{Clause}
use Rattle.cs_base.specs.declared.formula.Derivation.{Derivation}
use Rattle.cs_base.specs.declared.contexts.Mode.{Mode}
use Rattle.cs_base.specs.declared.contexts.Mode.TheVariants.{Any, Forward}
use Rattle.cs_json.specs.Walk.{Read, each_item}
use Rattle.cs_json.proofs.Parsing.{json_of-some}
use Rattle.cs_json.proofs.PlainData.{read-compact_text}
use Rattle.cs_json.proofs.ReadsBack.{elements-items_of, items_back}
use Rattle.cs_cert.specs.declared.step.Step.{Step}
use Rattle.cs_cert.specs.declared.step.Step.TheVariants.{EdgeStep, PathStep, PinStep}
use Rattle.cs_cert.specs.declared.paper.Certificate.{Certificate}
use Rattle.cs_cert.specs.declared.paper.Refusal.{Refusal}
use Rattle.cs_cert.specs.declared.paper.FallbackPaper.{FallbackPaper}
use Rattle.cs_cert.specs.declared.paper.Paper.{Paper}
use Rattle.cs_cert.specs.declared.paper.Paper.TheVariants.{Certificate as certificate_paper, Refusal as refusal_paper, Fallback as fallback_paper}
use Rattle.cs_cert.specs.Fits.{AreSteps, FitsCertificate, FitsFallback, FitsPaper, FitsRefusal, IsId, IsStep}
use Rattle.cs_cert.specs.PaperShape as shape
use Rattle.cs_cert.specs.PaperShape.{Says, is_digit, is_lag, is_version, paper_of, reading, reading_of}
use Rattle.cs_cert.specs.Papers.{AreLags, AreLiterals, IsInRange, IsLiteral, bits_data, certificate_data, data_of, derivation_data, fallback_data, items_data, lag_data, line_data, literal_data, mode_text, printed, refusal_data, step_data, whole_data}
use Rattle.cs_cert.proofs.PlainPapers.{any_all, paper_depth, paper_plain}

-- where each thing is read again, so is the list
list_back : {A : Type 0} (f : Data → Read A) (g : A → Data) (P : A → Type 0) → ((a : A) → P a → f (g a) ≡ Ok a)
    → (xs : List A) → AllByRecursion P xs → shape.items f (items_data g xs) ≡ Ok xs
list_back f g P back xs h = ap (each_item f 0) (elements-items_of (map g xs)) ∙ items_back f g P back xs 0 h

-- ---- numbers

lag_back : (z : ℤ) → IsTrue (is_lag z) → shape.lag (lag_data z) ≡ Ok z
lag_back (pos n) h = rw h refl
lag_back (negsuc n) h = rw h refl

lags_back : (lags : List ℤ) → AreLags lags → shape.items shape.lag (items_data lag_data lags) ≡ Ok lags
lags_back lags h = list_back shape.lag lag_data (λ z. IsTrue (is_lag z)) lag_back lags h

test_by_below : (n m : ℕ) → n < m → nat_lt n m ≡ true
test_by_below n m h = grind (arith, nat_tests)

id_back : (n : ℕ) → IsId n → shape.id (whole_data n) ≡ Ok n
id_back n h = rw (test_by_below n (2 ^ 32) h) refl

literal_back_of : (positive : Bool) (n : ℕ) → 1 ≤ n → n ≤ 2 ^ 31
    → shape.literal (literal_data (record { var = n; positive = positive })) ≡ Ok (record { var = n; positive = positive })
literal_back_of true zero low high = absurd (omega arith)
literal_back_of false zero low high = absurd (omega arith)
literal_back_of true (suc n) low high = let few : n < 2 ^ 31 = omega arith in rw (test_by_below n (2 ^ 31) few) refl
literal_back_of false (suc n) low high = let few : n < 2 ^ 31 = omega arith in rw (test_by_below n (2 ^ 31) few) refl

literal_back : (lit : Lit) → IsLiteral lit → shape.literal (literal_data lit) ≡ Ok lit
literal_back lit h = literal_back_of lit.positive lit.var h.0 h.1

line_back : (line : Clause) → AllByRecursion IsLiteral line.lits → shape.line (line_data line) ≡ Ok line
line_back line h = rw (list_back shape.literal literal_data IsLiteral literal_back line.lits h) refl

derivation_back : (d : Derivation) → AreLiterals d.lines → shape.derivation (derivation_data d) ≡ Ok d
derivation_back d h =
    rw (list_back shape.line line_data (λ line. AllByRecursion IsLiteral line.lits) line_back d.lines h) refl

version_back : (n : ℕ) → IsTrue (is_version n) → shape.version (whole_data n) ≡ Ok n
version_back n h = rw h refl

-- ---- digits

digits_all : (bits : List Bool) → list_all is_digit (map (λ bit. if bit then 49 else 48) bits) ≡ true
digits_all [] = refl
digits_all (true ∷ bits) = digits_all bits
digits_all (false ∷ bits) = digits_all bits

digits_back : (bits : List Bool) → map (λ c. c == 49) (map (λ bit. if bit then 49 else 48) bits) ≡ bits
digits_back [] = refl
digits_back (true ∷ bits) = ap (λ rest. true ∷ rest) (digits_back bits)
digits_back (false ∷ bits) = ap (λ rest. false ∷ rest) (digits_back bits)

bits_back : (bits : List Bool) → ⊤ → shape.bits (bits_data bits) ≡ Ok bits
bits_back bits h = rw (digits_all bits, digits_back bits) refl

contents_back : (contents : List (List Bool))
    → shape.items shape.bits (items_data bits_data contents) ≡ Ok contents
contents_back contents = list_back shape.bits bits_data (λ _. ⊤) bits_back contents (any_all contents)

-- ---- steps

step_back : (step : Step) → IsStep step → shape.step (step_data step) ≡ Ok step
step_back (EdgeStep edge) h = rw (id_back edge h) refl
step_back (PathStep from edges) h = rw (list_back shape.id whole_data IsId id_back edges h.1, id_back from h.0) refl
step_back (PinStep from to) h = rw (id_back from h.0, id_back to h.1) refl

steps_back : (steps : List Step) → AreSteps steps → shape.items shape.step (items_data step_data steps) ≡ Ok steps
steps_back steps h = list_back shape.step step_data IsStep step_back steps h

-- ---- papers

mode_back : (mode : Mode) → shape.mode (string (mode_text mode)) ≡ Ok mode
mode_back Any = refl
mode_back Forward = refl

certificate_back : (c : Certificate) → IsInRange (certificate_paper c) → FitsCertificate c
    → shape.paper (certificate_data c) ≡ Ok (certificate_paper c)
unfolding shape.certificate
certificate_back c h fits =
    rw (
      contents_back c.contents,
      steps_back c.cycle fits.cycle,
      lags_back c.lags h.1,
      mode_back c.mode,
      version_back c.table h.0,
    ) refl

refusal_back : (r : Refusal) → IsInRange (refusal_paper r) → FitsRefusal r
    → shape.paper (refusal_data r) ≡ Ok (refusal_paper r)
unfolding shape.refusal
refusal_back r h fits =
    rw (
      steps_back r.chains fits.chains,
      steps_back r.cycle fits.cycle,
      derivation_back r.derivation h.2,
      lags_back r.lags h.1,
      mode_back r.mode,
      version_back r.table h.0,
    ) refl

fallback_back : (f : FallbackPaper) → IsInRange (fallback_paper f) → FitsFallback f
    → shape.paper (fallback_data f) ≡ Ok (fallback_paper f)
unfolding shape.fallback
fallback_back f h fits =
    rw (
      lags_back f.below.lags h.2,
      steps_back f.below.chains fits.chains,
      contents_back f.contents,
      derivation_back f.below.derivation h.3,
      lags_back f.lags h.1,
      mode_back f.mode,
      version_back f.table h.0,
    ) refl

-- a paper in range is the paper of the value that it prints as
pub paper_back : (p : Paper) → IsInRange p → FitsPaper p → shape.paper (data_of p) ≡ Ok p
unfolding data_of
paper_back (certificate_paper c) h fits = certificate_back c h fits
paper_back (refusal_paper r) h fits = refusal_back r h fits
paper_back (fallback_paper f) h fits = fallback_back f h fits

-- and it is read again from its text
pub paper_of-printed : (p : Paper) → IsInRange p → FitsPaper p → IsUtf8 (printed p) → paper_of (printed p) ≡ Says p
paper_of-printed p h fits utf8 =
    let shallow : depth (data_of p) ≤ max_depth = let four = paper_depth p in omega arith in
    ap reading (json_of-some (printed p) (data_of p) utf8 (read-compact_text (data_of p) (paper_plain p fits) shallow))
    ∙ ap reading_of (paper_back p h fits)
