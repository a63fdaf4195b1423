-- The printed bytes, and that they are read again.
use Rattle.std.proofs.Common.{◌≡◌, List, ℕ, [], ◌∷◌, ◌++◌, false, ap, ◌∙◌, refl, subst}
use Rattle.std.specs.Prelude.{IsUtf8}
use Rattle.std.proofs.lemmas.Str.{IsUtf8-append}
use Rattle.json.proofs.Printed.Utf8.{IsUtf8-are_ascii}
use Rattle.serde_json.specs.Data.{Data}
use Rattle.serde_json.specs.View.{view}
use Rattle.serde_json.specs.Written.{has_float, compact_text}
use Rattle.cs_cert.specs.declared.paper.Paper.{Paper}
use Rattle.cs_cert.specs.Fits.{FitsPaper}
use Rattle.cs_cert.specs.PaperShape.{paper_of}
use Rattle.cs_cert.specs.Papers.{data_of, printed}
use Rattle.cs_cert.proofs.BackLemmas.{paper_of-printed}
use Rattle.cs_cert.proofs.PlainPapers.{paper_no_float}
use Rattle.cs_cert.proofs.print.print_certificate.Goals as goal

-- the text of the paper's value, and a newline, are the printed text
printed_of : (p : Paper) (d : Data) (text : List ℕ) → FitsPaper p → d ≡ data_of p
    → (has_float d ≡ false → text ≡ compact_text d) → text ++ 10 ∷ [] ≡ printed p
printed_of p d text fits whole is =
    ap (λ t. t ++ 10 ∷ []) (is (ap has_float whole ∙ paper_no_float p fits) ∙ ap compact_text whole)

utf8_of : (p : Paper) (text : List ℕ) → text ++ 10 ∷ [] ≡ printed p → IsUtf8 text → IsUtf8 (printed p)
utf8_of p text same utf8 =
    subst IsUtf8 same (IsUtf8-append text (10 ∷ []) utf8 (IsUtf8-are_ascii (10 ∷ []) refl))

pub returns-clause-text : goal.returns-clause-text
returns-clause-text c =
    c.in_ok-push.ensures.items
    ∙ printed_of c.args.paper.now (view c.in_ok-value.value) c.in_ok-text.text.items
    c.in_ok-value.ensures.fits c.in_ok-value.ensures.value c.in_ok-text.ensures.text

pub returns-clause-reads_back : goal.returns-clause-reads_back
returns-clause-reads_back c = λ in_range.
    let same =
    printed_of c.args.paper.now (view c.in_ok-value.value) c.in_ok-text.text.items
    c.in_ok-value.ensures.fits c.in_ok-value.ensures.value c.in_ok-text.ensures.text in
    ap paper_of (c.in_ok-push.ensures.items ∙ same)
    ∙ paper_of-printed c.args.paper.now in_range c.in_ok-value.ensures.fits
    (utf8_of c.args.paper.now c.in_ok-text.text.items same c.in_ok-text.ensures.utf8)
