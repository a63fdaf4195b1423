-- How far a pass over the constraints has come.
use Rattle.std.proofs.Common.{◌≡◌, ℕ, ◌+◌, ◌<◌, ◌≤◌, Bool, true, false, List, length, Some, ap, ◌∙◌, subst, arith, below_more}
use Rattle.std.specs.Prelude.{slice_get}
use Rattle.std.proofs.lemmas.Option.{slice_get_within}
use Rattle.cs_diff.specs.Ranges.{place_at}
use Rattle.cs_diff.proofs.SystemLemmas.{turn_of}
use Rattle.cs_diff.specs.declared.system.Constraint.{Constraint}
use Rattle.cs_diff.specs.declared.reading.Reading.{Reading}
use Rattle.cs_diff.specs.Labels.{Labels, Keeps, KeepAll, slack_of}

-- the labels keep the constraints before this turn
abbrev pub KeepBelow : Reading → List Constraint → Bool → Labels → ℕ → Type 0
KeepBelow d cs back labels turn = (i : ℕ) → i < turn → (c : Constraint) → slice_get cs
    (place_at back (length cs) i) ≡ Some c → Keeps d labels c

-- nothing changed and all is kept so far, or the labels fell
abbrev pub HasPassed : Reading → List Constraint → Bool → ℕ → Labels → Labels → ℕ → Bool → Type 0
HasPassed d cs back n old new turn false = (new ≡ old) × KeepBelow d cs back old turn
HasPassed d cs back n old new turn true = slack_of n new < slack_of n old

-- the next constraint is kept
pub passed_kept : (d : Reading) (cs : List Constraint) (back : Bool) (n : ℕ) (old new new' : Labels)
    (turn : ℕ) (b : Bool)
    → HasPassed d cs back n old new turn b → new' ≡ new
    → ((c : Constraint) → slice_get cs (place_at back (length cs) turn) ≡ Some c → Keeps d new c)
    → HasPassed d cs back n old new' (turn + 1) b
passed_kept d cs back n old new new' turn false (same, keeps) still here = (
  still ∙ same,
  below_more (λ i. (c : Constraint) → slice_get cs (place_at back (length cs) i) ≡ Some c → Keeps d
      old c) turn keeps
      (λ c is. let P : Labels → Type 0 = λ l. Keeps d l c in subst P same (here c is)),
)
passed_kept d cs back n old new new' turn true fell still here = omega
    (arith, ap (slack_of n) still)

-- the next constraint lowers a label
pub passed_lowered : (d : Reading) (cs : List Constraint) (back : Bool) (n : ℕ)
    (old new new' : Labels) (turn : ℕ) (b : Bool)
    → HasPassed d cs back n old new turn b → slack_of n new' < slack_of n new
    → HasPassed d cs back n old new' (turn + 1) true
passed_lowered d cs back n old new new' turn false (same, keeps) fell = omega
    (arith, ap (slack_of n) same)
passed_lowered d cs back n old new new' turn true before fell = omega arith

-- all constraints are kept at the end
pub keep_all : (d : Reading) (cs : List Constraint) (back : Bool) (labels : Labels) (n : ℕ)
    → length cs ≤ n → KeepBelow d cs back labels n → KeepAll d cs labels
keep_all d cs back labels n most keeps i c is =
    let turn = turn_of back (length cs) i (slice_get_within cs i c is) in
    keeps (place_at back (length cs) i) (omega (arith, turn.0)) c (ap (slice_get cs) turn.1 ∙ is)
