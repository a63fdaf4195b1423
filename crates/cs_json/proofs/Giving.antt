-- What a reader gives, a step at a time.
use Rattle.std.proofs.Common.{◌≡◌, Result, Err, sym, subst}
use Rattle.cs_json.specs.declared.error.ReadError.{ReadError}
use Rattle.cs_json.specs.declared.error.ReadError.TheVariants.{Refused}
use Rattle.cs_json.specs.Walk.{Read, Path}
use Rattle.cs_json.specs.Gives.{Gives, Fails}

-- it gives what is the same
pub gives_same : {A : Type 0} (r : Result A ReadError) (a b : Read A) → b ≡ a → Gives r a
    → Gives r b
gives_same {A = A} r a b same given = let P : Read A → Type 0 = Gives r in subst P (sym same) given

-- the refused place is that of the error
pub refused_in : {A : Type 0} (e : ReadError) (path : Path) (read : Read A) → e ≡ Refused path
    → Fails e read → read ≡ Err path
refused_in e path read is given = let P : ReadError → Type 0 = λ x. Fails x read in subst P is given
