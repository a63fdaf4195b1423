-- A table of names: the kind of the row of a name is the kind that has the name.
use Rattle.std.proofs.Common.{◌≡◌, ℕ, List, [], ◌∷◌, Bool, true, false, cond, map, Option, Some, refl}
use Rattle.std.specs.Prelude.{find, option_map, bytes_eq}

chosen : {A B : Type 0} (f : A → B) (t : Bool) (a : A) (rest : Option A) (rest' : Option B) → option_map f rest ≡ rest' → option_map f (cond t (Some a) rest) ≡ cond t (Some (f a)) rest'
chosen f true a rest rest' e = refl
chosen f false a rest rest' e = e

-- the kinds are those of the rows, each under its row's name
pub kind_of_row : {A B : Type 0} (kind : A → B) (name_of_row : A → List ℕ) (name_of_kind : B → List ℕ) (name : List ℕ) (rows : List A) → map name_of_row rows ≡ map (λ row. name_of_kind (kind row)) rows → option_map kind (find (λ row. bytes_eq (name_of_row row) name) rows) ≡ find (λ k. bytes_eq (name_of_kind k) name) (map kind rows)
kind_of_row kind name_of_row name_of_kind name [] e = refl
kind_of_row kind name_of_row name_of_kind name (row ∷ rows) e =
    let here : name_of_row row ≡ name_of_kind (kind row) = cc in
    let rest : map name_of_row rows ≡ map (λ r. name_of_kind (kind r)) rows = cc in
    rw here (chosen kind (bytes_eq (name_of_kind (kind row)) name) row _ _ (kind_of_row kind name_of_row name_of_kind name rows rest))
