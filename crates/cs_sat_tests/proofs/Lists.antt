-- Lists of which all items have a property.
use Rattle.std.proofs.Common.{◌≡◌, ℕ, List, Some, get_or}
use Rattle.std.specs.List.{All, slice_get}
use Rattle.std.proofs.lemmas.Option.{slice_get-get_or}

pub all_of : {A : Type 0} (P : A → Type 0) (xs : List A) → ((i : ℕ) (x : A) → slice_get xs i ≡ Some x → P x) → All P xs
all_of P xs each = λ k d within. each k (get_or xs k d) (slice_get-get_or xs k d within)
