-- The view of a list and of an object, as lists.
use Rattle.std.proofs.Common.{◌≡◌, ℕ, List, [], ◌∷◌, map, String, Global, string_bytes, refl, ap}
use Rattle.serde_json.specs.Data.{Data}
use Rattle.serde_json.specs.View.{view, items_view, members_view}
use Rattle.serde_json.specs.declared.value.Value.{Value}
use Rattle.cs_json.specs.Walk.{elements, entries}

pub elements-items_view : (vs : List Value) → elements (items_view vs) ≡ map view vs
elements-items_view [] = refl
elements-items_view (v ∷ vs) = ap (λ rest. view v ∷ rest) (elements-items_view vs)

-- a member as a key and its value
abbrev pub pair_view : String Global × Value → List ℕ × Data
pair_view m = (string_bytes m.0, view m.1)

pub entries-members_view : (es : List (String Global × Value))
    → entries (members_view es) ≡ map pair_view es
entries-members_view [] = refl
entries-members_view (e ∷ es) = ap (λ rest. pair_view e ∷ rest) (entries-members_view es)
