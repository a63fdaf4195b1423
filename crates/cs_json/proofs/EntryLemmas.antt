-- Reading the members of an object in turn.
use Rattle.std.proofs.Common.{◌≡◌, List, [], ◌∷◌, ◌++◌, map, Some, None, refl, sym, ap, ◌∙◌, Bor, String, Global, ℕ}
use Rattle.std.specs.Prelude.{filter_map, string_bytes}
use Rattle.std.specs.Map.Iter.{deref_pair}
use Rattle.std.proofs.lemmas.List.{map-append}
use Rattle.std.proofs.lemmas.List.Elements.{filter_map-append}
use Rattle.serde_json.specs.Data.{Data}
use Rattle.serde_json.specs.View.{view, members_view}
use Rattle.serde_json.specs.declared.value.Value.{Value}
use Rattle.cs_json.specs.declared.document.Entry.{Entry}
use Rattle.cs_json.specs.declared.document.Datum.{Datum}
use Rattle.cs_json.specs.Shape.{entry_of, entries_of, datum_of}
use Rattle.cs_json.proofs.Views.{entries-members_view}

-- a key and its value, as an iterator lends them
abbrev pub Lent : Type 0
Lent = Bor (String Global) × Bor Value

-- what they stand for
abbrev pub member_view : Lent → List ℕ × Data
member_view p = (string_bytes p.0.now, view p.1.now)

-- the attributes among some members
abbrev pub kept_of : List Lent → List Entry
kept_of xs = filter_map entry_of (map member_view xs)

pub kept_more : (xs : List Lent) (x : Lent) (d : Datum) → datum_of (view x.1.now) ≡ Some d
    → kept_of (xs ++ x ∷ [])
    ≡ kept_of xs ++ record { name = string_bytes x.0.now; datum = d } ∷ []
kept_more xs x d h = rw (map-append, filter_map-append, h) refl

pub kept_same : (xs : List Lent) (x : Lent) → datum_of (view x.1.now) ≡ None
    → kept_of (xs ++ x ∷ []) ≡ kept_of xs
kept_same [] x h = rw h refl
kept_same (y ∷ ys) x h = rw (kept_same ys x h) refl

map_shown : (xs : List Lent)
    → map member_view xs ≡ map (λ m. (string_bytes m.0, view m.1)) (map deref_pair xs)
map_shown [] = refl
map_shown (x ∷ xs) = ap (λ rest. member_view x ∷ rest) (map_shown xs)

-- all the members
pub kept_all : (xs : List Lent) (es : List (String Global × Value)) → map deref_pair xs ≡ es
    → kept_of xs ≡ entries_of (members_view es)
kept_all xs es h =
    ap (filter_map entry_of)
    (map_shown xs ∙ ap (map (λ m. (string_bytes m.0, view m.1))) h ∙ sym (entries-members_view es))
