-- Reading a list or an object, one thing at a time.
use Rattle.std.proofs.Common.{◌≡◌, ℕ, ◌+◌, ◌<◌, List, [], ◌∷◌, ◌++◌, length, get_or, drop, map, Ok, Err, String, Global, string_bytes, refl, sym, ap, ◌∙◌, append_assoc}
use Rattle.std.proofs.lemmas.List.{drop_more}
use Rattle.serde_json.specs.Data.{Data}
use Rattle.serde_json.specs.View.{view, members_view}
use Rattle.serde_json.specs.declared.value.Value.{Value}
use Rattle.cs_json.specs.Walk.{Read, ◌>>=◌, each_item, each_member, entries, under, to_item, to_key}

-- what is read, behind what was read before
abbrev pub with_front : {A : Type 0} → List A → Read (List A) → Read (List A)
with_front front read = read >>= λ rest. Ok (front ++ rest)

with_front-more : {A : Type 0} (front : List A) (a : A) (read : Read (List A))
    → with_front (front ++ a ∷ []) read ≡ with_front front (read >>= λ rest. Ok (a ∷ rest))
with_front-more front a (Ok rest) = ap Ok (append_assoc front (a ∷ []) rest)
with_front-more front a (Err at) = refl

-- a member was read
pub one_more_member : {A : Type 0} (f : List ℕ → Data → Read A) (front : List A) (a : A)
    (left rest : List (String Global × Value)) (member : String Global × Value)
    → left ≡ member ∷ rest
    → under (to_key (string_bytes member.0)) (f (string_bytes member.0) (view member.1)) ≡ Ok a
    → with_front (front ++ a ∷ []) (each_member f (entries (members_view rest))) ≡ with_front front
    (each_member f (entries (members_view left)))
one_more_member f front a left rest member split read =
    let more = each_member f (entries (members_view rest)) in
    with_front-more front a more
    ∙ ap (λ first. with_front front (first >>= λ x. more >>= λ others. Ok (x ∷ others))) (sym read)
    ∙ ap (λ es. with_front front (each_member f (entries (members_view es)))) (sym split)

-- an item was read
pub one_more_item : {A : Type 0} (f : Data → Read A) (front : List A) (a : A) (vs : List Value) (i : ℕ) (v : Value)
    → v ≡ get_or vs i v → i < length vs → under (to_item i) (f (view v)) ≡ Ok a
    → with_front (front ++ a ∷ []) (each_item f (i + 1) (map view (drop (i + 1) vs)))
    ≡ with_front front (each_item f i (map view (drop i vs)))
one_more_item f front a vs i v at lt read =
    let more = each_item f (i + 1) (map view (drop (i + 1) vs)) in
    with_front-more front a more
    ∙ ap (λ first. with_front front (first >>= λ x. more >>= λ others. Ok (x ∷ others))) (sym read)
    ∙ ap (λ w. with_front front (each_item f i (view w ∷ map view (drop (i + 1) vs)))) at
    ∙ ap (λ ws. with_front front (each_item f i (map view ws))) (sym (drop_more vs i v lt))
