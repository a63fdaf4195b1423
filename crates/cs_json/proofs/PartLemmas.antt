-- An object's text, a member at a time.
use Rattle.std.proofs.Common.{◌≡◌, ℕ, zero, suc, ◌+◌, ◌<◌, ◌≤◌, List, [], ◌∷◌, ◌++◌, length, get_or, map, Bool, true, false, Result, Ok, Err, refl, sym, ap, ap₂, ◌∙◌, arith}
use Rattle.std.proofs.Math.ListN.{drop, drop_of_length-le}
use Rattle.std.proofs.Math.Seq.{drop-cons}
use Rattle.std.specs.Prelude.{OnOk, is_ok, if◌then◌else◌}
use Rattle.std.proofs.lemmas.List.{append_assoc}
use Rattle.json.specs.Print.{quoted}
use Rattle.serde_json.specs.Data.{Data, Members, no_members, member, object}
use Rattle.serde_json.specs.Written.{comma_if, compact_text, members_text}
use Rattle.cs_json.specs.Printed.{Member, members_from, object_from}

-- the members that are still to come, with the closing bracket
abbrev pub text_from : {A : Type 0} → (A → Member) → Bool → List A → ℕ → List ℕ
text_from f later xs i = members_text later (members_from (map f (drop i xs)))

-- an object begins with its bracket
pub object_begun : (ms : Members) (old new : List ℕ) → new ≡ old ++ 123 ∷ []
    → new ++ members_text false ms ≡ old ++ compact_text (object ms)
object_begun ms old new begun =
    ap (λ t. t ++ members_text false ms) begun ∙ append_assoc old (123 ∷ []) (members_text false ms)

-- a member is written, and those behind it are to come
pub member_written : (later : Bool) (k : List ℕ) (d : Data) (ms : Members) (old keyed new whole : List ℕ)
    → keyed ≡ old ++ (comma_if later ++ (quoted k ++ 58 ∷ [])) → new ≡ keyed ++ compact_text d
    → old ++ members_text later (member k d ms) ≡ whole → new ++ members_text true ms ≡ whole
member_written later k d ms old keyed new whole before step so_far =
    let comma = comma_if later in
    let key = quoted k in
    let value = compact_text d in
    let rest = members_text true ms in
    let joined : (comma ++ (key ++ 58 ∷ [])) ++ (value ++ rest) ≡ comma ++ (key ++ 58 ∷ (value ++ rest)) =
    append_assoc comma (key ++ 58 ∷ []) (value ++ rest)
    ∙ ap (λ t. comma ++ t) (append_assoc key (58 ∷ []) (value ++ rest)) in
    ap (λ t. t ++ rest) (step ∙ ap (λ t. t ++ value) before)
    ∙ append_assoc (old ++ (comma ++ (key ++ 58 ∷ []))) value rest
    ∙ append_assoc old (comma ++ (key ++ 58 ∷ [])) (value ++ rest)
    ∙ ap (λ t. old ++ t) joined
    ∙ so_far

-- one more thing of a list is written
pub one_more_member : {A : Type 0} (f : A → Member) (later : Bool) (xs : List A) (i : ℕ) (x : A)
    (old keyed new key whole : List ℕ)
    → i < length xs → x ≡ get_or xs i x → key ≡ (f x).0
    → keyed ≡ old ++ (comma_if later ++ (quoted key ++ 58 ∷ []))
    → new ≡ keyed ++ compact_text (f x).1
    → old ++ text_from f later xs i ≡ whole → new ++ text_from f true xs (i + 1) ≡ whole
one_more_member {A = A} f later xs i x old keyed new key whole lt at named before step so_far =
    let next : suc i ≡ i + 1 = omega arith in
    let one : drop i xs ≡ x ∷ drop (i + 1) xs =
    drop-cons xs i x lt ∙ ap₂ (λ (y : A) (n : ℕ). y ∷ drop n xs) (sym at) next in
    member_written later (f x).0 (f x).1 (members_from (map f (drop (i + 1) xs))) old keyed new whole
    (before ∙ ap (λ k. old ++ (comma_if later ++ (quoted k ++ 58 ∷ []))) named) step
    (sym (ap (λ ys. old ++ members_text later (members_from (map f ys))) one) ∙ so_far)

-- an object ends where nothing is to come
pub object_ended : {B E : Type 0} (later : Bool) (r : Result B E) (old new whole : List ℕ)
    → new ≡ (if is_ok r then old ++ 125 ∷ [] else old) → old ++ members_text later no_members ≡ whole
    → OnOk r (new ≡ whole)
object_ended later (Ok x) old new whole step so_far = step ∙ so_far
object_ended later (Err e) old new whole step so_far = tt

-- nothing of a list is to come
pub none_left : {A : Type 0} (f : A → Member) (later : Bool) (xs : List A) (i : ℕ) (old whole : List ℕ)
    → length xs ≤ i → old ++ text_from f later xs i ≡ whole → old ++ members_text later no_members ≡ whole
none_left f later xs i old whole end so_far =
    sym (ap (λ ys. old ++ members_text later (members_from (map f ys))) (drop_of_length-le xs end)) ∙ so_far

-- an object of the same list
pub of_same_list : {A : Type 0} (f : A → Member) (xs ys : List A) (old new : List ℕ) → xs ≡ ys
    → new ≡ old ++ compact_text (object_from f xs) → new ≡ old ++ compact_text (object_from f ys)
of_same_list f xs ys old new same written = written ∙ ap (λ zs. old ++ compact_text (object_from f zs)) same
