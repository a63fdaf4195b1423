-- Parts that are pushed one after another.
use Rattle.std.proofs.Common.{◌≡◌, ℕ, ◌+◌, [], ◌∷◌, ◌++◌, map, refl, ap, ap₂, ◌∙◌}
use Rattle.std.specs.Prelude.{Result, Ok, Err, IfOk, OnOk}
use Rattle.std.proofs.lemmas.List.{append-nil, append_assoc}
use Rattle.cs_modules.specs.Pins.{count_from}
use Rattle.cs_modules.proofs.Pushed.{one_more_counted}
use Rattle.cs_lower.specs.declared.taps.Parts.{Parts}
use Rattle.cs_lower.specs.declared.taps.Piece.{Piece}
use Rattle.cs_lower.specs.Taps.{both, no_parts, with_pieces}

-- what follows from what a call promises of its value
pub if_ok : {T E : Type 0} {P Q : T → Type 0} → ((t : T) → P t → Q t) → (r : Result T E) → IfOk r P → IfOk r Q
if_ok f (Ok v) h = f v h
if_ok f (Err e) h = tt

pub on_ok : {T E P Q : Type 0} → (P → Q) → (r : Result T E) → OnOk r P → OnOk r Q
on_ok f (Ok v) h = f h
on_ok f (Err e) h = tt

pub both_none : (a : Parts) → both a no_parts ≡ a
both_none a =
    ap₂ (λ pieces wires. let p : Parts = record { pieces = pieces; wires = wires } in p) (append-nil a.pieces) (append-nil a.wires)

-- one vertex more of those that are counted up
pub piece_pushed : (f : ℕ → Piece) (i : ℕ) (item : Piece) (old parts new : Parts) → item ≡ f i
    → parts ≡ with_pieces old (map f (count_from 0 i)) → new ≡ with_pieces parts (item ∷ [])
    → new ≡ with_pieces old (map f (count_from 0 (i + 1)))
piece_pushed f i item old parts new is so_far pushed =
    let made = map f (count_from 0 i) in
    pushed ∙ ap (λ (p : Parts). with_pieces p (item ∷ [])) so_far
    ∙ ap (λ pieces. let p : Parts = record { pieces = pieces; wires = old.wires } in p) (append_assoc old.pieces made (item ∷ []))
    ∙ ap (with_pieces old) (one_more_counted f i item made (made ++ item ∷ []) is refl refl)
