-- One group after the other is split: what stands of the registers while a level is made.
use Rattle.std.proofs.Common.{◌≡◌, ℕ, zero, suc, ◌<◌, ◌⊎◌, inl, inr, List, [], ◌∷◌, ◌++◌, length, get_or, Option, Some, None, refl, sym, ap, ◌∙◌, ⊎_elim, length-set, get_or-set_same, get_or-set_other, arith}
use Rattle.std.specs.Prelude.{slice_get, slice_set}
use Rattle.std.proofs.lemmas.Bool.{cases_eq}
use Rattle.cs_prefix.specs.Layers.{set_all}
use Rattle.cs_prefix.proofs.Beginnings.{In}

-- ---- places behind a list

pub get_behind : {A : Type 0} (xs ys : List A) (n : ℕ) (x : A) → slice_get xs n ≡ Some x
    → slice_get (xs ++ ys) n ≡ Some x
get_behind [] ys n x h = absurd (cc)
get_behind (y ∷ xs) ys zero x h = h
get_behind (y ∷ xs) ys (suc n) x h = get_behind xs ys n x h

pub get_last : {A : Type 0} (xs : List A) (x : A) → slice_get (xs ++ x ∷ []) (length xs) ≡ Some x
get_last [] x = refl
get_last (y ∷ xs) x = get_last xs x

-- it is one of the old ones, or the new one
pub get_either : {A : Type 0} (xs : List A) (y : A) (n : ℕ) (x : A) → slice_get (xs ++ y ∷ []) n ≡ Some x
    → (slice_get xs n ≡ Some x) ⊎ ((n ≡ length xs) × (x ≡ y))
get_either [] y zero x h = inr (refl, some_same h)
  where
    some_same : Some y ≡ Some x → x ≡ y
    some_same is = let back = sym is in cc
get_either [] y (suc n) x h = absurd (cc)
get_either (z ∷ xs) y zero x h = inl h
get_either (z ∷ xs) y (suc n) x h = ⊎_elim inl (λ both. inr (ap suc both.0, both.1)) (get_either xs y n x h)

-- ---- edges that are set

pub set_within : (ends : List (Option ℕ)) (es : List ℕ) (n : ℕ) → length (set_all ends es n) ≡ length ends
set_within ends [] n = refl
set_within ends (e ∷ es) n = set_within (slice_set ends e (Some n)) es n ∙ length-set ends e (Some n)

-- those that are not set stay
pub set_others : (ends : List (Option ℕ)) (es : List ℕ) (n e : ℕ) → (In e es → ⊥)
    → get_or (set_all ends es n) e None ≡ get_or ends e None
set_others ends [] n e none = refl
set_others ends (x ∷ es) n e none =
    set_others (slice_set ends x (Some n)) es n e (λ later. none (inr later))
    ∙ get_or-set_other ends x e (Some n) None (λ same. none (inl (sym same)))

-- one that holds the register already still does
set_stays : (ends : List (Option ℕ)) (es : List ℕ) (n e : ℕ) → e < length ends → get_or ends e None ≡ Some n
    → get_or (set_all ends es n) e None ≡ Some n
set_stays ends [] n e below h = h
set_stays ends (x ∷ es) n e below h =
    set_stays (slice_set ends x (Some n)) es n e (let same = length-set ends x (Some n) in omega arith)
    (⊎_elim (λ same. ap (λ i. get_or (slice_set ends x (Some n)) i None) same
    ∙ get_or-set_same ends x (Some n) None (omega arith))
    (λ other. get_or-set_other ends x e (Some n) None other ∙ h) (cases_eq e x))

-- those that are set hold the register
pub set_these : (ends : List (Option ℕ)) (es : List ℕ) (n e : ℕ) → In e es → e < length ends
    → get_or (set_all ends es n) e None ≡ Some n
set_these ends [] n e h below = absurd h
set_these ends (x ∷ es) n e (inl is) below =
    set_stays (slice_set ends x (Some n)) es n e (let same = length-set ends x (Some n) in omega arith)
    (ap (λ i. get_or (slice_set ends x (Some n)) i None) (sym is)
    ∙ get_or-set_same ends x (Some n) None (omega arith))
set_these ends (x ∷ es) n e (inr later) below =
    set_these (slice_set ends x (Some n)) es n e later (let same = length-set ends x (Some n) in omega arith)
