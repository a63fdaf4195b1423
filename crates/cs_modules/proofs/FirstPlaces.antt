-- The first place of a bit, found signal by signal.
use Rattle.std.proofs.Common.{◌≡◌, ℕ, suc, ◌+◌, ◌<◌, List, [], ◌∷◌, length, get_or, drop, Bool, true, false, cond, Option, Some, None, refl, sym, ap, subst, ◌∙◌, arith, add-one, zero-add}
use Rattle.std.specs.Prelude.{IfSome, if◌then◌else◌}
use Rattle.std.specs.Option.{option_or}
use Rattle.std.specs.List.{position_from}
use Rattle.std.proofs.Math.Seq.{drop-cons}
use Rattle.cs_base.specs.declared.signal.Signal.{Signal}
use Rattle.cs_modules.specs.Signals.{is_bit}
use Rattle.cs_modules.specs.Places.{place_of}

-- what is left from a place on begins with what stands there
pub left_at : {A : Type 0} (xs : List A) (i : ℕ) (x : A) → i < length xs → x ≡ get_or xs i x →
    drop i xs ≡ x ∷ drop (i + 1) xs
left_at xs i x below is = drop-cons xs i x below ∙ ap (λ y. y ∷ drop (suc i) xs) (sym is)
    ∙ ap (λ n. x ∷ drop n xs) (sym (add-one i))

-- a place is below the length
pub place_within : {A : Type 0} (test : A → Bool) (k : ℕ) (xs : List A) →
    IfSome (position_from test k xs) (λ i. i < k + length xs)
place_within test k [] = tt
place_within test k (x ∷ xs) = here (test x) (position_from test (k + 1) xs) (place_within test (k + 1) xs)
  where
    here : (t : Bool) (o : Option ℕ) → IfSome o (λ i. i < (k + 1) + length xs) →
        IfSome (cond t (Some k) o) (λ i. i < k + length (x ∷ xs))
    here true o h = omega arith
    here false None h = tt
    here false (Some i) h = omega arith

pub place_below : (b : ℕ) (signals : List Signal) → IfSome (place_of b signals) (λ i. i < length signals)
place_below b signals =
    subst (λ n. IfSome (place_of b signals) (λ i. i < n)) (zero-add (length signals)) (place_within (is_bit b) 0 signals)

-- the signal at a place is noted, and those after it are left
pub one_place : (b place : ℕ) (signals : List Signal) (s : Signal) (old new : Option ℕ) →
    place < length signals → s ≡ get_or signals place s →
    new ≡ option_or old (if is_bit b s then Some place else None) →
    option_or new (position_from (is_bit b) (place + 1) (drop (place + 1) signals)) ≡ option_or old (position_from (is_bit b) place (drop place signals))
one_place b place signals s old new below is noted =
    ap (λ o. option_or o later) noted
    ∙ joined old (is_bit b s)
    ∙ ap (λ xs. option_or old (position_from (is_bit b) place xs)) (sym (left_at signals place s below is))
  where
    later : Option ℕ
    later = position_from (is_bit b) (place + 1) (drop (place + 1) signals)

    joined : (old : Option ℕ) (t : Bool) →
        option_or (option_or old (if t then Some place else None)) later
        ≡ option_or old (cond t (Some place) later)
    joined None true = refl
    joined None false = refl
    joined (Some i) t = refl
