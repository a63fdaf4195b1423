-- The least number that stands twice, as the list grows at its end.
use Rattle.std.proofs.Common.{◌≡◌, ℕ, suc, ◌+◌, ◌<◌, List, [], ◌∷◌, ◌++◌, length, Bool, true, false, ◌||◌, cond, Option, Some, None, refl, ap, sym, ◌∙◌, arith, inl, inr, eq-eqb, ne_eqb, take, get_or}
use Rattle.std.specs.Prelude.{◌==◌, min, unwrap_or}
use Rattle.std.specs.List.{list_any}
use Rattle.std.proofs.lemmas.List.Folds.{list_any-append}
use Rattle.std.proofs.Math.Bool.{or-false, or-true}
use Rattle.std.proofs.Math.Seq.{take-suc}
use Rattle.std.proofs.lemmas.Bool.{cases_eq}
use Rattle.cs_conditions.specs.Conditions.{duplicates, least}

-- a further number counts where the list has it
abbrev pub with_next : Bool → ℕ → Option ℕ → Option ℕ
with_next true n found = Some (min n (unwrap_or found n))
with_next false n found = found

-- the list has this number
abbrev pub has : List ℕ → ℕ → Bool
has xs n = list_any (λ a. a == n) xs

first : ℕ → Option ℕ → Option ℕ
first b found = Some (min b (unwrap_or found b))

swap_first : (t : Bool) (b n : ℕ) (found : Option ℕ) → first b (with_next t n found) ≡ with_next t n (first b found)
unfolding first
swap_first false b n found = refl
swap_first true b n None = ap Some (omega arith)
swap_first true b n (Some m) = ap Some (omega arith)

same_first : (t : Bool) (b : ℕ) (found : Option ℕ) → first b (with_next t b found) ≡ with_next true b found
unfolding first
same_first false b found = refl
same_first true b None = ap Some (omega arith)
same_first true b (Some m) = ap Some (omega arith)

other_number : (t u : Bool) (b n : ℕ) (found : Option ℕ) → cond u (first b (with_next t n found)) (with_next t n found) ≡ with_next t n (cond u (first b found) found)
other_number t true b n found = swap_first t b n found
other_number t false b n found = refl

same_number : (t u : Bool) (b : ℕ) (found : Option ℕ) → first b (with_next t b found) ≡ with_next true b (cond u (first b found) found)
unfolding first
same_number t false b found = same_first t b found
same_number true true b None = ap Some (omega arith)
same_number true true b (Some m) = ap Some (omega arith)
same_number false true b None = ap Some (omega arith)
same_number false true b (Some m) = ap Some (omega arith)

least_of_cond : (u : Bool) (b : ℕ) (bs : List ℕ) → least (cond u (b ∷ bs) bs) ≡ cond u (first b (least bs)) (least bs)
unfolding first
least_of_cond true b bs = refl
least_of_cond false b bs = refl

pub least-duplicates-append : (xs : List ℕ) (n : ℕ) → least (duplicates (xs ++ n ∷ [])) ≡ with_next (has xs n) n (least (duplicates xs))
least-duplicates-append [] n = refl
least-duplicates-append (b ∷ bs) n =
    least_of_cond (has (bs ++ n ∷ []) b) b (duplicates (bs ++ n ∷ []))
    ∙ ap (λ u. cond u (first b (least (duplicates (bs ++ n ∷ [])))) (least (duplicates (bs ++ n ∷ [])))) (list_any-append (λ a. a == b) bs (n ∷ []) ∙ ap (λ v. has bs b || v) (or-false (n == b)))
    ∙ ap (λ found. cond (has bs b || (n == b)) (first b found) found) (least-duplicates-append bs n)
    ∙ further (has bs n) (has bs b) b n (least (duplicates bs))
    ∙ ap (with_next ((b == n) || has bs n) n) (sym (least_of_cond (has bs b) b (duplicates bs)))
  where
    further : (t u : Bool) (b n : ℕ) (found : Option ℕ) → cond (u || (n == b)) (first b (with_next t n found)) (with_next t n found) ≡ with_next ((b == n) || t) n (cond u (first b found) found)
    further t u b n found = elim (cases_eq b n) [
      | inl same ↦ rw (same, eq-eqb n n refl, or-true u) (same_number t u n found)
      | inr other ↦ rw (ne_eqb n b (λ e. other (sym e)), ne_eqb b n other, or-false u) (other_number t u b n found)
    ]

pub least-duplicates-take : (xs : List ℕ) (i : ℕ) (t : Bool) → i < length xs → has (take i xs) (get_or xs i 0) ≡ t → least (duplicates (take (i + 1) xs)) ≡ with_next t (get_or xs i 0) (least (duplicates (take i xs)))
least-duplicates-take xs i t below is =
    let one_more : i + 1 ≡ suc i = omega arith in
    ap (λ j. least (duplicates (take j xs))) one_more
    ∙ ap (λ ys. least (duplicates ys)) (take-suc xs i 0 below)
    ∙ least-duplicates-append (take i xs) (get_or xs i 0)
    ∙ ap (λ u. with_next u (get_or xs i 0) (least (duplicates (take i xs)))) is

least-append : (xs : List ℕ) (n : ℕ) → least (xs ++ n ∷ []) ≡ with_next true n (least xs)
unfolding first
least-append [] n = refl
least-append (b ∷ bs) n = ap (first b) (least-append bs n) ∙ swap_first true b n (least bs)

pub least-take : (xs : List ℕ) (i : ℕ) → i < length xs → least (take (i + 1) xs) ≡ Some (min (get_or xs i 0) (unwrap_or (least (take i xs)) (get_or xs i 0)))
least-take xs i below =
    let one_more : i + 1 ≡ suc i = omega arith in
    ap (λ j. least (take j xs)) one_more ∙ ap least (take-suc xs i 0 below) ∙ least-append (take i xs) (get_or xs i 0)
