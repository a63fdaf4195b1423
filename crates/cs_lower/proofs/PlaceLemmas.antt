-- Where numbers stand in a list.
use Rattle.std.specs.Prelude.{nat_eq, ◌||◌}
use Rattle.std.proofs.Common.{◌≡◌, ℕ, suc, ◌+◌, Bool, true, false, cond, List, [], ◌∷◌, ◌++◌, position, length, Option, Some, None, is_some, refl, sym, ap, ap₂, ◌∙◌, arith}
use Rattle.std.specs.List.{list_any, position_from}
use Rattle.std.specs.Option.{option_or}
use Rattle.std.proofs.lemmas.Bool.{eqb-true}
use Rattle.std.proofs.lemmas.Cmp.{nat_eq_equiv}
use Rattle.std.proofs.lemmas.Iterator.Adapters.{position_from-zero}

or_none : (o : Option ℕ) → option_or o None ≡ o
or_none None = refl
or_none (Some x) = refl

-- what stands somewhere is found somewhere
stands_from : (p : ℕ → Bool) (i : ℕ) (bits : List ℕ) → is_some (position_from p i bits) ≡ list_any p bits
stands_from p i [] = refl
stands_from p i (b ∷ bits) = by (p b) (stands_from p (i + 1) bits)
  where
    by : (here : Bool) → is_some (position_from p (i + 1) bits) ≡ list_any p bits
        → is_some (cond here (Some i) (position_from p (i + 1) bits)) ≡ (here || list_any p bits)
    by true rest = refl
    by false rest = rest

pub stands : (b : ℕ) (bits : List ℕ) → is_some (position (nat_eq b) bits) ≡ list_any (nat_eq b) bits
stands b bits = ap is_some (position_from-zero (nat_eq b) bits) ∙ stands_from (nat_eq b) 0 bits

-- one more stands where there was none before it
more_from : (p : ℕ → Bool) (i bit : ℕ) (bits : List ℕ) → position_from p i (bits ++ bit ∷ [])
    ≡ option_or (position_from p i bits) (cond (p bit) (Some (i + length bits)) None)
more_from p i bit [] = let same : i ≡ i + 0 = omega arith in ap (λ n. cond (p bit) (Some n) None) same
more_from p i bit (b ∷ bits) = by (p b) (more_from p (i + 1) bit bits)
  where
    by : (here : Bool) → position_from p (i + 1) (bits ++ bit ∷ [])
        ≡ option_or (position_from p (i + 1) bits) (cond (p bit) (Some (i + 1 + length bits)) None)
        → cond here (Some i) (position_from p (i + 1) (bits ++ bit ∷ []))
        ≡ option_or (cond here (Some i) (position_from p (i + 1) bits)) (cond (p bit) (Some (i + suc (length bits))) None)
    by true rest = refl
    by false rest =
        let same : i + 1 + length bits ≡ i + suc (length bits) = omega arith in
        rest ∙ ap (λ n. option_or (position_from p (i + 1) bits) (cond (p bit) (Some n) None)) same

more : (b bit : ℕ) (bits : List ℕ) → position (nat_eq b) (bits ++ bit ∷ [])
    ≡ option_or (position (nat_eq b) bits) (cond (nat_eq b bit) (Some (length bits)) None)
more b bit bits =
    let same : 0 + length bits ≡ length bits = omega arith in
    position_from-zero (nat_eq b) (bits ++ bit ∷ []) ∙ more_from (nat_eq b) 0 bit bits
    ∙ ap (λ n. option_or (position_from (nat_eq b) 0 bits) (cond (nat_eq b bit) (Some n) None)) same
    ∙ ap (λ o. option_or o (cond (nat_eq b bit) (Some (length bits)) None)) (sym (position_from-zero (nat_eq b) bits))

nowhere : (o : Option ℕ) → is_some o ≡ false → o ≡ None
nowhere None is = refl
nowhere (Some x) is = absurd (cc)

-- where places are right, they are so once a number is put behind the others
pub placed : (old new : ℕ → Option ℕ) (bits longer : List ℕ) (bit place : ℕ)
    → ((b : ℕ) → old b ≡ position (nat_eq b) bits) → list_any (nat_eq bit) bits ≡ false → place ≡ length bits
    → longer ≡ bits ++ bit ∷ [] → ((b : ℕ) → new b ≡ cond (nat_eq bit b) (Some place) (old b))
    → (b : ℕ) → new b ≡ position (nat_eq b) longer
placed old new bits longer bit place right lacks last is puts b =
    puts b ∙ ap₂ (λ n o. cond (nat_eq bit b) (Some n) o) last (right b) ∙ by (nat_eq bit b) refl
    ∙ ap (λ t. option_or (position (nat_eq b) bits) (cond t (Some (length bits)) None)) (nat_eq_equiv.symm bit b)
    ∙ sym (more b bit bits) ∙ ap (position (nat_eq b)) (sym is)
  where
    by : (same : Bool) → nat_eq bit b ≡ same → cond same (Some (length bits)) (position (nat_eq b) bits)
        ≡ option_or (position (nat_eq b) bits) (cond same (Some (length bits)) None)
    by true same =
        let none : position (nat_eq b) bits ≡ None =
        nowhere (position (nat_eq b) bits)
        (stands b bits ∙ ap (λ n. list_any (nat_eq n) bits) (sym (eqb-true bit b same)) ∙ lacks) in
        sym (ap (λ o. option_or o (Some (length bits))) none)
    by false same = sym (or_none (position (nat_eq b) bits))
