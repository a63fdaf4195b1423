-- Literals and lists of them.
use Rattle.std.proofs.Common.{◌≡◌, ℕ, zero, suc, Bool, true, false, not, ◌&&◌, ◌==◌, if◌then◌else◌, ◌⊎◌, inl, inr, List, [], ◌∷◌, map, Some, Result, Ok, Err, IfOk, OnOk, refl, subst, ap, arith, eq-eqb}
use Rattle.std.specs.List.{Contains, slice_get}
use Rattle.std.proofs.lemmas.Bool.{eqb-true}
use Rattle.cs_base.proofs.ListLemmas.{at_contains, contains_at}
use Rattle.cs_base.specs.declared.formula.Lit.{Lit}
use Rattle.cs_base.specs.Derivations.{negated}
use Rattle.cs_sat.specs.Looks.{is_same}

pub not_in_empty : {A : Type 0} (x : A) → Contains [] x → ⊥
not_in_empty x (k, within, is) = omega arith

pub one_item : {A : Type 0} (y x : A) (i : ℕ) → slice_get (y ∷ []) i ≡ Some x → y ≡ x
one_item y x zero is = cc
one_item y x (suc i) is = cc

at_map : {A B : Type 0} (f : A → B) (xs : List A) (i : ℕ) (x : A) → slice_get xs i ≡ Some x → slice_get (map f xs) i ≡ Some (f x)
at_map f [] i x is = cc
at_map f (y ∷ xs) zero x is = let one : y ≡ x = cc in ap (λ z. Some (f z)) one
at_map f (y ∷ xs) (suc i) x is = at_map f xs i x is

pub contains_map : {A B : Type 0} (f : A → B) (xs : List A) (x : A) → Contains xs x → Contains (map f xs) (f x)
contains_map f xs x has =
    let at = contains_at xs x has in
    at_contains (map f xs) at.0 (f x) (at_map f xs at.0 x at.1)

-- a negation's negation
pub negated_twice : (lit : Lit) → negated (negated lit) ≡ lit
negated_twice lit =
    elim lit.positive as (λ b. record { var = lit.var; positive = not (not b) } ≡ record { var = lit.var; positive = b }) [
      | true ↦ refl
      | false ↦ refl
    ]

equal_signs : (a b : Bool) → (if a then b else not b) ≡ true → a ≡ b
equal_signs true true is = refl
equal_signs true false is = cc
equal_signs false true is = cc
equal_signs false false is = refl

one_sign : (a : Bool) → (if a then a else not a) ≡ true
one_sign true = refl
one_sign false = refl

both_true : (a b : Bool) → (a && b) ≡ true → (a ≡ true) × (b ≡ true)
both_true true true is = (refl, refl)
both_true true false is = cc
both_true false b is = cc

equal_parts : (v w : ℕ) (p q : Bool) → v ≡ w → p ≡ q
    → ◌≡◌ {A = Lit} (record { var = v; positive = p }) (record { var = w; positive = q })
equal_parts v w p q vars signs = rw (vars, signs)

-- the test of two literals decides whether they are one
pub same_is : (a b : Lit) → is_same a b ≡ true → a ≡ b
same_is a b is =
    let both = both_true (a.var == b.var) (if a.positive then b.positive else not b.positive) is in
    equal_parts a.var b.var a.positive b.positive (eqb-true a.var b.var both.0) (equal_signs a.positive b.positive both.1)

pub not_same : (a b : Lit) → is_same a b ≡ false → a ≡ b → ⊥
not_same a b differ is =
    let whole : is_same b b ≡ false = subst (λ x. is_same x b ≡ false) is differ in
    let vars : (b.var == b.var) ≡ true = eq-eqb b.var b.var refl in
    let signs : (if b.positive then b.positive else not b.positive) ≡ true = one_sign b.positive in
    let parts : is_same b b ≡ true = rw (vars, signs) in
    cc

pub one_or_other : (a b : Lit) → (a ≡ b) ⊎ (a ≡ b → ⊥)
one_or_other a b =
    let cases : (t : Bool) → is_same a b ≡ t → (a ≡ b) ⊎ (a ≡ b → ⊥) =
    λ t. elim t as (λ t. is_same a b ≡ t → (a ≡ b) ⊎ (a ≡ b → ⊥)) [
      | true ↦ λ is. inl (same_is a b is)
      | false ↦ λ is. inr (not_same a b is)
    ] in
    cases (is_same a b) refl

-- a fact of a result follows from another
pub if_ok : {T E : Type 0} (r : Result T E) (P Q : T → Type 0) → ((x : T) → P x → Q x) → IfOk r P → IfOk r Q
if_ok (Ok x) P Q step holds = step x holds
if_ok (Err _) P Q step holds = tt

pub on_ok : {T E : Type 0} (r : Result T E) (P Q : Type 0) → (P → Q) → OnOk r P → OnOk r Q
on_ok (Ok _) P Q step holds = step holds
on_ok (Err _) P Q step holds = tt
