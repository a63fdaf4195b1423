-- Literals under a setting.
use Rattle.std.proofs.Common.{◌≡◌, ℕ, Bool, true, false, not, ◌&&◌, ◌==◌, if◌then◌else◌, ◌⊎◌, inl, inr, List, Option, Some, None, refl, sym, subst, eq-eqb}
use Rattle.std.specs.List.{Contains}
use Rattle.std.proofs.lemmas.Bool.{eqb-true}
use Rattle.cs_base.specs.declared.formula.Lit.{Lit}
use Rattle.cs_rup.specs.declared.watch.Watch.{Watch}
use Rattle.cs_base.specs.Derivations.{negated}
use Rattle.cs_rup.specs.Settings.{Setting, has_value, is_true, is_false, is_same, is_sought, AllFalse, AllFalseBut, HasPair, IsOpen}

-- a negation's negation
pub negated_twice : (lit : Lit) → negated (negated lit) ≡ lit
negated_twice lit =
    elim lit.positive as (λ b. record { var = lit.var; positive = not (not b) } ≡ record { var = lit.var; positive = b }) [
      | true ↦ refl
      | false ↦ refl
    ]

-- no value is both
not_both_values : (value : Option Bool) (sign : Bool) → has_value value sign ≡ true → has_value value (not sign) ≡ true → ⊥
not_both_values None sign holds fails = cc
not_both_values (Some true) true holds fails = cc
not_both_values (Some true) false holds fails = cc
not_both_values (Some false) true holds fails = cc
not_both_values (Some false) false holds fails = cc

-- no literal is both true and false
pub not_both : (s : Setting) (lit : Lit) → is_true s lit ≡ true → is_false s lit ≡ true → ⊥
not_both s lit holds fails = not_both_values (s lit.var) lit.positive holds fails

unset_value : (value : Option Bool) (sign : Bool) → has_value value sign ≡ false → has_value value (not sign) ≡ false → value ≡ None
unset_value None sign holds fails = refl
unset_value (Some true) true holds fails = cc
unset_value (Some true) false holds fails = cc
unset_value (Some false) true holds fails = cc
unset_value (Some false) false holds fails = cc

-- a literal that is neither true nor false has no value
pub unset : (s : Setting) (lit : Lit) → is_true s lit ≡ false → is_false s lit ≡ false → s lit.var ≡ None
unset s lit holds fails = unset_value (s lit.var) lit.positive holds fails

same_sign : (a b : Bool) → (if a then b else not b) ≡ true → a ≡ b
same_sign true true is = refl
same_sign true false is = cc
same_sign false true is = cc
same_sign false false is = refl

same_refl : (a : Bool) → (if a then a else not a) ≡ true
same_refl true = refl
same_refl false = refl

both_true : (a b : Bool) → (a && b) ≡ true → (a ≡ true) × (b ≡ true)
both_true true true is = (refl, refl)
both_true true false is = cc
both_true false b is = cc

lit_is : (v w : ℕ) (p q : Bool) → v ≡ w → p ≡ q → ◌≡◌ {A = Lit} (record { var = v; positive = p }) (record { var = w; positive = q })
lit_is v w p q vars signs = rw (vars, signs)

-- the test of two literals decides whether they are one
pub same_is : (a b : Lit) → is_same a b ≡ true → a ≡ b
same_is a b is =
    let both = both_true (a.var == b.var) (if a.positive then b.positive else not b.positive) is in
    let vars : a.var ≡ b.var = eqb-true a.var b.var both.0 in
    let signs : a.positive ≡ b.positive = same_sign a.positive b.positive both.1 in
    lit_is a.var b.var a.positive b.positive vars signs

pub not_same : (a b : Lit) → is_same a b ≡ false → a ≡ b → ⊥
not_same a b differ is =
    let whole : is_same b b ≡ false = subst (λ x. is_same x b ≡ false) is differ in
    let vars : (b.var == b.var) ≡ true = eq-eqb b.var b.var refl in
    let signs : (if b.positive then b.positive else not b.positive) ≡ true = same_refl b.positive in
    let parts : is_same b b ≡ true = rw (vars, signs) in
    cc

pub one_or_other : (a b : Lit) → (a ≡ b) ⊎ (a ≡ b → ⊥)
one_or_other a b =
    let cases : (t : Bool) → is_same a b ≡ t → (a ≡ b) ⊎ (a ≡ b → ⊥) =
    λ t. elim t as (λ t. is_same a b ≡ t → (a ≡ b) ⊎ (a ≡ b → ⊥)) [
      | true ↦ λ is. inl (same_is a b is)
      | false ↦ λ is. inr (not_same a b is)
    ] in
    cases (is_same a b) refl

not_true : (b : Bool) → not b ≡ false → b ≡ true
not_true true is = refl
not_true false is = cc

not_false : (b : Bool) → not b ≡ true → b ≡ false
not_false true is = cc
not_false false is = refl

-- no literal that isn't false
pub all_false : (s : Setting) (lits : List Lit) → ((lit : Lit) → Contains lits lit → is_sought s None lit ≡ false) → AllFalse s lits
all_false s lits none lit has = not_true (is_false s lit) (none lit has)

-- one that isn't false, and another one
pub pair_open : (s : Setting) (lits : List Lit) (watch : Watch) → Contains lits watch.one.lit → Contains lits watch.other.lit
    → is_sought s None watch.one.lit ≡ true → is_sought s (Some watch.one.lit) watch.other.lit ≡ true
    → HasPair (IsOpen s) watch lits
pair_open s lits watch one_among other_among one other =
    let both = both_true (not (is_same watch.other.lit watch.one.lit)) (not (is_false s watch.other.lit)) other in
    record {
      one_among = one_among;
      other_among = other_among;
      differ = λ same. not_same watch.other.lit watch.one.lit (not_false _ both.0) (sym same);
      one_free = λ fails. let open' : is_false s watch.one.lit ≡ false = not_false _ one in cc;
      other_free = λ fails. let open' : is_false s watch.other.lit ≡ false = not_false _ both.1 in cc;
    }

-- no other one isn't false
pub unit_by_first : (s : Setting) (lits : List Lit) (first : Lit) → Contains lits first → is_sought s None first ≡ true
    → is_true s first ≡ false → ((lit : Lit) → Contains lits lit → is_sought s (Some first) lit ≡ false)
    → Contains lits first × (s first.var ≡ None) × AllFalseBut s lits first
unit_by_first s lits first among one fails alone = (
  among,
  unset s first fails (not_false _ one),
  λ other has differ.
      let cases : (a b : Bool) → is_same other first ≡ a → is_false s other ≡ b → (not a && not b) ≡ false → is_false s other ≡ true =
      λ a b. elim b as (λ b. is_same other first ≡ a → is_false s other ≡ b → (not a && not b) ≡ false → is_false s other ≡ true) [
        | true ↦ λ same false' none. false'
        | false ↦ elim a as (λ a. is_same other first ≡ a → is_false s other ≡ false → (not a && true) ≡ false → is_false s other ≡ true) [
          | true ↦ λ same false' none. absurd (differ (same_is other first same))
          | false ↦ λ same false' none. cc
        ]
      ] in
      cases (is_same other first) (is_false s other) refl refl (alone other has),
)
