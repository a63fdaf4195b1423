use Rattle.std.proofs.Common.{◌≡◌, ◌∙◌, ◌&&◌, ℕ, List, [], ◌∷◌, Bool, true, false, ap, ap₂, refl, subst}
use Rattle.std.specs.Prelude.{◌==◌, IfOk, filter}
use Rattle.std.specs.List.{flat_map, list_any}
use mathlib.Core.Path.{fun_ext}
use Rattle.cs_json.specs.declared.document.Module.{Module}
use Rattle.cs_json.specs.declared.document.NetDecl.{NetDecl}
use Rattle.cs_conditions.specs.Conditions.{has_two_starts}
use Rattle.cs_modules.specs.Modules.{register_bits}
use Rattle.cs_conditions.specs.InitialNumbers.{numbers_given, register_numbers_of}
use Rattle.cs_conditions.proofs.GivenStarts.{given_both, register_numbers_are}
use Rattle.cs_conditions.proofs.starts.doubly_given.Goals as goal

-- nets give this initial value to a bit
abbrev is_given : Bool → List NetDecl → ℕ → Bool
is_given value nets b = list_any (λ a. a == b) (flat_map (numbers_given value) nets)

filter_more : (f g : ℕ → Bool) (x : ℕ) (xs : List ℕ) (passes passed : Bool) → g x ≡ passed → f x ≡ passes
    → filter f (filter g xs) ≡ filter (λ y. f y && g y) xs
    → filter f (filter g (x ∷ xs)) ≡ filter (λ y. f y && g y) (x ∷ xs)
filter_more f g x xs true true kept is rest = rw (kept, is) (ap (λ ys. x ∷ ys) rest)
filter_more f g x xs false true kept is rest = rw (kept, is) rest
filter_more f g x xs true false kept is rest = rw (kept, is) rest
filter_more f g x xs false false kept is rest = rw (kept, is) rest

-- what passes one test, and then the other, passes both
filter_twice : (f g : ℕ → Bool) (xs : List ℕ) → filter f (filter g xs) ≡ filter (λ x. f x && g x) xs
filter_twice f g [] = refl
filter_twice f g (x ∷ xs) = filter_more f g x xs (f x) (g x) refl refl (filter_twice f g xs)

-- the registers' bits that are given 0, and of these those that are given 1
kept_twice : (m : Module) (nets : List NetDecl) (registers zeros : List ℕ) → nets ≡ m.nets
    → registers ≡ register_numbers_of m.cells → zeros ≡ filter (is_given false nets) registers
    → filter (is_given true nets) zeros ≡ filter (has_two_starts m) (register_bits m)
kept_twice m nets registers zeros same are given =
    ap₂ (λ ns bits. filter (is_given true ns) bits) same
    (given ∙ ap (λ ns. filter (is_given false ns) registers) same)
    ∙ filter_twice (is_given true m.nets) (is_given false m.nets) registers
    ∙ ap (λ (test : ℕ → Bool). filter test registers) (fun_ext (given_both m))
    ∙ ap (filter (has_two_starts m)) (are ∙ register_numbers_are m.cells)

pub returns : goal.returns
returns c =
    let kept =
    kept_twice c.args.top.now c.as_slice-nets.result.now c.as_slice-2.result.now c.as_slice-3.result.now c.as_slice-nets.ensures
    (c.as_slice-2.ensures.value ∙ c.in_ok-registers.ensures ∙ ap register_numbers_of c.as_slice.ensures)
    (c.as_slice-3.ensures.value ∙ c.in_ok-zeros.ensures) in
    subst (λ found. IfOk c.given_among-2.result (λ bits. bits.items ≡ found)) kept c.given_among-2.ensures
