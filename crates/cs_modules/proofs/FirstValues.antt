-- The first value of a bit, found net by net and place by place.
use Rattle.std.proofs.Common.{◌≡◌, ℕ, ◌+◌, ◌<◌, List, [], ◌∷◌, ◌++◌, length, get_or, drop, Bool, true, false, not, cond, Option, Some, None, refl, sym, ap, ap₂, ◌∙◌, codes}
use Rattle.std.specs.Prelude.{filter_map, flat_map, slice_get, unwrap_or, if◌then◌else◌}
use Rattle.std.specs.Option.{option_or}
use Rattle.std.specs.List.{enumerate_from, cons_option}
use Rattle.cs_base.specs.declared.signal.Signal.{Signal}
use Rattle.cs_json.specs.declared.document.Module.{Module}
use Rattle.cs_json.specs.declared.document.NetDecl.{NetDecl}
use Rattle.cs_modules.specs.Digits.{init_digit}
use Rattle.cs_modules.specs.Signals.{is_bit}
use Rattle.cs_modules.specs.Modules.{init_values, init_values_in, initial_value, is_register, is_scope, cells_in}
use Rattle.cs_json.specs.declared.document.CellDecl.{CellDecl}
use Rattle.cs_cells.specs.declared.class.Class.{Class}
use Rattle.cs_cells.specs.declared.class.Class.TheVariants as class
use Rattle.cs_modules.specs.Pins.{class_at, pin_bits}
use mathlib.Core.Path.{fun_ext}
use Rattle.cs_modules.proofs.FirstPlaces.{left_at}

-- the value that digits give to a bit at a place
abbrev pub value_for : ℕ → List ℕ → ℕ × Signal → Option Bool
value_for b digits e = if is_bit b e.1 then init_digit digits e.0 else None

abbrev pub first : List Bool → Option Bool
first values = slice_get values 0

first-append : (xs ys : List Bool) → first (xs ++ ys) ≡ option_or (first xs) (first ys)
first-append [] ys = refl
first-append (x ∷ xs) ys = refl

either_assoc : (a b c : Option Bool) → option_or (option_or a b) c ≡ option_or a (option_or b c)
either_assoc None b c = refl
either_assoc (Some a) b c = refl

-- the values of a place, and then the others
abbrev values_from : ℕ → List ℕ → ℕ → List Signal → List Bool
values_from b digits i signals = filter_map (value_for b digits) (enumerate_from i signals)

one_value : (b i : ℕ) (digits : List ℕ) (s : Signal) (signals : List Signal) →
    first (values_from b digits i (s ∷ signals))
    ≡ option_or (value_for b digits (i, s)) (first (values_from b digits (i + 1) signals))
one_value b i digits s signals = here (value_for b digits (i, s))
  where
    here : (o : Option Bool) →
        first (cons_option o (values_from b digits (i + 1) signals))
        ≡ option_or o (first (values_from b digits (i + 1) signals))
    here None = refl
    here (Some value) = refl

-- what stands at a place is noted, and the places after it are left
pub one_place_noted : (b i : ℕ) (digits : List ℕ) (signals : List Signal) (s : Signal) (old new whole : Option Bool) → i < length signals → s ≡ get_or signals i s →
    new ≡ option_or old (value_for b digits (i, s)) →
    option_or old (first (values_from b digits i (drop i signals))) ≡ whole →
    option_or new (first (values_from b digits (i + 1) (drop (i + 1) signals))) ≡ whole
one_place_noted b i digits signals s old new whole below is noted so_far =
    ap (λ o. option_or o (first (values_from b digits (i + 1) (drop (i + 1) signals)))) noted
    ∙ either_assoc old (value_for b digits (i, s)) (first (values_from b digits (i + 1) (drop (i + 1) signals)))
    ∙ ap (option_or old) (sym (one_value b i digits s (drop (i + 1) signals)))
    ∙ ap (λ xs. option_or old (first (values_from b digits i xs))) (sym (left_at signals i s below is))
    ∙ so_far

-- a net is noted, and the nets after it are left
pub one_net_noted : (b i : ℕ) (nets : List NetDecl) (net : NetDecl) (old new whole : Option Bool) →
    i < length nets → net ≡ get_or nets i net →
    new ≡ option_or old (first (init_values_in b net)) →
    option_or old (first (flat_map (init_values_in b) (drop i nets))) ≡ whole →
    option_or new (first (flat_map (init_values_in b) (drop (i + 1) nets))) ≡ whole
one_net_noted b i nets net old new whole below is noted so_far =
    ap (λ o. option_or o (first (flat_map (init_values_in b) (drop (i + 1) nets)))) noted
    ∙ either_assoc old (first (init_values_in b net)) (first (flat_map (init_values_in b) (drop (i + 1) nets)))
    ∙ ap (option_or old) (sym (first-append (init_values_in b net) (flat_map (init_values_in b) (drop (i + 1) nets))))
    ∙ ap (λ xs. option_or old (first (flat_map (init_values_in b) xs))) (sym (left_at nets i net below is))
    ∙ so_far

first_or : (values : List Bool) → unwrap_or (first values) false ≡ get_or values 0 false
first_or [] = refl
first_or (value ∷ values) = refl

-- what a table of the first values of a module's nets gives for a bit is its initial value
pub initial_by_table : (m : Module) (nets : List NetDecl) (found : ℕ → Option Bool) → nets ≡ m.nets →
    ((b : ℕ) → found b ≡ first (flat_map (init_values_in b) nets)) →
    (λ b. unwrap_or (found b) false) ≡ initial_value m
initial_by_table m nets found same firsts =
    fun_ext (λ b.
    ap (λ o. unwrap_or o false) (firsts b ∙ ap (λ ns. first (flat_map (init_values_in b) ns)) same)
    ∙ first_or (init_values m b))
