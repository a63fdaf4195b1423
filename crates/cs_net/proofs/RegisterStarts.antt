-- The starts of a netlist's registers, by a table of the first values of its nets.
use Rattle.std.proofs.Common.{◌≡◌, ℕ, ◌+◌, ◌<◌, List, [], ◌∷◌, ◌++◌, length, get_or, drop, Bool, true, false, not, cond, Option, Some, None, refl, sym, ap, ap₂, ◌∙◌, codes}
use Rattle.std.specs.Prelude.{filter_map, flat_map, slice_get, unwrap_or, if◌then◌else◌}
use Rattle.std.specs.Option.{option_or}
use Rattle.std.specs.List.{enumerate_from, cons_option}
use Rattle.cs_base.specs.declared.signal.Signal.{Signal}
use Rattle.cs_json.specs.declared.document.Module.{Module}
use Rattle.cs_json.specs.declared.document.NetDecl.{NetDecl}
use Rattle.cs_modules.specs.Digits.{init_digit}
use Rattle.cs_modules.specs.Signals.{is_bit}
use Rattle.cs_modules.specs.Modules.{init_values, init_values_in, initial_value, is_register, is_scope, cells_in}
use Rattle.cs_json.specs.declared.document.CellDecl.{CellDecl}
use Rattle.cs_cells.specs.declared.class.Class.{Class}
use Rattle.cs_cells.specs.declared.class.Class.TheVariants as class
use Rattle.cs_net.specs.declared.state.BitValue.{BitValue}
use Rattle.cs_net.specs.Build.{net_of, starts_by}
use Rattle.cs_modules.specs.Pins.{class_at, pin_bits}
use Rattle.cs_net.specs.Starts.{start_by}
use mathlib.Core.Path.{fun_ext}
use Rattle.cs_modules.proofs.FirstPlaces.{left_at}
use Rattle.cs_modules.proofs.FirstValues.{first, initial_by_table}

-- the starts that a register's output has by its initial value
abbrev output_starts : (ℕ → Bool) → CellDecl → List BitValue
output_starts value cell = filter_map (start_by value) (pin_bits cell.pins (codes "Q"))

register_starts_of : Module → CellDecl → List BitValue
register_starts_of m cell = starts_by (class_at cell) m cell

by_class : (m : Module) (cell : CellDecl) (k : Class) → (if is_register k then output_starts (initial_value m) cell else []) ≡ starts_by k m cell
by_class m cell (class.Gate kind) = refl
by_class m cell (class.Register kind) = refl
by_class m cell class.Memory = refl
by_class m cell class.Scope = refl
by_class m cell class.Asynchronous = refl
by_class m cell class.NotFine = refl
by_class m cell class.Unknown = refl

none_of_scope : (m : Module) (cell : CellDecl) (k : Class) → is_scope k ≡ true → starts_by k m cell ≡ []
none_of_scope m cell (class.Gate kind) is = absurd (cc)
none_of_scope m cell (class.Register kind) is = absurd (cc)
none_of_scope m cell class.Memory is = absurd (cc)
none_of_scope m cell class.Scope is = refl
none_of_scope m cell class.Asynchronous is = absurd (cc)
none_of_scope m cell class.NotFine is = absurd (cc)
none_of_scope m cell class.Unknown is = absurd (cc)

-- cells that are passed over have no starts
all_starts : (m : Module) (cells : List CellDecl) →
    flat_map (λ cell. if is_register (class_at cell) then output_starts (initial_value m) cell else []) cells
    ≡ flat_map (λ cell. starts_by (class_at cell) m cell) (cells_in cells)
all_starts m [] = refl
all_starts m (cell ∷ cells) =
    elim (is_scope (class_at cell)) as (λ t. is_scope (class_at cell) ≡ t → flat_map (λ c. if is_register (class_at c) then output_starts (initial_value m) c else []) (cell ∷ cells) ≡ flat_map (λ c. starts_by (class_at c) m c) (cond (not t) (cell ∷ cells_in cells) (cells_in cells))) [
      | true ↦ λ is.
          ap₂ (λ here rest. here ++ rest) (by_class m cell (class_at cell) ∙ none_of_scope m cell (class_at cell) is) (all_starts m cells)
      | false ↦ λ is. ap₂ (λ here rest. here ++ rest) (by_class m cell (class_at cell)) (all_starts m cells)
    ] refl

-- the starts of a module's registers, by a table of the first values of its nets
pub starts_of_module : (m : Module) (nets : List NetDecl) (cells : List CellDecl) (found : ℕ → Option Bool) →
    nets ≡ m.nets → cells ≡ m.cells →
    ((b : ℕ) → found b ≡ first (flat_map (init_values_in b) nets)) →
    flat_map (λ cell. if is_register (class_at cell) then output_starts (λ b. unwrap_or (found b) false) cell else []) cells
    ≡ (net_of m).starts
unfolding net_of
starts_of_module m nets cells found same same_cells firsts =
    ap₂ (λ value cs. flat_map (λ cell. if is_register (class_at cell) then output_starts value cell else []) cs)
    (initial_by_table m nets found same firsts) same_cells
    ∙ all_starts m m.cells
