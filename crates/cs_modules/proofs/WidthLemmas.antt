-- Widths as code keeps them, and as definitions have them.
use Rattle.std.proofs.Common.{◌≡◌, ℕ, suc, ◌+◌, ◌-◌, ◌<◌, ◌≤◌, List, [], ◌∷◌, ◌++◌, map, true, false, Option, Some, MatchOption, IfOk, Result, Ok, sym, ap, ◌∙◌, subst, append_assoc, arith}
use Rattle.std.proofs.lemmas.List.{append-nil, map-append}
use Rattle.std.specs.Prelude.{find, option_map, bytes_eq}
use Rattle.std.specs.Borrow.{Bor}
use Rattle.std.specs.List.{list_all}
use Rattle.std.proofs.lemmas.List.Folds.{list_all-map}
use Rattle.cs_json.specs.declared.document.PinDecl.{PinDecl}
use Rattle.cs_cells.specs.declared.gate.Kind.{Kind}
use Rattle.cs_cells.specs.Gates.{pin_count, pin_name}
use Rattle.cs_cells.specs.declared.class.Class.TheVariants.{Memory}
use Rattle.cs_json.specs.declared.document.CellDecl.{CellDecl}
use Rattle.cs_modules.specs.declared.pins.Sizes.{Sizes}
use Rattle.cs_modules.specs.Pins.{Widths, is_size, memory_sizes, memory_widths, widths_of, count_from, has_pin, width_at}
use Rattle.cs_modules.specs.PinBits.{widths_in}
use Rattle.cs_modules.proofs.Connections.{find-map, option_map-map}

pub width_in : (name : List ℕ) (widths : List (Bor (List ℕ) × ℕ)) →
    option_map (λ w. w.1) (find (λ w. bytes_eq w.0.now name) widths) ≡ width_at (widths_in widths) name
width_in name widths =
    sym (ap (option_map (λ w. w.1)) (find-map (λ (w : List ℕ × ℕ). bytes_eq w.0 name) (λ (w : Bor (List ℕ) × ℕ). (w.0.now, w.1)) widths)
    ∙ option_map-map (λ (w : List ℕ × ℕ). w.1) (λ (w : Bor (List ℕ) × ℕ). (w.0.now, w.1)) (find (λ w. bytes_eq w.0.now name) widths))

pub each_in : (pins : List PinDecl) (widths : List (Bor (List ℕ) × ℕ)) →
    list_all (λ w. has_pin pins w.0.now) widths ≡ list_all (λ w. has_pin pins w.0) (widths_in widths)
each_in pins widths = sym (list_all-map (λ (w : List ℕ × ℕ). has_pin pins w.0) (λ (w : Bor (List ℕ) × ℕ). (w.0.now, w.1)) widths)

-- the pins of a gate: those before pin i, pin i and the rest
abbrev pub gate_pins : Kind → ℕ → ℕ → Widths
gate_pins kind from count = map (λ i. (pin_name kind i, 1)) (count_from from count)

one_more_pin : (kind : Kind) (i n : ℕ) → i < n → gate_pins kind i (n - i) ≡ (pin_name kind i, 1) ∷ gate_pins kind (i + 1) (n - (i + 1))
one_more_pin kind i n below = let left : n - i ≡ suc (n - (i + 1)) = omega arith in ap (gate_pins kind i) left

pub from_first : (kind : Kind) (n : ℕ) → gate_pins kind 0 (n - 0) ≡ gate_pins kind 0 n
from_first kind n = let same : n - 0 ≡ n = omega arith in ap (gate_pins kind 0) same

pub pin_pushed : (kind : Kind) (i n : ℕ) (items items' : List (Bor (List ℕ) × ℕ)) (name : Bor (List ℕ)) → i < n → name.now ≡ pin_name kind i →
    items' ≡ items ++ (name, 1) ∷ [] → widths_in items ++ gate_pins kind i (n - i) ≡ gate_pins kind 0 n →
    widths_in items' ++ gate_pins kind (i + 1) (n - (i + 1)) ≡ gate_pins kind 0 n
pin_pushed kind i n items items' name below is pushed so_far =
    ap (λ v. widths_in v ++ gate_pins kind (i + 1) (n - (i + 1))) pushed
    ∙ ap (λ v. v ++ gate_pins kind (i + 1) (n - (i + 1))) (map-append _ items ((name, 1) ∷ []))
    ∙ append_assoc (widths_in items) ((name.now, 1) ∷ []) (gate_pins kind (i + 1) (n - (i + 1)))
    ∙ ap (λ (t : List ℕ). widths_in items ++ (t, 1) ∷ gate_pins kind (i + 1) (n - (i + 1))) is
    ∙ ap (λ v. widths_in items ++ v) (sym (one_more_pin kind i n below)) ∙ so_far

pub all_pins : (kind : Kind) (i n : ℕ) (items items' : List (Bor (List ℕ) × ℕ)) (name : Bor (List ℕ)) → n ≤ i → n ≡ pin_count kind →
    items' ≡ items ++ (name, 1) ∷ [] → widths_in items ++ gate_pins kind i (n - i) ≡ gate_pins kind 0 n →
    widths_in items' ≡ gate_pins kind 0 (pin_count kind) ++ (name.now, 1) ∷ []
all_pins kind i n items items' name past count pushed so_far =
    let none : n - i ≡ 0 = omega arith in
    ap widths_in pushed ∙ map-append _ items ((name, 1) ∷ [])
    ∙ ap (λ v. v ++ (name.now, 1) ∷ [])
    (sym (append-nil (widths_in items)) ∙ sym (ap (λ k. widths_in items ++ gate_pins kind i k) none) ∙ so_far ∙ ap (gate_pins kind 0) count)

-- the sizes of a memory, where none is missing
abbrev pub HasSizes : CellDecl → Option Sizes → Type 0
HasSizes cell found = MatchOption found
    (list_all (is_size cell) memory_sizes ≡ false)
    (λ s. (list_all (is_size cell) memory_sizes ≡ true)
    × (widths_of Memory cell ≡ memory_widths s.reads s.writes s.address_bits s.width))

pub sizes_are : {E : Type 0} (cell : CellDecl) (r : Result (Option Sizes) E) (found : Option Sizes) (s : Sizes) →
    IfOk r (HasSizes cell) → r ≡ Ok found → found ≡ Some s → HasSizes cell (Some s)
sizes_are cell r found s h is some = subst (HasSizes cell) some (subst (λ t. IfOk t (HasSizes cell)) is h)
