-- Pins by their names and the bits of ports: as wide as their type has them, and in a netlist as in its module.
use Rattle.std.proofs.Common.{◌≡◌, ◌∙◌, ℕ, List, [], ◌∷◌, ◌++◌, Bool, true, false, cond, Option, Some, None, ap, eqb-true, filter, find, length, map, option_map, refl, sym}
use Rattle.std.specs.Prelude.{◌==◌, bytes_eq, flat_map, is_some, not, unwrap_or}
use Rattle.std.specs.List.{AllByRecursion}
use Rattle.std.proofs.lemmas.Slice.Eq.{bytes_eq-Decides}
use Rattle.cs_json.specs.declared.document.CellDecl.{CellDecl}
use Rattle.cs_json.specs.declared.document.Direction.{Direction}
use Rattle.cs_json.specs.declared.document.Module.{Module}
use Rattle.cs_json.specs.declared.document.PinDecl.{PinDecl}
use Rattle.cs_json.specs.declared.document.PortDecl.{PortDecl}
use Rattle.cs_conditions.specs.declared.error.NetError.TheVariants.{BadPins}
use Rattle.cs_net.specs.declared.netlist.PinBits.{PinBits}
use Rattle.cs_net.specs.declared.netlist.Port.{Port}
use Rattle.cs_net.specs.Build.{cell_of, pin_of, port_of}
use Rattle.cs_conditions.specs.Conditions.{early_refusal}
use Rattle.cs_modules.specs.Modules.{cells_of}
use Rattle.cs_modules.specs.Pins.{has_right_pins, Widths, has_pin, is_pin_of, pin_bits, width_at}
use Rattle.cs_net.specs.Drivers.{bits_of}
use Rattle.cs_conditions.proofs.Refusals.{no_bad_pins}

-- a pin that is there has the width of its type
pub pin_width : (widths : Widths) (pins : List PinDecl) (name : List ℕ) (n : ℕ) → AllByRecursion (λ p. is_pin_of widths p ≡ true) pins →
    width_at widths name ≡ Some n → has_pin pins name ≡ true → length (pin_bits pins name) ≡ n
pin_width widths [] name n all is there = absurd (cc)
pin_width widths (p ∷ pins) name n all is there =
    elim (bytes_eq p.name name) as (λ t. bytes_eq p.name name ≡ t → is_some (cond t (Some p) (find (λ q. bytes_eq q.name name) pins)) ≡ true →
    length (unwrap_or (option_map (λ (q : PinDecl). q.bits) (cond t (Some p) (find (λ q. bytes_eq q.name name) pins))) []) ≡ n) [
      | true ↦ λ same h.
          let wide : (length p.bits == n) ≡ true =
          sym (ap (λ o. unwrap_or (option_map (λ width. length p.bits == width) o) false) (ap (width_at widths) ((bytes_eq-Decides p.name name).0 same) ∙ is)) ∙ all.0 in
          eqb-true (length p.bits) n wide
      | false ↦ λ other h. pin_width widths pins name n all.1 is h
    ] refl there

same_find : (name : List ℕ) (pins : List PinDecl) →
    option_map (λ (p : PinBits). p.bits) (find (λ (p : PinBits). bytes_eq p.name name) (map pin_of pins)) ≡ option_map (λ (p : PinDecl). p.bits) (find (λ (p : PinDecl). bytes_eq p.name name) pins)
same_find name [] = refl
same_find name (p ∷ pins) =
    elim (bytes_eq p.name name) as (λ t.
    option_map (λ (q : PinBits). q.bits) (cond t (Some (pin_of p)) (find (λ (q : PinBits). bytes_eq q.name name) (map pin_of pins)))
    ≡ option_map (λ (q : PinDecl). q.bits) (cond t (Some p) (find (λ (q : PinDecl). bytes_eq q.name name) pins))) [
      | true ↦ refl
      | false ↦ same_find name pins
    ]

pub same_bits : (cell : CellDecl) (name : List ℕ) → bits_of (cell_of cell) name ≡ pin_bits cell.pins name
same_bits cell name = ap (λ o. unwrap_or o []) (same_find name cell.pins)

-- the bits of the ports of a direction
pub same_port_bits : (keep : Direction → Bool) (ports : List PortDecl) →
    flat_map (λ (p : Port). p.bits) (filter (λ (p : Port). keep p.direction) (map port_of ports)) ≡ flat_map (λ (p : PortDecl). p.bits) (filter (λ (p : PortDecl). keep p.direction) ports)
same_port_bits keep [] = refl
same_port_bits keep (p ∷ ports) =
    elim (keep p.direction) as (λ t.
    flat_map (λ (q : Port). q.bits) (cond t (port_of p ∷ filter (λ (q : Port). keep q.direction) (map port_of ports)) (filter (λ (q : Port). keep q.direction) (map port_of ports)))
    ≡ flat_map (λ (q : PortDecl). q.bits) (cond t (p ∷ filter (λ (q : PortDecl). keep q.direction) ports) (filter (λ (q : PortDecl). keep q.direction) ports))) [
      | true ↦ ap (λ rest. p.bits ++ rest) (same_port_bits keep ports)
      | false ↦ same_port_bits keep ports
    ]

-- where none of the early conditions holds, each cell has the pins of its type
pub right_pins : (m : Module) → early_refusal m ≡ None → AllByRecursion (λ d. has_right_pins d ≡ true) (cells_of m)
right_pins m none = all_pass (cells_of m) (none_of_map (λ d. BadPins d.name) (find (λ d. not (has_right_pins d)) (cells_of m)) (no_bad_pins m none))
  where
    none_of_map : {A B : Type 0} (f : A → B) (o : Option A) → option_map f o ≡ None → o ≡ None
    none_of_map f None h = refl
    none_of_map f (Some d) h = absurd (cc)

    all_pass : (ds : List CellDecl) → find (λ d. not (has_right_pins d)) ds ≡ None → AllByRecursion (λ d. has_right_pins d ≡ true) ds
    all_pass [] h = tt
    all_pass (d ∷ ds) h =
        elim (has_right_pins d) as (λ t. has_right_pins d ≡ t → cond (not t) (Some d) (find (λ d. not (has_right_pins d)) ds) ≡ None →
        AllByRecursion (λ d. has_right_pins d ≡ true) (d ∷ ds)) [
          | true ↦ λ right is. (right, all_pass ds is)
          | false ↦ λ wrong is. absurd (cc)
        ] refl h
