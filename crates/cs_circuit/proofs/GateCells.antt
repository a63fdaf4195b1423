-- The cells of gates: none of the conditions holds of them, they are readable, and they drive their outputs.
use Rattle.std.proofs.Common.{◌≡◌, ℕ, zero, suc, List, [], ◌∷◌, ◌++◌, map, length, get_or, Bool, true, false, not, ◌&&◌, refl, sym, ap, subst, ◌∙◌, codes}
use Rattle.std.specs.Prelude.{IsTrue, bytes_eq, if◌then◌else◌}
use Rattle.std.specs.List.{AllByRecursion, list_any}
use Rattle.cs_base.specs.declared.signal.Signal.TheVariants.{Zero, Bit}
use Rattle.cs_json.specs.declared.document.PinDecl.{PinDecl}
use Rattle.cs_json.specs.Readable.{AreEntries, AreInOrder, AreReadable, IsCell, is_readable_signal}
use Rattle.cs_cells.specs.declared.gate.Kind.{Kind}
use Rattle.cs_cells.specs.declared.class.Class.TheVariants.{Gate}
use Rattle.cs_cells.specs.Gates.{pin_count, pin_name}
use Rattle.cs_conditions.specs.Conditions.{is_broken, memory_rules}
use Rattle.cs_modules.specs.declared.connection.Role.TheVariants as roles
use Rattle.cs_modules.specs.Modules.{is_cell_output, is_memory}
use Rattle.cs_modules.specs.Pins.{cell_connections, class_at, count_from, gate_widths, has_pins, has_sizes, widths_of}
use Rattle.cs_modules.proofs.GatePins.{inputs_are_not_y}
use Rattle.cs_net.proofs.Members.{append_all}
use Rattle.cs_circuit.specs.declared.circuit.Circuit.{Circuit}
use Rattle.cs_circuit.specs.declared.circuit.GatePart.{GatePart}
use Rattle.cs_circuit.specs.Cells.{gate_cell, gate_pins, origin_entries, pin}
use Rattle.cs_circuit.specs.WellFormed.{IsData, IsGatePart}
use Rattle.cs_circuit.proofs.Connections.{IsFineCell, IsFineConnection, connections_by, driven_in, driven_in-chain, is_part, no_output, output_or_data, pin_by, zero_is_data}
use Rattle.cs_circuit.proofs.Lists.{all_flat, all_mapped, all_step, everywhere, flat-append, flat_images, flat_none}
use Rattle.cs_circuit.proofs.PinNames.{class_of_gate, gate_names, gate_names_in_order, image_of_image, in_order, map-append, names_of_widths, order_of_names}
use Rattle.cs_circuit.proofs.PinTests.{right_by_names}

-- what a list has at a place, or past its end
all_or : {A : Type 0} (P : A → Type 0) (d : A) → P d → (xs : List A) → AllByRecursion P xs → (i : ℕ) → P
    (get_or xs i d)
all_or P d none [] h i = none
all_or P d none (x ∷ xs) h zero = h.0
all_or P d none (x ∷ xs) h (suc i) = all_or P d none xs h.1 i

module _ (g : GatePart) where
  abbrev places : List ℕ
  places = count_from 0 (pin_count g.kind)

  abbrev input_pin : ℕ → PinDecl
  input_pin i = pin (pin_name g.kind i) (get_or g.pins i Zero ∷ []) false

  pub class_of_gate_cell : class_at (gate_cell g) ≡ Gate g.kind
  class_of_gate_cell = class_of_gate g.kind

  -- ---- pins

  gate_pin_names : map (λ (p : PinDecl). p.name) (gate_pins g) ≡ gate_names g.kind
  gate_pin_names =
      map-append (λ (p : PinDecl). p.name) (map input_pin places)
      (pin (codes "Y") (Bit g.output ∷ []) true ∷ [])
      ∙ ap (λ names. names ++ codes "Y" ∷ []) (image_of_image (λ (p : PinDecl). p.name) input_pin places)

  gate_pin_order : AreInOrder (λ (p : PinDecl). p.name) (gate_pins g)
  gate_pin_order = order_of_names (λ (p : PinDecl). p.name) (gate_pins g)
      (ap in_order gate_pin_names ∙ gate_names_in_order g.kind)

  gate_pins_single : AllByRecursion (λ (p : PinDecl). length p.bits ≡ 1) (gate_pins g)
  gate_pins_single =
      append_all (λ (p : PinDecl). length p.bits ≡ 1) (map input_pin places)
      (pin (codes "Y") (Bit g.output ∷ []) true ∷ [])
      (all_mapped (λ (p : PinDecl). length p.bits ≡ 1) input_pin places
      (everywhere (λ i. length (input_pin i).bits ≡ 1) (λ i. refl) places))
      (refl, tt)

  one_bit_wide : (kind : Kind) → AllByRecursion (λ (w : List ℕ × ℕ). w.1 ≡ 1) (gate_widths kind)
  one_bit_wide kind =
      append_all (λ (w : List ℕ × ℕ). w.1 ≡ 1)
      (map (λ i. (pin_name kind i, 1)) (count_from 0 (pin_count kind))) ((codes "Y", 1) ∷ [])
      (all_mapped (λ (w : List ℕ × ℕ). w.1 ≡ 1) (λ i. (pin_name kind i, 1)) (count_from 0 (pin_count kind))
      (everywhere (λ i. 1 ≡ 1) (λ i. refl) (count_from 0 (pin_count kind))))
      (refl, tt)

  gate_pins_right : has_pins (gate_widths g.kind) (gate_pins g) ≡ true
  gate_pins_right =
      right_by_names (gate_widths g.kind) (gate_pins g) (gate_pin_names ∙ sym (names_of_widths g.kind))
      (one_bit_wide g.kind)
      gate_pins_single

  -- ---- what it drives

  -- what a pin drives
  abbrev pin_drives : PinDecl → List ℕ
  pin_drives p = driven_in (pin_by (Gate g.kind) (gate_cell g) p.name p.bits)

  input_drives_nothing : (i : ℕ) → not (bytes_eq (pin_name g.kind i) (codes "Y")) ≡ true → pin_drives
      (input_pin i) ≡ []
  input_drives_nothing i other =
      no_output (Gate g.kind) (gate_cell g) (pin_name g.kind i) 0 (get_or g.pins i Zero ∷ [])
      (λ j. no_role (bytes_eq (pin_name g.kind i) (codes "Y")) other)
    where
      no_role : (t : Bool) → not t ≡ true → is_cell_output (if t then roles.Output else roles.Data) ≡ false
      no_role true h = absurd (cc)
      no_role false h = refl

  pub gate_drives : driven_in (cell_connections (gate_cell g)) ≡ g.output ∷ []
  gate_drives =
      ap (λ c. driven_in (connections_by c (gate_cell g))) class_of_gate_cell
      ∙ driven_in-chain (λ (p : PinDecl). pin_by (Gate g.kind) (gate_cell g) p.name p.bits) (gate_pins g)
      ∙ flat-append pin_drives (map input_pin places) (pin (codes "Y") (Bit g.output ∷ []) true ∷ [])
      ∙ ap (λ ns. ns ++ (g.output ∷ [] ++ []))
      (flat_images pin_drives input_pin places
      ∙ flat_none (λ i. pin_drives (input_pin i)) places
      (all_step (λ i. not (bytes_eq (pin_name g.kind i) (codes "Y")) ≡ true)
      (λ i. pin_drives (input_pin i) ≡ []) input_drives_nothing
      places (inputs_are_not_y g.kind)))

  -- ---- no condition holds

  module _ (k : Circuit) (is : IsGatePart k.clock g) where
    pin_is_data : (i : ℕ) → IsData k.clock (get_or g.pins i Zero)
    pin_is_data i = all_or (IsData k.clock) Zero (zero_is_data k.clock) g.pins is.read i

    gate_connections : AllByRecursion (IsFineConnection k) (connections_by (Gate g.kind) (gate_cell g))
    gate_connections =
        all_flat (IsFineConnection k) (λ (p : PinDecl). pin_by (Gate g.kind) (gate_cell g) p.name p.bits)
        (gate_pins g)
        (append_all Fine (map input_pin places) (pin (codes "Y") (Bit g.output ∷ []) true ∷ [])
        (all_mapped Fine input_pin places
        (everywhere (λ i. Fine (input_pin i))
        (λ i. (
          output_or_data k (get_or g.pins i Zero) (bytes_eq (pin_name g.kind i) (codes "Y"))
              (pin_is_data i),
          tt,
        )) places))
        ((tt, tt), tt))
      where
        Fine : PinDecl → Type 0
        Fine p = AllByRecursion (IsFineConnection k) (pin_by (Gate g.kind) (gate_cell g) p.name p.bits)

    entries_of_origin : (origin : List ℕ) → AreEntries (origin_entries origin)
    entries_of_origin [] = record { order = tt; data_kept = tt }
    entries_of_origin (byte ∷ bytes) = record { order = (tt, tt); data_kept = (refl, tt) }

    gate_readable : IsTrue (is_readable_signal false (Bit g.output)) → IsCell (gate_cell g)
    gate_readable output = record {
      attributes = entries_of_origin g.origin;
      parameters = record { order = tt; data_kept = tt };
      pins =
          append_all (λ (q : PinDecl). AreReadable false q.bits) (map input_pin places)
          (pin (codes "Y") (Bit g.output ∷ []) true ∷ [])
          (all_mapped (λ (q : PinDecl). AreReadable false q.bits) input_pin places
          (everywhere (λ i. AreReadable false (input_pin i).bits) (λ i. ((pin_is_data i).readable, tt)) places))
          ((output, tt), tt);
      order = gate_pin_order;
    }

    pub gate_is_fine : IsTrue (is_readable_signal false (Bit g.output)) → IsFineCell k (gate_cell g)
    gate_is_fine output = record {
      part = ap is_part class_of_gate_cell;
      right =
          ap (λ c. has_sizes c (gate_cell g) && has_pins (widths_of c (gate_cell g))
          (gate_pins g)) class_of_gate_cell
          ∙ gate_pins_right;
      connections = subst (λ c. AllByRecursion (IsFineConnection k) (connections_by c (gate_cell g)))
          (sym class_of_gate_cell) gate_connections;
      formed = λ m. ap (λ c. is_memory c && list_any is_broken
          (memory_rules m (gate_cell g))) class_of_gate_cell;
      readable = gate_readable output;
    }
