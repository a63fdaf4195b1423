-- The clock pins of a circuit's document.
use Rattle.std.proofs.Common.{◌≡◌, ℕ, zero, suc, ◌+◌, List, [], ◌∷◌, ◌++◌, map, length, Bool, true, false, ◌||◌, ◌⊎◌, inl, inr, Option, Some, None, refl, sym, ap, ap₂, ◌∙◌, arith, codes}
use Rattle.std.specs.Prelude.{filter_map, flat_map, option_map, slice_get, if◌then◌else◌}
use Rattle.std.specs.List.{AllByRecursion, cons_option, enumerate_from, list_any}
use Rattle.cs_base.specs.declared.signal.Signal.{Signal}
use Rattle.cs_base.specs.declared.signal.Signal.TheVariants.{Zero}
use Rattle.cs_json.specs.declared.document.CellDecl.{CellDecl}
use Rattle.cs_modules.specs.declared.clocks.Clock.{Clock}
use Rattle.cs_modules.specs.declared.connection.Role.{Role}
use Rattle.cs_modules.specs.declared.connection.Role.TheVariants as roles
use Rattle.cs_modules.specs.Modules.{ClockPin, clock_pin, edge_of, first_clock}
use Rattle.cs_modules.specs.Pins.{Connection, cell_connections}
use Rattle.cs_modules.specs.Signals.{number_in}
use Rattle.cs_net.proofs.Members.{Has, has_in_chain, has_left, has_right}
use Rattle.cs_circuit.specs.declared.circuit.Circuit.{Circuit}
use Rattle.cs_circuit.specs.declared.circuit.MemoryPart.{MemoryPart}
use Rattle.cs_circuit.specs.declared.circuit.RegisterPart.{RegisterPart}
use Rattle.cs_circuit.specs.declared.circuit.WritePart.{WritePart}
use Rattle.cs_circuit.specs.Cells.{clock_signal, gate_cell, is_rising, numbered, numbered_register, register_bit}
use Rattle.cs_circuit.specs.MemoryCells.{memory_cell}
use Rattle.cs_circuit.specs.Documents.{circuit_cells}
use Rattle.cs_circuit.specs.WellFormed.{is_clocked}
use Rattle.cs_circuit.proofs.Connections.{HasClockPin, IsFineConnection, IsFineRole}
use Rattle.cs_circuit.proofs.EachCell.{keeper, memory_cells, register_cells}
use Rattle.cs_circuit.proofs.FineCells.{within}
use Rattle.cs_circuit.proofs.Lists.{any_has}
use Rattle.cs_circuit.proofs.MemoryPins.{memory_has_clock}
use Rattle.cs_circuit.proofs.RegisterCells.{register_has_clock}

-- ---- each has the clock

pub record IsFinePin (k : Circuit) (p : ClockPin) : Type 0 where
  pub signal : p.signal ≡ clock_signal k.clock
  pub rising : p.rising ≡ is_rising k.clock
  pub clocked : is_clocked k ≡ true

fine_next : (k : Circuit) (name : List ℕ) (s : Signal) (role : Role) (rest : List ClockPin)
    → IsFineRole k s role
    → AllByRecursion (IsFinePin k) rest
    → AllByRecursion (IsFinePin k)
    (cons_option (option_map (λ rising. record { cell = name; signal = s; rising = rising })
    (edge_of role)) rest)
fine_next k name s roles.Data rest fine all = all
fine_next k name s (roles.Clock rising) rest fine all =
    (record { signal = fine.0; rising = fine.1; clocked = fine.2 }, all)
fine_next k name s roles.Output rest fine all = all
fine_next k name s roles.Unused rest fine all = all

pub fine_pins : (k : Circuit) (cs : List Connection) → AllByRecursion (IsFineConnection k) cs
    → AllByRecursion (IsFinePin k) (filter_map clock_pin cs)
fine_pins k [] fine = tt
fine_pins k (c ∷ cs) fine = fine_next k c.cell c.signal c.role (filter_map clock_pin cs) fine.0
    (fine_pins k cs fine.1)

-- where nothing is clocked there is none
pub no_pins : (k : Circuit) (pins : List ClockPin) → AllByRecursion (IsFinePin k) pins
    → is_clocked k ≡ false → pins ≡ []
no_pins k [] fine none = refl
no_pins k (p ∷ pins) fine none = let both : true ≡ false = sym fine.0.clocked ∙ none in absurd (cc)

-- ---- where something is clocked there is one

has_listed : {A B : Type 0} (f : ℕ → A → B) (from : ℕ) (xs : List A) (i : ℕ) (x : A) → slice_get xs i ≡ Some x
    → Has (map (λ e. f e.0 e.1) (enumerate_from from xs)) (f (from + i) x)
has_listed f from [] i x stands = absurd (cc)
has_listed f from (y ∷ xs) zero x stands =
    let same : y ≡ x = cc in
    let none : from ≡ from + 0 = omega arith in (0, ap Some (ap₂ f none same))
has_listed f from (y ∷ xs) (suc i) x stands =
    let more = has_listed f (from + 1) xs i x stands in
    let next : from + 1 + i ≡ from + suc i = omega arith in (suc more.0, more.1 ∙ ap (λ n. Some (f n x)) next)

-- what is chosen from something that stands in a list stands in what is chosen from it
has_chosen : {A B : Type 0} (f : A → Option B) (xs : List A) (x : A) (y : B) → Has xs x → f x ≡ Some y
    → Has (filter_map f xs) y
has_chosen f [] x y (i, stands) is = absurd (cc)
has_chosen f (z ∷ xs) x y (zero, stands) is =
    let same : z ≡ x = cc in
    (0, ap (λ o. slice_get (cons_option o (filter_map f xs)) 0) (ap f same ∙ is))
has_chosen {B = B} f (z ∷ xs) x y (suc i, stands) is = later (f z) (has_chosen f xs x y (i, stands) is)
  where
    later : (o : Option B) → Has (filter_map f xs) y → Has (cons_option o (filter_map f xs)) y
    later None has = has
    later (Some b) has = (suc has.0, has.1)

either : (a b : Bool) → (a || b) ≡ true → (a ≡ true) ⊎ (b ≡ true)
either true b h = inl refl
either false b h = inr h

module _ (k : Circuit) where
  -- a cell with a clock pin
  pub record ClockedCell : Type 0 where
    pub cell : CellDecl
    pub among : Has (circuit_cells k) cell
    pub has_pin : HasClockPin cell

  abbrev keepers : List CellDecl
  keepers = if k.keeps_clock then keeper k ∷ [] else []

  register_clocked : list_any (λ (r : RegisterPart). true) k.registers ≡ true → ClockedCell
  register_clocked some =
      let found = any_has (λ (r : RegisterPart). true) k.registers some in
      let n = found.1.0 in
      record {
        cell = numbered_register k (0 + n) found.0;
        among =
            has_left (map gate_cell k.gates ++ memory_cells k ++ register_cells k) keepers
            (numbered_register k (0 + n) found.0)
            (has_right (map gate_cell k.gates ++ memory_cells k) (register_cells k)
            (numbered_register k (0 + n) found.0)
            (has_listed (numbered_register k) 0 k.registers n found.0 found.1.1));
        has_pin = register_has_clock k.clock (numbered (codes "$cs$r") (0 + n)) found.0.source
            (register_bit k (0 + n));
      }

  memory_clocked : list_any
      (λ (m : MemoryPart). list_any (λ (w : WritePart). true) m.writes) k.memories ≡ true → ClockedCell
  memory_clocked some =
      let found = any_has (λ (m : MemoryPart). list_any (λ (w : WritePart). true) m.writes) k.memories some in
      let i = found.1.0 in
      let write = any_has (λ (w : WritePart). true) found.0.writes found.2 in
      let below = within found.0.writes write.1.0 write.0 write.1.1 in
      record {
        cell = memory_cell k.clock (0 + i) found.0;
        among =
            has_left (map gate_cell k.gates ++ memory_cells k ++ register_cells k) keepers
            (memory_cell k.clock (0 + i) found.0)
            (has_left (map gate_cell k.gates ++ memory_cells k) (register_cells k)
            (memory_cell k.clock (0 + i) found.0)
            (has_right (map gate_cell k.gates) (memory_cells k) (memory_cell k.clock (0 + i) found.0)
            (has_listed (memory_cell k.clock) 0 k.memories i found.0 found.1.1)));
        has_pin = memory_has_clock k.clock (0 + i) found.0 (omega arith);
      }

  keeper_clocked : k.keeps_clock ≡ true → ClockedCell
  keeper_clocked keeps = record {
    cell = keeper k;
    among =
        has_right (map gate_cell k.gates ++ memory_cells k ++ register_cells k) keepers (keeper k)
        (0, ap (λ keeps. slice_get (if keeps then keeper k ∷ [] else []) 0) keeps);
    has_pin = register_has_clock k.clock (codes "$cs$k") Zero (register_bit k (length k.registers));
  }

  abbrev some_register : Bool
  some_register = list_any (λ (r : RegisterPart). true) k.registers

  abbrev some_write : Bool
  some_write = list_any (λ (m : MemoryPart). list_any (λ (w : WritePart). true) m.writes) k.memories

  by_part : (some_register ≡ true) ⊎ (some_write ≡ true) → ClockedCell
  by_part (inl register) = register_clocked register
  by_part (inr write) = memory_clocked write

  by_kind : ((some_register || some_write) ≡ true) ⊎ (k.keeps_clock ≡ true) → ClockedCell
  by_kind (inl part) = by_part (either some_register some_write part)
  by_kind (inr keeps) = keeper_clocked keeps

  pub clocked_cell : is_clocked k ≡ true → ClockedCell
  clocked_cell some = by_kind (either (some_register || some_write) k.keeps_clock some)

-- the pin stands among those of all cells
pub has_clock_pin : (cells : List CellDecl) (cell : CellDecl) → Has cells cell → HasClockPin cell
    → (p : ClockPin) × Has (filter_map clock_pin (flat_map cell_connections cells)) p
has_clock_pin cells cell among (c, has, rising, edge) = (
  record { cell = c.cell; signal = c.signal; rising = rising },
  has_chosen clock_pin (flat_map cell_connections cells) c
      (record { cell = c.cell; signal = c.signal; rising = rising })
      (has_in_chain cell_connections cells cell c among has)
      (ap (option_map (λ r. let p : ClockPin =
      record { cell = c.cell; signal = c.signal; rising = r } in p)) edge),
)

-- ---- the first of them

pub first_is_clock : (k : Circuit) (clock : Clock) (pins : List ClockPin) (p : ClockPin) → k.clock ≡ Some clock
    → AllByRecursion (IsFinePin k) pins → Has pins p → first_clock pins ≡ Some clock
first_is_clock k clock [] p is fine (i, stands) = absurd (cc)
first_is_clock k clock (q ∷ pins) p is fine has =
    ap₂ (λ s rising. option_map (λ b. let c : Clock = record { bit = b; rising = rising } in c) (number_in s))
    (fine.0.signal ∙ ap clock_signal is) (fine.0.rising ∙ ap is_rising is)
