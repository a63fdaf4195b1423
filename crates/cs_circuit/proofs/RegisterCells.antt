-- The cells of registers: none of the conditions holds of them, they are readable, and they drive their bits.
use Rattle.std.proofs.Common.{◌≡◌, ℕ, List, [], ◌∷◌, Bool, true, false, Option, Some, None, ◌&&◌, refl, sym, ap, subst, codes}
use Rattle.std.specs.Prelude.{IsTrue, if◌then◌else◌}
use Rattle.std.specs.List.{AllByRecursion, list_any}
use Rattle.cs_base.specs.declared.signal.Signal.{Signal}
use Rattle.cs_base.specs.declared.signal.Signal.TheVariants.{Bit}
use Rattle.cs_json.specs.declared.document.CellDecl.{CellDecl}
use Rattle.cs_json.specs.Readable.{IsCell, is_readable_signal}
use Rattle.cs_cells.specs.declared.register.FfKind.{FfKind}
use Rattle.cs_cells.specs.declared.class.Class.TheVariants.{Register}
use Rattle.cs_cells.specs.Classes.{class_of}
use Rattle.cs_conditions.specs.Conditions.{is_broken, memory_rules}
use Rattle.cs_modules.specs.declared.clocks.Clock.{Clock}
use Rattle.cs_modules.specs.Modules.{edge_of, is_memory}
use Rattle.cs_modules.specs.Pins.{Connection, cell_connections, class_at, has_pins, has_sizes, widths_of}
use Rattle.cs_net.proofs.Members.{Has}
use Rattle.cs_circuit.specs.declared.circuit.Circuit.{Circuit}
use Rattle.cs_circuit.specs.Cells.{clock_signal, is_rising, register_cell}
use Rattle.cs_circuit.specs.WellFormed.{IsData, is_clocked}
use Rattle.cs_circuit.proofs.Connections.{HasClockPin, IsFineCell, IsFineConnection, connections_by, driven_in, fine_data, is_part}

-- a plain register of an edge
abbrev pub plain_kind : Bool → FfKind
plain_kind rising = record { rising = rising; reset = None; enable = None; enable_over_reset = false }

class_of_edge : (rising : Bool) → class_of
    (if rising then codes "$_DFF_P_" else codes "$_DFF_N_") ≡ Register (plain_kind rising)
unfolding class_of
class_of_edge true = refl
class_of_edge false = refl

module _ (clock : Option Clock) (name : List ℕ) (source : Signal) (q : ℕ) where
  abbrev made : CellDecl
  made = register_cell clock name source q

  pub class_of_register : class_at made ≡ Register (plain_kind (is_rising clock))
  class_of_register = class_of_edge (is_rising clock)

  pub register_drives : driven_in (cell_connections made) ≡ q ∷ []
  register_drives = ap (λ c. driven_in (connections_by c made)) class_of_register

  -- a register has a clock pin
  pub register_has_clock : HasClockPin made
  register_has_clock =
      subst (λ c. (e : Connection) × Has (connections_by c made) e × (rising : Bool) ×
      (edge_of e.role ≡ Some rising)) (sym class_of_register)
      (_, (0, refl), is_rising clock, refl)

module _ (k : Circuit) (name : List ℕ) (source : Signal) (q : ℕ) (clocked : is_clocked k ≡ true)
    (read : IsData k.clock source) (drives : IsTrue (is_readable_signal false (Bit q)))
    (clock : IsTrue (is_readable_signal false (clock_signal k.clock))) where
  abbrev of_circuit : CellDecl
  of_circuit = register_cell k.clock name source q

  register_readable : IsCell of_circuit
  register_readable = record {
    attributes = record { order = tt; data_kept = tt };
    parameters = record { order = tt; data_kept = tt };
    pins = ((clock, tt), ((read.readable, tt), ((drives, tt), tt)));
    order = ((refl, (refl, tt)), ((refl, tt), (tt, tt)));
  }

  pub register_is_fine : IsFineCell k of_circuit
  register_is_fine = record {
    part = ap is_part (class_of_register k.clock name source q);
    right = ap (λ c. has_sizes c of_circuit && has_pins (widths_of c of_circuit) of_circuit.pins)
        (class_of_register k.clock name source q);
    connections =
        subst (λ c. AllByRecursion (IsFineConnection k) (connections_by c of_circuit))
        (sym (class_of_register k.clock name source q))
        ((refl, refl, clocked), (fine_data k source read, (tt, tt)));
    formed = λ m. ap (λ c. is_memory c && list_any is_broken (memory_rules m of_circuit))
        (class_of_register k.clock name source q);
    readable = register_readable;
  }
