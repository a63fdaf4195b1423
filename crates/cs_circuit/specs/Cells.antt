-- The cells and nets that are written for gates and registers (Yosys cell library, Yosys JSON).
use Rattle.std.specs.Prelude.{ℕ, ◌+◌, List, [], ◌∷◌, ◌++◌, map, get_or, Bool, true, false, Option, Some, None, if◌then◌else◌, codes, decimal}
use Rattle.cs_base.specs.declared.signal.Signal.{Signal}
use Rattle.cs_base.specs.declared.signal.Signal.TheVariants.{Zero, Bit}
use Rattle.cs_json.specs.declared.document.CellDecl.{CellDecl}
use Rattle.cs_json.specs.declared.document.PinDecl.{PinDecl}
use Rattle.cs_json.specs.declared.document.NetDecl.{NetDecl}
use Rattle.cs_json.specs.declared.document.Entry.{Entry}
use Rattle.cs_json.specs.declared.document.Datum.TheVariants.{Digits}
use Rattle.cs_cells.specs.Gates.{row_of, pin_count, pin_name}
use Rattle.cs_modules.specs.declared.clocks.Clock.{Clock}
use Rattle.cs_modules.specs.Pins.{count_from}
use Rattle.cs_circuit.specs.declared.circuit.Circuit.{Circuit}
use Rattle.cs_circuit.specs.declared.circuit.GatePart.{GatePart}
use Rattle.cs_circuit.specs.declared.circuit.RegisterPart.{RegisterPart}

-- a name by its number
abbrev pub numbered : List ℕ → ℕ → List ℕ
numbered front n = front ++ decimal n

-- the bit that register n drives
abbrev pub register_bit : Circuit → ℕ → ℕ
register_bit k n = k.first_register + n

-- a pin and its bits
abbrev pub pin : List ℕ → List Signal → Bool → PinDecl
pin name bits output = record { name = name; bits = bits; output = output }

-- an entry whose value is a text
abbrev pub text_entry : List ℕ → List ℕ → Entry
text_entry name text = record { name = name; datum = Digits text }

-- ---- gates

-- the name of the cell that a gate came from, where it isn't empty
abbrev pub origin_entries : List ℕ → List Entry
origin_entries [] = []
origin_entries (byte ∷ bytes) = text_entry (codes "cslow_cell") (byte ∷ bytes) ∷ []

-- a gate's input pins, and then Y
abbrev pub gate_pins : GatePart → List PinDecl
gate_pins gate =
    map (λ i. pin (pin_name gate.kind i) (get_or gate.pins i Zero ∷ []) false) (count_from 0 (pin_count gate.kind))
    ++ pin (codes "Y") (Bit gate.output ∷ []) true ∷ []

abbrev pub gate_cell : GatePart → CellDecl
gate_cell gate = record {
  name = numbered (codes "$cs$g") gate.number;
  kind = (row_of gate.kind).name;
  parameters = [];
  attributes = origin_entries gate.origin;
  pins = gate_pins gate;
}

-- ---- registers

-- the signal that clocks everything
abbrev pub clock_signal : Option Clock → Signal
clock_signal None = Zero
clock_signal (Some clock) = Bit clock.bit

-- the clock's edge: whether it rises
abbrev pub is_rising : Option Clock → Bool
is_rising None = true
is_rising (Some clock) = clock.rising

-- a register without reset and enable
abbrev pub register_cell : Option Clock → List ℕ → Signal → ℕ → CellDecl
register_cell clock name source q = record {
  name = name;
  kind = if is_rising clock then codes "$_DFF_P_" else codes "$_DFF_N_";
  parameters = [];
  attributes = [];
  pins =
      pin (codes "C") (clock_signal clock ∷ []) false
      ∷ pin (codes "D") (source ∷ []) false
      ∷ pin (codes "Q") (Bit q ∷ []) true ∷ [];
}

-- register n
abbrev pub numbered_register : Circuit → ℕ → RegisterPart → CellDecl
numbered_register k n r = register_cell k.clock (numbered (codes "$cs$r") n) r.source (register_bit k n)

-- the register that keeps the clock, where there is one; it has 0 at D, and its bit stands behind those of the others
abbrev pub clock_keeper : Circuit → ℕ → List CellDecl
clock_keeper k bit = if k.keeps_clock then register_cell k.clock (codes "$cs$k") Zero bit ∷ [] else []

-- `1` or `0`
abbrev pub digit : Bool → ℕ
digit b = if b then 49 else 48

-- the net of register n says its start
abbrev pub register_net : Circuit → ℕ → RegisterPart → NetDecl
register_net k n r = record {
  name = numbered (codes "$cs$q") n;
  bits = Bit (register_bit k n) ∷ [];
  attributes = text_entry (codes "init") (digit r.start ∷ []) ∷ [];
}
