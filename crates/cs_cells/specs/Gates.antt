-- The gates of the Yosys cell library: their names, their pins and their equations.
use Rattle.std.specs.Prelude.{ℕ, ◌+◌, ◌-◌, Bool, false, not, ◌&&◌, ◌||◌, if◌then◌else◌, nat_lt, List, [], ◌∷◌, get_or, codes}
use Rattle.cs_cells.specs.declared.gate.Kind.{Kind}
use Rattle.cs_cells.specs.declared.gate.Kind.TheVariants.{Buf, Not, And, Nand, Or, Nor, Xor, Xnor, AndNot, OrNot, Mux, Nmux, Aoi3, Oai3, Aoi4, Oai4, Mux4, Mux8, Mux16}

-- a gate's type name, and how many data pins and select pins it has
pub record GateRow : Type 0 where
  pub name : List ℕ
  pub data_pins : ℕ
  pub selects : ℕ

-- the table of gates
abbrev pub row_of : Kind → GateRow
row_of Buf = record { name = codes "$_BUF_"; data_pins = 1; selects = 0 }
row_of Not = record { name = codes "$_NOT_"; data_pins = 1; selects = 0 }
row_of And = record { name = codes "$_AND_"; data_pins = 2; selects = 0 }
row_of Nand = record { name = codes "$_NAND_"; data_pins = 2; selects = 0 }
row_of Or = record { name = codes "$_OR_"; data_pins = 2; selects = 0 }
row_of Nor = record { name = codes "$_NOR_"; data_pins = 2; selects = 0 }
row_of Xor = record { name = codes "$_XOR_"; data_pins = 2; selects = 0 }
row_of Xnor = record { name = codes "$_XNOR_"; data_pins = 2; selects = 0 }
row_of AndNot = record { name = codes "$_ANDNOT_"; data_pins = 2; selects = 0 }
row_of OrNot = record { name = codes "$_ORNOT_"; data_pins = 2; selects = 0 }
row_of Mux = record { name = codes "$_MUX_"; data_pins = 2; selects = 1 }
row_of Nmux = record { name = codes "$_NMUX_"; data_pins = 2; selects = 1 }
row_of Aoi3 = record { name = codes "$_AOI3_"; data_pins = 3; selects = 0 }
row_of Oai3 = record { name = codes "$_OAI3_"; data_pins = 3; selects = 0 }
row_of Aoi4 = record { name = codes "$_AOI4_"; data_pins = 4; selects = 0 }
row_of Oai4 = record { name = codes "$_OAI4_"; data_pins = 4; selects = 0 }
row_of Mux4 = record { name = codes "$_MUX4_"; data_pins = 4; selects = 2 }
row_of Mux8 = record { name = codes "$_MUX8_"; data_pins = 8; selects = 3 }
row_of Mux16 = record { name = codes "$_MUX16_"; data_pins = 16; selects = 4 }

-- every gate
abbrev pub gates : List Kind
gates = Buf ∷ Not ∷ And ∷ Nand ∷ Or ∷ Nor ∷ Xor ∷ Xnor ∷ AndNot ∷ OrNot ∷ Mux ∷ Nmux ∷ Aoi3 ∷ Oai3 ∷ Aoi4 ∷ Oai4 ∷ Mux4 ∷ Mux8 ∷ Mux16 ∷ []

-- how many input pins a gate has: data pins, then selects
abbrev pub pin_count : Kind → ℕ
pin_count kind = (row_of kind).data_pins + (row_of kind).selects

-- the letter of a pin: data pins are `A` and on, selects `S` and on
abbrev pub pin_letter : GateRow → ℕ → ℕ
pin_letter row i = if nat_lt i row.data_pins then 65 + i else 83 + (i - row.data_pins)

-- the name of input pin i
abbrev pub pin_name : Kind → ℕ → List ℕ
pin_name kind i = pin_letter (row_of kind) i ∷ []

-- ---- equations, of the pins by place

-- the second value where the select is 1, else the first
abbrev pub mux : Bool → Bool → Bool → Bool
mux select a b = if select then b else a

-- the exclusive or
abbrev pub differs : Bool → Bool → Bool
differs a b = if a then not b else b

-- one of 2 data pins from place i on, by the select at place s
abbrev pub mux2 : (ℕ → Bool) → ℕ → ℕ → Bool
mux2 p i s = mux (p s) (p i) (p (i + 1))

-- one of 4 data pins, by 2 selects from place s on, the lowest first
abbrev pub mux4 : (ℕ → Bool) → ℕ → ℕ → Bool
mux4 p i s = mux (p (s + 1)) (mux2 p i s) (mux2 p (i + 2) s)

-- one of 8 data pins, by 3 selects
abbrev pub mux8 : (ℕ → Bool) → ℕ → ℕ → Bool
mux8 p i s = mux (p (s + 2)) (mux4 p i s) (mux4 p (i + 4) s)

-- one of 16 data pins, by 4 selects
abbrev pub mux16 : (ℕ → Bool) → ℕ → ℕ → Bool
mux16 p i s = mux (p (s + 3)) (mux8 p i s) (mux8 p (i + 8) s)

-- output Y of a gate, from its input pins (Yosys `simcells.v`)
unfoldable pub equation : Kind → (ℕ → Bool) → Bool
equation Buf p = p 0
equation Not p = not (p 0)
equation And p = p 0 && p 1
equation Nand p = not (p 0 && p 1)
equation Or p = p 0 || p 1
equation Nor p = not (p 0 || p 1)
equation Xor p = differs (p 0) (p 1)
equation Xnor p = not (differs (p 0) (p 1))
equation AndNot p = p 0 && not (p 1)
equation OrNot p = p 0 || not (p 1)
equation Mux p = mux2 p 0 2
equation Nmux p = not (mux2 p 0 2)
equation Aoi3 p = not ((p 0 && p 1) || p 2)
equation Oai3 p = not ((p 0 || p 1) && p 2)
equation Aoi4 p = not ((p 0 && p 1) || (p 2 && p 3))
equation Oai4 p = not ((p 0 || p 1) && (p 2 || p 3))
equation Mux4 p = mux4 p 0 4
equation Mux8 p = mux8 p 0 8
equation Mux16 p = mux16 p 0 16

-- the same for a list of pins
abbrev pub gate_value : Kind → List Bool → Bool
gate_value kind pins = equation kind (λ i. get_or pins i false)
