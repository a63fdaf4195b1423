-- The tables of gates and registers, computed at each setting and for many names.
use Rattle.std.proofs.Common.{◌≡◌, ℕ, suc, zero, Bool, true, false, List, [], ◌∷◌, ◌++◌, map, length, refl, codes, Option, Some, None}
use Rattle.std.specs.Prelude.{◌-◌, if◌then◌else◌, nat_lt, get_or, flat_map}
use Rattle.cs_cells.specs.declared.gate.Kind.{Kind}
use Rattle.cs_cells.specs.declared.gate.Kind.TheVariants.{Buf, Not, And, Nand, Or, Nor, Xor, Xnor, AndNot, OrNot, Mux, Nmux, Aoi3, Oai3, Aoi4, Oai4, Mux4, Mux8, Mux16}
use Rattle.cs_cells.specs.declared.register.FfKind.{FfKind}
use Rattle.cs_cells.specs.declared.class.Class.TheVariants.{Gate, Register, Memory, Scope, Asynchronous, NotFine, Unknown}
use Rattle.cs_cells.specs.Gates.{row_of, gates, pin_count, pin_name, equation, gate_value}
use Rattle.cs_cells.specs.Registers.{registers, register_name, next_value}
use Rattle.cs_cells.specs.Memories.{read_bit, after_write, after_writes}
use Rattle.cs_cells.specs.Classes.{gate_of, register_of, class_of}

-- every setting of n pins, the first pin changing fastest
abbrev settings : ℕ → List (List Bool)
settings zero = [] ∷ []
settings (suc n) = flat_map (λ rest. (false ∷ rest) ∷ (true ∷ rest) ∷ []) (settings n)

abbrev digit : Bool → ℕ
digit b = if b then 49 else 48

abbrev table : Kind → List ℕ
table kind = map (λ pins. digit (gate_value kind pins)) (settings (pin_count kind))

table_of_buf : table Buf ≡ codes "01"
unfolding equation
table_of_buf = refl

table_of_not : table Not ≡ codes "10"
unfolding equation
table_of_not = refl

table_of_and : table And ≡ codes "0001"
unfolding equation
table_of_and = refl

table_of_nand : table Nand ≡ codes "1110"
unfolding equation
table_of_nand = refl

table_of_or : table Or ≡ codes "0111"
unfolding equation
table_of_or = refl

table_of_nor : table Nor ≡ codes "1000"
unfolding equation
table_of_nor = refl

table_of_xor : table Xor ≡ codes "0110"
unfolding equation
table_of_xor = refl

table_of_xnor : table Xnor ≡ codes "1001"
unfolding equation
table_of_xnor = refl

table_of_andnot : table AndNot ≡ codes "0100"
unfolding equation
table_of_andnot = refl

table_of_ornot : table OrNot ≡ codes "1101"
unfolding equation
table_of_ornot = refl

table_of_mux : table Mux ≡ codes "01010011"
unfolding equation
table_of_mux = refl

table_of_nmux : table Nmux ≡ codes "10101100"
unfolding equation
table_of_nmux = refl

table_of_aoi3 : table Aoi3 ≡ codes "11100000"
unfolding equation
table_of_aoi3 = refl

table_of_oai3 : table Oai3 ≡ codes "11111000"
unfolding equation
table_of_oai3 = refl

table_of_aoi4 : table Aoi4 ≡ codes "1110111011100000"
unfolding equation
table_of_aoi4 = refl

table_of_oai4 : table Oai4 ≡ codes "1111100010001000"
unfolding equation
table_of_oai4 = refl

table_of_mux4 : table Mux4 ≡ codes "0101010101010101001100110011001100001111000011110000000011111111"
unfolding equation
table_of_mux4 = refl

-- a multiplexer passes the pin of its select number, whatever the pins hold
abbrev with_selects : (ℕ → Bool) → List Bool → ℕ → ℕ → Bool
with_selects p selects n i = if nat_lt i n then p i else get_or selects (i - n) false

abbrev passed : Kind → ℕ → (ℕ → Bool) → List Bool
passed kind selects p = map (λ s. equation kind (with_selects p s (pin_count kind - selects))) (settings selects)

passes_mux8 : (p : ℕ → Bool) → passed Mux8 3 p ≡ p 0 ∷ p 1 ∷ p 2 ∷ p 3 ∷ p 4 ∷ p 5 ∷ p 6 ∷ p 7 ∷ []
unfolding equation
passes_mux8 p = refl

passes_mux16 : (p : ℕ → Bool) → passed Mux16 4 p ≡ p 0 ∷ p 1 ∷ p 2 ∷ p 3 ∷ p 4 ∷ p 5 ∷ p 6 ∷ p 7 ∷ p 8 ∷ p 9 ∷ p 10 ∷ p 11 ∷ p 12 ∷ p 13 ∷ p 14 ∷ p 15 ∷ []
unfolding equation
passes_mux16 p = refl

names_of_pins : pin_name Mux16 15 ++ pin_name Mux16 16 ++ pin_name Mux16 19 ++ pin_name Mux 2 ++ pin_name Oai4 3 ≡ codes "PSVSD"
names_of_pins = refl

-- each name is that of one gate or register alone
gates_by_name : map (λ kind. gate_of (row_of kind).name) gates ≡ map Some gates
gates_by_name = refl

registers_by_name : map (λ kind. register_of (register_name kind)) registers ≡ map Some registers
registers_by_name = refl

count_of_registers : length registers ≡ 46
count_of_registers = refl

classes : map class_of (codes "$_AOI3_" ∷ codes "$mem_v2" ∷ codes "$scopeinfo" ∷ codes "$_DFF_PN0_" ∷ codes "$_ALDFF_PP_" ∷ codes "$_TBUF_" ∷ codes "$_FF_" ∷ codes "$_SR_PP_" ∷ codes "$_DLATCH_P_" ∷ codes "$and" ∷ codes "$mem" ∷ codes "$paramod\\m" ∷ codes "$_SDFF_PP_" ∷ codes "$__x" ∷ codes "m" ∷ codes "" ∷ [])
    ≡ Gate Aoi3 ∷ Memory ∷ Scope ∷ Asynchronous ∷ Asynchronous ∷ Asynchronous ∷ Asynchronous ∷ Asynchronous ∷ Asynchronous ∷ NotFine ∷ NotFine ∷ Unknown ∷ Unknown ∷ Unknown ∷ Unknown ∷ Unknown ∷ []
unfolding class_of
classes = refl

class_of_register : class_of (codes "$_SDFFCE_NP1N_") ≡ Register (record { rising = false; reset = Some (record { high = true; value = true }); enable = Some false; enable_over_reset = true })
unfolding class_of
class_of_register = refl

-- ---- next values, from D, Q, E and R

-- what a register of a name holds next, at each setting of D, Q, E and R
abbrev next_table : Option FfKind → List ℕ
next_table None = []
next_table (Some kind) = map (λ pins. digit (next_value kind (get_or pins 0 false) (get_or pins 1 false) (get_or pins 2 false) (get_or pins 3 false))) (settings 4)

next_value_dff_n : next_table (register_of (codes "$_DFF_N_")) ≡ codes "0101010101010101"
unfolding next_value
next_value_dff_n = refl

next_value_dffe_pn : next_table (register_of (codes "$_DFFE_PN_")) ≡ codes "0101001101010011"
unfolding next_value
next_value_dffe_pn = refl

next_value_sdff_pn1 : next_table (register_of (codes "$_SDFF_PN1_")) ≡ codes "1111111101010101"
unfolding next_value
next_value_sdff_pn1 = refl

next_value_sdffe_pp0p : next_table (register_of (codes "$_SDFFE_PP0P_")) ≡ codes "0011010100000000"
unfolding next_value
next_value_sdffe_pp0p = refl

next_value_sdffe_nn1n : next_table (register_of (codes "$_SDFFE_NN1N_")) ≡ codes "1111111101010011"
unfolding next_value
next_value_sdffe_nn1n = refl

next_value_sdffce_pp0p : next_table (register_of (codes "$_SDFFCE_PP0P_")) ≡ codes "0011010100110000"
unfolding next_value
next_value_sdffce_pp0p = refl

next_value_sdffce_pn1n : next_table (register_of (codes "$_SDFFCE_PN1N_")) ≡ codes "1111001101010011"
unfolding next_value
next_value_sdffce_pn1n = refl

-- ---- a memory of three words of two bits

abbrev three : List (List Bool)
three = (false ∷ true ∷ []) ∷ (true ∷ true ∷ []) ∷ (false ∷ false ∷ []) ∷ []

reads : map (read_bit three (true ∷ false ∷ [])) (0 ∷ 1 ∷ []) ≡ true ∷ true ∷ []
unfolding read_bit
reads = refl

reads_past : map (read_bit three (true ∷ true ∷ [])) (0 ∷ 1 ∷ []) ≡ false ∷ false ∷ []
unfolding read_bit
reads_past = refl

-- the later port wins, bit by bit; a write past the words is dropped
writes : after_writes (record { address = false ∷ false ∷ []; word = true ∷ true ∷ []; enable = true ∷ true ∷ [] } ∷ record { address = false ∷ false ∷ []; word = false ∷ false ∷ []; enable = false ∷ true ∷ [] } ∷ record { address = true ∷ true ∷ []; word = true ∷ true ∷ []; enable = true ∷ true ∷ [] } ∷ []) three
    ≡ (true ∷ false ∷ []) ∷ (true ∷ true ∷ []) ∷ (false ∷ false ∷ []) ∷ []
unfolding after_write
writes = refl
