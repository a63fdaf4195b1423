-- Small netlists: why some are refused, and what others answer, computed.
use Rattle.std.proofs.Common.{◌≡◌, ℕ, Bool, true, false, List, [], ◌∷◌, ◌++◌, map, refl, pos, codes, Option, Some, None}
use Rattle.std.specs.Prelude.{⊤, ◌==◌, if◌then◌else◌}
use Rattle.std.specs.List.{IsDistinct}
use Prim.Native.String.{String}
use Rattle.cs_modules.specs.Digits.{binary_digits, binary_digits_within}
use Rattle.cs_base.specs.declared.signal.Signal.{Signal}
use Rattle.cs_base.specs.declared.signal.Signal.TheVariants.{Zero, One, HighZ, Bit}
use Rattle.cs_json.specs.declared.document.Module.{Module}
use Rattle.cs_json.specs.declared.document.PortDecl.{PortDecl}
use Rattle.cs_json.specs.declared.document.CellDecl.{CellDecl}
use Rattle.cs_json.specs.declared.document.PinDecl.{PinDecl}
use Rattle.cs_json.specs.declared.document.NetDecl.{NetDecl}
use Rattle.cs_json.specs.declared.document.Entry.{Entry}
use Rattle.cs_json.specs.declared.document.Datum.TheVariants.{Digits, Number}
use Rattle.cs_json.specs.declared.document.Direction.TheVariants.{Input, Output}
use Rattle.cs_cells.specs.Gates.{equation}
use Rattle.cs_cells.specs.Registers.{next_value}
use Rattle.cs_cells.specs.Memories.{read_bit, after_write}
use Rattle.cs_cells.specs.Classes.{class_of}
use Rattle.cs_conditions.specs.declared.error.NetError.{NetError}
use Rattle.cs_conditions.specs.declared.error.NetError.TheVariants.{NotFine, BadPins, TwoDrivers, TwoClocks, ClockAsData, TwoStarts, MemoryForm, Reserved}
use Rattle.cs_net.specs.declared.images.Images.{Images}
use Rattle.cs_net.specs.Netlist.{Net, NetState}
use Rattle.cs_net.specs.Drivers.{driver_of}
use Rattle.cs_conditions.specs.Conditions.{early_refusal, reserved, or_else}
use Rattle.cs_net.specs.Build.{net_of}
use Rattle.cs_net.specs.Accept.{IsLoopOfCells}
use Rattle.cs_net.specs.Contexts.{no_images, start_of}
use Rattle.cs_net.specs.Trace.{Row, output_row, value_within, next_state}

-- ---- documents in short forms

abbrev in_port : String → List ℕ → PortDecl
in_port name bits = record { name = codes name; direction = Input; bits = map Bit bits }

abbrev out_port : String → List ℕ → PortDecl
out_port name bits = record { name = codes name; direction = Output; bits = map Bit bits }

abbrev pin : String → List Signal → PinDecl
pin name bits = record { name = codes name; bits = bits; output = false }

abbrev wire : String → ℕ → PinDecl
wire name b = pin name (Bit b ∷ [])

abbrev cell : String → String → List PinDecl → CellDecl
cell name kind pins = record { name = codes name; kind = codes kind; parameters = []; attributes = []; pins = pins }

abbrev number : String → ℕ → Entry
number name n = record { name = codes name; datum = Number (pos n) }

abbrev text : String → String → Entry
text name digits = record { name = codes name; datum = Digits (codes digits) }

abbrev init : String → ℕ → String → NetDecl
init name b digits = record { name = codes name; bits = Bit b ∷ []; attributes = text "init" digits ∷ [] }

abbrev top : List PortDecl → List CellDecl → List NetDecl → Module
top ports cells nets = record { name = codes "top"; attributes = []; ports = ports; cells = cells; nets = nets }

abbrev clk : PortDecl
clk = in_port "clk" (2 ∷ [])

abbrev dff : String → ℕ → ℕ → CellDecl
dff name d q = cell name "$_DFF_P_" (wire "C" 2 ∷ wire "D" d ∷ wire "Q" q ∷ [])

abbrev bits : List ℕ → List Signal
bits bs = map Bit bs

-- ---- the netlists

-- N1: an inverter
abbrev n1 : Module
n1 = top (in_port "a" (2 ∷ []) ∷ out_port "y" (3 ∷ []) ∷ []) (cell "g" "$_NOT_" (wire "A" 2 ∷ wire "Y" 3 ∷ []) ∷ []) []

-- N2: a register that starts with 1
abbrev n2 : Module
n2 = top (clk ∷ in_port "d" (3 ∷ []) ∷ out_port "q" (4 ∷ []) ∷ []) (dff "r" 3 4 ∷ []) (init "q" 4 "1" ∷ [])

-- N3: a register that its input toggles, and more cells
abbrev n3 : List CellDecl → Module
n3 more =
    top (in_port "a" (3 ∷ []) ∷ clk ∷ out_port "y" (4 ∷ []) ∷ [])
    (more ++ dff "r" 5 4 ∷ cell "x" "$_XOR_" (wire "A" 4 ∷ wire "B" 3 ∷ wire "Y" 5 ∷ []) ∷ []) (init "y" 4 "0" ∷ [])

-- N11: a register that remembers whether its input was ever 0
abbrev n11 : Module
n11 =
    top (in_port "a" (3 ∷ []) ∷ clk ∷ out_port "y" (5 ∷ []) ∷ [])
    (cell "g" "$_AND_" (wire "A" 3 ∷ wire "B" 4 ∷ wire "Y" 5 ∷ []) ∷ dff "r" 5 4 ∷ []) (init "r" 4 "1" ∷ [])

abbrev memory : List Entry → CellDecl
memory more = record {
  name = codes "m";
  kind = codes "$mem_v2";
  attributes = [];
  parameters = more ++ number "ABITS" 2 ∷ text "INIT" "00001000" ∷ number "RD_PORTS" 1 ∷ number "SIZE" 4 ∷ number "WIDTH" 2 ∷ text "WR_CLK_ENABLE" "1" ∷ text "WR_CLK_POLARITY" "1" ∷ number "WR_PORTS" 1 ∷ [];
  pins = pin "RD_ADDR" (bits (3 ∷ 4 ∷ [])) ∷ pin "RD_ARST" (Zero ∷ []) ∷ pin "RD_CLK" (HighZ ∷ []) ∷ pin "RD_DATA" (bits (8 ∷ 9 ∷ [])) ∷ pin "RD_EN" (One ∷ []) ∷ pin "RD_SRST" (Zero ∷ [])
      ∷ pin "WR_ADDR" (bits (3 ∷ 4 ∷ [])) ∷ pin "WR_CLK" (bits (2 ∷ [])) ∷ pin "WR_DATA" (bits (5 ∷ 6 ∷ [])) ∷ pin "WR_EN" (bits (7 ∷ 7 ∷ [])) ∷ [];
}

-- M1: a memory of 4 words of 2 bits, with an unclocked read and a write at one address
abbrev m1 : List Entry → Module
m1 more =
    top (in_port "a" (3 ∷ 4 ∷ []) ∷ clk ∷ in_port "d" (5 ∷ 6 ∷ []) ∷ out_port "q" (8 ∷ 9 ∷ []) ∷ in_port "w" (7 ∷ []) ∷ [])
    (memory more ∷ []) []

-- ---- which are accepted

-- without the loops
abbrev refusal : Module → Option NetError
refusal m = or_else (early_refusal m) (reserved m)

accepted : map refusal (n1 ∷ n2 ∷ n3 [] ∷ n11 ∷ m1 [] ∷ []) ≡ None ∷ None ∷ None ∷ None ∷ None ∷ []
unfolding early_refusal reserved class_of binary_digits binary_digits_within
accepted = refl

-- a coarse cell is named before an asynchronous one that stands before it
not_fine_first : refusal (top [] (cell "r" "$_DFF_PP0_" [] ∷ cell "z" "$and" [] ∷ []) []) ≡ Some (NotFine (codes "z") (codes "$and"))
unfolding early_refusal class_of
not_fine_first = refl

missing_pin : refusal (n3 (cell "g" "$_NOT_" (wire "A" 3 ∷ []) ∷ [])) ≡ Some (BadPins (codes "g"))
unfolding early_refusal class_of
missing_pin = refl

two_drivers : refusal (n3 (cell "g" "$_NOT_" (wire "A" 3 ∷ wire "Y" 5 ∷ []) ∷ [])) ≡ Some (TwoDrivers 5)
unfolding early_refusal class_of
two_drivers = refl

two_clocks : refusal (n3 (cell "q" "$_DFF_P_" (wire "C" 3 ∷ wire "D" 5 ∷ wire "Q" 6 ∷ []) ∷ [])) ≡ Some (TwoClocks 3 2)
unfolding early_refusal class_of
two_clocks = refl

clock_read_as_data : refusal (n3 (cell "g" "$_NOT_" (wire "A" 2 ∷ wire "Y" 6 ∷ []) ∷ [])) ≡ Some (ClockAsData 2)
unfolding early_refusal class_of
clock_read_as_data = refl

two_starts : refusal (top (clk ∷ in_port "d" (3 ∷ []) ∷ out_port "q" (4 ∷ []) ∷ []) (dff "r" 3 4 ∷ []) (init "q" 4 "1" ∷ init "z" 4 "0" ∷ [])) ≡ Some (TwoStarts 4)
unfolding early_refusal class_of
two_starts = refl

transparent_read : refusal (m1 (text "RD_TRANSPARENCY_MASK" "1" ∷ [])) ≡ Some (MemoryForm (codes "m") (codes "RD_TRANSPARENCY_MASK"))
unfolding early_refusal class_of binary_digits binary_digits_within
transparent_read = refl

reserved_port : refusal (top (in_port "cslow_clk" (2 ∷ []) ∷ []) [] []) ≡ Some (Reserved (codes "cslow_clk"))
unfolding early_refusal class_of reserved
reserved_port = refl

abbrev two_inverters : Module
two_inverters =
    top [] (cell "p" "$_NOT_" (wire "A" 3 ∷ wire "Y" 4 ∷ []) ∷ cell "q" "$_NOT_" (wire "A" 4 ∷ wire "Y" 3 ∷ []) ∷ []) []

loop_of_inverters : IsLoopOfCells (net_of two_inverters) (codes "p" ∷ codes "q" ∷ [])
unfolding class_of net_of driver_of IsDistinct
loop_of_inverters = (3 ∷ 4 ∷ [], record { loop = (refl, refl); of_it = refl; feed_on = (refl, refl); least = refl; distinct = (tt, tt) })

-- ---- what they answer

-- what a netlist answers, where bits depend on others no more than 4 deep
answer : Net → NetState → List Row → List Row
answer net now [] = []
answer net now (row ∷ rows) =
    let v : ℕ → Bool = value_within net row now 4 in output_row net v ∷ answer net (next_state net now v) rows

-- rows of digits, each ended by a blank
row_texts : List Row → List ℕ
row_texts [] = []
row_texts (row ∷ rows) = map (λ b. if b then 49 else 48) row ++ 32 ∷ row_texts rows

abbrev next_row : Bool → List Row → List Row
next_row b [] = (b ∷ []) ∷ []
next_row b (row ∷ rows) = (b ∷ row) ∷ rows

-- the rows that such a text holds
rows_in : List ℕ → List Row
rows_in [] = []
rows_in (c ∷ cs) = if c == 32 then [] ∷ rows_in cs else next_row (c == 49) (rows_in cs)

-- what a netlist answers in context k, with images
with_images : Module → (Net → Images) → ℕ → String → List ℕ
with_images m images k rows = let net : Net = net_of m in row_texts (answer net (start_of net (images net) k) (rows_in (codes rows)))

answers : Module → String → List ℕ
answers m rows = with_images m no_images 0 rows

unfoldable everything : ⊤
unfolding class_of binary_digits binary_digits_within net_of driver_of equation next_value read_bit after_write value_within answer row_texts rows_in with_images answers
everything = tt

n1_inverts : answers n1 "0 1 " ≡ codes "1 0 "
unfolding everything
n1_inverts = refl

n2_delays : answers n2 "0 1 1 0 " ≡ codes "1 0 1 1 "
unfolding everything
n2_delays = refl

n3_toggles : answers (n3 []) "1 1 1 " ≡ codes "0 1 0 "
unfolding everything
n3_toggles = refl

n11_remembers : answers n11 "1 0 1 " ≡ codes "1 0 0 "
unfolding everything
n11_remembers = refl

-- word 1 starts with bit 1 set; a read sees a write one clock later
m1_reads_and_writes : answers (m1 []) "10000 01101 01000 " ≡ codes "01 00 10 "
unfolding everything
m1_reads_and_writes = refl

-- context 1 starts with its own image
m1_images : with_images (m1 []) (λ net. record { of = Some ([] ∷ (false ∷ false ∷ false ∷ false ∷ false ∷ false ∷ false ∷ true ∷ []) ∷ []) ∷ [] }) 1 "11000 10000 " ≡ codes "01 00 "
unfolding everything
m1_images = refl
