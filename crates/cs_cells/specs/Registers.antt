-- The registers of the Yosys cell library: their names and their next values.
use Rattle.std.specs.Prelude.{ℕ, Bool, true, false, not, if◌then◌else◌, List, [], ◌∷◌, ◌++◌, Option, Some, None, map, flat_map, codes}
use Rattle.cs_cells.specs.declared.register.FfKind.{FfKind}
use Rattle.cs_cells.specs.declared.register.ResetKind.{ResetKind}

-- ---- names

-- `P` for a rising edge or active high, else `N`
abbrev pub polarity : Bool → ℕ
polarity high = if high then 80 else 78

-- `1` or `0`
abbrev pub digit : Bool → ℕ
digit value = if value then 49 else 48

-- the front of a register's name, by its pins and by whether the enable is over the reset
abbrev pub family : Option ResetKind → Option Bool → Bool → List ℕ
family None None over = codes "$_DFF_"
family None (Some e) over = codes "$_DFFE_"
family (Some r) None over = codes "$_SDFF_"
family (Some r) (Some e) false = codes "$_SDFFE_"
family (Some r) (Some e) true = codes "$_SDFFCE_"

-- the letters of a reset: its polarity, then its value
abbrev pub reset_letters : Option ResetKind → List ℕ
reset_letters None = []
reset_letters (Some r) = polarity r.high ∷ digit r.value ∷ []

-- the letter of an enable: its polarity
abbrev pub enable_letters : Option Bool → List ℕ
enable_letters None = []
enable_letters (Some high) = polarity high ∷ []

-- the type name of a register, as `$_SDFFE_PN0P_`
abbrev pub register_name : FfKind → List ℕ
register_name k =
    family k.reset k.enable k.enable_over_reset
    ++ polarity k.rising ∷ reset_letters k.reset ++ enable_letters k.enable ++ 95 ∷ []

-- both edges, polarities or values
abbrev pub bools : List Bool
bools = true ∷ false ∷ []

-- no reset, or one of each polarity and value
abbrev pub resets : List (Option ResetKind)
resets = None ∷ flat_map (λ high. map (λ value. Some (record { high = high; value = value })) bools) bools

-- no enable, or one of each polarity
abbrev pub enables : List (Option Bool)
enables = None ∷ map Some bools

-- only a register with both pins has an order of them
abbrev pub orders : Option ResetKind → Option Bool → List Bool
orders None e = false ∷ []
orders (Some r) None = false ∷ []
orders (Some r) (Some e) = bools

-- every register of the table
abbrev pub registers : List FfKind
registers =
    flat_map (λ rising. flat_map (λ reset. flat_map (λ enable.
    map (λ over. record { rising = rising; reset = reset; enable = enable; enable_over_reset = over })
    (orders reset enable)) enables) resets) bools

-- ---- what a register holds next, from D, Q, E and R

-- whether a pin of this polarity is active
abbrev pub is_active : Bool → Bool → Bool
is_active high bit = if high then bit else not bit

-- the reset's value while it is active, else the value itself
abbrev pub value_with_reset : Option ResetKind → Bool → Bool → Bool
value_with_reset None r value = value
value_with_reset (Some reset) r value = if is_active reset.high r then reset.value else value

-- the old value while the enable is inactive, else the value itself
abbrev pub value_with_enable : Option Bool → Bool → Bool → Bool → Bool
value_with_enable None e q value = value
value_with_enable (Some high) e q value = if is_active high e then value else q

-- the value of Q after the clock's edge
unfoldable pub next_value : FfKind → (d q e r : Bool) → Bool
next_value k d q e r =
    if k.enable_over_reset
    then value_with_enable k.enable e q (value_with_reset k.reset r d)
    else value_with_reset k.reset r (value_with_enable k.enable e q d)
