-- The netlist of a document, and why there is none.
use Rattle.std.specs.Prelude.{◌≡◌, ℕ, ◌*◌, ◌^◌, ◌-◌, nat_lt, min, sum, List, [], ◌∷◌, length, filter, filter_map, map, Bool, true, false, Option, Some, None, bytes_eq, find, option_map, unwrap_or, if◌then◌else◌, IsTrue, MatchOption}
use Rattle.std.specs.List.{list_any, list_all, zip, IsDistinct}
use Rattle.std.specs.Ordering.{nat_cmp, is_lt}
use Rattle.std.specs.Cmp.Lexicographic.{slice_cmp}
use Rattle.cs_base.specs.declared.limit.Counted.{Counted}
use Rattle.cs_base.specs.declared.limit.Counted.TheVariants.{Cells, AddressBits, MemoryBits, ReadBits}
use Rattle.cs_base.specs.declared.limit.LimitFault.{LimitFault}
use Rattle.cs_json.specs.declared.document.Document.{Document}
use Rattle.cs_json.specs.declared.document.Module.{Module}
use Rattle.cs_cells.specs.declared.memory.MemShape.{MemShape}
use Rattle.cs_conditions.specs.declared.error.NetError.{NetError}
use Rattle.cs_conditions.specs.declared.error.NetError.TheVariants.{NoTop, GateLoop, Reserved, Limit}
use Rattle.cs_net.specs.Netlist.{Net}
use Rattle.cs_modules.specs.Signals.{is_bit, is_bit_of}
use Rattle.cs_net.specs.Drivers.{Driver, undriven, input, gate, word_bit, register, DrivenSignal, fanin, cell_drives, IsBitLoop}
use Rattle.cs_conditions.specs.Conditions.{early_refusal, reserved, or_else}
use Rattle.cs_modules.specs.Modules.{top_of}
use Rattle.cs_net.specs.Build.{net_of}
use Rattle.cs_modules.specs.Memories.{shapes_in}

-- ---- 15: loops

abbrev pub HasNoLoop : Net → Type 0
HasNoLoop net = (bits : List ℕ) → ¬ IsBitLoop net bits

-- driven by a gate or an unclocked read
abbrev pub is_combinational : Driver → Bool
is_combinational undriven = false
is_combinational (input i) = false
is_combinational (gate kind pins) = true
is_combinational (word_bit w) = true
is_combinational (register r) = false

-- what the gate of a name, or all unclocked reads of the memory of a name, drive
abbrev pub combinational_outputs : Net → List ℕ → List DrivenSignal
combinational_outputs net name =
    filter (λ d. is_combinational d.1)
    (unwrap_or (option_map cell_drives (find (λ c. bytes_eq c.0.name name) (zip net.cells net.shapes))) [])

-- an output of cell a is in the fan-in of an output of cell b
abbrev pub feeds : Net → List ℕ → List ℕ → Bool
feeds net a b =
    list_any (λ e. list_any (λ d. is_bit_of (fanin e.1) d.0) (combinational_outputs net a)) (combinational_outputs net b)

-- each cell feeds the next, and the final one feeds `last`
abbrev pub FeedOn : Net → List (List ℕ) → List ℕ → Type 0
FeedOn net [] last = ⊥
FeedOn net (a ∷ []) last = IsTrue (feeds net a last)
FeedOn net (a ∷ b ∷ names) last = IsTrue (feeds net a b) × FeedOn net (b ∷ names) last

-- the cell drives one of the bits
abbrev pub drives_one_of : Net → List ℕ → List ℕ → Bool
drives_one_of net bits name = list_any (λ d. list_any (λ b. is_bit b d.0) bits) (combinational_outputs net name)

-- names are ordered by their bytes
abbrev pub is_below : List ℕ → List ℕ → Bool
is_below a b = is_lt (slice_cmp nat_cmp a b)

-- cells of a loop of bits: each feeds the next and the last the first, none stands twice, and the first is the least
pub record IsLoopOf (net : Net) (bits : List ℕ) (first : List ℕ) (rest : List (List ℕ)) : Type 0 where
  pub loop : IsBitLoop net bits
  pub of_it : IsTrue (list_all (drives_one_of net bits) (first ∷ rest))
  pub feed_on : FeedOn net (first ∷ rest) first
  pub least : IsTrue (list_all (is_below first) rest)
  pub distinct : IsDistinct bytes_eq rest

-- cells of some loop
abbrev pub IsLoopOfCells : Net → List (List ℕ) → Type 0
IsLoopOfCells net [] = ⊥
IsLoopOfCells net (first ∷ rest) = (bits : List ℕ) × IsLoopOf net bits first rest

-- ---- 17: limits of the program, which are no part of what a netlist is

-- a count above its limit; `found` ends at the greatest number of 64 bits
abbrev pub above_limit : Counted → ℕ → ℕ → Option LimitFault
above_limit what count most =
    if nat_lt most count then Some (record { what = what; found = min count (2 ^ 64 - 1); most = most }) else None

-- 2^ABITS * WIDTH, the bits that a memory's addresses reach
abbrev pub memory_bits : MemShape → ℕ
memory_bits shape = 2 ^ shape.abits * shape.width

-- the data bits of a memory's read ports
abbrev pub read_bits : MemShape → ℕ
read_bits shape = length shape.reads * shape.width

-- the address bits of the first memory that has more than 20, or 0
abbrev pub too_many_address_bits : List MemShape → ℕ
too_many_address_bits shapes =
    unwrap_or (option_map (λ shape. shape.abits) (find (λ shape. nat_lt 20 shape.abits) shapes)) 0

-- address bits, then memory bits, then read bits
abbrev pub memory_fault_of : List (Option MemShape) → Option LimitFault
memory_fault_of shapes =
    or_else (above_limit AddressBits (too_many_address_bits (shapes_in shapes)) 20)
    (or_else (above_limit MemoryBits (sum (map memory_bits (shapes_in shapes))) 4194304)
    (above_limit ReadBits (sum (map read_bits (shapes_in shapes))) 4194304))

-- so many cells, and then their memories
abbrev pub limit_fault_of : ℕ → List (Option MemShape) → Option LimitFault
limit_fault_of cells shapes = or_else (above_limit Cells cells 65536) (memory_fault_of shapes)

unfoldable pub limit_fault : Net → Option LimitFault
limit_fault net = limit_fault_of (length net.cells) net.shapes

-- ---- both answers

-- a count above its limit
abbrev pub is_limit : NetError → Bool
is_limit (Limit fault) = true
is_limit _ = false

-- a loop within a clock
abbrev pub is_loop : NetError → Bool
is_loop (GateLoop names) = true
is_loop _ = false

-- the refusals after the early ones
abbrev pub RefusesLate : Module → NetError → Type 0
RefusesLate m (GateLoop names) = IsLoopOfCells (net_of m) names
RefusesLate m (Reserved port) = HasNoLoop (net_of m) × (reserved m ≡ Some (Reserved port))
RefusesLate m (Limit fault) = HasNoLoop (net_of m) × (reserved m ≡ None) × (limit_fault (net_of m) ≡ Some fault)
RefusesLate m _ = ⊥

-- a module is refused with this error: by the first condition that holds
abbrev pub RefusesModule : Module → NetError → Type 0
RefusesModule m e = MatchOption (early_refusal m) (RefusesLate m e) (λ first. e ≡ first)

-- a document is refused with this error
abbrev pub Refuses : Document → Option (List ℕ) → NetError → Type 0
Refuses doc top e = MatchOption (top_of doc top) (e ≡ NoTop) (λ m. RefusesModule m e)

-- the netlist of a document's top module, where none of the conditions 1 to 16 holds
pub record IsNetOfTop (doc : Document) (top : Option (List ℕ)) (net : Net) : Type 0 where
  pub «module» : Module
  pub is_top : top_of doc top ≡ Some «module»
  pub early : early_refusal «module» ≡ None
  pub no_loop : HasNoLoop (net_of «module»)
  pub not_reserved : reserved «module» ≡ None
  pub is : net ≡ net_of «module»

-- it is the netlist of the document's top module, and within the limits
pub record IsAccepted (doc : Document) (top : Option (List ℕ)) (net : Net) : Type 0 where
  pub is_net : IsNetOfTop doc top net
  pub within : limit_fault net ≡ None
