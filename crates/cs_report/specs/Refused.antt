-- Why a document is no netlist, in words.
use Rattle.std.specs.Prelude.{ℕ, List, [], ◌++◌, flat_map, codes, decimal}
use Rattle.cs_base.specs.declared.signal.Signal.{Signal}
use Rattle.cs_base.specs.declared.signal.Signal.TheVariants.{Zero, One, Unknown, HighZ, Bit}
use Rattle.cs_conditions.specs.declared.error.NetError.{NetError}
use Rattle.cs_conditions.specs.declared.error.NetError.TheVariants.{NoTop, UnknownCell, NotFine, Asynchronous, BadPins, Inout, ConstZ, TwoDrivers, ClockNotInput, TwoClocks, MixedEdges, ClockAsData, TwoStarts, MemoryForm, GateLoop, Reserved, Limit}
use Rattle.cs_report.specs.Words.{quoted}
use Rattle.cs_report.specs.Limits.{limit_words}

-- words and a name
abbrev pub name_words : List ℕ → List ℕ → List ℕ
name_words words name = codes "netlist: " ++ words ++ codes " " ++ quoted name

-- a cell and its type
abbrev pub cell_words : List ℕ → List ℕ → List ℕ → List ℕ
cell_words words name kind = codes "netlist: " ++ words ++ codes " cell " ++ quoted name ++ codes " of type " ++ quoted kind

-- a bit's number between words
abbrev pub bit_words : List ℕ → ℕ → List ℕ → List ℕ
bit_words before bit after = codes "netlist: " ++ before ++ codes " bit " ++ decimal bit ++ after

abbrev pub two_bits : ℕ → ℕ → List ℕ
two_bits first second = codes "netlist: two clocks " ++ (decimal first ++ (codes " and " ++ decimal second))

-- a bit's number, or a constant
abbrev pub signal_words : Signal → List ℕ
signal_words Zero = codes "0"
signal_words One = codes "1"
signal_words Unknown = codes "x"
signal_words HighZ = codes "z"
signal_words (Bit b) = decimal b

abbrev pub clock_words : Signal → List ℕ
clock_words signal = codes "netlist: clock " ++ signal_words signal ++ codes " is no input"

abbrev pub memory_words : List ℕ → List ℕ → List ℕ
memory_words name parameter = codes "netlist: memory " ++ (quoted name ++ (codes " by " ++ parameter))

-- each name in quotes after a blank
abbrev pub loop_words : List (List ℕ) → List ℕ
loop_words cells = codes "netlist: loop" ++ flat_map (λ name. codes " " ++ quoted name) cells

-- of bits and counts
abbrev pub bit_refused_words : NetError → List ℕ
bit_refused_words (TwoDrivers bit) = bit_words (codes "two drivers of") bit []
bit_refused_words (ClockNotInput signal) = clock_words signal
bit_refused_words (TwoClocks first second) = two_bits first second
bit_refused_words (ClockAsData bit) = bit_words (codes "clock") bit (codes " is read as data")
bit_refused_words (TwoStarts bit) = bit_words (codes "two starts at") bit []
bit_refused_words (Limit fault) = limit_words fault
bit_refused_words _ = codes "out of memory"

abbrev pub refused_words : NetError → List ℕ
refused_words NoTop = codes "netlist: no top module"
refused_words (UnknownCell name kind) = cell_words (codes "unknown") name kind
refused_words (NotFine name kind) = cell_words (codes "not fine") name kind
refused_words (Asynchronous name kind) = cell_words (codes "asynchronous") name kind
refused_words (BadPins name) = name_words (codes "pins of") name
refused_words (Inout port) = name_words (codes "inout port") port
refused_words (ConstZ name) = name_words (codes "constant z at") name
refused_words (MixedEdges name) = name_words (codes "other clock edge at") name
refused_words (MemoryForm name parameter) = memory_words name parameter
refused_words (GateLoop cells) = loop_words cells
refused_words (Reserved port) = name_words (codes "reserved port") port
refused_words error = bit_refused_words error
