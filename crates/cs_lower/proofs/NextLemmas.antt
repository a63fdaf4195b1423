-- What a register of a netlist takes among the vertices is what its bit holds next.
use Rattle.std.proofs.Common.{◌≡◌, ℕ, Bool, false, List, map, Some, sym, ap, ap₂, ◌∙◌}
use Rattle.cs_base.specs.declared.signal.Signal.{Signal}
use Rattle.cs_base.specs.declared.signal.Signal.TheVariants.{Zero, One, Unknown, HighZ, Bit}
use Rattle.cs_cells.specs.Memories.{Words, read_bit}
use Rattle.cs_cells.specs.Registers.{next_value}
use Rattle.cs_net.specs.Drivers.{Driver, Source, StateElement, driver_of, from_signal, from_word, gate, input, register, undriven, word_bit}
use Rattle.cs_net.specs.Netlist.{Net, NetState}
use Rattle.cs_net.specs.Trace.{Row, Settles, Valuation, next_bit, signal_value, source_value, value_by}
use Rattle.cs_lower.specs.Matching.{IsSource, ReadsWord, TakesFrom}
use Rattle.cs_lower.specs.Registers.{still, still_driver}
use Rattle.cs_lower.specs.declared.taps.Tap.{Tap}
use Rattle.cs_lower.specs.declared.taps.Tap.TheVariants.{Constant as of_bit, Signal as of_signal, Vertex as of_vertex}
use Rattle.cs_lower.proofs.ChainLemmas.{ShowsConstants}
use Rattle.cs_lower.proofs.TakenLemmas.{ShowsGates, taken_value}

-- pins show what the netlist's bits are
abbrev pub ShowsSignals : (Tap → Bool) → Valuation → Type 0
ShowsSignals tap v = (s : Signal) → tap (of_signal s) ≡ signal_value v s

-- each read port shows the bits of the word at its address
abbrev pub ShowsReads : Net → (Tap → Bool) → (List ℕ → Words) → Valuation → Type 0
ShowsReads net tap words v =
    (name : List ℕ) (address : List Signal) (vertex : ℕ) → ReadsWord net name address vertex → (o : ℕ)
    → tap (of_vertex vertex o) ≡ read_bit (words name) (map (signal_value v) address) o

-- a select that is still for good shows its bit where the bits settle
still_is_shown : (net : Net) (row : Row) (now : NetState) (v : Valuation) → Settles net row now v → (s : Signal) (b : Bool)
    → still net s ≡ Some b → signal_value v s ≡ b
still_is_shown net row now v settles Zero b is = cc
still_is_shown net row now v settles One b is = cc
still_is_shown net row now v settles Unknown b is = cc
still_is_shown net row now v settles HighZ b is = cc
still_is_shown net row now v settles (Bit a) b is = by (driver_of net a) (settles a) is
  where
    by : (driver : Driver) → v a ≡ value_by driver a row now v → still_driver driver ≡ Some b → v a ≡ b
    by undriven settled is = let same : false ≡ b = cc in settled ∙ same
    by (input i) settled is = cc
    by (gate kind pins) settled is = cc
    by (word_bit w) settled is = cc
    by (register r) settled is = cc

pub settled_constants : (net : Net) (row : Row) (now : NetState) (v : Valuation) → Settles net row now v
    → (tap : Tap → Bool) → ((b : Bool) → tap (of_bit b) ≡ b) → ShowsSignals tap v → ShowsConstants net tap
settled_constants net row now v settles tap bits shows = record {
  bits = bits;
  still_shows = λ s b is. shows s ∙ still_is_shown net row now v settles s b is;
}

-- what a register has at D
source_shown : (net : Net) (tap : Tap → Bool) (words : List ℕ → Words) (v : Valuation) → ShowsSignals tap v
    → ShowsReads net tap words v → (source : Source) (d : Tap) → IsSource net source d
    → tap d ≡ source_value source words v
source_shown net tap words v shows reads (from_signal s) d is = ap tap is ∙ shows s
source_shown net tap words v shows reads (from_word w) d (vertex, is, reading) =
    ap tap is ∙ reads w.memory w.address vertex reading w.place

-- a register's bit holds next what the register takes
pub next_taken : (net : Net) (row : Row) (now : NetState) (v : Valuation) → Settles net row now v → (tap : Tap → Bool)
    → ((b : Bool) → tap (of_bit b) ≡ b) → ShowsSignals tap v → ShowsGates net tap → ShowsReads net tap now.words v
    → (b : ℕ) (start : Bool) (r : StateElement) (taken : Tap) → driver_of net b ≡ register r
    → TakesFrom net (Bit b, start) r taken
    → tap taken ≡ next_bit (driver_of net b) (now.bit b) now.words v
next_taken net row now v settles tap bits shows gates reads b start r taken is from =
    let constants : ShowsConstants net tap = settled_constants net row now v settles tap bits shows in
    let source = source_shown net tap now.words v shows reads r.source from.d from.source in
    let held : tap (of_signal (Bit b)) ≡ now.bit b =
    shows (Bit b) ∙ settles b ∙ ap (λ driver. value_by driver b row now v) is in
    taken_value net tap constants gates (Bit b, start) r taken from
    ∙ ap₂ (λ d q. next_value r.kind d q (tap (of_signal r.enable)) (tap (of_signal r.reset))) source held
    ∙ ap₂ (λ e reset. next_value r.kind (source_value r.source now.words v) (now.bit b) e reset) (shows r.enable)
    (shows r.reset)
    ∙ ap (λ driver. next_bit driver (now.bit b) now.words v) (sym is)
