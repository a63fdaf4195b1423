-- The memories of the graph of a netlist: their sizes, and their words clock by clock.
use Rattle.std.proofs.Common.{◌≡◌, ℕ, zero, suc, ◌<◌, Bool, List, [], ◌∷◌, ◌++◌, length, map, fold, take, drop, Option, Some, option_map, codes, refl, sym, ap, ap₂, ◌∙◌, arith, append_assoc}
use Rattle.std.specs.Prelude.{slice_get}
use Rattle.std.specs.List.{zip}
use Rattle.std.proofs.Math.Seq.{drop-append_seam, take-append_seam}
use Rattle.std.proofs.lemmas.List.{length-map, map-append}
use Rattle.std.proofs.lemmas.Option.{none-some, same_Some, slice_get-map}
use Rattle.cs_base.specs.declared.signal.Signal.{Signal}
use Rattle.cs_cells.specs.declared.class.Class.TheVariants.{Memory}
use Rattle.cs_cells.specs.declared.memory.MemShape.{MemShape}
use Rattle.cs_cells.specs.Memories.{Words}
use Rattle.cs_graph.specs.declared.memory.Memory.{Memory as GraphMemory}
use Rattle.cs_graph.specs.Run.{Outs, Row, RunsFor, memory_after, seen, start_words, taken_in, write_of}
use Rattle.cs_modules.specs.Memories.{shapes_in}
use Rattle.cs_net.specs.declared.netlist.Cell.{Cell}
use Rattle.cs_net.specs.declared.state.MemoryWords.{MemoryWords}
use Rattle.cs_net.specs.Drivers.{port_part}
use Rattle.cs_net.specs.Netlist.{Net}
use Rattle.cs_net.specs.Trace.{Valuation, signal_value, write_at}
use Rattle.cs_lower.specs.Cells.{Placed, placed_cells, write_piece}
use Rattle.cs_lower.specs.Lowered.{lowered, memory_of}
use Rattle.cs_lower.specs.declared.taps.Tap.{Tap}
use Rattle.cs_lower.specs.declared.taps.Tap.TheVariants.{Signal as of_signal}
use Rattle.cs_lower.proofs.MemoryWrites.{memory_given, port_writes}
use Rattle.cs_lower.proofs.PlacedCells.{shape_at}
use Rattle.cs_lower.proofs.SeenLemmas.{shows}

-- ---- sizes

zip_place : {A B : Type 0} (xs : List A) (ys : List B) (i : ℕ) (x : A) (y : B) → slice_get xs i ≡ Some x
    → slice_get ys i ≡ Some y → slice_get (zip xs ys) i ≡ Some (x, y)
zip_place [] ys i x y at at' = absurd (none-some x at)
zip_place (a ∷ xs) [] i x y at at' = absurd (none-some y at')
zip_place (a ∷ xs) (b ∷ ys) zero x y at at' =
    ap₂ {C = Option _} (λ c d. Some (c, d)) (same_Some a x at) (same_Some b y at')
zip_place (a ∷ xs) (b ∷ ys) (suc i) x y at at' = zip_place xs ys i x y at at'

-- a memory has the sizes of its cell's shape, and starts with the netlist's words
pub memory_at : (net : Net) (k : ℕ) (c : Placed) (shape : MemShape) (own : MemoryWords)
    → slice_get (placed_cells net) k ≡ Some c → c.shape ≡ Some shape → slice_get net.memories c.memory ≡ Some own
    → slice_get (lowered net).memories c.memory ≡ Some (memory_of (own, shape))
memory_at net k c shape own at is words =
    slice_get-map memory_of (zip net.memories (shapes_in net.shapes)) c.memory
    ∙ ap (option_map memory_of) (zip_place net.memories (shapes_in net.shapes) c.memory own shape words
    (shape_at 0 net.cells net.shapes k c.memory c shape at is (omega arith)))

-- ---- a write port's pins

-- a write port has as many address and data bits as the shape says
pub record HasWritePins (cell : Cell) (shape : MemShape) (port : ℕ) : Type 0 where
  pub address : length (port_part cell (codes "WR_ADDR") shape.abits port) ≡ shape.abits
  pub data_bits : length (port_part cell (codes "WR_DATA") shape.width port) ≡ shape.width

front : (xs ys : List Bool) (n : ℕ) → length xs ≡ n → take n (xs ++ ys) ≡ xs
front xs ys n is = ap (λ k. take k (xs ++ ys)) (sym is) ∙ take-append_seam xs ys

back : (xs ys : List Bool) (n : ℕ) → length xs ≡ n → drop n (xs ++ ys) ≡ ys
back xs ys n is = ap (λ k. drop k (xs ++ ys)) (sym is) ∙ drop-append_seam xs ys

write_of_parts : (m : GraphMemory) (address word enable : List Bool) → length address ≡ m.abits → length word ≡ m.width
    → write_of m ((address ++ word) ++ enable) ≡ record { address = address; word = word; enable = enable }
write_of_parts m address word enable is is' =
    let rest : drop m.abits ((address ++ word) ++ enable) ≡ word ++ enable =
    ap (drop m.abits) (append_assoc address word enable) ∙ back address (word ++ enable) m.abits is in
    let a : take m.abits ((address ++ word) ++ enable) ≡ address =
    ap (take m.abits) (append_assoc address word enable) ∙ front address (word ++ enable) m.abits is in
    let w : take m.width (drop m.abits ((address ++ word) ++ enable)) ≡ word =
    ap (take m.width) rest ∙ front word enable m.width is' in
    let e : drop m.width (drop m.abits ((address ++ word) ++ enable)) ≡ enable =
    ap (drop m.width) rest ∙ back word enable m.width is' in
    λ i. record { address = a i; word = w i; enable = e i }

pub taps_of_signals : (tap : Tap → Bool) (v : Valuation) (signals : List Signal)
    → ((s : Signal) → tap (of_signal s) ≡ signal_value v s)
    → map tap (map of_signal signals) ≡ map (signal_value v) signals
taps_of_signals tap v [] same = refl
taps_of_signals tap v (s ∷ signals) same = ap₂ (λ b bits. b ∷ bits) (same s) (taps_of_signals tap v signals same)

-- where taps of signals show the signals' values, a write port is given what the netlist's is
pub write_of_signals : (m : GraphMemory) (tap : Tap → Bool) (v : Valuation) (memory : ℕ) (cell : Cell) (shape : MemShape)
    (port : ℕ) → m.abits ≡ shape.abits → m.width ≡ shape.width → HasWritePins cell shape port
    → ((s : Signal) → tap (of_signal s) ≡ signal_value v s)
    → write_of m (map tap (write_piece memory cell shape port).pins) ≡ write_at cell shape v port
write_of_signals m tap v memory cell shape port abits width pins same =
    let address = port_part cell (codes "WR_ADDR") shape.abits port in
    let data_bits = port_part cell (codes "WR_DATA") shape.width port in
    let enable = port_part cell (codes "WR_EN") shape.width port in
    ap (write_of m) (taps_of_signals tap v ((address ++ data_bits) ++ enable) same
    ∙ map-append (signal_value v) (address ++ data_bits) enable
    ∙ ap (λ xs. xs ++ map (signal_value v) enable) (map-append (signal_value v) address data_bits))
    ∙ write_of_parts m (map (signal_value v) address) (map (signal_value v) data_bits) (map (signal_value v) enable)
    (length-map address (signal_value v) ∙ pins.address ∙ sym abits)
    (length-map data_bits (signal_value v) ∙ pins.data_bits ∙ sym width)

-- ---- words

module _ (net : Net) (bounded : Bool) (clocks : ℕ) (row : ℕ → Row) (value : ℕ → Outs) (words : ℕ → ℕ
    → Words) (run : RunsFor bounded (lowered net) clocks row value words) (k : ℕ) (c : Placed) (shape : MemShape)
    (own : MemoryWords) (at : slice_get (placed_cells net) k ≡ Some c) (is : c.shape ≡ Some shape)
    (there : slice_get net.memories c.memory ≡ Some own)
  where
    -- a memory begins with the netlist's words
    pub words_begin : words 0 c.memory ≡ start_words (Some (memory_of (own, shape)))
    words_begin = run.begins c.memory ∙ ap start_words (memory_at net k c shape own at is there)

    -- and goes on by what the taps of its cell's write ports show
    pub words_go_on : (n : ℕ) → n < clocks → c.cell.class ≡ Memory
        → words (suc n) c.memory
        ≡ fold (taken_in bounded (memory_of (own, shape))) (words n c.memory)
        (port_writes (memory_of (own, shape)) (shows net value n) c.memory c.cell shape)
    words_go_on n h class =
        run.goes_on n h c.memory
        ∙ ap (λ m. memory_after bounded (lowered net) c.memory m (seen (lowered net) value n) (words n c.memory))
        (memory_at net k c shape own at is there)
        ∙ ap (fold (taken_in bounded (memory_of (own, shape))) (words n c.memory))
        (memory_given net bounded clocks row value words run n h k c shape (memory_of (own, shape)) at class is)
