-- The words of each memory: those that are held, what they are after a clock, and the state that they show.
use Rattle.std.proofs.Common.{◌≡◌, ◌∙◌, ℕ, zero, suc, ◌+◌, List, [], ◌∷◌, ◌++◌, length, get_or, map, Bool, true, Option, Some, None, refl, sym, ap, ap₂, arith, ◌⊎◌, inl, inr, codes}
use Rattle.std.specs.Prelude.{bytes_eq, find, is_some, option_and_then, option_map, slice_get, unwrap_or}
use Rattle.std.specs.List.{zip}
use Rattle.std.proofs.lemmas.Option.{get_or_from_slice_get, slice_get-get_or}
use Rattle.std.proofs.lemmas.Slice.Eq.{bytes_eq-Decides}
use Rattle.cs_base.specs.declared.signal.Signal.{Signal}
use Rattle.cs_cells.specs.declared.class.Class.{Class}
use Rattle.cs_cells.specs.declared.class.Class.TheVariants as class
use Rattle.cs_cells.specs.declared.memory.MemShape.{MemShape}
use Rattle.cs_cells.specs.declared.memory.ReadShape.{ReadShape}
use Rattle.cs_cells.specs.Memories.{Words, Write, after_writes}
use Rattle.cs_net.specs.declared.netlist.Cell.{Cell}
use Rattle.cs_net.specs.declared.state.MemoryWords.{MemoryWords}
use Rattle.cs_net.specs.Build.{places_from}
use Rattle.cs_net.specs.Invariant.{IsWellFormed}
use Rattle.cs_modules.specs.Modules.{is_memory}
use Rattle.cs_net.specs.Drivers.{port_part}
use Rattle.cs_net.specs.Netlist.{Net, words_at}
use Rattle.cs_modules.specs.Pins.{count_from}
use Rattle.cs_net.specs.Trace.{Valuation, signal_value, write_at, writes_at, writes_of}
use Rattle.cs_net.proofs.MemoryFacts.{no_words, shapes_fit, words_by_place}
use Rattle.cs_net.proofs.Members.{Has, has_either, has_of_map}
use Rattle.cs_net.proofs.Occurrences.{one_if}
use Rattle.cs_sim.specs.declared.layout.WriteSlots.{WriteSlots}
use Rattle.cs_sim.specs.Clock.{HeldValues, next_held, next_words, write_in}
use Rattle.cs_sim.specs.Layout.{driven_signals, layout_of, write_slots}
use Rattle.cs_sim.specs.Slots.{slot_of, value_at}
use Rattle.cs_sim.specs.Start.{Fits, snapshot_of}
use Rattle.cs_sim.proofs.FitLemmas.{HaveShapes, class_count, fits_next, write_count}
use Rattle.cs_sim.proofs.LayoutLemmas.{laid_out}
use Rattle.cs_sim.proofs.PlaceLemmas.{First, first_of, nowhere, there, slice_get_below}
use Rattle.cs_sim.proofs.Pieces.{Piece, class_pieces, class_writes, gate_piece, pieces, pieces_from, read_piece, register_piece, writes_from}
use Rattle.cs_sim.proofs.ZipLemmas.{image_at, only_at, zipped_at}

-- ---- the place of a memory

-- it has place m, where n stand before these cells
pub record IsMemoryPlace (cells : List Cell) (shapes : List (Option MemShape)) (n m : ℕ) (cell : Cell) (shape : MemShape) : Type 0 where
  pub i : ℕ
  pub cell_at : slice_get cells i ≡ Some cell
  pub shape_at : slice_get shapes i ≡ Some (Some shape)
  pub place : get_or (places_from n shapes) i 0 ≡ m

not_only : (p : Piece) (m : ℕ) (cell : Cell) (shape : MemShape) (port : ℕ) (read : ReadShape) → Has (p ∷ []) (read_piece m cell shape port read)
    → p ≡ read_piece m cell shape port read
not_only p m cell shape port read has = only_at p (read_piece m cell shape port read) has.0 has.1

nothing_there : {A : Type 0} (x : A) → Has [] x → ⊥
nothing_there x has = absurd (let at = has.1 in cc)

class_read : (n m : ℕ) (k : Class) (c cell : Cell) (s : Option MemShape) (shape : MemShape) (port : ℕ) (read : ReadShape)
    → Has (class_pieces k n c s) (read_piece m cell shape port read) → (c ≡ cell) × (s ≡ Some shape) × (n ≡ m)
class_read n m (class.Gate kind) c cell s shape port read has = let same = not_only (gate_piece c kind) m cell shape port read has in absurd (cc)
class_read n m (class.Register kind) c cell s shape port read has = let same = not_only (register_piece c kind) m cell shape port read has in absurd (cc)
class_read n m class.Memory c cell None shape port read has = absurd (nothing_there (read_piece m cell shape port read) has)
class_read n m class.Memory c cell (Some s) shape port read has =
    let found = has_of_map (λ (e : ℕ × ReadShape). read_piece n c s e.0 e.1) _ (read_piece m cell shape port read) has in
    let same = found.2 in
    (cc, cc, cc)
class_read n m class.Scope c cell s shape port read has = absurd (nothing_there (read_piece m cell shape port read) has)
class_read n m class.Asynchronous c cell s shape port read has = absurd (nothing_there (read_piece m cell shape port read) has)
class_read n m class.NotFine c cell s shape port read has = absurd (nothing_there (read_piece m cell shape port read) has)
class_read n m class.Unknown c cell s shape port read has = absurd (nothing_there (read_piece m cell shape port read) has)

next_place : (n i : ℕ) (s : Option MemShape) (shapes : List (Option MemShape))
    → get_or (places_from n (s ∷ shapes)) (suc i) 0 ≡ get_or (places_from (n + one_if (is_some s)) shapes) i 0
next_place n i None shapes = let same : n ≡ n + 0 = omega arith in ap (λ k. get_or (places_from k shapes) i 0) same
next_place n i (Some s) shapes = refl

-- a read port stands with the place of its memory
piece_memory : (net : Net) (n m : ℕ) (cells : List Cell) (shapes : List (Option MemShape)) (cell : Cell) (shape : MemShape) (port : ℕ) (read : ReadShape)
    → HaveShapes (zip cells shapes) → Has (pieces_from net n (zip cells shapes)) (read_piece m cell shape port read) → IsMemoryPlace cells shapes n m cell shape
piece_memory net n m [] shapes cell shape port read fit has = absurd (nothing_there (read_piece m cell shape port read) has)
piece_memory net n m (c ∷ cells) [] cell shape port read fit has = absurd (nothing_there (read_piece m cell shape port read) has)
piece_memory net n m (c ∷ cells) (s ∷ shapes) cell shape port read fit has =
    by (has_either (class_pieces c.class n c s) (pieces_from net next (zip cells shapes)) (read_piece m cell shape port read) has)
    (λ later. piece_memory net next m cells shapes cell shape port read fit.1 later)
  where
    next : ℕ
    next = n + length (class_writes net c.class c s)

    by : Has (class_pieces c.class n c s) (read_piece m cell shape port read) ⊎ Has (pieces_from net next (zip cells shapes)) (read_piece m cell shape port read)
        → (Has (pieces_from net next (zip cells shapes)) (read_piece m cell shape port read) → IsMemoryPlace cells shapes next m cell shape)
        → IsMemoryPlace (c ∷ cells) (s ∷ shapes) n m cell shape
    by (inl here) rest =
        let same = class_read n m c.class c cell s shape port read here in
        record {
          i = 0;
          cell_at = ap (λ x. Some x) same.0;
          shape_at = ap (λ x. Some x) same.1;
          place = ap (λ o. get_or (places_from n (o ∷ shapes)) 0 0) same.1 ∙ same.2;
        }
    by (inr later) rest =
        let p = rest later in
        record {
          i = suc p.i;
          cell_at = p.cell_at;
          shape_at = p.shape_at;
          place =
              next_place n p.i s shapes
              ∙ ap (λ k. get_or (places_from (n + k) shapes) p.i 0) (sym (class_count net c.class c s fit.0)) ∙ p.place;
        }

pub memory_place : (net : Net) → IsWellFormed net → (v m : ℕ) (cell : Cell) (shape : MemShape) (port : ℕ) (read : ReadShape)
    → slice_get (pieces net) v ≡ Some (read_piece m cell shape port read) → IsMemoryPlace net.cells net.shapes 0 m cell shape
unfolding pieces
memory_place net w zero m cell shape port read at = absurd (cc)
memory_place net w (suc v) m cell shape port read at = piece_memory net 0 m net.cells net.shapes cell shape port read (shapes_fit net w) (v, at)

unzipped : {A B : Type 0} (xs : List A) (ys : List B) (i : ℕ) (e : A × B) → slice_get (zip xs ys) i ≡ Some e
    → (slice_get xs i ≡ Some e.0) × (slice_get ys i ≡ Some e.1)
unzipped [] ys i e at = absurd (cc)
unzipped (x ∷ xs) [] i e at = absurd (cc)
unzipped {A = A} {B = B} (x ∷ xs) (y ∷ ys) zero e at =
    let same : (x, y) ≡ e = cc in
    (ap (λ (p : A × B). Some p.0) same, ap (λ (p : A × B). Some p.1) same)
unzipped (x ∷ xs) (y ∷ ys) (suc i) e at = unzipped xs ys i e at

-- ---- the words that are shown

abbrev pub shown_words : List MemoryWords → List Words → List MemoryWords
shown_words ms held = map (λ m. record { name = m.0.name; words = m.1 }) (zip ms held)

same_names : (ms : List MemoryWords) (held : List Words) → length held ≡ length ms → map (λ (m : MemoryWords). m.name) (shown_words ms held) ≡ map (λ (m : MemoryWords). m.name) ms
same_names [] held fit = refl
same_names (m ∷ ms) [] fit = absurd (omega (arith, fit))
same_names (m ∷ ms) (ws ∷ held) fit = ap (λ rest. m.name ∷ rest) (same_names ms held (omega (arith, fit)))

words_in : (ms : List MemoryWords) (held : List Words) (j : ℕ) (ws : Words) → option_map (λ (m : MemoryWords). m.words) (slice_get (shown_words ms held) j) ≡ Some ws
    → get_or held j [] ≡ ws
words_in [] held j ws h = absurd (cc)
words_in (m ∷ ms) [] j ws h = absurd (cc)
words_in (m ∷ ms) (x ∷ held) zero ws h = cc
words_in (m ∷ ms) (x ∷ held) (suc j) ws h = words_in ms held j ws h

module _ (net : Net) (w : IsWellFormed net) (held : HeldValues) (fits : Fits (layout_of net) held) where
  named : map (λ (m : MemoryWords). m.name) (shown_words net.memories held.memories) ≡ map (λ (m : MemoryWords). m.name) net.memories
  named = same_names net.memories held.memories (fits.memories ∙ write_count net w)

  -- the words of a memory's name are those that are held for it
  pub words_held : (m : ℕ) (cell : Cell) (shape : MemShape) → IsMemoryPlace net.cells net.shapes 0 m cell shape
      → get_or held.memories m [] ≡ words_at (snapshot_of net (layout_of net) held).memories cell.name
  words_held m cell shape p =
      ap (λ j. get_or held.memories j []) (sym p.place)
      ∙ words_in net.memories held.memories (get_or (places_from 0 net.shapes) p.i 0) (words_at (shown_words net.memories held.memories) cell.name)
      (words_by_place net w (shown_words net.memories held.memories) named p.i cell shape p.cell_at p.shape_at)

  -- a name of no memory has none
  pub none_held : (name : List ℕ)
      → option_and_then (λ (c : Cell × Option MemShape). c.1) (find (λ c. bytes_eq c.0.name name) (zip net.cells net.shapes)) ≡ None
      → words_at (snapshot_of net (layout_of net) held).memories name ≡ []
  none_held name none = no_words net w (shown_words net.memories held.memories) named name none

-- ---- the write ports of a memory

abbrev pub memory_ports : Net → Cell → MemShape → List WriteSlots
memory_ports net cell shape = map (write_slots (driven_signals net) cell shape) (count_from 0 shape.writes)

class_ports : (net : Net) (k : Class) (cell : Cell) (shape : MemShape) → true ≡ is_memory k
    → class_writes net k cell (Some shape) ≡ memory_ports net cell shape ∷ []
class_ports net (class.Gate kind) cell shape fit = absurd (cc)
class_ports net (class.Register kind) cell shape fit = absurd (cc)
class_ports net class.Memory cell shape fit = refl
class_ports net class.Scope cell shape fit = absurd (cc)
class_ports net class.Asynchronous cell shape fit = absurd (cc)
class_ports net class.NotFine cell shape fit = absurd (cc)
class_ports net class.Unknown cell shape fit = absurd (cc)

no_ports : (net : Net) (k : Class) (cell : Cell) → class_writes net k cell None ≡ []
no_ports net (class.Gate kind) cell = refl
no_ports net (class.Register kind) cell = refl
no_ports net class.Memory cell = refl
no_ports net class.Scope cell = refl
no_ports net class.Asynchronous cell = refl
no_ports net class.NotFine cell = refl
no_ports net class.Unknown cell = refl

-- the write ports stand where the place of the memory is
record HasPorts (net : Net) (cells : List Cell) (shapes : List (Option MemShape)) (n i : ℕ) (cell : Cell) (shape : MemShape) : Type 0 where
  j : ℕ
  place : get_or (places_from n shapes) i 0 ≡ n + j
  ports : slice_get (writes_from net (zip cells shapes)) j ≡ Some (memory_ports net cell shape)

has_ports : (net : Net) (cells : List Cell) (shapes : List (Option MemShape)) (n i : ℕ) (cell : Cell) (shape : MemShape) → HaveShapes (zip cells shapes)
    → slice_get cells i ≡ Some cell → slice_get shapes i ≡ Some (Some shape) → HasPorts net cells shapes n i cell shape
has_ports net [] shapes n i cell shape fit at is = absurd (cc)
has_ports net (c ∷ cells) [] n i cell shape fit at is = absurd (cc)
has_ports net (c ∷ cells) (None ∷ shapes) n zero cell shape fit at is = absurd (cc)
has_ports net (c ∷ cells) (Some s ∷ shapes) n zero cell shape fit at is =
    let same_cell : c ≡ cell = cc in
    let same_shape : s ≡ shape = cc in
    record {
      j = 0;
      place = omega arith;
      ports =
          ap (λ xs. slice_get (xs ++ writes_from net (zip cells shapes)) 0) (class_ports net c.class c s fit.0)
          ∙ ap₂ (λ x y. Some (memory_ports net x y)) same_cell same_shape;
    }
has_ports net (c ∷ cells) (None ∷ shapes) n (suc i) cell shape fit at is =
    let rest = has_ports net cells shapes n i cell shape fit.1 at is in
    record {
      j = rest.j;
      place = rest.place;
      ports = ap (λ xs. slice_get (xs ++ writes_from net (zip cells shapes)) rest.j) (no_ports net c.class c) ∙ rest.ports;
    }
has_ports net (c ∷ cells) (Some s ∷ shapes) n (suc i) cell shape fit at is =
    let rest = has_ports net cells shapes (n + 1) i cell shape fit.1 at is in
    let next : (n + 1) + rest.j ≡ n + suc rest.j = omega arith in
    record {
      j = suc rest.j;
      place = rest.place ∙ next;
      ports = ap (λ xs. slice_get (xs ++ writes_from net (zip cells shapes)) (suc rest.j)) (class_ports net c.class c s fit.0) ∙ rest.ports;
    }

pub ports_at : (net : Net) → IsWellFormed net → (m : ℕ) (cell : Cell) (shape : MemShape) → IsMemoryPlace net.cells net.shapes 0 m cell shape
    → slice_get (layout_of net).writes m ≡ Some (memory_ports net cell shape)
ports_at net w m cell shape p =
    let found = has_ports net net.cells net.shapes 0 p.i cell shape (shapes_fit net w) p.cell_at p.shape_at in
    let place : m ≡ found.j = omega (arith, p.place, found.place) in
    ap (λ ws. slice_get ws m) (laid_out net).writes ∙ ap (slice_get (writes_from net (zip net.cells net.shapes))) place ∙ found.ports

-- ---- the words after a clock

mapped_same : (values : List Bool) (v : Valuation) (driven : List Signal) (signals : List Signal)
    → ((s : Signal) → value_at values (slot_of driven s) ≡ signal_value v s) → map (value_at values) (map (slot_of driven) signals) ≡ map (signal_value v) signals
mapped_same values v driven [] settled = refl
mapped_same values v driven (s ∷ signals) settled = ap₂ (λ x xs. x ∷ xs) (settled s) (mapped_same values v driven signals settled)

module _ (net : Net) (values : List Bool) (v : Valuation) (settled : (s : Signal) → value_at values (slot_of (driven_signals net) s) ≡ signal_value v s) where
  pub signals_same : (signals : List Signal) → map (value_at values) (map (slot_of (driven_signals net)) signals) ≡ map (signal_value v) signals
  signals_same signals = mapped_same values v (driven_signals net) signals settled

  writes_same : (cell : Cell) (shape : MemShape) (ports : List ℕ)
      → map (write_in values) (map (write_slots (driven_signals net) cell shape) ports) ≡ map (write_at cell shape v) ports
  writes_same cell shape [] = refl
  writes_same cell shape (i ∷ ports) = ap₂ (λ x xs. x ∷ xs) one (writes_same cell shape ports)
    where
      made : List Bool → List Bool → List Bool → Write
      made address word enable = record { address = address; word = word; enable = enable }

      one : write_in values (write_slots (driven_signals net) cell shape i) ≡ write_at cell shape v i
      one =
          ap (λ x. made x (write_in values (write_slots (driven_signals net) cell shape i)).word (write_in values (write_slots (driven_signals net) cell shape i)).enable) (signals_same (port_part cell (codes "WR_ADDR") shape.abits i))
          ∙ ap (λ x. made (write_at cell shape v i).address x (write_in values (write_slots (driven_signals net) cell shape i)).enable) (signals_same (port_part cell (codes "WR_DATA") shape.width i))
          ∙ ap (λ x. made (write_at cell shape v i).address (write_at cell shape v i).word x) (signals_same (port_part cell (codes "WR_EN") shape.width i))

  module _ (w : IsWellFormed net) (held : HeldValues) (fits : Fits (layout_of net) held) where
    abbrev later : HeldValues
    later = next_held (layout_of net) values held

    -- what is held for a memory after the clock
    words_next : (m : ℕ) (cell : Cell) (shape : MemShape) → IsMemoryPlace net.cells net.shapes 0 m cell shape
        → get_or later.memories m [] ≡ after_writes (map (write_at cell shape v) (count_from 0 shape.writes)) (get_or held.memories m [])
    unfolding next_held
    words_next m cell shape p =
        let ports = ports_at net w m cell shape p in
        let below = slice_get_below (layout_of net).writes m (memory_ports net cell shape) ports in
        let old = slice_get-get_or held.memories m [] (omega (arith, below, fits.memories)) in
        let both = zipped_at held.memories (layout_of net).writes m (get_or held.memories m []) (memory_ports net cell shape) old ports in
        get_or_from_slice_get later.memories m (next_words values (get_or held.memories m [], memory_ports net cell shape)) []
        (image_at (next_words values) (zip held.memories (layout_of net).writes) m (get_or held.memories m [], memory_ports net cell shape) both)
        ∙ ap (λ writes. after_writes writes (get_or held.memories m [])) (writes_same cell shape (count_from 0 shape.writes))

    -- what the state shows for the memory of a cell
    words_shown_next : (cell : Cell) (shape : MemShape) (m : ℕ) → IsMemoryPlace net.cells net.shapes 0 m cell shape
        → words_at (snapshot_of net (layout_of net) later).memories cell.name
        ≡ after_writes (map (write_at cell shape v) (count_from 0 shape.writes)) (words_at (snapshot_of net (layout_of net) held).memories cell.name)
    words_shown_next cell shape m p =
        sym (words_held net w later (fits_next (layout_of net) values held fits) m cell shape p)
        ∙ words_next m cell shape p
        ∙ ap (after_writes (map (write_at cell shape v) (count_from 0 shape.writes))) (words_held net w held fits m cell shape p)

    -- a name of no memory
    unwritten : (name : List ℕ) → writes_at net name v ≡ []
        → option_and_then (λ (c : Cell × Option MemShape). c.1) (find (λ c. bytes_eq c.0.name name) (zip net.cells net.shapes)) ≡ None
        → words_at (snapshot_of net (layout_of net) later).memories name
        ≡ after_writes (writes_at net name v) (words_at (snapshot_of net (layout_of net) held).memories name)
    unwritten name writes none =
        none_held net w later (fits_next (layout_of net) values held fits) name none
        ∙ sym (none_held net w held fits name none)
        ∙ sym (ap (λ ws. after_writes ws (words_at (snapshot_of net (layout_of net) held).memories name)) writes)

    -- the name of a memory
    written : (name : List ℕ) (i : ℕ) (c : Cell × Option MemShape) (shape : MemShape) → c.1 ≡ Some shape
        → find (λ c. bytes_eq c.0.name name) (zip net.cells net.shapes) ≡ Some c → slice_get (zip net.cells net.shapes) i ≡ Some c
        → bytes_eq c.0.name name ≡ true
        → words_at (snapshot_of net (layout_of net) later).memories name
        ≡ after_writes (writes_at net name v) (words_at (snapshot_of net (layout_of net) held).memories name)
    written name i c shape is found at passes =
        let same : c.0.name ≡ name = (bytes_eq-Decides c.0.name name).0 passes in
        let parts = unzipped net.cells net.shapes i c at in
        let p : IsMemoryPlace net.cells net.shapes 0 (get_or (places_from 0 net.shapes) i 0) c.0 shape =
        record { i = i; cell_at = parts.0; shape_at = parts.1 ∙ ap (λ s. Some s) is; place = refl } in
        let writes : writes_at net name v ≡ map (write_at c.0 shape v) (count_from 0 shape.writes) =
        ap (λ o. unwrap_or (option_map (λ (d : Cell × Option MemShape). writes_of d v) o) []) found ∙ ap (λ s. writes_of (c.0, s) v) is in
        ap (words_at (snapshot_of net (layout_of net) later).memories) (sym same)
        ∙ words_shown_next c.0 shape (get_or (places_from 0 net.shapes) i 0) p
        ∙ ap₂ after_writes (sym writes) (ap (words_at (snapshot_of net (layout_of net) held).memories) same)

    -- the words that the state shows after the clock
    pub next_words_shown : (name : List ℕ)
        → words_at (snapshot_of net (layout_of net) later).memories name
        ≡ after_writes (writes_at net name v) (words_at (snapshot_of net (layout_of net) held).memories name)
    next_words_shown name = by (first_of (λ (c : Cell × Option MemShape). bytes_eq c.0.name name) 0 (zip net.cells net.shapes))
      where
        by_shape : (i : ℕ) (cell : Cell) (shape : Option MemShape) → find (λ c. bytes_eq c.0.name name) (zip net.cells net.shapes) ≡ Some (cell, shape)
            → slice_get (zip net.cells net.shapes) i ≡ Some (cell, shape) → bytes_eq cell.name name ≡ true
            → words_at (snapshot_of net (layout_of net) later).memories name
            ≡ after_writes (writes_at net name v) (words_at (snapshot_of net (layout_of net) held).memories name)
        by_shape i cell None found at passes =
            unwritten name (ap (λ o. unwrap_or (option_map (λ (c : Cell × Option MemShape). writes_of c v) o) []) found)
            (ap (option_and_then (λ (c : Cell × Option MemShape). c.1)) found)
        by_shape i cell (Some shape) found at passes = written name i (cell, Some shape) shape refl found at passes

        by : First (λ (c : Cell × Option MemShape). bytes_eq c.0.name name) 0 (zip net.cells net.shapes)
            → words_at (snapshot_of net (layout_of net) later).memories name
            ≡ after_writes (writes_at net name v) (words_at (snapshot_of net (layout_of net) held).memories name)
        by (nowhere none missing) =
            unwritten name (ap (λ o. unwrap_or (option_map (λ (c : Cell × Option MemShape). writes_of c v) o) []) missing)
            (ap (option_and_then (λ (c : Cell × Option MemShape). c.1)) missing)
        by (there i c place found at passes) = by_shape i c.0 c.1 found at passes
