-- The vertices of a netlist fit, and what drives its bits is there.
use Rattle.std.specs.Prelude.{slice_get}
use Rattle.std.proofs.Common.{◌≡◌, ℕ, zero, suc, ◌+◌, ◌*◌, ◌≤◌, List, [], ◌∷◌, length, map, Option, Some, None, codes, refl, ap, subst, ◌∙◌, arith}
use Rattle.std.specs.List.{AllByRecursion, enumerate_from}
use Rattle.std.proofs.lemmas.Option.{none-some, same_Some, slice_get_within}
use Rattle.cs_base.specs.declared.signal.Signal.{Signal}
use Rattle.cs_cells.specs.declared.class.Class.TheVariants.{Memory}
use Rattle.cs_cells.specs.declared.memory.MemShape.{MemShape}
use Rattle.cs_graph.specs.declared.vertex.VertexKind.TheVariants.{Host, Input, Output}
use Rattle.cs_graph.specs.Kinds.{address_bits, word_bits}
use Rattle.cs_modules.specs.Memories.{shapes_in}
use Rattle.cs_modules.specs.Pins.{width_at}
use Rattle.cs_net.specs.declared.netlist.Cell.{Cell}
use Rattle.cs_net.specs.declared.state.MemoryWords.{MemoryWords}
use Rattle.cs_net.specs.Drivers.{bits_of, data_inputs, data_outputs}
use Rattle.cs_net.specs.Invariant.{IsWellFormed}
use Rattle.cs_net.specs.Netlist.{Net}
use Rattle.cs_net.specs.Widths.{widths_by}
use Rattle.cs_net.proofs.MemoryFacts.{memory_count}
use Rattle.cs_net.proofs.Members.{within_has}
use Rattle.cs_net.proofs.PinWidths.{pin_is_wide}
use Rattle.cs_lower.specs.Cells.{Placed, cell_parts, placed_cells}
use Rattle.cs_lower.specs.Lowered.{draft_of, memory_of}
use Rattle.cs_lower.specs.declared.taps.Tap.TheVariants.{Signal as of_signal}
use Rattle.cs_lower.specs.declared.taps.Wire.{Wire}
use Rattle.cs_lower.specs.declared.taps.Wire.TheVariants.{Vertex as from_vertex}
use Rattle.cs_lower.specs.declared.taps.Piece.{Piece}
use Rattle.cs_lower.specs.declared.taps.Parts.{Parts}
use Rattle.cs_lower.specs.Taps.{in_turn, piece}
use Rattle.cs_lower.specs.Wires.{input_parts, output_parts, parts_of, port_parts}
use Rattle.cs_lower.proofs.FittingCells.{CellHasSizes, cell_fits}
use Rattle.cs_lower.proofs.FittingParts.{FitFrom, Fits, IsThere, PartsFit, fit_both, fit_in_turn}
use Rattle.cs_lower.proofs.MatchLists.{StandsIn}
use Rattle.cs_lower.proofs.PlacedCells.{placed, placed_from, shape_at}
use Rattle.cs_lower.proofs.SeenMemories.{memory_at}
use Rattle.cs_lower.proofs.StandLemmas.{part_first, part_next}
use Rattle.cs_lower.proofs.MatchLemmas.{cells_stand, inputs_stand}

-- ---- placed cells

-- a placed cell is a cell of the netlist, with its shape
pub record IsPlaced (cells : List Cell) (shapes : List (Option MemShape)) (k : ℕ) (c : Placed) : Type 0 where
  pub cell : slice_get cells k ≡ Some c.cell
  pub shape : slice_get shapes k ≡ Some c.shape

pub is_placed : (j : ℕ) (cells : List Cell) (shapes : List (Option MemShape)) (k : ℕ) (c : Placed)
    → slice_get (placed_from j cells shapes) k ≡ Some c → IsPlaced cells shapes k c
is_placed j [] shapes k c at = absurd (none-some c at)
is_placed j (x ∷ cells) [] k c at = absurd (none-some c at)
is_placed j (x ∷ cells) (None ∷ shapes) zero c at =
    let same : placed x None j ≡ c = same_Some (placed x None j) c at in
    record { cell = ap (λ p. Some p.cell) same; shape = ap (λ p. Some p.shape) same }
is_placed j (x ∷ cells) (Some s ∷ shapes) zero c at =
    let same : placed x (Some s) j ≡ c = same_Some (placed x (Some s) j) c at in
    record { cell = ap (λ p. Some p.cell) same; shape = ap (λ p. Some p.shape) same }
is_placed j (x ∷ cells) (None ∷ shapes) (suc k) c at =
    let rest = is_placed j cells shapes k c at in record { cell = rest.cell; shape = rest.shape }
is_placed j (x ∷ cells) (Some s ∷ shapes) (suc k) c at =
    let rest = is_placed (j + 1) cells shapes k c at in record { cell = rest.cell; shape = rest.shape }

-- what holds at each place holds of all
pub all_by_place : {A : Type 0} (P : A → Type 0) (xs : List A) → ((i : ℕ) (x : A) → slice_get xs i ≡ Some x → P x)
    → AllByRecursion P xs
all_by_place P [] each = tt
all_by_place P (x ∷ xs) each = (each 0 x refl, all_by_place P xs (λ i. each (suc i)))

module _ (net : Net) (w : IsWellFormed net) where
  -- the memory of a placed cell, with its words at the start
  pub words_of : (k : ℕ) (c : Placed) (shape : MemShape) → slice_get (placed_cells net) k ≡ Some c
      → c.shape ≡ Some shape → (own : MemoryWords) × (slice_get net.memories c.memory ≡ Some own)
  words_of k c shape at is =
      let there = shape_at 0 net.cells net.shapes k c.memory c shape at is (omega arith) in
      let within = slice_get_within (shapes_in net.shapes) c.memory shape there in
      let count = memory_count net w in
      within_has net.memories c.memory (omega (arith, within, count))

  cell_has_sizes : (k : ℕ) (c : Placed) → slice_get (placed_cells net) k ≡ Some c → CellHasSizes net c
  cell_has_sizes k c at shape class is = record {
    there = slice_get_within (draft_of net).memories c.memory (memory_of (own.0, shape)) memory;
    abits = ap address_bits memory;
    width = ap word_bits memory;
    read_address = wide (codes "RD_ADDR") (length shape.reads * shape.abits) refl;
    read_words = wide (codes "RD_DATA") (length shape.reads * shape.width) refl;
    write_address = wide (codes "WR_ADDR") (shape.writes * shape.abits) refl;
    write_words = wide (codes "WR_DATA") (shape.writes * shape.width) refl;
    write_enables = wide (codes "WR_EN") (shape.writes * shape.width) refl;
  }
    where
      own : (own : MemoryWords) × (slice_get net.memories c.memory ≡ Some own)
      own = words_of k c shape at is

      memory : slice_get (draft_of net).memories c.memory ≡ Some (memory_of (own.0, shape))
      memory = memory_at net k c shape own.0 at is own.1

      wide : (name : List ℕ) (n : ℕ) → width_at (widths_by Memory (Some shape)) name ≡ Some n
          → length (bits_of c.cell name) ≡ n
      wide name n has =
          let p = is_placed 0 net.cells net.shapes k c at in
          pin_is_wide net w k c.cell (Some shape) p.cell (p.shape ∙ ap Some is) name n
          (ap (λ y. width_at (widths_by y (Some shape)) name) class ∙ has)

  -- ---- ports

  inputs_fit : (v : ℕ) (signals : List Signal) → FitFrom net v (map (λ s. piece Input []) signals)
  inputs_fit v [] = tt
  inputs_fit v (s ∷ signals) =
      (record { count = refl; there = tt; taps = tt; host = λ is. cc }, inputs_fit (v + 1) signals)

  inputs_there : (v : ℕ) (signals : List Signal) → StandsIn net v (map (λ s. piece Input []) signals)
      → AllByRecursion (λ (x : Signal × Wire). IsThere net x.1)
      (map (λ e. (e.1, from_vertex e.0 0)) (enumerate_from v signals))
  inputs_there v [] stands = tt
  inputs_there v (s ∷ signals) stands =
      let rest : List Piece = map (λ s. piece Input []) signals in (
        record {
          vertex = piece Input [];
          stands = part_first (parts_of net).pieces v (piece Input []) rest stands;
          among = omega arith;
        },
        inputs_there (v + 1) signals (part_next (parts_of net).pieces v (piece Input []) rest stands),
      )

  outputs_fit : (v : ℕ) (signals : List Signal) → FitFrom net v (map (λ s. piece Output (of_signal s ∷ [])) signals)
  outputs_fit v [] = tt
  outputs_fit v (s ∷ signals) =
      (record { count = refl; there = tt; taps = (tt, tt); host = λ is. cc }, outputs_fit (v + 1) signals)

  ports_fit : PartsFit net 0 (port_parts net)
  ports_fit =
      fit_both net 0 (input_parts net) (output_parts net)
      (record {
        pieces = (record { count = refl; there = tt; taps = tt; host = λ is. refl }, inputs_fit 1 (data_inputs net));
        wires = inputs_there 1 (data_inputs net)
            (part_next (parts_of net).pieces 0 (piece Host []) (map (λ s. piece Input []) (data_inputs net))
            (inputs_stand net));
      })
      (record { pieces = outputs_fit (0 + length (input_parts net).pieces) (data_outputs net); wires = tt })

  -- ---- all of them

  cells_fit : PartsFit net (length (port_parts net).pieces)
      (in_turn (cell_parts net) (length (port_parts net).pieces) (placed_cells net))
  cells_fit =
      fit_in_turn net 0 (cell_parts net) (length (port_parts net).pieces) (placed_cells net) (omega arith)
      (all_by_place (λ c. (n : ℕ) → 0 ≤ n → StandsIn net n (cell_parts net n c).pieces
      → PartsFit net n (cell_parts net n c))
      (placed_cells net) (λ k c at n most stands. cell_fits net c (cell_has_sizes k c at) n stands))
      (cells_stand net)

  pub parts_fit : PartsFit net 0 (parts_of net)
  unfolding parts_of
  parts_fit =
      let n : ℕ = length (port_parts net).pieces in
      let cells : Parts = in_turn (cell_parts net) n (placed_cells net) in
      let same : n ≡ 0 + n = omega arith in
      fit_both net 0 (port_parts net) cells ports_fit (subst (λ k. PartsFit net k cells) same cells_fit)

-- ---- by places

fits_at : (net : Net) (n : ℕ) (pieces : List Piece) → FitFrom net n pieces → (i : ℕ) (p : Piece)
    → slice_get pieces i ≡ Some p → Fits net (n + i) p
fits_at net n [] fits i p at = absurd (none-some p at)
fits_at net n (x ∷ pieces) fits zero p at =
    let here : n ≡ n + 0 = omega arith in
    subst (λ k. Fits net k p) here (subst (Fits net n) (same_Some x p at) fits.0)
fits_at net n (x ∷ pieces) fits (suc i) p at =
    let place : (n + 1) + i ≡ n + suc i = omega arith in
    subst (λ k. Fits net k p) place (fits_at net (n + 1) pieces fits.1 i p at)

-- each vertex before ring buffers and constants fits
pub part_fits : (net : Net) → IsWellFormed net → (v : ℕ) (p : Piece) → slice_get (parts_of net).pieces v ≡ Some p
    → Fits net v p
part_fits net w v p at =
    let same : 0 + v ≡ v = omega arith in
    subst (λ k. Fits net k p) same (fits_at net 0 (parts_of net).pieces (parts_fit net w).pieces v p at)
