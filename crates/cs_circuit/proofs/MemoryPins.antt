-- The pins of written memories: their widths, what their bits are for, and what they drive.
use Rattle.std.proofs.Common.{◌≡◌, ℕ, zero, suc, ◌+◌, ◌*◌, ◌<◌, List, [], ◌∷◌, ◌++◌, map, length, Bool, true, false, not, ◌&&◌, Option, Some, refl, sym, ap, ap₂, subst, ◌∙◌, arith, codes, length-append, eq-eqb}
use Rattle.std.specs.Prelude.{filter_map, flat_map, replicate, slice_get, if◌then◌else◌}
use Rattle.std.specs.List.{AllByRecursion, enumerate_from}
use Rattle.std.proofs.lemmas.List.{append-nil, length-map, length-replicate}
use Rattle.std.proofs.lemmas.List.Elements.{filter_map-append}
use Rattle.cs_base.specs.declared.signal.Signal.{Signal}
use Rattle.cs_base.specs.declared.signal.Signal.TheVariants.{Zero, One, Bit}
use Rattle.cs_json.specs.declared.document.CellDecl.{CellDecl}
use Rattle.cs_json.specs.declared.document.PinDecl.{PinDecl}
use Rattle.cs_cells.specs.declared.class.Class.TheVariants.{Memory}
use Rattle.cs_modules.specs.declared.clocks.Clock.{Clock}
use Rattle.cs_modules.specs.declared.connection.Role.TheVariants as roles
use Rattle.cs_modules.specs.Modules.{edge_of, is_cell_output}
use Rattle.cs_modules.specs.Pins.{Connection, cell_connections, class_at, count_from, has_pin, has_pins, is_clocked, is_pin_of, is_rising as rises, memory_widths}
use Rattle.cs_modules.specs.Signals.{number_in}
use Rattle.cs_net.proofs.Members.{Has, has_in_chain, of_all}
use Rattle.cs_circuit.specs.declared.circuit.Circuit.{Circuit}
use Rattle.cs_circuit.specs.declared.circuit.MemoryPart.{MemoryPart}
use Rattle.cs_circuit.specs.declared.circuit.ReadPart.{ReadPart}
use Rattle.cs_circuit.specs.declared.circuit.WritePart.{WritePart}
use Rattle.cs_circuit.specs.Cells.{clock_signal}
use Rattle.cs_circuit.specs.MemoryCells.{memory_cell, read_data}
use Rattle.cs_circuit.specs.WellFormed.{IsData, IsMemoryPart, IsReadPart, IsWritePart, is_clocked as has_clocked_parts}
use Rattle.cs_circuit.proofs.Connections.{HasClockPin, IsFineConnection, IsFineRole, all_output, connection_by, connections_by, data_or_unused, driven_in, driven_in-chain, fine_data, fine_pin, no_output, one_is_data, pin_by, zero_is_data}
use Rattle.cs_circuit.proofs.Lists.{all_flat, all_pass, all_step}
use Rattle.cs_circuit.proofs.MemoryParameters.{class_of_memory, read_unclocked, write_clocked, write_rises}

-- ---- lengths

pub length-counts : (from count : ℕ) → length (count_from from count) ≡ count
length-counts from zero = refl
length-counts from (suc count) = ap suc (length-counts (from + 1) count)

flat_length : {A B : Type 0} (f : A → List B) (width : ℕ) (xs : List A) → AllByRecursion
    (λ x. length (f x) ≡ width) xs
    → length (flat_map f xs) ≡ length xs * width
flat_length f width [] h = omega arith
flat_length f width (x ∷ xs) h =
    let rest = flat_length f width xs h.1 in
    let here = h.0 in
    let more : suc (length xs) * width ≡ width + length xs * width = omega arith in
    length-append (f x) (flat_map f xs) ∙ omega arith

-- a thing repeated stands at each place
same_at : {A : Type 0} (count i : ℕ) (x y : A) → slice_get (replicate count x) i ≡ Some y → (x ≡ y) ×
    (i < count)
same_at zero i x y stands = absurd (cc)
same_at (suc count) zero x y stands = (cc, omega arith)
same_at (suc count) (suc i) x y stands = let rest = same_at count i x y stands in (rest.0, omega arith)

-- ---- roles

clock_or_unused : (t rising : Bool) → is_cell_output (if t then roles.Clock rising else roles.Unused) ≡ false
clock_or_unused true rising = refl
clock_or_unused false rising = refl

clock_or_data : (t rising : Bool) → is_cell_output (if t then roles.Clock rising else roles.Data) ≡ false
clock_or_data true rising = refl
clock_or_data false rising = refl

unused_or_data : (t : Bool) → is_cell_output (if t then roles.Unused else roles.Data) ≡ false
unused_or_data true = refl
unused_or_data false = refl

numbers_in_bits : (f : ℕ → ℕ) (xs : List ℕ) → filter_map number_in (map (λ n. Bit (f n)) xs) ≡ map f xs
numbers_in_bits f [] = refl
numbers_in_bits f (n ∷ xs) = ap (λ rest. f n ∷ rest) (numbers_in_bits f xs)

-- the numbers of the bits that a read port drives
abbrev pub read_numbers : ℕ → ReadPart → List ℕ
read_numbers width read = map (λ j. read.first + j) (count_from 0 width)

numbers_of_reads : (width : ℕ) (reads : List ReadPart)
    → filter_map number_in (flat_map (read_data width) reads) ≡ flat_map (read_numbers width) reads
numbers_of_reads width [] = refl
numbers_of_reads width (read ∷ reads) =
    filter_map-append number_in (read_data width read) (flat_map (read_data width) reads)
    ∙ ap₂ (λ xs ys. xs ++ ys) (numbers_in_bits (λ j. read.first + j) (count_from 0 width))
    (numbers_of_reads width reads)

module _ (clock : Option Clock) (i : ℕ) (m : MemoryPart) where
  abbrev pub cell : CellDecl
  cell = memory_cell clock i m

  pub class_of_memory_cell : class_at cell ≡ Memory
  class_of_memory_cell = class_of_memory

  abbrev unclocked_read : ℕ → Bool
  unclocked_read port = not (is_clocked cell (codes "RD") port)

  abbrev edge : ℕ → Bool
  edge port = rises cell (codes "RD") port

  abbrev write_edge : ℕ → Bool
  write_edge port = rises cell (codes "WR") port

  -- ---- what it drives

  abbrev drives_at : PinDecl → List ℕ
  drives_at p = driven_in (pin_by Memory cell p.name p.bits)

  pub memory_drives : driven_in (cell_connections cell) ≡ flat_map (read_numbers m.width) m.reads
  memory_drives =
      ap (λ c. driven_in (connections_by c cell)) class_of_memory_cell
      ∙ driven_in-chain (λ (p : PinDecl). pin_by Memory cell p.name p.bits) cell.pins
      ∙ rw (
        no_output Memory cell (codes "RD_ADDR") 0 (flat_map (λ (r : ReadPart). r.address) m.reads) (λ p. refl),
        no_output Memory cell (codes "RD_ARST") 0 (replicate (length m.reads) Zero)
            (λ p. unused_or_data (unclocked_read p)),
        no_output Memory cell (codes "RD_CLK") 0 (replicate (length m.reads) Zero)
            (λ p. clock_or_unused (is_clocked cell (codes "RD") p) (edge p)),
        all_output Memory cell (codes "RD_DATA") 0 (flat_map (read_data m.width) m.reads) (λ p. refl),
        no_output Memory cell (codes "RD_EN") 0 (replicate (length m.reads) One)
            (λ p. unused_or_data (unclocked_read p)),
        no_output Memory cell (codes "WR_ADDR") 0 (flat_map (λ (w : WritePart). w.address) m.writes)
            (λ p. refl),
        no_output Memory cell (codes "WR_CLK") 0 (replicate (length m.writes) (clock_signal clock))
            (λ p. clock_or_data (is_clocked cell (codes "WR") p) (write_edge p)),
        no_output Memory cell (codes "WR_DATA") 0 (flat_map (λ (w : WritePart). w.«data») m.writes) (λ p. refl),
        no_output Memory cell (codes "WR_EN") 0 (flat_map (λ (w : WritePart). w.enable) m.writes) (λ p. refl),
      ) (append-nil (filter_map number_in (flat_map (read_data m.width) m.reads))
      ∙ numbers_of_reads m.width m.reads)

  -- ---- widths

  module _ (is : IsMemoryPart clock m) where
    read_lengths : length (flat_map (λ (r : ReadPart). r.address) m.reads) ≡ length m.reads * m.abits
    read_lengths =
        flat_length (λ (r : ReadPart). r.address) m.abits m.reads
        (all_step (IsReadPart clock m.abits) (λ r. length r.address ≡ m.abits)
        (λ r part. part.address) m.reads is.reads)

    data_lengths : (reads : List ReadPart) → AllByRecursion (λ r. length (read_data m.width r) ≡ m.width) reads
    data_lengths [] = tt
    data_lengths (r ∷ reads) = (
      length-map (count_from 0 m.width) (λ j. Bit (r.first + j))
          ∙ length-counts 0 m.width,
      data_lengths reads,
    )

    write_lengths : (f : WritePart → List Signal) (width : ℕ)
        → ((w : WritePart) → IsWritePart clock m.abits m.width w → length (f w) ≡ width)
        → length (flat_map f m.writes) ≡ length m.writes * width
    write_lengths f width each =
        flat_length f width m.writes
        (all_step (IsWritePart clock m.abits m.width)
        (λ w. length (f w) ≡ width) each m.writes is.writes)

    pub memory_pins_right : has_pins
        (memory_widths (length m.reads) (length m.writes) m.abits m.width) cell.pins ≡ true
    memory_pins_right =
        let ws = memory_widths (length m.reads) (length m.writes) m.abits m.width in
        let none : length (replicate (length m.reads) Zero) ≡ length m.reads = length-replicate
        (length m.reads) Zero in
        let zeros = eq-eqb (length (replicate (length m.reads) Zero)) (length m.reads) none in
        ap₂ (λ a b. a && b)
        (all_pass (is_pin_of ws) cell.pins (
          eq-eqb _ _ read_lengths,
          (
            zeros,
            (
              zeros,
              (
                eq-eqb _ _ (flat_length (read_data m.width) m.width m.reads (data_lengths m.reads)),
                (
                  eq-eqb _ _ (length-replicate (length m.reads) One),
                  (
                    zeros,
                    (
                      eq-eqb _ _ (write_lengths (λ w. w.address) m.abits (λ w part. part.address)),
                      (
                        eq-eqb _ _ (length-replicate (length m.writes) (clock_signal clock)),
                        (
                          eq-eqb _ _ (write_lengths (λ w. w.«data») m.width (λ w part. part.«data»)),
                          (
                            eq-eqb _ _ (write_lengths (λ w. w.enable) m.width (λ w part. part.enable)),
                            tt,
                          ),
                        ),
                      ),
                    ),
                  ),
                ),
              ),
            ),
          ),
        ))
        (all_pass (λ w. has_pin cell.pins w.0) ws
        (refl, (refl, (refl, (refl, (refl, (refl, (refl, (refl, (refl, (refl, tt)))))))))))

-- ---- what its bits are for

module _ (k : Circuit) (i : ℕ) (m : MemoryPart) (is : IsMemoryPart k.clock m) where
  abbrev of_circuit : CellDecl
  of_circuit = memory_cell k.clock i m

  -- what is read as data
  addresses : AllByRecursion (IsData k.clock) (flat_map (λ (r : ReadPart). r.address) m.reads)
  addresses = all_flat (IsData k.clock) (λ (r : ReadPart). r.address) m.reads
      (all_step (IsReadPart k.clock m.abits) (λ r. AllByRecursion (IsData k.clock) r.address)
      (λ r part. part.read) m.reads is.reads)

  pub read_addresses_are_data : AllByRecursion (IsData k.clock) (flat_map (λ (r : ReadPart). r.address) m.reads)
  read_addresses_are_data = addresses

  pub writes_are_data : (f : WritePart → List Signal)
      → ((w : WritePart) → IsWritePart k.clock m.abits m.width w → AllByRecursion (IsData k.clock) (f w))
      → AllByRecursion (IsData k.clock) (flat_map f m.writes)
  writes_are_data f each = all_flat (IsData k.clock) f m.writes
      (all_step (IsWritePart k.clock m.abits m.width)
      (λ w. AllByRecursion (IsData k.clock) (f w)) each m.writes is.writes)

  data_at : (bits : List Signal) → AllByRecursion (IsData k.clock) bits → (p : ℕ) (s : Signal)
      → slice_get bits p ≡ Some s
      → IsFineRole k s roles.Data
  data_at bits all p s stands = fine_data k s (of_all (IsData k.clock) bits p s all stands)

  -- a bit that only clocked read ports read
  for_clocked_reads : (count p : ℕ) (t s : Signal) → IsData k.clock t → slice_get (replicate count t) p ≡ Some s
      → IsFineRole k s (if not (is_clocked of_circuit (codes "RD") p) then roles.Unused else roles.Data)
  for_clocked_reads count p t s d stands =
      data_or_unused k s (not (is_clocked of_circuit (codes "RD") p))
      (subst (IsData k.clock) (same_at count p t s stands).0 d)

  read_clock : (p : ℕ) (s : Signal) → IsFineRole k s
      (if is_clocked of_circuit (codes "RD") p then roles.Clock
      (rises of_circuit (codes "RD") p) else roles.Unused)
  read_clock p s =
      subst (λ t. IsFineRole k s (if t then roles.Clock (rises of_circuit (codes "RD") p) else roles.Unused))
      (sym (read_unclocked k.clock i m p)) tt

  write_clock : (0 < length m.writes → has_clocked_parts k ≡ true) → (p : ℕ) (s : Signal) → slice_get
      (replicate (length m.writes) (clock_signal k.clock)) p ≡ Some s
      → IsFineRole k s (if is_clocked of_circuit (codes "WR") p then roles.Clock
      (rises of_circuit (codes "WR") p) else roles.Data)
  write_clock clocked p s stands =
      let found = same_at (length m.writes) p (clock_signal k.clock) s stands in
      subst (λ t. IsFineRole k s (if t then roles.Clock (rises of_circuit (codes "WR") p) else roles.Data))
      (sym (write_clocked k.clock i m p found.1))
      (sym found.0, write_rises k.clock i m p found.1, clocked (omega arith))

  pub memory_connections : (0 < length m.writes → has_clocked_parts k ≡ true)
      → AllByRecursion (IsFineConnection k) (cell_connections of_circuit)
  memory_connections clocked =
      subst (λ c. AllByRecursion (IsFineConnection k) (connections_by c of_circuit))
      (sym (class_of_memory_cell k.clock i m))
      (all_flat (IsFineConnection k) (λ (p : PinDecl). pin_by Memory of_circuit p.name p.bits) of_circuit.pins (
        fine_pin k Memory of_circuit (codes "RD_ADDR") _ (data_at _ addresses),
        (
          fine_pin k Memory of_circuit (codes "RD_ARST") _
              (λ p s stands. for_clocked_reads (length m.reads) p Zero s (zero_is_data k.clock) stands),
          (
            fine_pin k Memory of_circuit (codes "RD_CLK") _ (λ p s stands. read_clock p s),
            (
              fine_pin k Memory of_circuit (codes "RD_DATA") _ (λ p s stands. tt),
              (
                fine_pin k Memory of_circuit (codes "RD_EN") _
                    (λ p s stands. for_clocked_reads (length m.reads) p One s (one_is_data k.clock) stands),
                (
                  fine_pin k Memory of_circuit (codes "RD_SRST") _
                      (λ p s stands. for_clocked_reads (length m.reads) p Zero s (zero_is_data k.clock) stands),
                  (
                    fine_pin k Memory of_circuit (codes "WR_ADDR") _
                        (data_at _ (writes_are_data (λ w. w.address) (λ w part. part.read_address))),
                    (
                      fine_pin k Memory of_circuit (codes "WR_CLK") _ (write_clock clocked),
                      (
                        fine_pin k Memory of_circuit (codes "WR_DATA") _
                            (data_at _ (writes_are_data (λ w. w.«data») (λ w part. part.read_data))),
                        (
                          fine_pin k Memory of_circuit (codes "WR_EN") _
                              (data_at _ (writes_are_data (λ w. w.enable) (λ w part. part.read_enable))),
                          tt,
                        ),
                      ),
                    ),
                  ),
                ),
              ),
            ),
          ),
        ),
      ))

-- ---- a memory that is written has a clock pin

first_connection : (f : ℕ × Signal → Connection) (count : ℕ) (s : Signal) → 0 < count
    → Has (map f (enumerate_from 0 (replicate count s))) (f (0, s))
first_connection f zero s some = absurd (omega arith)
first_connection f (suc count) s some = (0, refl)

module _ (clock : Option Clock) (i : ℕ) (m : MemoryPart) (some : 0 < length m.writes) where
  abbrev written : CellDecl
  written = memory_cell clock i m

  pub memory_has_clock : HasClockPin written
  memory_has_clock =
      subst (λ c. (e : Connection) × Has (connections_by c written) e × (rising : Bool) ×
      (edge_of e.role ≡ Some rising)) (sym (class_of_memory_cell clock i m)) (
        connection_by Memory written (codes "WR_CLK") 0 (clock_signal clock),
        has_in_chain (λ (p : PinDecl). pin_by Memory written p.name p.bits) written.pins
            (record {
              name = codes "WR_CLK";
              bits = replicate (length m.writes) (clock_signal clock);
              output =
                  false;
            })
            (connection_by Memory written (codes "WR_CLK") 0 (clock_signal clock)) (7, refl)
            (first_connection (λ e. connection_by Memory written (codes "WR_CLK") e.0 e.1) (length m.writes)
            (clock_signal clock) some),
        rises written (codes "WR") 0,
        ap (λ t. edge_of (if t then roles.Clock (rises written (codes "WR") 0) else roles.Data))
            (write_clocked clock i m 0 some),
      )
