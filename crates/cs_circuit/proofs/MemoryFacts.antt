-- The cells of memories: none of the conditions holds of them, and they are readable.
use Rattle.std.proofs.Common.{◌≡◌, ℕ, zero, suc, ◌+◌, ◌*◌, ◌<◌, ◌^◌, List, length, true, false, not, ◌&&◌, ◌||◌, Some, refl, ap, ap₂, ◌∙◌, arith, codes}
use Rattle.std.specs.Prelude.{IsTrue, flat_map, nat_lt, replicate, slice_get}
use Rattle.std.specs.List.{AllByRecursion, enumerate_from, list_all, list_any}
use Rattle.std.proofs.lemmas.Bool.{lt-ltb}
use Rattle.cs_base.specs.declared.signal.Signal.{Signal}
use Rattle.cs_base.specs.declared.signal.Signal.TheVariants.{Zero, One, Bit}
use Rattle.cs_json.specs.declared.document.CellDecl.{CellDecl}
use Rattle.cs_json.specs.declared.document.Entry.{Entry}
use Rattle.cs_json.specs.declared.document.Module.{Module}
use Rattle.cs_json.specs.declared.document.PinDecl.{PinDecl}
use Rattle.cs_json.specs.Readable.{AreEntries, AreReadable, IsCell, is_readable_datum, is_readable_signal}
use Rattle.cs_conditions.specs.Conditions.{are_one, has_no_asynchronous_reset, is_broken, is_constant_zero, is_misformed, memory_rules}
use Rattle.cs_modules.specs.Modules.{is_memory}
use Rattle.cs_modules.specs.Pins.{count_from, has_pins, has_right_pins, has_sizes, is_clocked, is_size, memory_sizes, memory_widths, number_at, parameter, pin_bits, widths_of}
use Rattle.cs_modules.proofs.GatePins.{all_pass as from_test}
use Rattle.cs_circuit.specs.declared.circuit.Circuit.{Circuit}
use Rattle.cs_circuit.specs.declared.circuit.MemoryPart.{MemoryPart}
use Rattle.cs_circuit.specs.declared.circuit.ReadPart.{ReadPart}
use Rattle.cs_circuit.specs.Cells.{clock_signal}
use Rattle.cs_circuit.specs.MemoryCells.{memory_cell, read_data}
use Rattle.cs_circuit.specs.WellFormed.{IsData, IsMemoryPart, is_clocked as has_clocked_parts}
use Rattle.cs_circuit.proofs.Connections.{IsFineCell, is_part}
use Rattle.cs_circuit.proofs.Lists.{all_flat, all_from_has, all_mapped, all_pass, all_same, all_step, everywhere, none_any}
use Rattle.cs_circuit.proofs.MemoryParameters.{abits-is, all_clocked, no_offset, no_wide_reads, no_wide_writes, not_transparent, read_unclocked, reads-is, size-is, width-is, writes-is}
use Rattle.cs_circuit.proofs.MemoryPins.{class_of_memory_cell, memory_connections, memory_pins_right, read_addresses_are_data, writes_are_data}
use Rattle.cs_circuit.proofs.PinNames.{order_of_names}

-- the numbers below a bound
pub all_below : (P : ℕ → Type 0) (from count : ℕ) → ((n : ℕ) → n < from + count → P n) → AllByRecursion P
    (count_from from count)
all_below P from zero each = tt
all_below P from (suc count) each =
    (each from (omega arith), all_below P (from + 1) count (λ n below. each n (omega arith)))

-- the bits that a memory's read ports drive are readable
abbrev pub AreReadsReadable : MemoryPart → Type 0
AreReadsReadable m = (j : ℕ) (r : ReadPart) → slice_get m.reads j ≡ Some r → (o : ℕ) → o < m.width
    → IsTrue (is_readable_signal false (Bit (r.first + o)))

module _ (k : Circuit) (i : ℕ) (m : MemoryPart) (is : IsMemoryPart k.clock m) where
  abbrev cell : CellDecl
  cell = memory_cell k.clock i m

  -- ---- pins and sizes

  small_number : (n size : ℕ) → n ≡ size → size < 2 ^ 32 → nat_lt n (2 ^ 32) ≡ true
  small_number n size same small = let below : n < 2 ^ 32 = omega arith in lt-ltb n (2 ^ 32) below

  sizes_right : list_all (is_size cell) memory_sizes ≡ true
  sizes_right =
      all_pass (is_size cell) memory_sizes (
        small_number (number_at cell (codes "SIZE")) m.words (size-is k.clock i m is) is.few_words,
        (
          small_number (number_at cell (codes "ABITS")) m.abits (abits-is k.clock i m is) is.few_address_bits,
          (
            small_number (number_at cell (codes "WIDTH")) m.width (width-is k.clock i m is) is.few_bits,
            (
              small_number (number_at cell (codes "RD_PORTS")) (length m.reads)
                  (reads-is k.clock i m is) is.few_reads,
              (
                small_number (number_at cell (codes "WR_PORTS")) (length m.writes)
                    (writes-is k.clock i m is) is.few_writes,
                tt,
              ),
            ),
          ),
        ),
      )

  same_widths : (a b c d reads writes abits width : ℕ) → a ≡ reads → b ≡ writes → c ≡ abits → d ≡ width
      → has_pins (memory_widths a b c d) cell.pins ≡ has_pins (memory_widths reads writes abits width) cell.pins
  same_widths a b c d reads writes abits width p q r s =
      ap (λ n. has_pins (memory_widths n b c d) cell.pins) p ∙ ap
      (λ n. has_pins (memory_widths reads n c d) cell.pins) q
      ∙ ap (λ n. has_pins (memory_widths reads writes n d) cell.pins) r
      ∙ ap (λ n. has_pins (memory_widths reads writes abits n) cell.pins) s

  memory_right : has_right_pins cell ≡ true
  memory_right =
      ap (λ c. has_sizes c cell && has_pins (widths_of c cell) cell.pins) (class_of_memory_cell k.clock i m)
      ∙ ap₂ (λ a b. a && b) sizes_right
      (same_widths _ _ _ _ (length m.reads) (length m.writes) m.abits m.width (reads-is k.clock i m is)
      (writes-is k.clock i m is) (abits-is k.clock i m is) (width-is k.clock i m is)
      ∙ memory_pins_right k.clock i m is)

  -- ---- its form

  some_number : (n size : ℕ) → n ≡ size → 0 < size → not (nat_lt 0 n) ≡ false
  some_number n size same some = let above : 0 < n = omega arith in ap not (lt-ltb 0 n above)

  no_reset : (md : Module) → has_no_asynchronous_reset md cell ≡ true
  no_reset md =
      all_pass (λ (e : ℕ × Signal). not (is_clocked cell (codes "RD") e.0) || is_constant_zero md e.1)
      (enumerate_from 0 (pin_bits cell.pins (codes "RD_ARST")))
      (everywhere (λ (e : ℕ × Signal).
      (not (is_clocked cell (codes "RD") e.0) || is_constant_zero md e.1) ≡ true)
      (λ e. ap (λ t. not t || is_constant_zero md e.1) (read_unclocked k.clock i m e.0))
      (enumerate_from 0 (pin_bits cell.pins (codes "RD_ARST"))))

  memory_formed : (md : Module) → is_misformed md cell ≡ false
  memory_formed md =
      ap (λ c. is_memory c && list_any is_broken (memory_rules md cell)) (class_of_memory_cell k.clock i m)
      ∙ none_any is_broken (memory_rules md cell) (
        some_number (number_at cell (codes "SIZE")) m.words (size-is k.clock i m is) is.some_words,
        (
          some_number (number_at cell (codes "WIDTH")) m.width (width-is k.clock i m is) is.some_bits,
          (
            ap (λ t. not (not t)) (no_offset k.clock i m),
            (
              ap not (not_transparent k.clock i m
                  (number_at cell (codes "RD_PORTS") * number_at cell (codes "WR_PORTS"))),
              (
                ap not (no_wide_reads k.clock i m (number_at cell (codes "RD_PORTS"))),
                (
                  ap not (no_wide_writes k.clock i m (number_at cell (codes "WR_PORTS"))),
                  (
                    ap not (no_reset md),
                    (
                      ap not (ap (are_one (parameter cell (codes "WR_CLK_ENABLE"))) (writes-is k.clock i m is)
                          ∙ all_clocked k.clock i m),
                      tt,
                    ),
                  ),
                ),
              ),
            ),
          ),
        ),
      )

  -- ---- readable

  readable_data : (bits : List Signal) → AllByRecursion (IsData k.clock) bits → AreReadable false bits
  readable_data bits all = all_step (IsData k.clock) (λ s. IsTrue (is_readable_signal false s))
      (λ s d. d.readable) bits all

  same_readable : (count : ℕ) (s : Signal) → IsTrue (is_readable_signal false s) → AreReadable false
      (replicate count s)
  same_readable count s readable = all_same (λ t. IsTrue (is_readable_signal false t)) count s readable

  driven_readable : AreReadsReadable m → AreReadable false (flat_map (read_data m.width) m.reads)
  driven_readable reads =
      all_flat (λ s. IsTrue (is_readable_signal false s)) (read_data m.width) m.reads
      (all_from_has (λ r. AreReadable false (read_data m.width r)) m.reads
      (λ j r stands. all_mapped (λ s. IsTrue (is_readable_signal false s)) (λ o. Bit (r.first + o))
      (count_from 0 m.width)
      (all_below (λ o. IsTrue (is_readable_signal false (Bit (r.first + o)))) 0 m.width
      (λ o below. reads j r stands o (omega arith)))))

  memory_entries_readable : AreEntries cell.parameters
  memory_entries_readable = record {
    order = order_of_names (λ (e : Entry). e.name) cell.parameters refl;
    data_kept = from_test (λ (e : Entry). is_readable_datum e.datum) cell.parameters refl;
  }

  memory_readable : IsTrue (is_readable_signal false (clock_signal k.clock)) → AreReadsReadable m → IsCell cell
  memory_readable clock reads = record {
    attributes = record { order = tt; data_kept = tt };
    parameters = memory_entries_readable;
    pins = (
      readable_data _ (read_addresses_are_data k i m is),
      (
        same_readable (length m.reads) Zero refl,
        (
          same_readable (length m.reads) Zero refl,
          (
            driven_readable reads,
            (
              same_readable (length m.reads) One refl,
              (
                same_readable (length m.reads) Zero refl,
                (
                  readable_data _ (writes_are_data k i m is (λ w. w.address) (λ w part. part.read_address)),
                  (
                    same_readable (length m.writes) (clock_signal k.clock) clock,
                    (
                      readable_data _ (writes_are_data k i m is (λ w. w.«data») (λ w part. part.read_data)),
                      (
                        readable_data _ (writes_are_data k i m is (λ w. w.enable) (λ w part. part.read_enable)),
                        tt,
                      ),
                    ),
                  ),
                ),
              ),
            ),
          ),
        ),
      ),
    );
    order = order_of_names (λ (p : PinDecl). p.name) cell.pins refl;
  }

  pub memory_is_fine : (0 < length m.writes → has_clocked_parts k ≡ true) → IsTrue
      (is_readable_signal false (clock_signal k.clock))
      → AreReadsReadable m → IsFineCell k cell
  memory_is_fine clocked clock reads = record {
    part = ap is_part (class_of_memory_cell k.clock i m);
    right = memory_right;
    connections = memory_connections k i m is clocked;
    formed = memory_formed;
    readable = memory_readable clock reads;
  }
