-- What the parameters of a written memory say.
use Rattle.std.proofs.Common.{◌≡◌, ℕ, ◌*◌, ◌<◌, length, true, false, Option, refl, codes}
use Rattle.cs_json.specs.declared.document.CellDecl.{CellDecl}
use Rattle.cs_cells.specs.declared.class.Class.TheVariants.{Memory}
use Rattle.cs_cells.specs.Classes.{class_of}
use Rattle.cs_conditions.specs.Conditions.{are_one, are_zero}
use Rattle.cs_modules.specs.declared.clocks.Clock.{Clock}
use Rattle.cs_modules.specs.Digits.{is_nonzero, is_one}
use Rattle.cs_modules.specs.Pins.{is_clocked, is_rising as rises, number_at, parameter}
use Rattle.cs_circuit.specs.declared.circuit.MemoryPart.{MemoryPart}
use Rattle.cs_circuit.specs.Cells.{is_rising}
use Rattle.cs_circuit.specs.MemoryCells.{memory_cell}
use Rattle.cs_circuit.specs.WellFormed.{IsMemoryPart}
use Rattle.cs_circuit.proofs.DigitTexts.{bit_of_digits, number_of_text, one_digits, same_digit, zero_digit, zero_digits, zero_text}
use Rattle.std.specs.Prelude.{get_or}

pub class_of_memory : class_of (codes "$mem_v2") ≡ Memory
unfolding class_of
class_of_memory = refl

module _ (clock : Option Clock) (i : ℕ) (m : MemoryPart) where
  abbrev pub cell : CellDecl
  cell = memory_cell clock i m

  -- ---- numbers

  module _ (is : IsMemoryPart clock m) where
    pub size-is : number_at cell (codes "SIZE") ≡ m.words
    size-is = number_of_text m.words is.few_words

    pub abits-is : number_at cell (codes "ABITS") ≡ m.abits
    abits-is = number_of_text m.abits is.few_address_bits

    pub width-is : number_at cell (codes "WIDTH") ≡ m.width
    width-is = number_of_text m.width is.few_bits

    pub reads-is : number_at cell (codes "RD_PORTS") ≡ length m.reads
    reads-is = number_of_text (length m.reads) is.few_reads

    pub writes-is : number_at cell (codes "WR_PORTS") ≡ length m.writes
    writes-is = number_of_text (length m.writes) is.few_writes

  pub no_offset : is_nonzero (parameter cell (codes "OFFSET")) ≡ false
  no_offset = zero_text

  -- ---- ports

  pub read_unclocked : (port : ℕ) → is_clocked cell (codes "RD") port ≡ false
  read_unclocked port = zero_digit (length m.reads) port

  pub write_clocked : (port : ℕ) → port < length m.writes → is_clocked cell (codes "WR") port ≡ true
  write_clocked port below = same_digit (length m.writes) port true below

  pub write_rises : (port : ℕ) → port < length m.writes → rises cell (codes "WR") port ≡ is_rising clock
  write_rises port below = same_digit (length m.writes) port (is_rising clock) below

  pub not_transparent : (count : ℕ) → are_zero (parameter cell (codes "RD_TRANSPARENCY_MASK")) count ≡ true
  not_transparent count = zero_digits (length m.reads * length m.writes) count

  pub no_wide_reads : (count : ℕ) → are_zero (parameter cell (codes "RD_WIDE_CONTINUATION")) count ≡ true
  no_wide_reads count = zero_digits (length m.reads) count

  pub no_wide_writes : (count : ℕ) → are_zero (parameter cell (codes "WR_WIDE_CONTINUATION")) count ≡ true
  no_wide_writes count = zero_digits (length m.writes) count

  pub all_clocked : are_one (parameter cell (codes "WR_CLK_ENABLE")) (length m.writes) ≡ true
  all_clocked = one_digits (length m.writes)

  -- digit j of INIT
  pub start_digit : (j : ℕ) → is_one (parameter cell (codes "INIT")) j ≡ get_or m.start j false
  start_digit j = bit_of_digits m.start j
