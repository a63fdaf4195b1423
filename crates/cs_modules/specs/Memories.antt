-- What a memory's parameters say: its shape, and the words that it starts with.
use Rattle.std.specs.Prelude.{◌≡◌, ℕ, ◌+◌, ◌*◌, List, [], ◌∷◌, map, Bool, Option, Some, None, filter_map, flat_map, option_map, codes, ◌^◌, ◌-◌, nat_lt, min, sum, length, filter, true, false, bytes_eq, find, unwrap_or, if◌then◌else◌, IsTrue, MatchOption}
use Rattle.cs_json.specs.declared.document.CellDecl.{CellDecl}
use Rattle.cs_cells.specs.declared.memory.MemShape.{MemShape}
use Rattle.cs_cells.specs.declared.memory.ReadShape.{ReadShape}
use Rattle.cs_cells.specs.declared.class.Class.{Class}
use Rattle.cs_cells.specs.declared.class.Class.TheVariants as class
use Rattle.cs_cells.specs.Memories.{Words, word_count}
use Rattle.cs_modules.specs.declared.memories.ReadDigits.{ReadDigits}
use Rattle.cs_modules.specs.Digits.{is_one}
use Rattle.cs_modules.specs.Pins.{class_at, parameter, number_at, count_from, is_clocked}
use Rattle.std.specs.List.{list_any, list_all, zip, IsDistinct}
use Rattle.std.specs.Ordering.{nat_cmp, is_lt}
use Rattle.std.specs.Cmp.Lexicographic.{slice_cmp}

-- digits i * width and on of a parameter, `width` of them
abbrev pub digits_part : CellDecl → List ℕ → ℕ → ℕ → List Bool
digits_part cell name width i = map (λ j. is_one (parameter cell name) (i * width + j)) (count_from 0 width)

-- these are the digits of the parameters of a memory's read ports
pub record AreReadsOf (cell : CellDecl) (digits : ReadDigits) : Type 0 where
  pub clocked : digits.clocked.items ≡ parameter cell (codes "RD_CLK_ENABLE")
  pub enable_over_reset : digits.enable_over_reset.items ≡ parameter cell (codes "RD_CE_OVER_SRST")
  pub reset_value : digits.reset_value.items ≡ parameter cell (codes "RD_SRST_VALUE")
  pub start : digits.start.items ≡ parameter cell (codes "RD_INIT_VALUE")

-- read port i of a memory
abbrev pub read_shape : CellDecl → ℕ → ℕ → ReadShape
read_shape cell width i = record {
  clocked = is_clocked cell (codes "RD") i;
  enable_over_reset = is_one (parameter cell (codes "RD_CE_OVER_SRST")) i;
  reset_value = digits_part cell (codes "RD_SRST_VALUE") width i;
  start = digits_part cell (codes "RD_INIT_VALUE") width i;
}

-- the shape that a memory's parameters give it
abbrev pub memory_shape : CellDecl → MemShape
memory_shape cell = record {
  size = number_at cell (codes "SIZE");
  abits = number_at cell (codes "ABITS");
  width = number_at cell (codes "WIDTH");
  reads = map (read_shape cell (number_at cell (codes "WIDTH"))) (count_from 0 (number_at cell (codes "RD_PORTS")));
  writes = number_at cell (codes "WR_PORTS");
}

-- only a memory has a shape
abbrev pub shape_by : Class → CellDecl → Option MemShape
shape_by class.Memory cell = Some (memory_shape cell)
shape_by _ cell = None

abbrev pub shape_of : CellDecl → Option MemShape
shape_of cell = shape_by (class_at cell) cell

-- a memory starts with INIT: word i from digit i * width on
abbrev pub first_words : CellDecl → MemShape → Words
first_words cell shape = map (digits_part cell (codes "INIT") shape.width) (count_from 0 (word_count shape))

-- the shapes of the memories, in order
abbrev pub shapes_in : List (Option MemShape) → List MemShape
shapes_in shapes = filter_map (λ shape. shape) shapes
