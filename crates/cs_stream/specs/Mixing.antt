-- Streams in turn.
use Rattle.std.specs.Prelude.{◌≡◌, ℕ, ◌+◌, ◌-◌, ◌/◌, ◌%◌, ◌^◌, ◌<◌, ◌==◌, Bool, List, [], ◌∷◌, length, map, sum, All, slice_index_or, Option, Some, None, if◌then◌else◌}
use Rattle.std.specs.List.{range_with_len}
use Rattle.std.specs.Option.{option_map}
use Rattle.cs_stream.specs.declared.error.StimError.{StimError}
use Rattle.cs_stream.specs.declared.error.StimError.TheVariants.{Uneven}
use Rattle.cs_stream.specs.declared.stimulus.Stimulus.{Stimulus}

-- how many rows each stream has
abbrev pub counts_of : List Stimulus → List ℕ
counts_of streams = map (λ stream. stream.count) streams

-- fewer than 2^32 rows each
abbrev pub AreShort : List Stimulus → Type 0
AreShort streams = All (λ stream. stream.count < 2 ^ 32) streams

-- each has the width of the first
abbrev pub AreOfOneWidth : List Stimulus → Type 0
AreOfOneWidth [] = Unit {0}
AreOfOneWidth (first ∷ streams) = All (λ stream. stream.width ≡ first.width) streams

-- how many rows stream k of `c` streams has, where there are `total` rows in all and the streams take turns
abbrev pub turns : ℕ → ℕ → ℕ → ℕ
turns total c k = (total + c - 1 - k) / c

-- the first stream, numbered from k, that has another number of rows than turns
abbrev pub uneven_from : ℕ → ℕ → ℕ → List ℕ → Option ℕ
uneven_from total c k [] = None
uneven_from total c k (own ∷ others) = if own == turns total c k then uneven_from total c (k + 1) others else Some k

-- the first stream that has another number of rows than turns
abbrev pub first_uneven : List ℕ → Option ℕ
first_uneven counts = uneven_from (sum counts) (length counts) 0 counts

-- why streams can't be mixed
abbrev pub uneven_fault : List Stimulus → Option StimError
uneven_fault streams = option_map Uneven (first_uneven (counts_of streams))

-- row n: row n / C of stream n mod C
abbrev pub mixed_row : List (List (List Bool)) → ℕ → List Bool
mixed_row streams n = slice_index_or (slice_index_or streams (n % length streams) []) (n / length streams) []

-- as many rows as the streams have in all
abbrev pub mixed_rows : List (List (List Bool)) → List (List Bool)
mixed_rows streams = map (mixed_row streams) (range_with_len 0 (sum (map (λ rows. length rows) streams)))
