-- Rows that were read.
use Rattle.std.specs.Prelude.{ℕ, ◌≤◌, ◌≡◌, ⊤, List, [], ◌∷◌, length, None}
use Rattle.cs_stream.specs.declared.stimulus.Stimulus.{Stimulus}
use Rattle.cs_stream.specs.Reading.{fault_of as stimulus_fault, stimulus_rows}
use Rattle.cs_stream.specs.Rows.{rows_of}

-- bytes say these rows of a width
pub record AreRowsOf (width : ℕ) (bytes : List ℕ) (rows : Stimulus) : Type 0 where
  pub faultless : stimulus_fault width bytes ≡ None
  pub are : rows_of rows ≡ stimulus_rows bytes
  pub wide : rows.width ≡ width
  pub few : rows.count ≤ length bytes

-- streams say these rows of one width, stream by stream
abbrev pub AreRowsOfStreams : ℕ → List (List ℕ) → List Stimulus → Type 0
AreRowsOfStreams width [] [] = ⊤
AreRowsOfStreams width [] (rows ∷ others) = ⊥
AreRowsOfStreams width (bytes ∷ streams) [] = ⊥
AreRowsOfStreams width (bytes ∷ streams) (rows ∷ others) =
    AreRowsOf width bytes rows × AreRowsOfStreams width streams others
