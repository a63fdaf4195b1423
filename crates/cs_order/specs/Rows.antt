-- Compressed rows: lists one behind the other in one list, with the place where each begins.
use Rattle.std.specs.Prelude.{ℕ, ◌+◌, ◌≤◌, List, [], ◌∷◌, length, get_or, slice_range}

-- each row ends where the next begins, and the last with the list
abbrev pub rows_of : List ℕ → List ℕ → List (List ℕ)
rows_of [] items = []
rows_of (start ∷ starts) items =
    slice_range items start (get_or starts 0 (length items)) ∷ rows_of starts items

-- no row begins behind the next, or behind the end of the list
pub record AreRows (starts : List ℕ) (total : ℕ) : Type 0 where
  pub rising : (i : ℕ) → get_or starts i total ≤ get_or starts (i + 1) total
  pub within : (i : ℕ) → get_or starts i total ≤ total
