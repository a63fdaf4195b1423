-- The rows of one context: those whose place is k modulo c, in order.
use Rattle.std.specs.Prelude.{ℕ, ◌%◌, ◌==◌, List, map, filter}
use Rattle.std.specs.List.{enumerate_from}

-- the same, where the first row has the place i
abbrev pub part_from : {A : Type 0} → ℕ → ℕ → ℕ → List A → List A
part_from i k c xs = map (λ e. e.1) (filter (λ e. e.0 % c == k) (enumerate_from i xs))

unfoldable pub part : {A : Type 0} → ℕ → ℕ → List A → List A
part k c xs = part_from 0 k c xs
