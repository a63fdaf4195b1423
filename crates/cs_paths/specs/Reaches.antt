-- What is kept of a pair of vertices: the registers and the delay of a path.
use Rattle.std.specs.Prelude.{◌≡◌, ℕ, List, get_or, Option, Some, None, ◌==◌, if◌then◌else◌}
use Rattle.cs_paths.specs.declared.reach.Reach.{Reach}

-- the registers and the delay that are kept; the greatest number of 32 bits stands for no path
abbrev pub reach_of : Reach → Option (ℕ × ℕ)
reach_of r = if r.weight == 4294967295 then None else Some (r.weight, r.delay)

-- no path
abbrev pub no_reach : Reach
no_reach = record { weight = 4294967295; delay = 0 }

-- what a row keeps of vertex v
abbrev pub known_at : List Reach → ℕ → Option (ℕ × ℕ)
known_at row v = reach_of (get_or row v no_reach)

-- something is known of vertex v
abbrev pub HasReach : List Reach → ℕ → Type 0
HasReach row v = (a : ℕ × ℕ) × (known_at row v ≡ Some a)
