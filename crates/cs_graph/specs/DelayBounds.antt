-- How great delays may be.
use Rattle.std.specs.Prelude.{◌≡◌, ℕ, ◌≤◌, List, Some, slice_get}

-- the delay of a vertex is at most 1,000,000
abbrev pub AreVertexDelays : List ℕ → Type 0
AreVertexDelays per_vertex = (v d : ℕ) → slice_get per_vertex v ≡ Some d → d ≤ 1000000

-- the delay of a pin is at most that of its vertex
abbrev pub ArePinDelays : List ℕ → List (List ℕ) → Type 0
ArePinDelays per_vertex per_pin =
    (v i d p : ℕ) (ds : List ℕ) → slice_get per_vertex v ≡ Some d → slice_get per_pin v ≡ Some ds
    → slice_get ds i ≡ Some p → p ≤ d
