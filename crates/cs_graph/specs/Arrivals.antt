-- Arrivals: the greatest delays of paths without a register that end at a vertex.
use Rattle.std.specs.Prelude.{◌≡◌, ℕ, ◌+◌, ◌≤◌, ◌⊎◌, ℤ, List, get_or}
use Rattle.cs_graph.specs.declared.delays.Delays.{Delays}
use Rattle.cs_graph.specs.declared.graph.Graph.{Graph}
use Rattle.cs_graph.specs.Period.{vertex_delay, pin_delay, IsPath, HasNoRegister, path_delay}
use Rattle.cs_graph.specs.Order.{IsDriver}

-- the arrival at a vertex, 0 past the end of the list
abbrev pub arrival_of : List ℕ → ℕ → ℕ
arrival_of arrivals v = get_or arrivals v 0

-- no arrival is above the bound
abbrev pub AreAtMost : List ℕ → ℕ → Type 0
AreAtMost arrivals most = (v : ℕ) → arrival_of arrivals v ≤ most

-- the latest of the delay of v and the arrivals by its pins
pub record IsLatest (g : Graph) (lags : List ℤ) (delays : Delays) (arrivals : List ℕ) (v latest : ℕ) : Type
    0 where
  pub own : vertex_delay delays v ≤ latest
  pub pins : (i u : ℕ) → IsDriver g lags v i u → arrival_of arrivals u + pin_delay delays v i ≤ latest
  pub reached : (latest ≡ vertex_delay delays v)
      ⊎ ((i : ℕ) × (u : ℕ) × IsDriver g lags v i u × (latest ≡ arrival_of arrivals u + pin_delay delays v i))

-- the greatest delay of a path without a register that ends at v
pub record IsArrival (g : Graph) (lags : List ℤ) (delays : Delays) (v arrival : ℕ) : Type 0 where
  pub within : (u : ℕ) (es : List ℕ) → IsPath g u es v → HasNoRegister g lags es
      → path_delay g delays u es ≤ arrival
  pub first : ℕ
  pub path : List ℕ
  pub leads : IsPath g first path v
  pub no_register : HasNoRegister g lags path
  pub is : path_delay g delays first path ≡ arrival
