-- The path matrices W and D (Leiserson and Saxe), row by row.
use Rattle.std.specs.Prelude.{◌≡◌, ℕ, ◌+◌, ◌<◌, List, [], length, get_or, Option, Some, None}
use Rattle.cs_graph.specs.declared.delays.Delays.{Delays}
use Rattle.cs_graph.specs.declared.graph.Graph.{Graph}
use Rattle.cs_graph.specs.Period.{IsPath, path_weight, path_delay, IsPathPair}
use Rattle.cs_paths.specs.declared.reach.Reach.{Reach}
use Rattle.cs_paths.specs.Reaches.{known_at}

-- W(u, v) and D(u, v), or none where no path leads from u to v
abbrev pub IsPairAt : Graph → Delays → ℕ → ℕ → Option (ℕ × ℕ) → Type 0
IsPairAt g delays u v None = (es : List ℕ) → IsPath g u es v → ⊥
IsPairAt g delays u v (Some (weight, delay)) = IsPathPair g delays u v weight delay

-- the row of u: W(u, v) and D(u, v) for each vertex v
pub record IsRowOf (g : Graph) (delays : Delays) (u : ℕ) (row : List Reach) : Type 0 where
  pub count : length row ≡ length g.vertices
  pub pairs : (v : ℕ) → v < length g.vertices → IsPairAt g delays u v (known_at row v)

-- the rows of so many vertices from `first` on
pub record AreRowsFrom (g : Graph) (delays : Delays) (first count : ℕ) (rows : List (List Reach)) : Type 0 where
  pub counted : length rows ≡ count
  pub each : (i : ℕ) → i < count → IsRowOf g delays (first + i) (get_or rows i [])

-- a list of rows that has something for each pair: as many rows as each row has places
abbrev pub IsSquare : List (List Reach) → Type 0
IsSquare rows = (u : ℕ) → u < length rows → length (get_or rows u []) ≡ length rows

-- what the rows keep of u and v
abbrev pub pair_at : List (List Reach) → ℕ → ℕ → Option (ℕ × ℕ)
pair_at rows u v = known_at (get_or rows u []) v

-- the path matrices W and D, the row of each vertex in order
abbrev pub AreRowsOf : Graph → Delays → List (List Reach) → Type 0
AreRowsOf g delays rows = AreRowsFrom g delays 0 (length g.vertices) rows

-- a path from u to v with W(u, v) registers and the delay D(u, v)
pub record IsBestPath (g : Graph) (delays : Delays) (u v : ℕ) (es : List ℕ) : Type 0 where
  pub leads : IsPath g u es v
  pub attains : IsPathPair g delays u v (path_weight g es) (path_delay g delays u es)

-- such a path, or none where no path leads from u to v
abbrev pub IsPathAt : Graph → Delays → ℕ → ℕ → Option (List ℕ) → Type 0
IsPathAt g delays u v None = (es : List ℕ) → IsPath g u es v → ⊥
IsPathAt g delays u v (Some es) = IsBestPath g delays u v es
