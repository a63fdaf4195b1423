-- Directed graphs given by what each vertex depends on: topological orders and loops (Knuth, The Art of
-- Computer Programming, volume 1, 2.2.3; Cormen et al., Introduction to Algorithms, 22.3 and 22.4).
use Rattle.std.specs.Prelude.{◌≡◌, ℕ, ◌+◌, ◌<◌, ◌==◌, if◌then◌else◌, List, [], ◌∷◌, ◌++◌, ◌⊎◌, take, Some, length, get_or, slice_get, Contains}

-- a graph has for each vertex, by its number, the list of those that it depends on: its sources
abbrev pub Graph : Type 0
Graph = List (List ℕ)

-- the sources of a vertex, none past the last vertex
abbrev pub sources_of : Graph → ℕ → List ℕ
sources_of g v = get_or g v []

-- the graph where the last vertex has one source more
abbrev pub push_source : ℕ → Graph → Graph
push_source w [] = []
push_source w (sources ∷ []) = (sources ++ w ∷ []) ∷ []
push_source w (sources ∷ next ∷ g) = sources ∷ push_source w (next ∷ g)

-- nothing was added, or a vertex with the first few of these sources
abbrev pub IsPartlyAdded : Graph → List ℕ → Graph → Type 0
IsPartlyAdded g sources g' = (g' ≡ g) ⊎ ((n : ℕ) × (g' ≡ g ++ take n sources ∷ []))

-- v depends on w: w is one of the sources of v, and is a vertex; a source that is no vertex doesn't count
pub record DependsOn (g : Graph) (v w : ℕ) : Type 0 where
  pub source : Contains (sources_of g v) w
  pub vertex : w < length g

-- no number stands twice in the list
abbrev pub HasNoRepeat : List ℕ → Type 0
HasNoRepeat xs = (i j v : ℕ) → slice_get xs i ≡ Some v → slice_get xs j ≡ Some v → i ≡ j

-- w stands before the place i
abbrev pub StandsBefore : List ℕ → ℕ → ℕ → Type 0
StandsBefore xs i w = (j : ℕ) × (j < i) × (slice_get xs j ≡ Some w)

-- each vertex stands after all that it depends on
abbrev pub IsAfterAll : Graph → List ℕ → Type 0
IsAfterAll g order =
    (i v w : ℕ) → slice_get order i ≡ Some v → DependsOn g v w → StandsBefore order i w

-- a topological order: each vertex and nothing else, once, after all that it depends on
pub record IsOrder (g : Graph) (order : List ℕ) : Type 0 where
  pub every : (v : ℕ) → v < length g → Contains order v
  pub only : (v : ℕ) → Contains order v → v < length g
  pub once : HasNoRepeat order
  pub after : IsAfterAll g order

-- v depends on the first of vs, each of these on the next, and the last on w; without any, v depends on w
abbrev pub IsWalk : Graph → ℕ → List ℕ → ℕ → Type 0
IsWalk g v [] w = DependsOn g v w
IsWalk g v (u ∷ vs) w = DependsOn g v u × IsWalk g u vs w

-- a loop: some vertices, none twice, each of which depends on the next, and the last on the first
abbrev pub IsLoop : Graph → List ℕ → Type 0
IsLoop g [] = ⊥
IsLoop g (v ∷ vs) = IsWalk g v vs v × HasNoRepeat (v ∷ vs)

-- the place of v in a list whose places begin at i, 0 where it does not stand there
abbrev pub place_from : ℕ → List ℕ → ℕ → ℕ
place_from i [] v = 0
place_from i (x ∷ xs) v = if x == v then i else place_from (i + 1) xs v

-- the place of v in the list, 1 for the first, 0 where it does not stand there
abbrev pub place_in : List ℕ → ℕ → ℕ
place_in xs v = place_from 1 xs v
