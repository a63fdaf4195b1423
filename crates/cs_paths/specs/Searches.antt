-- A search from one vertex: what it knows of each vertex, which vertices are settled, and which wait.
use Rattle.std.specs.Prelude.{◌≡◌, ℕ, ◌+◌, ◌*◌, ◌<◌, ◌≤◌, ◌⊎◌, Bool, true, false, List, [], ◌∷◌, length, get_or, slice_get, Option, Some, None, set}
use Rattle.cs_graph.specs.declared.delays.Delays.{Delays}
use Rattle.cs_graph.specs.declared.edge.Edge.{Edge}
use Rattle.cs_graph.specs.declared.graph.Graph.{Graph}
use Rattle.cs_graph.specs.Period.{vertex_delay, pin_delay, IsPath, path_weight, path_delay}
use Rattle.cs_paths.specs.declared.reach.Reach.{Reach}
use Rattle.cs_paths.specs.declared.guide.Guide.{Guide}
use Rattle.cs_paths.specs.declared.improvement.Improvement.{Improvement}
use Rattle.cs_paths.specs.declared.improvement.Improvement.TheVariants.{Nothing, Delay, Weight}
use Rattle.cs_paths.specs.Guides.{leaving_of, place_of}
use Rattle.cs_paths.specs.Reaches.{reach_of, known_at}
use Rattle.cs_paths.specs.Waitings.{Queue, Waits, IsUpTo, IsAdded}

-- ---- registers and delays

-- fewer registers, or as many and no smaller a delay
abbrev pub IsAsGood : ℕ × ℕ → ℕ × ℕ → Type 0
IsAsGood a b = (a.0 < b.0) ⊎ ((a.0 ≡ b.0) × (b.1 ≤ a.1))

-- something as good is known of v
pub record Knows (row : List Reach) (v : ℕ) (b : ℕ × ℕ) : Type 0 where
  pub reach : ℕ × ℕ
  pub known : known_at row v ≡ Some reach
  pub as_good : IsAsGood reach b

-- what a path has that goes along an edge more
abbrev pub along : Delays → Edge → ℕ × ℕ → ℕ × ℕ
along delays d a = (a.0 + d.weight, a.1 + pin_delay delays d.to d.pin)

-- what is known of the beginning of an edge is known along it, or better
abbrev pub IsRelaxed : Delays → List Reach → Edge → Type 0
IsRelaxed delays row d = (a : ℕ × ℕ) → known_at row d.from ≡ Some a → Knows row d.to (along delays d a)

-- a path from u to v with so many registers and this delay
pub record HasPathWith (g : Graph) (delays : Delays) (u v : ℕ) (a : ℕ × ℕ) : Type 0 where
  pub path : List ℕ
  pub leads : IsPath g u path v
  pub weighs : path_weight g path ≡ a.0
  pub is : path_delay g delays u path ≡ a.1

-- ---- settled vertices

-- whether a vertex is settled
abbrev pub is_settled : List Bool → ℕ → Bool
is_settled settled v = get_or settled v false

-- how many are settled
abbrev pub settled_count : List Bool → ℕ
settled_count [] = 0
settled_count (true ∷ settled) = 1 + settled_count settled
settled_count (false ∷ settled) = settled_count settled

-- what is known of a vertex is within what so many settled vertices can give
abbrev pub IsFew : ℕ → ℕ × ℕ → Type 0
IsFew count a = (a.0 ≤ count * 65536) × (a.1 ≤ count * 1000000 + 1000000)

-- something is known of a settled vertex, and it is up to `last` in the queue's order
pub record IsAhead (guide : Guide) (last : ℕ × ℕ) (row : List Reach) (v : ℕ) : Type 0 where
  pub reach : ℕ × ℕ
  pub known : known_at row v ≡ Some reach
  pub up_to : IsUpTo (reach.0, place_of guide v) last

-- the edge stands among these from a place on
abbrev pub IsUndone : List ℕ → ℕ → ℕ → Type 0
IsUndone edges done e = (j : ℕ) × (done ≤ j) × (slice_get edges j ≡ Some e)

-- a search from u that has settled vertices up to `last` in the queue's order; of the edges that leave them, those
-- from a place on are yet to be relaxed
pub record IsSearch (g : Graph) (delays : Delays) (guide : Guide) (u : ℕ) (last : ℕ × ℕ) (edges : List ℕ) (done : ℕ)
    (row : List Reach) (settled : List Bool) (waiting : Queue) : Type 0 where
  pub reaches : length row ≡ length g.vertices
  pub flags : length settled ≡ length g.vertices
  pub attained : (v : ℕ) (a : ℕ × ℕ) → known_at row v ≡ Some a → HasPathWith g delays u v a
  pub begins : Knows row u (0, vertex_delay delays u)
  pub waits : (v : ℕ) (a : ℕ × ℕ) → known_at row v ≡ Some a → is_settled settled v ≡ false
      → Waits waiting (a.0, place_of guide v)
  pub relaxed : (e : ℕ) (d : Edge) → slice_get g.edges e ≡ Some d → is_settled settled d.from ≡ true
      → IsUndone edges done e ⊎ IsRelaxed delays row d
  pub ahead : (v : ℕ) → is_settled settled v ≡ true → IsAhead guide last row v
  pub later : (k : ℕ × ℕ) → Waits waiting k → IsUpTo last k
  pub places : (k : ℕ × ℕ) → Waits waiting k → k.1 < length g.vertices
  pub light : (k : ℕ × ℕ) → Waits waiting k → k.0 ≤ settled_count settled * 65536
  pub few : (v : ℕ) (a : ℕ × ℕ) → known_at row v ≡ Some a → IsFew (settled_count settled) a

-- v is settled, with what is known of it, and what is a step further is still few
pub record IsSettled (v : ℕ) (from : ℕ × ℕ) (row : List Reach) (settled : List Bool) : Type 0 where
  pub known : known_at row v ≡ Some from
  pub is : is_settled settled v ≡ true
  pub weight : from.0 + 65536 ≤ settled_count settled * 65536
  pub delay : from.1 ≤ settled_count settled * 1000000

-- ---- one edge

-- what is new of a vertex against what is known of it: as good is known, or the delay is greater with as many
-- registers, or the registers are fewer
abbrev pub Tells : Option (ℕ × ℕ) → ℕ × ℕ → Improvement → Type 0
Tells known new Nothing = (a : ℕ × ℕ) × (known ≡ Some a) × IsAsGood a new
Tells known new Delay = (a : ℕ × ℕ) × (known ≡ Some a) × (a.0 ≡ new.0) × (a.1 < new.1)
Tells known new Weight = (a : ℕ × ℕ) → known ≡ Some a → new.0 < a.0

-- a greater delay with as many registers is kept for v
pub record IsRaised (v : ℕ) (new : ℕ × ℕ) (row row' : List Reach) : Type 0 where
  pub old : ℕ × ℕ
  pub reach : Reach
  pub known : known_at row v ≡ Some old
  pub as_many : old.0 ≡ new.0
  pub greater : old.1 < new.1
  pub is : reach_of reach ≡ Some new
  pub kept : row' ≡ set row v reach

-- fewer registers are kept for v
pub record IsLowered (v : ℕ) (new : ℕ × ℕ) (row row' : List Reach) : Type 0 where
  pub reach : Reach
  pub fewer : (old : ℕ × ℕ) → known_at row v ≡ Some old → new.0 < old.0
  pub is : reach_of reach ≡ Some new
  pub kept : row' ≡ set row v reach

-- what is new of v is kept where it is better: as good is known, or the delay is raised, or the registers are
-- lowered, for which v waits at its place
abbrev pub Improves : ℕ → ℕ → ℕ × ℕ → List Reach → Queue → List Reach → Queue → Type 0
Improves v place new row waiting row' waiting' =
    (Knows row v new × (row' ≡ row) × (waiting' ≡ waiting))
    ⊎ ((IsRaised v new row row' × (waiting' ≡ waiting))
    ⊎ (IsLowered v new row row' × IsAdded (new.0, place) waiting waiting'))

-- ---- one vertex

-- the edges that leave v are relaxed: a search that has settled v, the last so far, goes on with them done
abbrev pub Settles : Graph → Delays → Guide → ℕ → ℕ × ℕ → List Reach → Queue → List Reach → Queue → Type 0
Settles g delays guide v from row waiting row' waiting' =
    (u : ℕ) (settled : List Bool) → IsSettled v from row settled
    → IsSearch g delays guide u (from.0, place_of guide v) (leaving_of guide.leaving v) 0 row settled waiting
    → IsSearch g delays guide u (from.0, place_of guide v) [] 0 row' settled waiting'

-- ---- settling

-- a vertex that is not settled, with so many registers known of it and this delay
pub record IsFresh (row : List Reach) (settled : List Bool) (v : ℕ) (a : ℕ × ℕ) : Type 0 where
  pub known : known_at row v ≡ Some a
  pub waits : is_settled settled v ≡ false

-- where v waits with so many registers, it is settled with the delay that is told, and else nothing changes
abbrev pub SettlesOne : List Reach → ℕ → ℕ → Option ℕ → List Bool → List Bool → Type 0
SettlesOne row v weight None settled settled' =
    (settled' ≡ settled) × ((delay : ℕ) → IsFresh row settled v (weight, delay) → ⊥)
SettlesOne row v weight (Some delay) settled settled' =
    (settled' ≡ set settled v true) × IsFresh row settled v (weight, delay)
