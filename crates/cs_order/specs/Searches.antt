-- Depth-first search with a path of its own: what holds between its steps.
use Rattle.std.specs.Prelude.{◌≡◌, ℕ, suc, ◌+◌, ◌*◌, ◌<◌, ◌≤◌, Bool, true, false, List, Option, Some, None, length, get_or, slice_get, drop, count_by}
use Rattle.cs_order.specs.declared.state.State.{State}
use Rattle.cs_order.specs.declared.state.State.TheVariants.{Unseen, Open, Placed}
use Rattle.cs_order.specs.declared.search.Search.{Search}
use Rattle.cs_order.specs.Graphs.{Graph, DependsOn, HasNoRepeat, IsAfterAll, sources_of}

-- the state is one before the vertex is placed
abbrev pub pending : Option State → Bool
pending None = false
pending (Some Unseen) = true
pending (Some Open) = true
pending (Some Placed) = false

-- the number is that of a vertex that is not placed yet
abbrev pub is_pending : List State → ℕ → Bool
is_pending states w = pending (slice_get states w)

-- none of the sources from a place up to another is pending
abbrev pub ArePassed : List State → List ℕ → ℕ → ℕ → Type 0
ArePassed states sources from to =
    (i w : ℕ) → from ≤ i → i < to → slice_get sources i ≡ Some w → is_pending states w ≡ false

-- each vertex of the path depends on the next
abbrev pub IsLinked : Graph → List ℕ → Type 0
IsLinked g path =
    (i v w : ℕ) → slice_get path i ≡ Some v → slice_get path (suc i) ≡ Some w → DependsOn g v w

-- the vertices in this state are those of the list
pub record AreThose (state : State) (states : List State) (vs : List ℕ) : Type 0 where
  pub have : (i v : ℕ) → slice_get vs i ≡ Some v → slice_get states v ≡ Some state
  pub stand : (v : ℕ) → slice_get states v ≡ Some state → (i : ℕ) × (slice_get vs i ≡ Some v)
  pub once : HasNoRepeat vs

-- what holds between the steps of a search: each vertex is unseen, on the path or in the order
pub record IsSearch (g : Graph) (states : List State) (cursors path order : List ℕ) : Type 0 where
  pub state_count : length states ≡ length g
  pub cursor_count : length cursors ≡ length g
  pub on_path : AreThose Open states path
  pub placed : AreThose Placed states order
  -- the path is a walk
  pub linked : IsLinked g path
  -- the sources of a vertex before its cursor are placed
  pub looked : (v : ℕ) → ArePassed states (sources_of g v) 0 (get_or cursors v 0)
  -- the order is right as far as it goes
  pub after : IsAfterAll g order

-- the same of the search as a whole
abbrev pub Searches : Graph → Search → Type 0
Searches g s = IsSearch g s.states.items s.cursors.items s.path.items s.order.items

-- the vertex was met
abbrev pub IsSeen : List State → ℕ → Type 0
IsSeen states v = (state : State) × (slice_get states v ≡ Some state) × (state ≡ Unseen → ⊥)

-- what was met stays met
abbrev pub StaysSeen : List State → List State → Type 0
StaysSeen old new = (v : ℕ) → IsSeen old v → IsSeen new v

-- a state before the vertex is met
abbrev pub is_unseen : State → Bool
is_unseen Unseen = true
is_unseen Open = false
is_unseen Placed = false

-- what is still to be done: to meet each vertex, and to place each one on the path
abbrev pub left : List State → List ℕ → ℕ
left states path = 2 * count_by is_unseen states + length path

abbrev pub left_of : Search → ℕ
left_of s = left s.states.items s.path.items

-- the last vertex of the path depends on w
abbrev pub LeadsTo : Graph → List ℕ → ℕ → Type 0
LeadsTo g path w =
    (i v : ℕ) → slice_get path i ≡ Some v → suc i ≡ length path → DependsOn g v w

-- the path closes a loop at w: its last vertex depends on w, which stands on it
abbrev pub ClosesAt : Graph → Search → ℕ → Type 0
ClosesAt g s w = LeadsTo g s.path.items w × (slice_get s.states.items w ≡ Some Open)

-- all that v depends on is placed
abbrev pub IsReady : Graph → List State → ℕ → Type 0
IsReady g states v = (w : ℕ) → DependsOn g v w → slice_get states w ≡ Some Placed

-- the part of a list from a place on where v stands
pub record IsPartFrom (xs : List ℕ) (v : ℕ) (part : List ℕ) : Type 0 where
  pub place : ℕ
  pub found : slice_get xs place ≡ Some v
  pub rest : part ≡ drop place xs
