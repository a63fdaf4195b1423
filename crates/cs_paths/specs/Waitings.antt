-- The queue in which vertices wait, each as the registers of a path to it and its place in the machine's order.
use Rattle.std.specs.Prelude.{◌≡◌, ℕ, ◌+◌, ◌*◌, ◌<◌, ◌≤◌, ◌^◌, ◌⊎◌, List, [], length, get_or, Contains}
use Rattle.cs_paths.specs.Marks.{IsMarked}

-- the registers of those that wait first, the place before which none of them waits, their places, and for each
-- count of registers the places of those that wait later
pub record Queue : Type 0 where
  pub level : ℕ
  pub next : ℕ
  pub marks : List ℕ
  pub later : List (List ℕ)

abbrev pub queue : ℕ → ℕ → List ℕ → List (List ℕ) → Queue
queue level next marks later = record { level = level; next = next; marks = marks; later = later }

-- the places of those that wait later, with so many registers
abbrev pub bucket_of : Queue → ℕ → List ℕ
bucket_of q weight = get_or q.later weight []

-- a vertex waits
abbrev pub Waits : Queue → ℕ × ℕ → Type 0
Waits q k = ((k.0 ≡ q.level) × IsMarked q.marks k.1) ⊎ Contains (bucket_of q k.0) k.1

-- none waits before the queue's position, and places are below 4,096
pub record IsQueue (q : Queue) : Type 0 where
  pub from : (p : ℕ) → IsMarked q.marks p → q.next ≤ p
  pub ahead : (w p : ℕ) → Contains (bucket_of q w) p → (q.level < w) × (p < 4096)
  pub next : q.next ≤ 4096
  pub levels : length q.later < 2 ^ 32

-- fewer registers, or as many and no later a place
abbrev pub IsUpTo : ℕ × ℕ → ℕ × ℕ → Type 0
IsUpTo a b = (a.0 < b.0) ⊎ ((a.0 ≡ b.0) × (a.1 ≤ b.1))

-- how far the queue has come
abbrev pub position : Queue → ℕ
position q = q.level * 4097 + q.next

-- a vertex comes no earlier than what has been taken
pub record CanWait (q : Queue) (k : ℕ × ℕ) : Type 0 where
  pub comes : IsUpTo (q.level, q.next) k
  pub place : k.1 < 4096
  pub few : k.0 + 1 < 2 ^ 32

-- one more waits
pub record IsAdded (k : ℕ × ℕ) (before after : Queue) : Type 0 where
  pub now : Waits after k
  pub stays : (q : ℕ × ℕ) → Waits before q → Waits after q
  pub only : (q : ℕ × ℕ) → Waits after q → (q ≡ k) ⊎ Waits before q
  pub level : after.level ≡ before.level
  pub next : after.next ≡ before.next

-- the first that waits is taken
pub record Takes (k : ℕ × ℕ) (before after : Queue) : Type 0 where
  pub taken : Waits before k
  pub rest : (q : ℕ × ℕ) → Waits before q → (q ≡ k) ⊎ Waits after q
  pub still : (q : ℕ × ℕ) → Waits after q → Waits before q
  pub first : (q : ℕ × ℕ) → Waits after q → IsUpTo k q
  pub level : after.level ≡ k.0
  pub next : after.next ≡ k.1 + 1
  pub on : position before < position after

-- places below 4,096
abbrev pub AreLow : List ℕ → Type 0
AreLow places = (p : ℕ) → Contains places p → p < 4096

-- the places of a bucket are marked
pub record Gathers (places before after : List ℕ) : Type 0 where
  pub marked : (p : ℕ) → Contains places p → IsMarked after p
  pub stays : (p : ℕ) → IsMarked before p → IsMarked after p
  pub only : (p : ℕ) → IsMarked after p → Contains places p ⊎ IsMarked before p

-- those with a register more wait first
pub record Advances (before after : Queue) : Type 0 where
  pub stays : (k : ℕ × ℕ) → Waits before k → Waits after k
  pub still : (k : ℕ × ℕ) → Waits after k → Waits before k
  pub level : after.level ≡ before.level + 1
  pub next : after.next ≡ 0
  pub levels : length after.later ≡ length before.later
  pub within : after.level < length after.later
