-- Registers that edges share: edges of one driver whose contents begin alike have the registers of what is alike
-- in common.
use Rattle.std.specs.Prelude.{◌≡◌, ℕ, ◌-◌, ◌<◌, ◌≤◌, List, ◌∷◌, length, map, take, get_or, slice_get, Bool, false, Option, Some, bytes_eq, if◌then◌else◌}
use Rattle.std.specs.List.{position_from, zip}
use Rattle.std.specs.Ordering.{nat_cmp}
use Rattle.std.specs.Cmp.Lexicographic.{slice_cmp}
use Rattle.std.specs.List.Sorted.{IsStrictlySortedBy}
use Rattle.cs_prefix.specs.declared.plan.DriverId.{DriverId}
use Rattle.cs_prefix.specs.declared.plan.Planned.{Planned}
use Rattle.cs_prefix.specs.declared.plan.Plan.{Plan}

-- a register is told by its driver, an output of a vertex, and by the starts of the registers up to it, nearest the
-- driver first
pub record RegisterKey : Type 0 where
  pub vertex : ℕ
  pub output : ℕ
  pub starts : List Bool

abbrev pub digit : Bool → ℕ
digit b = if b then 1 else 0

-- by this keys are in order: by driver, shorter first, those of one length by their digits
abbrev pub key_code : RegisterKey → List ℕ
key_code key = key.vertex ∷ key.output ∷ length key.starts ∷ map digit key.starts

-- the key of the last register of an edge
abbrev pub edge_key : DriverId → List Bool → RegisterKey
edge_key driver contents = record { vertex = driver.vertex; output = driver.output; starts = contents }

-- the contents of an edge begin with these starts, not none, from this driver
pub record IsOnEdge (drivers : List DriverId) (contents : List (List Bool)) (key : RegisterKey) : Type 0 where
  pub e : ℕ
  pub driver : DriverId
  pub all : List Bool
  pub driver_is : slice_get drivers e ≡ Some driver
  pub contents_are : slice_get contents e ≡ Some all
  pub some : 0 < length key.starts
  pub within : length key.starts ≤ length all
  pub is : key ≡ edge_key driver (take (length key.starts) all)

-- the keys of all registers of some edges, in order and each once
pub record AreKeys (drivers : List DriverId) (contents : List (List Bool)) (keys : List RegisterKey) : Type 0 where
  pub order : IsStrictlySortedBy (slice_cmp nat_cmp) (map key_code keys)
  pub needed : (n : ℕ) (key : RegisterKey) → slice_get keys n ≡ Some key → IsOnEdge drivers contents key
  pub there : (key : RegisterKey) → IsOnEdge drivers contents key → (n : ℕ) × (slice_get keys n ≡ Some key)

-- the place of a key
abbrev pub place_of_key : List RegisterKey → RegisterKey → Option ℕ
place_of_key keys key = position_from (λ other. bytes_eq (key_code other) (key_code key)) 0 keys

-- the key of the register before
abbrev pub key_before : RegisterKey → RegisterKey
key_before key = record key { starts = take (length key.starts - 1) key.starts }

-- the start of the register of a key
abbrev pub key_start : RegisterKey → Bool
key_start key = get_or key.starts (length key.starts - 1) false

-- ---- plans

abbrev pub planned : List RegisterKey → RegisterKey → Planned
planned keys key = record {
  driver = record { vertex = key.vertex; output = key.output };
  behind = place_of_key keys (key_before key);
  start = key_start key;
}

-- the last register of an edge
abbrev pub end_of : List RegisterKey → DriverId × List Bool → Option ℕ
end_of keys e = place_of_key keys (edge_key e.0 e.1)

-- a register for each key, and for each edge its last one
pub record IsPlanOf (keys : List RegisterKey) (drivers : List DriverId) (contents : List (List Bool)) (plan : Plan)
    : Type 0 where
  pub registers : plan.registers ≡ map (planned keys) keys
  pub ends : plan.ends ≡ map (end_of keys) (zip drivers contents)

-- the registers of some edges
pub record IsPlan (drivers : List DriverId) (contents : List (List Bool)) (plan : Plan) : Type 0 where
  pub keys : List RegisterKey
  pub are : AreKeys drivers contents keys
  pub is : IsPlanOf keys drivers contents plan

-- ---- drivers that can be planned

-- a driver whose numbers fit 16 and 24 bits
pub record IsSmallDriver (driver : DriverId) : Type 0 where
  pub vertex : driver.vertex < 65536
  pub output : driver.output < 16777216
