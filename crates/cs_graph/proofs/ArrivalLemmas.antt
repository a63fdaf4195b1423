-- Arrivals pin by pin and vertex by vertex.
use Rattle.std.proofs.Common.{◌≡◌, ◌⊎◌, ℕ, ◌+◌, ◌<◌, ◌≤◌, List, [], length, get_or, max, sym, ap, ap₂, subst, ◌∙◌, inl, inr, arith}
use Rattle.std.specs.Prelude.{ℤ, Some, slice_get}
use Rattle.std.proofs.lemmas.Bool.{cases_lt}
use Rattle.std.proofs.lemmas.Option.{same_Some, slice_get_within, get_or_from_slice_get}
use Rattle.cs_graph.proofs.LagLemmas.{got}
use Rattle.cs_graph.specs.declared.vertex.Vertex.{Vertex}
use Rattle.cs_graph.specs.declared.delays.Delays.{Delays}
use Rattle.cs_graph.specs.declared.graph.Graph.{Graph}
use Rattle.cs_graph.specs.Period.{vertex_delay, pin_delay}
use Rattle.cs_graph.specs.Order.{IsDriver}
use Rattle.cs_graph.specs.Arrivals.{arrival_of, IsLatest}

-- ---- pin by pin

-- the latest of the delay of v and the arrivals by its first n pins
pub record IsLatestSoFar (g : Graph) (lags : List ℤ) (delays : Delays) (arrivals : List ℕ) (v n latest : ℕ)
    : Type 0 where
  pub own : vertex_delay delays v ≤ latest
  pub pins : (i u : ℕ) → i < n → IsDriver g lags v i u → arrival_of arrivals u + pin_delay delays v i ≤ latest
  pub reached : (latest ≡ vertex_delay delays v)
      ⊎ ((i : ℕ) × (u : ℕ) × IsDriver g lags v i u × (latest ≡ arrival_of arrivals u + pin_delay delays v i))

module _ (g : Graph) (lags : List ℤ) (delays : Delays) (arrivals : List ℕ) (v : ℕ) where
  pub latest_begins : (latest : ℕ) → latest ≡ vertex_delay delays v
      → IsLatestSoFar g lags delays arrivals v 0 latest
  latest_begins latest is = record {
    own = omega (arith, is);
    pins = λ i u low drives. absurd (omega (arith, low));
    reached = inl is;
  }

  -- a pin that reads nothing at once
  pub latest_passes : (n latest : ℕ) → IsLatestSoFar g lags delays arrivals v n latest
      → ((u : ℕ) → IsDriver g lags v n u → ⊥) → IsLatestSoFar g lags delays arrivals v (n + 1) latest
  latest_passes n latest is none = record {
    own = is.own;
    pins = λ i u low drives. elim (cases_lt i n) [
      | inl less ↦ is.pins i u less drives
      | inr more ↦
          let same : i ≡ n = omega (arith, low, more) in
          absurd (none u (subst (λ k. IsDriver g lags v k u) same drives))
    ];
    reached = is.reached;
  }

  -- a pin that reads u
  pub latest_goes_on : (n latest u latest' : ℕ) → IsLatestSoFar g lags delays arrivals v n latest
      → IsDriver g lags v n u → ((w : ℕ) → IsDriver g lags v n w → u ≡ w)
      → latest' ≡ max latest (arrival_of arrivals u + pin_delay delays v n)
      → IsLatestSoFar g lags delays arrivals v (n + 1) latest'
  latest_goes_on n latest u latest' is drives one new = record {
    own = let own = is.own in omega (arith, own, new);
    pins = λ i w low reads. elim (cases_lt i n) [
      | inl less ↦ let old = is.pins i w less reads in omega (arith, old, new)
      | inr more ↦
          let same : i ≡ n = omega (arith, low, more) in
          let who = one w (subst (λ k. IsDriver g lags v k w) same reads) in
          let here = ap₂ (λ k x. arrival_of arrivals x + pin_delay delays v k) same (sym who) in
          omega (arith, here, new)
    ];
    reached = elim (cases_lt latest (arrival_of arrivals u + pin_delay delays v n)) [
      | inl later ↦ inr (n, u, drives, omega (arith, new, later))
      | inr before ↦
          let same : latest' ≡ latest = omega (arith, new, before) in
          subst (λ x. (x ≡ vertex_delay delays v) ⊎ ((i : ℕ) × (u : ℕ) × IsDriver g lags v i u
          × (x ≡ arrival_of arrivals u + pin_delay delays v i))) (sym same) is.reached
    ];
  }

  pub latest_ends : (n latest : ℕ) (x : Vertex) → IsLatestSoFar g lags delays arrivals v n latest
      → slice_get g.vertices v ≡ Some x → length x.pins ≤ n → IsLatest g lags delays arrivals v latest
  latest_ends n latest x is found all = record {
    own = is.own;
    pins = λ i u drives.
        let same = same_Some drives.vertex x (sym drives.there ∙ found) in
        let within = slice_get_within drives.vertex.pins i _ drives.pin in
        let count = ap (λ (y : Vertex). length y.pins) same in
        is.pins i u (omega (arith, within, count, all)) drives;
    reached = is.reached;
  }

-- ---- delays

-- a pin's delay is at most 1,000,000
pub pin_delay_few : (delays : Delays) (v i : ℕ) (ds : List ℕ) → v < length delays.per_vertex
    → slice_get delays.per_pin v ≡ Some ds
    → i < length ds → (pin_delay delays v i ≡ get_or ds i 0) × (get_or ds i 0 ≤ 1000000)
pin_delay_few delays v i ds low found among =
    let vertex = got delays.per_vertex v low in
    let pin = got ds i among in
    let below = delays.pins v i vertex.0 pin.0 ds vertex.1 found pin.1 in
    let few = delays.vertices v vertex.0 vertex.1 in
    let there = get_or_from_slice_get delays.per_pin v ds [] found in
    let here = get_or_from_slice_get ds i pin.0 0 pin.1 in
    (ap (λ xs. get_or xs i 0) there, omega (arith, below, few, here))

pub vertex_delay_few : (delays : Delays) (v d : ℕ) → slice_get delays.per_vertex v ≡ Some d
    → (vertex_delay delays v ≡ d) × (d ≤ 1000000)
vertex_delay_few delays v d found = (
  get_or_from_slice_get delays.per_vertex v d 0 found,
  delays.vertices v
      d found,
)
