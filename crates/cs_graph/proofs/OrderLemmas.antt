-- Orders and loops of a machine from those of the graph in which each vertex depends on those that it reads
-- without a register.
use Rattle.std.proofs.Common.{◌≡◌, ℕ, ◌+◌, ◌-◌, ◌<◌, ◌≤◌, List, [], ◌∷◌, ◌++◌, length, refl, sym, ap, subst, ◌∙◌, inl, inr, arith}
use Rattle.std.specs.Prelude.{ℤ, pos, Some, slice_get, All, Contains}
use Rattle.std.proofs.lemmas.Bool.{cases_lt}
use Rattle.std.proofs.lemmas.List.{get_or_push, get_or_append_left, length_push}
use Rattle.std.proofs.lemmas.List.Elements.{Contains-push, Contains-append_left, Contains-push_cases}
use Rattle.std.proofs.lemmas.Option.{same_Some, slice_get_within, get_or_from_slice_get}
use Rattle.cs_order.specs.Graphs.{DependsOn, IsWalk, IsLoop as IsLoopOfNumbers, IsOrder as IsOrderOfNumbers, place_in}
use Rattle.cs_order.proofs.CallerLemmas.{depends_within, loop_within, order_count, order_within, place_after, place_positive}
use Rattle.cs_order.proofs.PlaceLemmas.{place_of}
use Rattle.cs_graph.proofs.LagLemmas.{got}
use Rattle.cs_graph.specs.declared.vertex.Feed.TheVariants.{Edge as Along}
use Rattle.cs_graph.specs.declared.vertex.Vertex.{Vertex}
use Rattle.cs_graph.specs.declared.edge.Edge.{Edge}
use Rattle.cs_graph.specs.declared.graph.Graph.{Graph}
use Rattle.cs_graph.specs.Lags.{weight_under}
use Rattle.cs_graph.specs.Order.{IsWired, IsDriver, AreDrivers, IsAdded, AreDependencies, Feeds, IsFedAlong, IsSimpleLoop, IsOrder}

-- ---- drivers

same_edge : (e f : ℕ) → Along e ≡ Along f → e ≡ f
same_edge e f same = cc

-- a pin reads one vertex
pub driver_one : (g : Graph) (lags : List ℤ) (v i u w : ℕ) → IsDriver g lags v i u → IsDriver g lags v i w
    → u ≡ w
driver_one g lags v i u w a b =
    let vertex = same_Some a.vertex b.vertex (sym a.there ∙ b.there) in
    let pins = ap (λ (x : Vertex). slice_get x.pins i) vertex in
    let e = same_edge a.e b.e (same_Some (Along a.e) (Along b.e) (sym a.pin ∙ pins ∙ b.pin)) in
    let edge = same_Some a.edge b.edge (sym a.found ∙ ap (slice_get g.edges) e ∙ b.found) in
    sym a.from ∙ ap (λ (d : Edge). d.from) edge ∙ b.from

module _ (g : Graph) (lags : List ℤ) where
  driver_feeds : (v i u : ℕ) → IsWired g → IsDriver g lags v i u → Feeds g lags u v
  driver_feeds v i u wired drives = (
    drives.e,
    drives.edge,
    drives.found,
    drives.none,
    drives.from,
    wired.fed.to v i drives.e drives.vertex drives.edge drives.there drives.pin drives.found,
  )

  -- an edge without a register is read by the pin that it leads to
  edge_drives : (e : ℕ) (d : Edge) → IsWired g → slice_get g.edges e ≡ Some d → weight_under lags d ≡ pos 0
      → IsDriver g lags d.to d.pin d.from
  edge_drives e d wired found none =
      let pin = wired.fed.feeds e d found in
      record {
        vertex = pin.0;
        e = e;
        edge = d;
        there = pin.1;
        pin = pin.2;
        found = found;
        none = none;
        from = refl;
      }

  -- ---- pin by pin

  -- just the vertices that the first n pins of v read without a register
  pub record AreDriversSoFar (v n : ℕ) (us : List ℕ) : Type 0 where
    pub only : (u : ℕ) → Contains us u → (i : ℕ) × IsDriver g lags v i u
    pub every : (i u : ℕ) → i < n → IsDriver g lags v i u → Contains us u

  -- a pin that reads nothing without a register
  pub drivers_pass : (v n : ℕ) (us : List ℕ) → AreDriversSoFar v n us
      → ((u : ℕ) → IsDriver g lags v n u → ⊥) → AreDriversSoFar v (n + 1) us
  drivers_pass v n us are none = record {
    only = are.only;
    every = λ i u low drives. elim (cases_lt i n) [
      | inl less ↦ are.every i u less drives
      | inr more ↦
          let same : i ≡ n = omega (arith, low, more) in
          absurd (none u (subst (λ k. IsDriver g lags v k u) same drives))
    ];
  }

  -- a pin that reads u
  pub drivers_go_on : (v n : ℕ) (us : List ℕ) (u : ℕ) → AreDriversSoFar v n us → IsDriver g lags v n u
      → AreDriversSoFar v (n + 1) (us ++ u ∷ [])
  drivers_go_on v n us u are drives = record {
    only = λ w among. elim (Contains-push_cases us u w among) [
      | inl old ↦ are.only w old
      | inr new ↦ (n, subst (IsDriver g lags v n) new drives)
    ];
    every = λ i w low reads. elim (cases_lt i n) [
      | inl less ↦ Contains-append_left us (u ∷ []) w (are.every i w less reads)
      | inr more ↦
          let same : i ≡ n = omega (arith, low, more) in
          let one = driver_one g lags v n u w drives (subst (λ k. IsDriver g lags v k w) same reads) in
          subst (Contains (us ++ u ∷ [])) one (Contains-push us u)
    ];
  }

  pub drivers_end : (v n : ℕ) (x : Vertex) (us : List ℕ) → AreDriversSoFar v n us
      → slice_get g.vertices v ≡ Some x → length x.pins ≤ n → AreDrivers g lags v us
  drivers_end v n x us are found all = record {
    only = are.only;
    every = λ i u drives.
        let same = same_Some drives.vertex x (sym drives.there ∙ found) in
        let within = slice_get_within drives.vertex.pins i _ drives.pin in
        let count = ap (λ (y : Vertex). length y.pins) same in
        are.every i u (omega (arith, within, count, all)) drives;
  }

  -- ---- vertex by vertex

  pub dependencies_go_on : (n : ℕ) (old new : List (List ℕ)) → AreDependencies g lags n old
      → IsAdded g lags n old new → AreDependencies g lags (n + 1) new
  dependencies_go_on n old new are added = subst (AreDependencies g lags (n + 1)) (sym added.added) (record {
    count = length_push old added.sources ∙ ap (λ k. k + 1) are.count;
    drivers = λ v low. elim (cases_lt v n) [
      | inl less ↦
          let within : v < length old = let count = are.count in omega (arith, less, count) in
          subst (AreDrivers g lags v) (sym (get_or_append_left old (added.sources ∷ []) [] v within))
          (are.drivers v less)
      | inr more ↦
          let same : n ≡ v = omega (arith, low, more) in
          let last = get_or_push old added.sources [] v (are.count ∙ same) in
          subst (AreDrivers g lags v) (sym last) (subst (λ k. AreDrivers g lags k added.sources) same
          added.drivers)
    ];
  })

  -- ---- what is arranged

  module _ (wired : IsWired g) (dependencies : List (List ℕ))
      (are : AreDependencies g lags (length g.vertices) dependencies) where
    depends_feeds : (v u : ℕ) → DependsOn dependencies v u → Feeds g lags u v
    depends_feeds v u depends =
        let below = depends_within dependencies v u depends in
        let count = are.count in
        let driver = (are.drivers v (omega (arith, below, count))).only u depends.source in
        driver_feeds v driver.0 u wired driver.1

    edge_depends : (e : ℕ) (d : Edge) → slice_get g.edges e ≡ Some d → weight_under lags d ≡ pos 0
        → DependsOn dependencies d.to d.from
    edge_depends e d found none =
        let drives = edge_drives e d wired found none in
        let below = slice_get_within g.vertices d.to drives.vertex drives.there in
        let from = wired.from e d found in
        let count = are.count in
        record {
          source = (are.drivers d.to below).every d.pin d.from drives;
          vertex = omega (arith, from, count);
        }

    -- what stands in an order or a loop is the number of a vertex
    vertices_among : (vs : List ℕ) → ((i v : ℕ) → slice_get vs i ≡ Some v → v < length dependencies)
        → All (λ v. v < length g.vertices) vs
    vertices_among vs within = λ k d low.
        let stands = got vs k low in
        let count = are.count in
        let same = get_or_from_slice_get vs k stands.0 d stands.1 in
        let below = within k stands.0 stands.1 in
        omega (arith, same, below, count)

    pub order_among : (order : List ℕ) → IsOrderOfNumbers dependencies order
        → All (λ v. v < length g.vertices) order
    order_among order is = vertices_among order (λ i v stands. order_within dependencies order i v is stands)

    pub loop_among : (vs : List ℕ) → IsLoopOfNumbers dependencies vs → All (λ v. v < length g.vertices) vs
    loop_among vs closed = vertices_among vs (λ i v stands. loop_within dependencies vs i v closed stands)

    walk_fed : (v : ℕ) (vs : List ℕ) (w : ℕ) → IsWalk dependencies v vs w → IsFedAlong g lags v vs w
    walk_fed v [] w walk = depends_feeds v w walk
    walk_fed v (u ∷ vs) w walk = (depends_feeds v u walk.0, walk_fed u vs w walk.1)

    pub simple_loop : (vs : List ℕ) → IsLoopOfNumbers dependencies vs → IsSimpleLoop g lags vs
    simple_loop [] closed = absurd closed
    simple_loop (v ∷ vs) closed = (walk_fed v vs v closed.0, closed.1)

    module _ (order : List ℕ) (is : IsOrderOfNumbers dependencies order) where
      place_found : (v : ℕ) → v < length g.vertices
          → (k : ℕ) × (place_in order v ≡ 1 + k) × (slice_get order k ≡ Some v)
      place_found v low =
          let count = are.count in
          let some = place_positive dependencies order v is (omega (arith, low, count)) in
          elim (place_of 1 order v) [ inl none ↦ absurd (omega (arith, none, some)) | inr found ↦ found ]

      pub order_ordered : IsOrder g lags order
      order_ordered = record {
        place = λ v. place_in order v - 1;
        count = order_count dependencies order is ∙ are.count;
        at = λ v low.
            let found = place_found v low in
            let here : place_in order v - 1 ≡ found.0 = let place = found.1 in omega (arith, place) in
            ap (slice_get order) here ∙ found.2;
        once = λ k v stands.
            let within = order_within dependencies order k v is stands in
            let count = are.count in
            let low : v < length g.vertices = omega (arith, within, count) in
            let found = place_found v low in
            let same = is.once found.0 k v found.2 stands in
            (low, let place = found.1 in omega (arith, place, same));
        below = λ e d found none.
            let depends = edge_depends e d found none in
            let less = place_after dependencies order d.to d.from is depends in
            let from = place_positive dependencies order d.from is depends.vertex in
            omega (arith, less, from);
      }
